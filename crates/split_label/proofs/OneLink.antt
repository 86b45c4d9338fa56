-- One link of an island, whose four words were read.
use mathlib.Core.Path.{◌≡◌, sym, ◌∙◌}
use mathlib.Core.Logic.{◌⊎◌, ◌≢◌}
use mathlib.Core.Bool.{Bool, false}
use mathlib.Core.List.{List, [], ◌∷◌}
use Prim.Native.Nat.{ℕ, ◌+◌, ◌<◌}
use native.Mathlib.Omega.{arith}
use lib.ListN.{length, get_or}
use Rattle.list_in_table.specs.Rules.{none}
use Rattle.def_kinds.specs.Choice.{pick}
use Rattle.def_kinds.specs.declared.Sizes.{Sizes}
use Rattle.def_state.specs.World.{Handle, World}
use Rattle.def_state.specs.Split.{node_of}
use Rattle.table_meaning.specs.Decode.{handle_at, world_of}
use Rattle.core_laws.specs.Steps.{handle}
use Rattle.split_forest.specs.Forest.{at, JoinDone, JoinReady}
use Rattle.split_label.specs.Ends.{pair_at, pair_ends, Goes, Over}
use Rattle.split_label.proofs.Nodes.{node-lt}
use Rattle.split_label.proofs.Forests.{goes-past, goes-join}

module _ {Z : Sizes} {t : List ℕ} {i : ℕ} {parent size : List ℕ} (O : Over Z t i parent size) (x : List ℕ) (j : ℕ) where
  abbrev w : World
  w = world_of Z t

  -- the node of a handle, by the words that were read
  pub node-read : (k : ℕ) {a s g : ℕ} → a ≡ node_of w i (handle s g) → (s ≡ get_or x k 0) × (g ≡ get_or x (k + 1) 0) → a ≡ node_of w i (handle_at x k)
  node-read k e p = e ∙ rw (p.0, p.1)

  -- an end that is no member
  pub link-past : (node_of w i (handle_at x j) ≡ none) ⊎ (node_of w i (handle_at x (j + 2)) ≡ none)
      → Goes (length parent) (at parent) (at parent) (at size) (pair_ends (world_of Z t) i (pair_at x j ∷ [])) (pick false 1 0)
  link-past e = goes-past w i (handle_at x j) (handle_at x (j + 2)) e O.wood.forest

  -- both are members, and the two places were joined
  module _ (a b : ℕ) (p : a ≡ node_of w i (handle_at x j)) (q : b ≡ node_of w i (handle_at x (j + 2))) (c : a ≢ none) (d : b ≢ none) where
    place_lt : (h : Handle) (k : ℕ) → k ≡ node_of w i h → k ≢ none → k < length parent
    place_lt h k e o =
        let l = node-lt Z t i h.slot h.generation O.sound O.lives.in_use (λ z. o (e ∙ z)) in
        let m = O.long in
        omega arith

    pub link-ready : JoinReady parent size a b
    link-ready = record { wood = O.wood; a_lt = place_lt (handle_at x j) a p c; b_lt = place_lt (handle_at x (j + 2)) b q d }

    pub link-joins : (r : Bool) {f g : ℕ → ℕ} → JoinDone (length parent) (at parent) f g a b r
        → Goes (length parent) (at parent) f g (pair_ends (world_of Z t) i (pair_at x j ∷ [])) (pick r 1 0)
    link-joins r J = goes-join w i (handle_at x j) (handle_at x (j + 2)) a b r (sym p) (sym q) c d link-ready.a_lt link-ready.b_lt J
