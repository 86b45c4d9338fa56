-- The bodies of an island, and the places of those that a handle names.
use mathlib.Core.Path.{◌≡◌, refl, ap}
use mathlib.Core.Logic.{◌≢◌}
use mathlib.Core.List.{List}
use Prim.Native.Nat.{ℕ, ◌<◌}
use Rattle.list_in_table.specs.Rules.{none, list_of}
use Rattle.list_in_table.proofs.Laws.{held_in}
use Rattle.def_kinds.specs.declared.Sizes.{Sizes}
use Rattle.def_state.specs.World.{Island, island_at}
use Rattle.def_state.specs.Split.{node_of}
use Rattle.table_meaning.specs.Layout.{tables, extents, members_in}
use Rattle.table_meaning.specs.Decode.{world_of}
use Rattle.table_meaning.specs.Sound.{Sound}
use Rattle.core_laws.specs.Steps.{handle}
use Rattle.core_laws.proofs.Names.{island-at}
use Rattle.split_move.proofs.Node.{node-cases, node-is}

-- the list of an island's bodies
pub bodies-are : (Z : Sizes) (t : List ℕ) (i : ℕ) → i < (extents (tables Z t)).islands → (island_at (world_of Z t) i).bodies ≡ list_of (members_in Z (tables Z t)) i
unfolding world_of
bodies-are Z t i l = ap (λ (a : Island). a.bodies) (island-at Z (extents (tables Z t)) (tables Z t) i l)

-- a place of the island, or none
pub node-lt : (Z : Sizes) (t : List ℕ) (i s g : ℕ) → Sound Z t → i < (extents (tables Z t)).islands → node_of (world_of Z t) i (handle s g) ≢ none
    → node_of (world_of Z t) i (handle s g) < (members_in Z (tables Z t)).count i
node-lt Z t i s g S il =
    rw (node-is S i il (handle s g))
    (node-cases Z (tables Z t) i (handle s g) (λ n. n ≢ none → n < (members_in Z (tables Z t)).count i) (λ d. absurd (d refl))
    (λ l d e q m. rw q at (held_in S.good.members_wf.rules s i l il q).place_lt))
