-- Every link of a list of a chain table, from the last to the first: what holds while some are left.
use mathlib.Core.Path.{◌≡◌, refl, sym, ◌∙◌, ap, subst}
use mathlib.Core.Bool.{Bool, true, false}
use mathlib.Core.List.{List, [], ◌∷◌}
use Prim.Native.Nat.{ℕ, ◌+◌, ◌-◌, ◌*◌, ◌≤◌, ◌<◌}
use native.Mathlib.Omega.{arith}
use lib.ListN.{length, get_or, drop}
use Rattle.list_in_table.specs.Rules.{none, View, list_of}
use Rattle.def_kinds.specs.Choice.{pick}
use Rattle.list_in_table.proofs.Pigeon.{count-le}
use Rattle.def_kinds.specs.declared.Sizes.{Sizes}
use Rattle.def_state.specs.World.{Handle, World}
use Rattle.table_meaning.specs.declared.Table.{Table}
use Rattle.table_meaning.specs.Layout.{tables, total, table_of, table_span, chain_in}
use Rattle.table_meaning.specs.Decode.{world_of}
use Rattle.table_meaning.proofs.Puts.{inside}
use Rattle.split_forest.specs.Forest.{at}
use Rattle.split_label.specs.Ends.{pair_at, pairs_in, pair_ends, Goes, Over, Walks}
use Rattle.split_label.proofs.Walk.{stood-last, stood-lt, stood-prev, none_passed, one-passed}
use Rattle.split_label.proofs.Forests.{goes_none, goes-more}

module _ (Z : Sizes) (t : List ℕ) (k w : Table) (a b i : ℕ) where
  abbrev S : View
  S = chain_in Z k (tables Z t)

  abbrev x : List ℕ
  x = table_of w (tables Z t)

  abbrev W : World
  W = world_of Z t

  abbrev pairs : List (Handle × Handle)
  pairs = pairs_in S x a b i

  -- the first `left` links are left, of which e is the last; parent₀ is the forest before the walk
  pub record Passed (parent₀ parent size : List ℕ) (left e joins : ℕ) : Type 0 where
    pub goes : Goes (length parent₀) (at parent₀) (at parent) (at size) (pair_ends W i (drop left pairs)) joins
    pub parent_long : length parent ≡ length parent₀
    pub size_long : length size ≡ length parent₀
    pub few : joins + left ≤ S.count i
    pub stood : 0 < left → e ≡ get_or (list_of S i) (left - 1) 0

module _ {Z : Sizes} {t : List ℕ} {k w : Table} {a b i : ℕ} (K : Walks Z t k w a b i) where
  abbrev S' : View
  S' = chain_in Z k (tables Z t)

  abbrev x' : List ℕ
  x' = table_of w (tables Z t)

  pub passed_start : {parent size : List ℕ} {left e : ℕ} → Over Z t i parent size → left ≡ S'.count i → e ≡ S'.last i → Passed Z t k w a b i parent parent size left e 0
  passed_start {parent} {size} O p q =
      rw (p, q)
      (record {
        goes =
            subst (λ (hs : List (Handle × Handle)). Goes (length parent) (at parent) (at parent) (at size) (pair_ends (world_of Z t) i hs) 0)
            (sym (none_passed K.rules i K.list_lt x' a b)) (goes_none (world_of Z t) i O.wood.forest);
        parent_long = refl;
        size_long = O.wood.as_long;
        few = omega arith;
        stood = stood-last K.rules i K.list_lt;
      })

  module _ {parent₀ parent size : List ℕ} {left e joins : ℕ} (P : Passed Z t k w a b i parent₀ parent size left e joins) where
    -- the forest is still one over the island
    pub passed_over : {size₀ : List ℕ} → Over Z t i parent₀ size₀ → Over Z t i parent size
    passed_over O =
        record {
          sound = O.sound;
          lives = O.lives;
          wood =
              record {
                forest = rw P.parent_long P.goes.forest;
                as_long = P.size_long ∙ sym P.parent_long;
              };
          long = P.parent_long ∙ O.long;
        }

    -- no count is too large
    pub passed-small : joins + left ≤ none
    passed-small = let a = P.few in let b = count-le K.rules i K.list_lt in let c = K.rules.n_small in omega arith

    module _ (l : 0 < left) where
      left_le : left ≤ S'.count i
      left_le = let a = P.few in omega arith

      passed-lt : e < K.n
      passed-lt = stood-lt K.rules i K.list_lt left e l left_le P.stood

      pub elem-small : e < none
      elem-small = let a = passed-lt in let b = K.rules.n_small in omega arith

      -- where its words lie
      pub pair-in : a * e + b + 4 ≤ table_span Z w
      pair-in = K.words e passed-lt

      pub prev-in : 4 * e + 2 < table_span Z k
      prev-in = let a = passed-lt in let b = K.elems in omega arith

      -- one more
      pub passed-more : {parent' size' : List ℕ} {e' joins' : ℕ} (r : Bool)
          → Goes (length parent) (at parent) (at parent') (at size') (pair_ends (world_of Z t) i (pair_at x' (a * e + b) ∷ [])) (pick r 1 0)
          → length parent' ≡ length parent → length size' ≡ length size → e' ≡ get_or (table_of k (tables Z t)) (4 * e + 2) 0 → joins' ≡ joins + pick r 1 0
          → Passed Z t k w a b i parent₀ parent' size' (left - 1) e' joins'
      passed-more {parent'} {size'} r G p q u v =
          rw v
          (record {
            goes =
                subst
                (λ (hs : List (Handle × Handle)). Goes (length parent₀) (at parent₀) (at parent') (at size') (pair_ends (world_of Z t) i hs) (joins + pick r 1 0))
                (sym (one-passed K.rules i K.list_lt x' a b left e l left_le P.stood))
                (goes-more (world_of Z t) i (pair_at x' (a * e + b)) (drop left (pairs_in S' x' a b i)) P.goes
                (subst (λ (n : ℕ). Goes n (at parent) (at parent') (at size') (pair_ends (world_of Z t) i (pair_at x' (a * e + b) ∷ [])) (pick r 1 0)) P.parent_long G));
            parent_long = p ∙ P.parent_long;
            size_long = q ∙ P.size_long;
            few = (let a = P.few in let o = one-le r in omega arith);
            stood =
                λ o.
                let s : 4 * e + 2 ≡ 0 + 4 * e + 2 = omega arith in
                u ∙ ap (λ (j : ℕ). get_or (table_of k (tables Z t)) j 0) s ∙ stood-prev K.rules i K.list_lt left e l left_le P.stood o;
          })
        where
          one-le : (c : Bool) → pick c 1 0 ≤ 1
          one-le true = omega arith
          one-le false = omega arith

    pub passed-all : left ≡ 0 → Goes (length parent₀) (at parent₀) (at parent) (at size) (pair_ends (world_of Z t) i (pairs_in S' x' a b i)) joins
    passed-all z =
        subst (λ (l : ℕ). Goes (length parent₀) (at parent₀) (at parent) (at size) (pair_ends (world_of Z t) i (drop l (pairs_in S' x' a b i))) joins) z P.goes

-- a word of a table has an address
pub word_fits : (Z : Sizes) (t : List ℕ) (k : Table) (j : ℕ) → length t ≡ total Z → j ≤ table_span Z k → j ≤ length t
word_fits Z t k j e h = let n = inside Z k in omega arith

-- one more join, or none
pub one_more : {r : Bool} (j : ℕ) {j' : ℕ} → r ≡ true → j' ≡ j + 1 → j' ≡ j + pick r 1 0
one_more j e q = rw e q

pub no_more : {r : Bool} (j : ℕ) {j' : ℕ} → r ≡ false → j' ≡ j → j' ≡ j + pick r 1 0
no_more j e q = rw e (omega arith)
