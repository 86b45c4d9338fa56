-- New islands one after the other: the last first, their numbers, and what they leave.
use mathlib.Core.Path.{◌≡◌, refl, sym, ◌∙◌, ap}
use mathlib.Core.Logic.{◌≢◌}
use mathlib.Core.Bool.{Bool, true, false, not, ◌&&◌}
use mathlib.Core.List.{List, [], ◌∷◌, ◌++◌}
use Prim.Native.Nat.{ℕ, zero, suc, ◌-◌, ◌<◌}
use native.Mathlib.Omega.{arith}
use lib.ListN.{length, get_or, set, get_or-append}
use lib.Seq.{get_or-set_other}
use lib.Dec.{eqb}
use borrow.Author.Tests.{eq-eqb, ne_eqb}
use Rattle.def_kinds.specs.Choice.{pick}
use Rattle.list_in_table.proofs.Laws.{either}
use Rattle.def_state.specs.Plain.{top, empty, drop_last}
use Rattle.def_state.specs.World.{absent_island, World, island_at}
use Rattle.def_state.specs.Fields.{islands_set, free_set, island_set}
use Rattle.def_state.specs.Membership.{new_number, alloc_island}
use Rattle.def_state.specs.Connected.{tally, components}
use Rattle.def_state.specs.Split.{leads, new_island, new_islands, new_numbers}
use Rattle.split_move.specs.Shift.{reserved}
use Rattle.split_forest.proofs.Tallies.{tally-add, tally-one}

pub one_more : (k : ℕ) (z : Bool) (w : World) → new_islands (suc k) z w ≡ reserved z (new_islands k z w)
unfolding new_islands reserved
one_more zero z w = refl
one_more (suc k) z w = one_more k z (reserved z w)

-- the numbers, in order
pub number_at : (k : ℕ) (z : Bool) (w : World) (j : ℕ) → j < k → get_or (new_numbers k z w) j top ≡ new_number (new_islands j z w)
unfolding new_numbers new_islands
number_at zero z w j h = absurd (omega arith)
number_at (suc k) z w zero h = refl
number_at (suc k) z w (suc j) h = number_at k z (island_set (alloc_island w) (new_number w) (new_island z)) j (omega arith)

-- another island stays
pub reserved-same : (z : Bool) (w : World) (j : ℕ) → j < length w.islands → j ≢ new_number w → island_at (reserved z w) j ≡ island_at w j
unfolding reserved island_set alloc_island
reserved-same z w j l d = cases (empty w.free_islands)
  where
    cases : (b : Bool)
        → get_or (set (pick b (islands_set w (w.islands ++ (absent_island ∷ []))) (free_set w (drop_last w.free_islands))).islands (new_number w) (new_island z)) j absent_island ≡ get_or w.islands j absent_island
    cases true = get_or-set_other (w.islands ++ (absent_island ∷ [])) (new_number w) j (new_island z) absent_island d ∙ get_or-append w.islands (absent_island ∷ []) absent_island j l
    cases false = get_or-set_other w.islands (new_number w) j (new_island z) absent_island d

-- ---- which places lead
module _ (L : List ℕ) (keep : ℕ) where
  pub leads-yes : (p : ℕ) → p ≢ keep → get_or L p 0 ≡ p → leads L keep p ≡ true
  unfolding leads
  leads-yes p d e = rw (ne_eqb p keep d, eq-eqb (get_or L p 0) p e)

  pub leads-kept : (p : ℕ) → p ≡ keep → leads L keep p ≡ false
  unfolding leads
  leads-kept p e = rw (eq-eqb p keep e)

  pub leads-no : (p : ℕ) → get_or L p 0 ≢ p → leads L keep p ≡ false
  unfolding leads
  leads-no p d = either p keep (λ e. rw (eq-eqb p keep e)) (λ f. rw (ne_eqb p keep f, ne_eqb (get_or L p 0) p d))

  abbrev T : ℕ → ℕ
  T p = tally (leads L keep) p

  pub tally-yes : (p : ℕ) → leads L keep p ≡ true → T (suc p) ≡ suc (T p)
  unfolding tally
  tally-yes p e = rw e (omega arith)

  pub tally-no : (p : ℕ) → leads L keep p ≡ false → T (suc p) ≡ T p
  unfolding tally
  tally-no p e = rw e (omega arith)

  -- a place that leads comes before the end
  pub tally-lt : (a n : ℕ) → a < n → leads L keep a ≡ true → T a < T n
  unfolding tally
  tally-lt a zero h e = absurd (omega arith)
  tally-lt a (suc n) h e = either a n (λ q. rw (sym q, e) (omega arith)) (λ d. (let i = tally-lt a n (omega arith) e in omega arith))

  -- the components but the kept one
  pub tally-all : keep < length L → get_or L keep 0 ≡ keep → T (length L) ≡ components L - 1
  unfolding components leads
  tally-all l e =
      let a =
      tally-add (λ i. eqb (get_or L i 0) i) (λ i. not (eqb i keep) && eqb (get_or L i 0) i) (λ i. eqb i keep) (length L)
      (λ i h. either i keep (λ q. (let f : get_or L i 0 ≡ i = ap (λ (k : ℕ). get_or L k 0) q ∙ e ∙ sym q in rw (eq-eqb i keep q, eq-eqb (get_or L i 0) i f))) (λ d. rw (ne_eqb i keep d) (omega arith))) in
      let b = tally-one keep (length L) l in
      omega arith
