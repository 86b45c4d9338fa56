-- The number of components after one more link.
use mathlib.Core.Path.{◌≡◌, refl, sym, ap, ◌∙◌}
use mathlib.Core.Logic.{◌⊎◌, inl, inr, ◌≢◌, ⊎_elim}
use mathlib.Core.Bool.{Bool, true, false, false≢true}
use Prim.Native.Nat.{ℕ, zero, suc, ◌+◌, ◌<◌, max, min}
use native.Mathlib.Omega.{arith}
use mathlib.Core.List.{List, [], ◌∷◌}
use lib.Dec.{eqb}
use Rattle.list_in_table.specs.Rules.{Is}
use Rattle.def_kinds.specs.Choice.{pick}
use Rattle.list_in_table.proofs.Laws.{either}
use Rattle.def_state.specs.Connected.{Joined, label, upto, lower, lowers, tally, components}
use Rattle.split_forest.specs.Groups.{Inside, Groups}
use Rattle.split_forest.specs.Forest.{at}
use Rattle.split_forest.proofs.Paths.{Turned, same-joined, joined_same, name-lt, name-name, groups-more}
use Rattle.split_forest.proofs.Tallies.{one, heads, one-eq, tally-same, heads-fewer}
use Rattle.split_forest.proofs.Labels.{length_label, at-upto, at-lower, lowered-le, label-le, label-groups, label-only, lower-turned, two_ends}

heads-all : (f : ℕ → ℕ) (n : ℕ) → ((i : ℕ) → i < n → f i ≡ i) → heads f n ≡ n
unfolding heads tally
heads-all f zero h = refl
heads-all f (suc n) h =
    let e : tally (λ i. eqb (f i) i) n ≡ n = heads-all f n (λ i l. h i (omega arith)) in
    let k = one-eq (f n) n (h n (omega arith)) in
    omega arith

components-is : (ls : List (ℕ × ℕ)) (n : ℕ) → components (label ls n) ≡ heads (at (label ls n)) n
unfolding components heads
components-is ls n = ap (tally (λ i. eqb (at (label ls n) i) i)) (length_label ls n)

-- without a link, each place is a component
pub components-none : (n : ℕ) → components (label [] n) ≡ n
unfolding label lowers
components-none n = components-is [] n ∙ heads-all (at (upto n)) n (at-upto n)

module _ (ls : List (ℕ × ℕ)) (n a b : ℕ) (k : Inside ls n) (la : a < n) (lb : b < n) where
  abbrev L : ℕ → ℕ
  L = at (label ls n)

  abbrev after : List (ℕ × ℕ)
  after = (a, b) ∷ ls

  G : Groups ls n L
  G = label-groups ls n k

  -- the labels after it are those before it, the greater of the two ends' turned into the lesser
  after_is : (i : ℕ) → i < n → at (lower (label ls n) (a, b)) i ≡ at (label after n) i
  after_is =
      label-only after n (at (lower (label ls n) (a, b)))
      (groups-more G (lower-turned n (label ls n) a b) a b la lb (two_ends (L a) (L b)))
      (λ i l. (let e = at-lower (label ls n) (a, b) i in let h = lowered-le (L a) (L b) (L i) in let m = label-le ls n i l in omega arith))

  T : Turned n L (at (label after n)) (max (L a) (L b)) (min (L a) (L b))
  T =
      let U = lower-turned n (label ls n) a b in
      record { to = λ i l e. sym (after_is i l) ∙ U.to i l e; stay = λ i l d. sym (after_is i l) ∙ U.stay i l d }

  own : (m : ℕ) → (m ≡ L a) ⊎ (m ≡ L b) → (m < n) × (L m ≡ m)
  own m (inl e) = rw e (name-lt G a la, name-name G a la)
  own m (inr e) = rw e (name-lt G b lb, name-name G b lb)

  one_fewer : L a ≢ L b → heads L n ≡ heads (at (label after n)) n + 1
  one_fewer d =
      let s = own (max (L a) (L b)) (⊎_elim (λ e. inl e.0) (λ e. inr e.0) (two_ends (L a) (L b))) in
      let t = own (min (L a) (L b)) (⊎_elim (λ e. inr e.1) (λ e. inl e.1) (two_ends (L a) (L b))) in
      heads-fewer T (omega arith) s.0 s.1 t.1

  no-fewer : L a ≡ L b → heads L n ≡ heads (at (label after n)) n
  unfolding heads
  no-fewer e =
      tally-same _ _ n
      (λ i l. sym (ap (λ (j : ℕ). one (eqb j i)) (either (L i) (max (L a) (L b)) (λ w. T.to i l w ∙ (omega arith)) (T.stay i l))))

  fewer-heads : (r : Bool) → Is r (Joined ls a b → ⊥) → heads L n ≡ heads (at (label after n)) n + pick r 1 0
  fewer-heads true h = one_fewer (λ e. h.0 refl ((same-joined G a b la lb).0 e))
  fewer-heads false h =
      either (L a) (L b) (λ e. (let x = no-fewer e in omega arith))
      (λ d. absurd (false≢true (h.1 (λ j. d (joined_same G j)))))

  -- a link between two places that were apart leaves one component fewer
  pub fewer : (r : Bool) → Is r (Joined ls a b → ⊥) → components (label ls n) ≡ components (label ((a, b) ∷ ls) n) + pick r 1 0
  fewer r h =
      components-is ls n ∙ fewer-heads r h ∙ sym (ap (λ (m : ℕ). m + pick r 1 0) (components-is after n))
