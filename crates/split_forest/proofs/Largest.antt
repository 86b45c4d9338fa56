-- The group that stays: the first place whose tree is largest is the label of the first largest group.
use mathlib.Core.Path.{◌≡◌, refl, sym, ap, ◌∙◌}
use Prim.Native.Nat.{ℕ, zero, suc, ◌+◌, ◌≤◌, ◌<◌}
use native.Mathlib.Omega.{arith}
use native.Mathlib.Numerals.{add-one}
use mathlib.Core.List.{List}
use lib.Dec.{eqb}
use lib.ListN.{get_or-eq_default}
use borrow.Author.Tests.{lt-ltb, le-ltb}
use Rattle.list_in_table.proofs.Laws.{either}
use Rattle.list_in_table.proofs.Same.{below}
use Rattle.def_state.specs.Connected.{label, tally, weight, most, first, keep_label}
use Rattle.split_forest.specs.Groups.{Inside, Groups}
use Rattle.split_forest.specs.Forest.{at, root_of, members, Forest}
use Rattle.split_forest.proofs.Paths.{agree}
use Rattle.split_forest.proofs.Tallies.{one-eq, one-ne, tally-same}
use Rattle.split_forest.proofs.Labels.{length_label, label-le, label-groups, label-own}
use Rattle.split_forest.proofs.Climb.{root-top, root-lt}

first_more : (w : ℕ → ℕ) (n : ℕ) → most w n < w n → first w (suc n) ≡ n
unfolding first
first_more w n l = rw (lt-ltb (most w n) (w n) l) refl

first-less : (w : ℕ → ℕ) (n : ℕ) → w n ≤ most w n → first w (suc n) ≡ first w n
unfolding first
first-less w n l = rw (le-ltb (most w n) (w n) l) refl

most-le : (w : ℕ → ℕ) (n i : ℕ) → i < n → w i ≤ most w n
unfolding most
most-le w zero i l = absurd (omega arith)
most-le w (suc n) i l = either i n (λ e. rw e (omega arith)) (λ d. (let h = most-le w n i (omega arith) in omega arith))

-- first is below n, has the most, and none before it has as much
first-is : (w : ℕ → ℕ) (n : ℕ) → 0 < n → (first w n < n) × (w (first w n) ≡ most w n) × ((i : ℕ) → i < first w n → w i < most w n)
unfolding most first
first-is w zero l = absurd (omega arith)
first-is w (suc zero) l =
    let e : first w 1 ≡ 0 = below 0 (w 0) (first_more w 0) (first-less w 0) in
    rw e (omega arith, omega arith, λ i k. absurd (omega arith))
first-is w (suc (suc n)) l =
    let m = suc n in
    let r = first-is w (suc n) (omega arith) in
    below (most w m) (w m) (λ h. rw (first_more w m h) (omega arith, omega arith, λ i k. (let x = most-le w m i k in omega arith)))
    (λ h.
    rw (first-less w m h)
    ((let x = r.0 in omega arith), (let x = r.1 in omega arith), λ i k. (let x = r.2 i k in omega arith)))

pub most-same : (w v : ℕ → ℕ) (n : ℕ) → ((i : ℕ) → i < n → w i ≡ v i) → (most w n ≡ most v n) × (first w n ≡ first v n)
unfolding most first
most-same w v zero h = (refl, refl)
most-same w v (suc n) h =
    let r = most-same w v n (λ i l. h i (omega arith)) in
    (rw (r.0, h n (omega arith)) refl, rw (r.0, r.1, h n (omega arith)) refl)

-- ---- the weights of labels
weight_is : (ls : List (ℕ × ℕ)) (n i : ℕ) → weight (label ls n) i ≡ members (at (label ls n)) n (at (label ls n) i)
unfolding weight members
weight_is ls n i = ap (tally (λ j. eqb (at (label ls n) j) (at (label ls n) i))) (length_label ls n)

module _ (ls : List (ℕ × ℕ)) (n : ℕ) (k : Inside ls n) where
  abbrev w : ℕ → ℕ
  w = weight (label ls n)

  abbrev L : ℕ → ℕ
  L = at (label ls n)

  -- a place and its label have one weight
  weight-label : (i : ℕ) → i < n → w (L i) ≡ w i
  weight-label i l = weight_is ls n (L i) ∙ ap (members L n) (label-own ls n k i l) ∙ sym (weight_is ls n i)

  -- so the first of the largest is its own label
  first-own : L (first w n) ≡ first w n
  unfolding first
  first-own =
      either n 0 (λ z. rw z (get_or-eq_default (label ls 0) 0 (let h = length_label ls 0 in omega arith)))
      (λ d.
      let f = first-is w n (omega arith) in
      let b : ℕ = first w n in
      let y : L b ≤ b = label-le ls n b f.0 in
      below (L b) b
      (λ m. absurd (let h = f.2 (L b) m in let s : w (L b) ≡ w b = weight-label b f.0 in let q = f.1 in omega arith))
      (λ m. omega arith))

  pub keep_is : first w n ≡ keep_label (label ls n)
  unfolding keep_label
  keep_is = sym (ap (λ (m : ℕ). L (first w m)) (length_label ls n) ∙ first-own)

-- the size at a root is the weight
pub size-weight : {n : ℕ} {p z : ℕ → ℕ} {ls : List (ℕ × ℕ)} → Forest n p z → Groups ls n (root_of p) → (i : ℕ) → i < n → z (root_of p i) ≡ weight (label ls n) i
unfolding members
size-weight {n} {p} {z} {ls} F G i l =
    F.counted (root_of p i) (root-lt F i l) (root-top F i l)
    ∙ tally-same _ _ n
    (λ j m.
    let L = label-groups ls n G.inside in
    either (root_of p j) (root_of p i)
    (λ e. one-eq _ _ e ∙ sym (one-eq _ _ (agree G L j i m l e)))
    (λ d. one-ne _ _ d ∙ sym (one-ne _ _ (λ e. d (agree L G j i m l e)))))
    ∙ sym (weight_is ls n i)

pub most-none : (w : ℕ → ℕ) → (most w 0 ≡ 0) × (first w 0 ≡ 0)
unfolding most first
most-none w = (refl, refl)

-- one place more, with the weight s
module _ (w : ℕ → ℕ) (i : ℕ) {s top best : ℕ} (e : s ≡ w i) (t : top ≡ most w i) (b : best ≡ first w i) {best' top' : ℕ} where
  pub scan-more : top < s → best' ≡ i → top' ≡ s → (top' ≡ most w (i + 1)) × (best' ≡ first w (i + 1))
  unfolding most
  scan-more l p q = rw add-one (omega arith, p ∙ sym (first_more w i (omega arith)))

  pub scan-less : s ≤ top → best' ≡ best → top' ≡ top → (top' ≡ most w (i + 1)) × (best' ≡ first w (i + 1))
  unfolding most
  scan-less l p q = rw add-one (omega arith, p ∙ b ∙ sym (first-less w i (omega arith)))
