-- k numbers below n that differ are at most n; so a table's lists together hold at most its n elements.
use mathlib.Core.Path.{◌≡◌, sym, ◌∙◌, ap}
use mathlib.Core.Logic.{◌⊎◌, inl, inr, ◌≢◌, ⊎_elim}
use Prim.Native.Nat.{ℕ, zero, suc, ◌+◌, ◌-◌, ◌≤◌, ◌<◌}
use native.Mathlib.Omega.{arith}
use mathlib.Core.List.{List, ◌++◌}
use lib.ListN.{length, get_or, get_or-append}
use lib.Seq.{get_or-append-add}
use lib.Dec.{eqb}
use borrow.Author.Tests.{eq-eqb, ne_eqb}
use Rattle.list_in_table.specs.Rules.{none, View, Rules, list_of}
use Rattle.def_kinds.specs.Choice.{pick}
use Rattle.list_in_table.proofs.Laws.{either}
use Rattle.list_in_table.proofs.Order.{At, length-list, list_at}

-- is n among the first k values of f?
among : (f : ℕ → ℕ) (n k : ℕ) → ((i : ℕ) → i < k → f i ≢ n) ⊎ ((i : ℕ) × (i < k) × (f i ≡ n))
among f n zero = inl (λ i l. absurd (omega arith))
among f n (suc k) =
    ⊎_elim (λ none'. either (f k) n (λ e. inr (k, omega arith, e)) (λ d. inl (λ i l. either i k (λ p q. d (sym (ap f p) ∙ q)) (λ p. none' i (omega arith)))))
    (λ s. inr (s.0, (let h = s.1 in omega arith), s.2))
    (among f n k)

pub pigeon : (n k : ℕ) (f : ℕ → ℕ) → ((i : ℕ) → i < k → f i < n) → ((i j : ℕ) → i < k → j < k → f i ≡ f j → i ≡ j) → k ≤ n
pigeon zero zero f b d = omega arith
pigeon zero (suc k) f b d = absurd (let h = b 0 (omega arith) in omega arith)
pigeon (suc n) zero f b d = omega arith
pigeon (suc n) (suc k) f b d =
    ⊎_elim
    (λ (out : (i : ℕ) → i < suc k → f i ≢ n). let h = pigeon n (suc k) f (λ i l. (let x = b i l in let y = out i l in omega arith)) d in omega arith)
    (λ (s : (i : ℕ) × (i < suc k) × (f i ≡ n)).
    let g : ℕ → ℕ = λ i. pick (eqb i s.0) (f k) (f i) in
    let ge : (i : ℕ) → i ≡ s.0 → g i ≡ f k = λ i e. rw (eq-eqb i s.0 e) in
    let gn : (i : ℕ) → i ≢ s.0 → g i ≡ f i = λ i e. rw (ne_eqb i s.0 e) in
    let sl = s.1 in
    let se = s.2 in
    let h =
    pigeon n k g
    (λ i l.
    either i s.0
    (λ e.
    let x = b k (omega arith) in
    let w : f k ≢ n = λ p. (let y = d k s.0 (omega arith) sl (p ∙ sym se) in omega arith) in
    let z = ge i e in
    omega arith)
    (λ e.
    let x = b i (omega arith) in
    let w : f i ≢ n = λ p. e (d i s.0 (omega arith) sl (p ∙ sym se)) in
    let z = gn i e in
    omega arith))
    (λ i j li lj p.
    either i s.0
    (λ ei.
    either j s.0 (λ ej. ei ∙ sym ej)
    (λ ej. absurd (let y = d k j (omega arith) (omega arith) (sym (ge i ei) ∙ p ∙ gn j ej) in omega arith)))
    (λ ei.
    either j s.0 (λ ej. absurd (let y = d i k (omega arith) (omega arith) (sym (gn i ei) ∙ p ∙ ge j ej) in omega arith))
    (λ ej. d i j (omega arith) (omega arith) (sym (gn i ei) ∙ p ∙ gn j ej)))) in
    omega arith)
    (among f n (suc k))

module _ {n m : ℕ} {S : View} (R : Rules n m S) where
  -- a list has at most n elements
  pub count-le : (i : ℕ) → i < m → S.count i ≤ n
  count-le i l =
      pigeon n (S.count i) (λ p. get_or (list_of S i) p 0) (λ p h. (list_at R i l p h).lt)
      (λ p q hp hq e. sym (list_at R i l p hp).place_is ∙ ap S.place e ∙ (list_at R i l q hq).place_is)

  -- fewer, where one element is in no list
  pub count-lt : (i e : ℕ) → i < m → e < n → S.home e ≡ none → S.count i < n
  count-lt i e l el eb =
      let L : ℕ → ℕ = λ p. get_or (list_of S i) p 0 in
      let f : ℕ → ℕ = λ p. pick (eqb p (S.count i)) e (L p) in
      let fe : (p : ℕ) → p ≡ S.count i → f p ≡ e = λ p q. rw (eq-eqb p (S.count i) q) in
      let fn : (p : ℕ) → p ≢ S.count i → f p ≡ L p = λ p q. rw (ne_eqb p (S.count i) q) in
      let ne : (p : ℕ) → p < S.count i → L p ≢ e =
      λ p h q. (let a : S.home (L p) ≡ i = (list_at R i l p h).home_is in let b : S.home (L p) ≡ S.home e = ap S.home q in let s = R.m_small in omega arith) in
      let h =
      pigeon n (suc (S.count i)) f
      (λ p hp. either p (S.count i) (λ q. let z = fe p q in omega arith) (λ q. let z = fn p q in let y = (list_at R i l p (omega arith)).lt in omega arith))
      (λ p q hp hq s.
      either p (S.count i)
      (λ ep. either q (S.count i) (λ eq. ep ∙ sym eq) (λ eq. absurd (ne q (omega arith) (sym (fn q eq) ∙ sym s ∙ fe p ep))))
      (λ ep.
      either q (S.count i) (λ eq. absurd (ne p (omega arith) (sym (fn p ep) ∙ s ∙ fe q eq)))
      (λ eq.
      sym (list_at R i l p (omega arith)).place_is ∙ ap S.place (sym (fn p ep) ∙ s ∙ fn q eq) ∙ (list_at R i l q (omega arith)).place_is))) in
      omega arith

  -- two lists together have at most n
  pub counts-le : (i j : ℕ) → i < m → j < m → i ≢ j → S.count i + S.count j ≤ n
  counts-le i j il jl d =
      let A : List ℕ = list_of S i in
      let B : List ℕ = list_of S j in
      let a : length A ≡ S.count i = length-list R i il in
      let f : ℕ → ℕ = λ p. get_or (A ++ B) p 0 in
      let lo : (p : ℕ) → p < S.count i → At n S i p (f p) = λ p h. rw (get_or-append A B 0 p (omega arith)) (list_at R i il p h) in
      let hi : (p : ℕ) → S.count i ≤ p → p < S.count i + S.count j → At n S j (p - S.count i) (f p) =
      λ p g h.
      (let e : p ≡ length A + (p - S.count i) = omega arith in
      let v : f p ≡ get_or B (p - S.count i) 0 = ap f e ∙ get_or-append-add A B (p - S.count i) 0 in
      rw v (list_at R j jl (p - S.count i) (omega arith))) in
      pigeon n (S.count i + S.count j) f
      (λ p h. either (S.count i - p) 0 (λ z. (hi p (omega arith) h).lt) (λ z. (lo p (omega arith)).lt))
      (λ p q hp hq e.
      let eh : S.home (f p) ≡ S.home (f q) = ap S.home e in
      let ep : S.place (f p) ≡ S.place (f q) = ap S.place e in
      either (S.count i - p) 0
      (λ zp.
      let up = hi p (omega arith) hp in
      either (S.count i - q) 0 (λ zq. let uq = hi q (omega arith) hq in omega arith)
      (λ zq. absurd (d (sym (lo q (omega arith)).home_is ∙ sym eh ∙ up.home_is))))
      (λ zp.
      let up = lo p (omega arith) in
      either (S.count i - q) 0 (λ zq. absurd (d (sym up.home_is ∙ eh ∙ (hi q (omega arith) hq).home_is)))
      (λ zq. let uq = lo q (omega arith) in omega arith)))
