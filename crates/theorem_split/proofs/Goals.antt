-- Where the components of a split go: different ones to different islands.
use mathlib.Core.Path.{◌≡◌, refl, sym, ◌∙◌, subst}
use mathlib.Core.Logic.{◌⊎◌, inl, inr, ◌≢◌}
use mathlib.Core.Bool.{Bool, true, false}
use mathlib.Core.List.{List}
use Prim.Native.Nat.{ℕ, zero, suc, ◌+◌, ◌-◌, ◌≤◌, ◌<◌}
use native.Mathlib.Omega.{arith}
use lib.ListN.{length, get_or}
use lib.Dec.{eqb, ltb}
use borrow.Author.Tests.{eq-eqb, ne_eqb, eqb-true}
use Rattle.def_kinds.specs.Choice.{pick}
use Rattle.list_in_table.proofs.Laws.{either}
use Rattle.list_in_table.proofs.Same.{below}
use Rattle.def_state.specs.Plain.{top}
use Rattle.def_state.specs.Connected.{tally, components, weight, most, first, keep_label}
use Rattle.def_state.specs.Split.{leads, goal}
use Rattle.theorem_split.specs.Graph.{In}
use Rattle.theorem_split.proofs.Member.{in-at}

-- one where the test passes
abbrev one : Bool → ℕ
one b = pick b 1 0

first-le : (f : ℕ → ℕ) (n : ℕ) → first f (suc n) ≤ n
unfolding first
first-le f zero = pick-zero (ltb (most f 0) (f 0))
  where
    pick-zero : (b : Bool) → pick b 0 0 ≤ 0
    pick-zero true = omega arith
    pick-zero false = omega arith
first-le f (suc n) = pick-le (ltb (most f (suc n)) (f (suc n))) (first f (suc n)) (first-le f n)
  where
    pick-le : (b : Bool) (x : ℕ) → x ≤ n → pick b (suc n) x ≤ suc n
    pick-le true x l = omega arith
    pick-le false x l = omega arith

pub first-lt : (f : ℕ → ℕ) (n : ℕ) → 0 < n → first f n < n
first-lt f zero l = absurd (omega arith)
first-lt f (suc n) l = let h = first-le f n in omega arith

-- ---- one component

tally-le : (t : ℕ → Bool) (a b : ℕ) → a ≤ b → tally t a ≤ tally t b
unfolding tally
tally-le t a zero l = subst (λ (x : ℕ). tally t x ≤ 0) (let e : 0 ≡ a = omega arith in e) (omega arith)
tally-le t a (suc b) l =
    either a (suc b) (λ e. rw e (omega arith)) (λ d. (let h = tally-le t a b (omega arith) in omega arith))

tally-more : (t : ℕ → Bool) (a b : ℕ) → a < b → t a ≡ true → tally t a < tally t b
unfolding tally
tally-more t a b l e =
    let h : tally t (suc a) ≤ tally t b = tally-le t (suc a) b l in
    let k : one (t a) ≡ 1 = rw e in
    omega arith

-- where there is one component at most, any two labels are one
pub one_label : (L : List ℕ) → components L ≤ 1 → (a b : ℕ) → a < length L → b < length L → get_or L a 0 ≡ a → get_or L b 0 ≡ b → a ≡ b
unfolding components
one_label L l a b la lb oa ob =
    either a b (λ e. e)
    (λ d.
    absurd
    (below a b (λ m. apart a b m la lb oa ob) (λ m. apart b a (omega arith) lb la ob oa)))
  where
    apart : (x y : ℕ) → x < y → x < length L → y < length L → get_or L x 0 ≡ x → get_or L y 0 ≡ y → ⊥
    apart x y m lx ly ox oy =
        let p = tally-more (λ i. eqb (get_or L i 0) i) x y m (eq-eqb (get_or L x 0) x ox) in
        let q = tally-more (λ i. eqb (get_or L i 0) i) y (length L) ly (eq-eqb (get_or L y 0) y oy) in
        omega arith

module _ (L : List ℕ) (own : (i : ℕ) → i < length L → get_or L (get_or L i 0) 0 ≡ get_or L i 0) (lt : (i : ℕ) → i < length L → get_or L i 0 < length L) (some : 0 < length L) where
  abbrev keep : ℕ
  keep = keep_label L

  keep_own : get_or L (keep_label L) 0 ≡ keep_label L
  unfolding keep_label
  keep_own = own (first (weight L) (length L)) (first-lt (weight L) (length L) some)

  pub keep_lt : keep_label L < length L
  unfolding keep_label
  keep_lt = lt (first (weight L) (length L)) (first-lt (weight L) (length L) some)

  leads-yes : (j : ℕ) → j ≢ keep → get_or L j 0 ≡ j → one (leads L keep j) ≡ 1
  unfolding leads
  leads-yes j d e = rw (ne_eqb j keep d, eq-eqb (get_or L j 0) j e)

  leads-kept : (j : ℕ) → j ≡ keep → one (leads L keep j) ≡ 0
  unfolding leads
  leads-kept j e = rw (eq-eqb j keep e)

  leads-same : (j : ℕ) → j ≢ keep → one (leads L keep j) ≡ one (eqb (get_or L j 0) j)
  unfolding leads
  leads-same j d = rw (ne_eqb j keep d)

  -- past the kept one there is one label more
  ranks-low : (m : ℕ) → m ≤ keep → tally (leads L keep) m ≡ tally (λ i. eqb (get_or L i 0) i) m
  unfolding tally
  ranks-low zero l = refl
  ranks-low (suc m) l =
      let h = ranks-low m (omega arith) in
      let k = leads-same m (omega arith) in
      rw (h, k)

  ranks-high : (m : ℕ) → keep < m → tally (leads L keep) m + 1 ≡ tally (λ i. eqb (get_or L i 0) i) m
  unfolding tally
  ranks-high zero l = absurd (omega arith)
  ranks-high (suc m) l =
      either m keep
      (λ e.
      let h = ranks-low m (omega arith) in
      let k = leads-kept m e in
      let o : one (eqb (get_or L m 0) m) ≡ 1 = rw (eq-eqb (get_or L m 0) m (subst (λ (x : ℕ). get_or L x 0 ≡ x) (sym e) keep_own)) in
      omega arith)
      (λ d.
      let h = ranks-high m (omega arith) in
      let k = leads-same m d in
      omega arith)

  pub ranks : tally (leads L keep) (length L) ≡ components L - 1
  unfolding components
  ranks = let h = ranks-high (length L) keep_lt in omega arith

  -- past a label that leaves, the rank is greater
  rank_lt : (a b : ℕ) → a < b → a ≢ keep → get_or L a 0 ≡ a → tally (leads L keep) a < tally (leads L keep) b
  unfolding tally
  rank_lt a zero l d e = absurd (omega arith)
  rank_lt a (suc b) l d e =
      either a b
      (λ q. (let h : one (leads L keep b) ≡ 1 = leads-yes b (λ o. d (q ∙ o)) (subst (λ (x : ℕ). get_or L x 0 ≡ x) q e) in rw q (omega arith)))
      (λ q. (let h : tally (leads L keep) a < tally (leads L keep) b = rank_lt a b (omega arith) d e in omega arith))

  module _ (base : ℕ) (ns : List ℕ) (long : length ns ≡ components L - 1) (fresh : (n : ℕ) → In n ns → n ≢ base)
      (differ : (p q : ℕ) → p < length ns → q < length ns → get_or ns p top ≡ get_or ns q top → p ≡ q)
    where
      pub goal-keep : goal L keep base ns keep ≡ base
      unfolding goal
      goal-keep = rw (eq-eqb keep keep refl)

      goal-new : (a : ℕ) → a ≢ keep → goal L keep base ns a ≡ get_or ns (tally (leads L keep) a) top
      unfolding goal
      goal-new a d = rw (ne_eqb a keep d)

      in-rank : (a : ℕ) → a < length L → get_or L a 0 ≡ a → a ≢ keep → tally (leads L keep) a < length ns
      in-rank a l e d = let h = rank_lt a (length L) l d e in let k = ranks in omega arith

      pub goal-in : (a : ℕ) → a < length L → get_or L a 0 ≡ a → (goal L keep base ns a ≡ base) ⊎ In (goal L keep base ns a) ns
      goal-in a l e =
          either a keep (λ q. inl (rw q goal-keep))
          (λ d. inr (subst (λ (x : ℕ). In x ns) (sym (goal-new a d)) (in-at top ns (tally (leads L keep) a) (in-rank a l e d))))

      pub goal-one : (a b : ℕ) → a < length L → b < length L → get_or L a 0 ≡ a → get_or L b 0 ≡ b → goal L keep base ns a ≡ goal L keep base ns b → a ≡ b
      goal-one a b la lb oa ob e =
          either a keep
          (λ p.
          either b keep (λ q. p ∙ sym q)
          (λ q.
          absurd (fresh _ (in-at top ns (tally (leads L keep) b) (in-rank b lb ob q)) (sym (goal-new b q) ∙ sym e ∙ (rw p goal-keep)))))
          (λ p.
          either b keep
          (λ q.
          absurd (fresh _ (in-at top ns (tally (leads L keep) a) (in-rank a la oa p)) (sym (goal-new a p) ∙ e ∙ (rw q goal-keep))))
          (λ q.
          let r : tally (leads L keep) a ≡ tally (leads L keep) b =
          differ (tally (leads L keep) a) (tally (leads L keep) b) (in-rank a la oa p) (in-rank b lb ob q) (sym (goal-new a p) ∙ e ∙ goal-new b q) in
          below a b (λ k. absurd (let h = rank_lt a b k p oa in omega arith))
          (λ k. either a b (λ w. w) (λ w. absurd (let h = rank_lt b a (omega arith) q ob in omega arith)))))

-- ---- where any two labels are one there is one component at most

tally-zero : (t : ℕ → Bool) (n : ℕ) → ((a : ℕ) → a < n → t a ≡ false) → tally t n ≡ 0
unfolding tally
tally-zero t zero h = refl
tally-zero t (suc n) h = rw (h n (omega arith), tally-zero t n (λ a l. h a (omega arith)))

tally-one : (t : ℕ → Bool) (n : ℕ) → ((a b : ℕ) → a < n → b < n → t a ≡ true → t b ≡ true → a ≡ b) → tally t n ≤ 1
unfolding tally
tally-one t zero h = omega arith
tally-one t (suc n) h = go (t n) refl (tally-one t n (λ a b l m. h a b (omega arith) (omega arith)))
  where
    dec : (b : Bool) → (b ≡ true → ⊥) → b ≡ false
    dec true f = absurd (f refl)
    dec false f = refl

    go : (b : Bool) → t n ≡ b → tally t n ≤ 1 → tally t n + pick (t n) 1 0 ≤ 1
    go true e l =
        let z : tally t n ≡ 0 = tally-zero t n (λ a al. dec (t a) (λ q. (let k : a ≡ n = h a n (omega arith) (omega arith) q e in omega arith))) in
        rw (e, z) (omega arith)
    go false e l = rw e (omega arith)

pub one-component : (L : List ℕ) → ((a b : ℕ) → a < length L → b < length L → get_or L a 0 ≡ a → get_or L b 0 ≡ b → a ≡ b) → components L ≤ 1
unfolding components
one-component L h = tally-one (λ i. eqb (get_or L i 0) i) (length L) (λ a b l m p q. h a b l m (eqb-true (get_or L a 0) a p) (eqb-true (get_or L b 0) b q))
