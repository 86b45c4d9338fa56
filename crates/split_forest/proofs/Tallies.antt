-- Laws of tallies, and of the members of groups when one name is turned into another.
use mathlib.Core.Path.{◌≡◌, refl, sym, ap, ◌∙◌}
use mathlib.Core.Logic.{◌≢◌}
use mathlib.Core.Bool.{Bool, true, false}
use Prim.Native.Nat.{ℕ, zero, suc, ◌+◌, ◌≤◌, ◌<◌}
use native.Mathlib.Omega.{arith}
use lib.Dec.{eqb}
use Rattle.def_kinds.specs.Choice.{pick}
use Rattle.list_in_table.proofs.Laws.{either}
use Rattle.def_state.specs.Connected.{tally}
use Rattle.split_forest.specs.Forest.{members}
use Rattle.split_forest.proofs.Cases.{pick-eq, pick-ne}
use Rattle.split_forest.proofs.Paths.{Turned}

-- 1 for yes, 0 for no
abbrev pub one : Bool → ℕ
one t = pick t 1 0

-- how many of the places below n are their own name: the number of groups
unfoldable pub heads : (ℕ → ℕ) → ℕ → ℕ
heads f n = tally (λ i. eqb (f i) i) n

pub one-eq : (a b : ℕ) → a ≡ b → one (eqb a b) ≡ 1
one-eq a b = pick-eq a b 1 0

pub one-ne : (a b : ℕ) → a ≢ b → one (eqb a b) ≡ 0
one-ne a b = pick-ne a b 1 0

one-le : (t : Bool) → one t ≤ 1
one-le true = omega arith
one-le false = omega arith

pub tally-le : (t : ℕ → Bool) (n : ℕ) → tally t n ≤ n
unfolding tally
tally-le t zero = omega arith
tally-le t (suc n) = let h = tally-le t n in let k = one-le (t n) in omega arith

-- a test that is yes as often, place by place, as two others
pub tally-add : (t u v : ℕ → Bool) (n : ℕ) → ((i : ℕ) → i < n → one (t i) ≡ one (u i) + one (v i)) → tally t n ≡ tally u n + tally v n
unfolding tally
tally-add t u v zero h = refl
tally-add t u v (suc n) h =
    let e = tally-add t u v n (λ i l. h i (omega arith)) in
    let k = h n (omega arith) in
    omega arith

pub tally-same : (t u : ℕ → Bool) (n : ℕ) → ((i : ℕ) → i < n → one (t i) ≡ one (u i)) → tally t n ≡ tally u n
unfolding tally
tally-same t u zero h = refl
tally-same t u (suc n) h =
    let e = tally-same t u n (λ i l. h i (omega arith)) in
    let k = h n (omega arith) in
    omega arith

-- one place is one place
tally-none : (s n : ℕ) → n ≤ s → tally (λ i. eqb i s) n ≡ 0
unfolding tally
tally-none s zero l = refl
tally-none s (suc n) l = let e = tally-none s n (omega arith) in let k = one-ne n s (omega arith) in omega arith

pub tally-one : (s n : ℕ) → s < n → tally (λ i. eqb i s) n ≡ 1
unfolding tally
tally-one s zero l = absurd (omega arith)
tally-one s (suc n) l =
    either n s (λ e. (let k = one-eq n s e in let h = tally-none s n (omega arith) in omega arith))
    (λ d. (let k = one-ne n s d in let h = tally-one s n (omega arith) in omega arith))

pub members-le : (f : ℕ → ℕ) (n r : ℕ) → members f n r ≤ n
unfolding members
members-le f n r = tally-le _ n

pub members-same : {n : ℕ} {f g : ℕ → ℕ} (r : ℕ) → ((i : ℕ) → i < n → g i ≡ f i) → members g n r ≡ members f n r
unfolding members
members-same {n} r h = tally-same _ _ n (λ i l. ap (λ (j : ℕ). one (eqb j r)) (h i l))

module _ {n : ℕ} {f g : ℕ → ℕ} {s b : ℕ} (T : Turned n f g s b) (apart : s ≢ b) where
  -- the members of b are now those of b and of s
  pub members-to : members g n b ≡ members f n b + members f n s
  unfolding members
  members-to =
      tally-add _ _ _ n
      (λ i l.
      either (f i) s
      (λ e. (let x = one-eq (g i) b (T.to i l e) in let y = one-ne (f i) b (omega arith) in let z = one-eq (f i) s e in omega arith))
      (λ d. (let x : one (eqb (g i) b) ≡ one (eqb (f i) b) = ap (λ (j : ℕ). one (eqb j b)) (T.stay i l d) in let z = one-ne (f i) s d in omega arith)))

  pub members-stay : (r : ℕ) → r ≢ s → r ≢ b → members g n r ≡ members f n r
  unfolding members
  members-stay r ds db =
      tally-same _ _ n
      (λ i l.
      either (f i) s
      (λ e. (let k = T.to i l e in let x = one-ne (g i) r (omega arith) in let y = one-ne (f i) r (omega arith) in omega arith))
      (λ d. ap (λ (j : ℕ). one (eqb j r)) (T.stay i l d)))

  -- and there is one group fewer
  pub heads-fewer : s < n → f s ≡ s → f b ≡ b → heads f n ≡ heads g n + 1
  unfolding heads
  heads-fewer sl es eb =
      tally-add _ _ _ n
      (λ i l.
      either i s
      (λ e. (let x = one-eq (f i) i (rw e es) in let k = T.to i l (rw e es) in let y = one-ne (g i) i (omega arith) in let z = one-eq i s e in omega arith))
      (λ d.
      let z = one-ne i s d in
      either (f i) s (λ e. (let k = T.to i l e in let x = one-ne (f i) i (omega arith) in let y = one-ne (g i) i (λ w. apart (sym e ∙ ap f (sym w ∙ k) ∙ eb)) in omega arith))
      (λ e. (let x : one (eqb (g i) i) ≡ one (eqb (f i) i) = ap (λ (j : ℕ). one (eqb j i)) (T.stay i l e) in omega arith))))
      ∙ ap (λ (k : ℕ). heads g n + k) (tally-one s n sl)
