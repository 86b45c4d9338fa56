-- Steps to a parent, and the roots of a forest.
use mathlib.Core.Path.{◌≡◌, refl, sym}
use mathlib.Core.Logic.{◌≢◌}
use Prim.Native.Nat.{ℕ, zero, suc, ◌-◌, ◌≤◌, ◌<◌, ◌^◌}
use native.Mathlib.Numerals.{sub-one}
use native.Mathlib.Nat.{pow-le-pow_right}
use native.Mathlib.Omega.{arith}
use Rattle.list_in_table.proofs.Same.{below}
use Rattle.split_forest.specs.Forest.{climb, root_of, Tall, Forest}
use Rattle.split_forest.proofs.Tallies.{members-le}

-- a root is its own parent, however often
pub climb-root : (p : ℕ → ℕ) (k r : ℕ) → p r ≡ r → climb p k r ≡ r
unfolding climb
climb-root p zero r e = refl
climb-root p (suc k) r e = rw e (climb-root p k r e)

-- steps past a root change nothing
pub climb-past : (p : ℕ → ℕ) (k m i : ℕ) → k ≤ m → p (climb p k i) ≡ climb p k i → climb p m i ≡ climb p k i
unfolding climb
climb-past p zero m i l e = climb-root p m i e
climb-past p (suc k) zero i l e = absurd (omega arith)
climb-past p (suc k) (suc m) i l e = climb-past p k m (p i) (omega arith) e

pub climb-lt : (p : ℕ → ℕ) (n : ℕ) → ((i : ℕ) → i < n → p i < n) → (k i : ℕ) → i < n → climb p k i < n
unfolding climb
climb-lt p n h zero i l = l
climb-lt p n h (suc k) i l = climb-lt p n h k (p i) (h i l)

-- no tree of at most 4096 places is higher than 12
pub height-le : (k m : ℕ) → 2 ^ k ≤ m → m ≤ 4096 → k ≤ 12
height-le k m h l =
    below 12 k (λ d. absurd (let w : 2 ^ 13 ≤ 2 ^ k = pow-le-pow_right {n = 2} (omega arith) {i = 13} {j = k} d in omega arith)) (λ d. d)

-- so where the size of i's root is at most 4096, the steps lead to root_of
pub tall-root : {p z : ℕ → ℕ} {i : ℕ} (t : Tall p z i) → z (climb p t.steps i) ≤ 4096 → root_of p i ≡ climb p t.steps i
unfolding root_of
tall-root {p} {z} {i} t l = climb-past p t.steps 12 i (height-le t.steps _ t.wide l) t.top

module _ {n : ℕ} {p z : ℕ → ℕ} (F : Forest n p z) where
  pub size-le : (r : ℕ) → r < n → p r ≡ r → z r ≤ n
  size-le r l e = let h = F.counted r l e in let k = members-le (root_of p) n r in omega arith

  pub tall-size : (i : ℕ) (l : i < n) → z (climb p (F.tall i l).steps i) ≤ 4096
  tall-size i l =
      let t = F.tall i l in
      let h : climb p t.steps i < n = climb-lt p n F.within t.steps i l in
      let k = size-le _ h t.top in
      let s = F.n_small in
      omega arith

  pub steps-root : (i : ℕ) (l : i < n) → root_of p i ≡ climb p (F.tall i l).steps i
  steps-root i l = tall-root (F.tall i l) (tall-size i l)

  pub root-top : (i : ℕ) → i < n → p (root_of p i) ≡ root_of p i
  root-top i l = rw (steps-root i l) (F.tall i l).top

  pub root-lt : (i : ℕ) → i < n → root_of p i < n
  unfolding root_of
  root-lt i l = climb-lt p n F.within 12 i l

  -- a walk that ends at a root, however long, ends at this one
  pub top-root : (k i : ℕ) → i < n → p (climb p k i) ≡ climb p k i → climb p k i ≡ root_of p i
  unfolding root_of
  top-root k i l e =
      below 12 k (λ m. climb-past p 12 k i (omega arith) (root-top i l)) (λ m. sym (climb-past p k 12 i m e))

  -- a place has its parent's root
  pub parent-root : (i : ℕ) → i < n → root_of p (p i) ≡ root_of p i
  unfolding root_of climb
  parent-root i l = climb-past p 12 13 i (omega arith) (root-top i l)

pub climb-none : (p : ℕ → ℕ) (h i : ℕ) → h ≡ 0 → i ≡ climb p h i
unfolding climb
climb-none p h i e = rw e refl

pub climb-step : (p : ℕ → ℕ) (h i : ℕ) → h ≢ 0 → climb p (h - 1) (p i) ≡ climb p h i
unfolding climb
climb-step p zero i d = absurd (d refl)
climb-step p (suc k) i d = rw sub-one refl
