-- A law on a number's digits. Assumes nothing.
use Prim.Native.Nat.{ℕ, ◌-◌, ◌^◌, ◌<◌, ◌≤◌}
use native.Mathlib.Omega.{arith}
use native.Mathlib.Nat.{eq-zero-or-pos, pow-le-pow_right, zero-lt-suc}
use mathlib.Core.Logic.{⊎_elim}
use Rattle.io.specs.Digits.{IsDigitCount}

-- A number of 64 bits has 20 digits at most.
pub at-most-20 : (n k : ℕ) → n < 18446744073709551616 → IsDigitCount 10 1 n k → k ≤ 20
at-most-20 n k h few =
    ⊎_elim
    (λ less. omega arith)
    (λ more.
    let p : 20 ≤ k - 1 = omega arith in
    let q : 10 ^ 20 ≤ 10 ^ (k - 1) = pow-le-pow_right (zero-lt-suc 9) p in
    let f : 10 ^ (k - 1) ≤ n = few.2 (omega arith) in
    absurd (omega arith))
    (eq-zero-or-pos (k - 20))
