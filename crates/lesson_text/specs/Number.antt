-- Numbers as text.
use Rattle.std.specs.Prelude.{ℕ, zero, suc, ◌+◌, ◌-◌, ◌*◌, ◌<◌, ◌≤◌, ◌≡◌, Option, Some, None, List, length, get_or}

-- the number that the first k bytes of s write, each a decimal digit
abbrev pub decimal : List ℕ → ℕ → ℕ
decimal s zero = 0
decimal s (suc k) = decimal s k * 10 + (get_or s k 0 - 48)

-- each of the first k bytes of s is a decimal digit
abbrev pub Digits : List ℕ → ℕ → Type 0
Digits s k = (j : ℕ) → j < k → (48 ≤ get_or s j 0) × (get_or s j 0 ≤ 57)

-- what the word s reads as: the number that its digits write; none exactly where a byte is no digit, where there is none, or
-- where 64 bits do not hold the number
abbrev pub ReadsAs : List ℕ → Option ℕ → Type 0
ReadsAs s (Some v) = (0 < length s) × Digits s (length s) × (v ≡ decimal s (length s))
ReadsAs s None = 0 < length s → Digits s (length s) → 18446744073709551615 < decimal s (length s)
