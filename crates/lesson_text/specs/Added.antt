-- What is added to the bytes that wait. Assumes nothing.
use Rattle.std.specs.Prelude.{ℕ, ◌+◌, ◌-◌, ◌≤◌, ◌≡◌, List, ◌++◌, length}
use Rattle.io.specs.Digits.{last_digits, IsDigitCount}

-- where s has room behind the bytes that wait, of which `room` may wait, it stands behind them then
abbrev pub Added : ℕ → List ℕ → List ℕ → List ℕ → Type 0
Added room old s new = length old + length s ≤ room → new ≡ old ++ s

-- where 20 bytes have room behind the bytes that wait, the decimal digits of n stand there then, as few as write it
abbrev pub Spelled : ℕ → List ℕ → ℕ → List ℕ → Type 0
Spelled room old n new =
    length old + 20 ≤ room
    → (length old ≤ length new) × IsDigitCount 10 1 n (length new - length old) × (new ≡ old ++ last_digits 10 (length new - length old) n)
