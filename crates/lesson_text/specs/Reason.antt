-- The C library's words in what std writes of an error. Assumes nothing.
use Rattle.std.specs.Prelude.{ℕ, ◌<◌, ◌≡◌, List, ◌++◌, length, take, drop}

-- `mark` stands in s behind its first i bytes
abbrev pub StandsAt : List ℕ → List ℕ → ℕ → Type 0
StandsAt mark s i = (rest : List ℕ) × (drop i s ≡ mark ++ rest)

-- r is what stands in s before its first `mark`, or all of s where it has none
abbrev pub IsBefore : List ℕ → List ℕ → List ℕ → Type 0
IsBefore mark s r =
    (r ≡ take (length r) s) × ((i : ℕ) → i < length r → StandsAt mark s i → ⊥) × (length r < length s → StandsAt mark s (length r))

-- `mark` stands nowhere in s
abbrev pub Lacks : List ℕ → List ℕ → Type 0
Lacks mark s = (i : ℕ) → StandsAt mark s i → ⊥
