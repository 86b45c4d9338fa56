-- What it is to name the groups that links make.
use Rattle.std.specs.Prelude.{◌≡◌, ℕ, ◌<◌, List}
use Rattle.def_state.specs.Connected.{Link, Joined}

-- both ends of every link are below n
abbrev pub Inside : List (ℕ × ℕ) → ℕ → Type 0
Inside ls n = (a b : ℕ) → Link ls a b → a < n

-- f names the groups of the places below n: the ends of a link have one name, and a path leads from each place to its name
pub record Groups (ls : List (ℕ × ℕ)) (n : ℕ) (f : ℕ → ℕ) : Type 0 where
  pub inside : Inside ls n
  pub along : (a b : ℕ) → Link ls a b → f a ≡ f b
  pub leads : (i : ℕ) → i < n → Joined ls i (f i)
