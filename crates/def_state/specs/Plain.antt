-- Plain things: a choice, an empty list, the last element, Rust's Vec::swap_remove.
use Rattle.std.specs.Prelude.{Bool, true, false, List, [], ◌∷◌, ℕ, suc, ◌+◌, ◌-◌, length, get_or, set, take, eqb}
use Rattle.def_kinds.specs.Choice.{pick}

-- the largest number of 32 bits: counts stop there, and it is the number of no slot, no island and no place
abbrev pub top : ℕ
top = 4294967295

-- the list has no element
abbrev pub empty : {A : Type 0} → List A → Bool
empty [] = true
empty (x ∷ xs) = false

-- x is in xs
unfoldable pub has : List ℕ → ℕ → Bool
has [] x = false
has (y ∷ ys) x = pick (eqb y x) true (has ys x)

-- the place of x in xs, which has it
unfoldable pub place_of : List ℕ → ℕ → ℕ
place_of [] x = 0
place_of (y ∷ ys) x = pick (eqb y x) 0 (suc (place_of ys x))

-- Vec::pop: what is left, and what was last (d where there is nothing)
abbrev pub drop_last : {A : Type 0} → List A → List A
drop_last xs = take (length xs - 1) xs

abbrev pub last_of : {A : Type 0} → A → List A → A
last_of d xs = get_or xs (length xs - 1) d

-- Vec::swap_remove: the last takes the place p
abbrev pub swap_remove : {A : Type 0} → A → List A → ℕ → List A
swap_remove d xs p = take (length xs - 1) (set xs p (get_or xs (length xs - 1) d))

-- one more; counts stop at the top
unfoldable pub more : ℕ → ℕ
more c = pick (eqb c top) c (c + 1)
