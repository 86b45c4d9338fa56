-- The list of those that may sleep, element by element.
use mathlib.Core.Path.{◌≡◌, refl, ◌∙◌, ap}
use mathlib.Core.Bool.{Bool, true, false}
use mathlib.Core.List.{List, [], ◌∷◌, ◌++◌}
use Prim.Native.Nat.{ℕ, suc, ◌≤◌}
use native.Mathlib.Omega.{arith}
use lib.ListN.{length}
use Rattle.def_kinds.specs.Choice.{pick}
use Rattle.def_state.specs.World.{Observed, World}
use Rattle.def_state.specs.Scan.{sleepable, sleepables}

pick-append : (b : Bool) (k : ℕ) (xs ys zs : List ℕ) → xs ≡ ys ++ zs → pick b (k ∷ xs) xs ≡ pick b (k ∷ ys) ys ++ zs
pick-append true k xs ys zs e = ap (λ (l : List ℕ). k ∷ l) e
pick-append false k xs ys zs e = e

pub sleepables-append : (w : World) (xs ys : List Observed) → sleepables w (xs ++ ys) ≡ sleepables w xs ++ sleepables w ys
unfolding sleepables
sleepables-append w [] ys = refl
sleepables-append w (o ∷ xs) ys = pick-append (sleepable w o) o.island (sleepables w (xs ++ ys)) (sleepables w xs) (sleepables w ys) (sleepables-append w xs ys)

pick-le : (b : Bool) (k n : ℕ) (xs : List ℕ) → length xs ≤ n → length (pick b (k ∷ xs) xs) ≤ suc n
pick-le true k n xs h = omega arith
pick-le false k n xs h = omega arith

pub sleepables-le : (w : World) (xs : List Observed) → length (sleepables w xs) ≤ length xs
unfolding sleepables
sleepables-le w [] = omega arith
sleepables-le w (o ∷ xs) = pick-le (sleepable w o) o.island (length xs) (sleepables w xs) (sleepables-le w xs)

pub sleepables-yes : (w : World) (xs : List Observed) (o : Observed) → sleepable w o ≡ true → sleepables w (xs ++ (o ∷ [])) ≡ sleepables w xs ++ (o.island ∷ [])
unfolding sleepables
sleepables-yes w xs o h = sleepables-append w xs (o ∷ []) ∙ rw h

pub sleepables-no : (w : World) (xs : List Observed) (o : Observed) → sleepable w o ≡ false → sleepables w (xs ++ (o ∷ [])) ≡ sleepables w xs ++ []
unfolding sleepables
sleepables-no w xs o h = sleepables-append w xs (o ∷ []) ∙ rw h
