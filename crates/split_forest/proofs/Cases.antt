-- What a pick by a test of two numbers is; a list that is right, place by place.
use mathlib.Core.Path.{◌≡◌, ◌∙◌}
use mathlib.Core.Logic.{◌≢◌}
use mathlib.Core.List.{List}
use Prim.Native.Nat.{ℕ, ◌+◌, ◌<◌}
use native.Mathlib.Omega.{arith}
use lib.Dec.{eqb}
use lib.ListN.{length, get_or, set}
use lib.Seq.{get_or-set_same, get_or-set_other}
use borrow.Author.Tests.{eq-eqb, ne_eqb}
use Rattle.def_kinds.specs.Choice.{pick}
use Rattle.list_in_table.proofs.Laws.{either}

pub pick-eq : {A : Type 0} (a b : ℕ) (u v : A) → a ≡ b → pick (eqb a b) u v ≡ u
pick-eq a b u v e = rw (eq-eqb a b e)

pub pick-ne : {A : Type 0} (a b : ℕ) (u v : A) → a ≢ b → pick (eqb a b) u v ≡ v
pick-ne a b u v d = rw (ne_eqb a b d)

-- a list that is right below i, with the right number stored at i, is right below i + 1
pub set_below : (f : ℕ → ℕ) (xs : List ℕ) (i : ℕ) → i < length xs → ((k : ℕ) → k < i → get_or xs k 0 ≡ f k)
    → (k : ℕ) → k < i + 1 → get_or (set xs i (f i)) k 0 ≡ f k
set_below f xs i l h k m =
    either k i (λ e. rw e (get_or-set_same xs i (f i) 0 l)) (λ d. get_or-set_other xs i k (f i) 0 d ∙ h k (omega arith))
