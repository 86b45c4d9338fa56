-- A history: from a reset, any calls in any order, refused ones too. Nothing else writes to the tables.
use Rattle.std.specs.Prelude.{List, [], ◌∷◌, ℕ}
use Rattle.def_kinds.specs.declared.Sizes.{Sizes}
use Rattle.def_kinds.specs.Answers.{Answer, Done}
use Rattle.def_state.specs.Calls.{Call, Split, perform}
use Rattle.table_meaning.specs.Does.{Reset, Called}

-- how the tables t came about
pub data History (Z : Sizes) : List ℕ → Type 0 where
  reset : {t t' : List ℕ} → Reset Z t Done t' → History Z t'
  call : {t t' : List ℕ} → History Z t → (c : Call) (r : Answer) → Called Z (perform Z c) t r t' → History Z t'

-- the islands of these numbers are split, one after the other: tables t before, t' after
pub data Splits (Z : Sizes) : List ℕ → List ℕ → List ℕ → Type 0 where
  none : {t : List ℕ} → Splits Z [] t t
  next : {n : ℕ} {ns t u t' : List ℕ} (r : Answer) → Called Z (perform Z (Split n)) t r u → Splits Z ns u t' → Splits Z (n ∷ ns) t t'
