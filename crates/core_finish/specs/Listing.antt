-- What finish does: with the tables, with the list's length, and with the output that the host lends.
use Rattle.std.specs.Prelude.{◌≡◌, ◌⊎◌, List, ◌++◌, ℕ, length, drop}
use Rattle.def_kinds.specs.declared.Sizes.{Sizes}
use Rattle.def_kinds.specs.Answers.{Answer}
use Rattle.def_state.specs.World.{World}
use Rattle.def_state.specs.Scan.{finish_sleep_scan}
use Rattle.def_state.specs.Calls.{finished}
use Rattle.table_meaning.specs.Decode.{world_of}
use Rattle.table_meaning.specs.Sound.{Sound}
use Rattle.table_meaning.specs.Does.{Does, Refuses}

-- the islands that finish lists, where the output has room for so many words
abbrev pub listed_of : ℕ → World → List ℕ
listed_of room w = (finish_sleep_scan room w).listed

-- on sound tables: the step; n is the list's length, the list stands at the front of the output, and what is behind it is as it was
pub record Finishes (Z : Sizes) (t out : List ℕ) (r : Answer) (n : ℕ) (t' out' : List ℕ) : Type 0 where
  pub does : Does Z (finished (length out)) t r t'
  pub length_is : n ≡ length (listed_of (length out) (world_of Z t))
  pub out_is : out' ≡ listed_of (length out) (world_of Z t) ++ drop (length (listed_of (length out) (world_of Z t))) out

-- tables that are not well formed: answer 9, length 0, and neither the tables nor the output changes
pub record FinishRefuses (Z : Sizes) (t out : List ℕ) (r : Answer) (n : ℕ) (t' out' : List ℕ) : Type 0 where
  pub refuses : Refuses Z t r t'
  pub length_is : n ≡ 0
  pub out_is : out' ≡ out

-- the host call, on any words
abbrev pub Finish : (Z : Sizes) (t out : List ℕ) (r : Answer) (n : ℕ) (t' out' : List ℕ) → Type 0
Finish Z t out r n t' out' = (Sound Z t × Finishes Z t out r n t' out') ⊎ FinishRefuses Z t out r n t' out'
