-- Oren's promise, of what the host finds in the output that it lent to finish. Proved in proofs/Written.antt.
use Rattle.std.specs.Prelude.{◌≢◌, List, ℕ, ◌<◌, get_or}
use Rattle.def_kinds.specs.declared.Sizes.{Sizes}
use Rattle.def_kinds.specs.Answers.{Answer}
use Rattle.def_state.specs.World.{Handle, body_island}
use Rattle.table_meaning.specs.Decode.{world_of}
use Rattle.core_finish.specs.Listing.{Finish}
use Rattle.theorem_split.specs.Graph.{Path}
use Rattle.theorem_history.specs.History.{History}
use Rattle.theorem_history.specs.Promises.{Unfit, SeenUnfit, Tied}

-- the host call finish, after a history: none of the n numbers that it wrote was observed unfit in the scan
abbrev pub NoUnfitWritten : Type 0
NoUnfitWritten =
    (Z : Sizes) (t out : List ℕ) (H : History Z t) (r : Answer) (n : ℕ) (t' out' : List ℕ) → Finish Z t out r n t' out' → (i : ℕ) → Unfit H i
    → (p : ℕ) → p < n → get_or out' p 0 ≢ i

-- and none of the n numbers that it wrote is that of an island with a body that was seen unfit, nor with one that ties lead to from there
abbrev pub NoneWritten : Type 0
NoneWritten =
    (Z : Sizes) (t out : List ℕ) (H : History Z t) (r : Answer) (n : ℕ) (t' out' : List ℕ) → Finish Z t out r n t' out' → (a : Handle) → SeenUnfit H a → (b : Handle)
    → Path (Tied H) a b
    → (p : ℕ) → p < n → get_or out' p 0 ≢ body_island (world_of Z t) b
