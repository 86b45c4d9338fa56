-- The four sentences of demand 3, and that what is RecordedAfter is what the lists hold. Each is proved in proofs/Sentences.antt.
use Rattle.std.specs.Prelude.{◌≡◌, ◌≢◌, ◌↔◌, true, List, ℕ}
use Rattle.std.proofs.Math.Option.{some}
use Rattle.def_kinds.specs.declared.Sizes.{Sizes}
use Rattle.def_kinds.specs.Answers.{Answer, Done}
use Rattle.def_state.specs.Plain.{top}
use Rattle.def_state.specs.World.{Handle, Removal, World, island_at, body_island, live}
use Rattle.def_state.specs.Calls.{Split, Run, perform}
use Rattle.table_meaning.specs.Decode.{world_of}
use Rattle.table_meaning.specs.Does.{Called}
use Rattle.theorem_split.specs.Graph.{In, Path, Bond, Stands, Whole}
use Rattle.theorem_split.specs.Exact.{SameMembers, Exact}
use Rattle.theorem_history.specs.History.{History, Splits}
use Rattle.theorem_history.specs.Ties.{Tie, Recorded}
use Rattle.theorem_history.specs.Clean.{Clean, Linked}

-- the two bodies of a link that was RecordedAfter while both were members share an island, until it is unlinked or one of them leaves
abbrev pub Share : Type 0
Share =
    (Z : Sizes) (t : List ℕ) (H : History Z t) (l : Bond) → Tie H l
    → (body_island (world_of Z t) l.body1 ≡ body_island (world_of Z t) l.body2) × (body_island (world_of Z t) l.body1 ≢ top)

-- no entry of the journal names two bodies of island j
abbrev pub Unnamed : World → ℕ → Type 0
Unnamed w j = (e : Removal) → In e w.removal_journal → body_island w e.body1 ≡ j → body_island w e.body2 ≡ j → ⊥

-- a live island with removal count 0, two of whose bodies no entry names, is connected by its own links
abbrev pub Connected : Type 0
Connected =
    (Z : Sizes) (t : List ℕ) → History Z t → (j : ℕ) → live (world_of Z t) j ≡ true → (island_at (world_of Z t) j).constraint_remove_count ≡ 0
    → Unnamed (world_of Z t) j
    → Whole (world_of Z t) j

-- an accepted split is exact, and changes no other existing island; on any tables, so after any history
abbrev pub ExactSplit : Type 0
ExactSplit =
    (Z : Sizes) (i : ℕ) (t : List ℕ) (r : Answer) (t' : List ℕ) → Called Z (perform Z (Split i)) t r t' → r ≡ Done → Exact i (world_of Z t) (world_of Z t')

-- the same of an accepted run, which splits the pending island
abbrev pub ExactRun : Type 0
ExactRun =
    (Z : Sizes) (t : List ℕ) (r : Answer) (t' : List ℕ) → Called Z (perform Z Run) t r t' → r ≡ Done
    → (i : ℕ) × ((world_of Z t).split_island ≡ some i) × Exact i (world_of Z t) (world_of Z t')

-- splitting every island once leaves exactly the components: the members are those before, and two of them are together exactly if a path of RecordedAfter
-- links between members joins them, after a history in which no body became a member while a RecordedAfter link named it
abbrev pub Components : Type 0
Components =
    (Z : Sizes) (t t' : List ℕ) (H : History Z t) → Clean H → (ns : List ℕ) → ((i : ℕ) → live (world_of Z t) i ≡ true → In i ns) → Splits Z ns t t'
    → SameMembers (world_of Z t) (world_of Z t')
    × ((a b : Handle) → body_island (world_of Z t) a ≢ top → body_island (world_of Z t) b ≢ top
    → (body_island (world_of Z t') a ≡ body_island (world_of Z t') b) ↔ Path (Linked H) a b)

-- a link that is RecordedAfter, by the calls and what each drops of the state before it, is one that stands in some island's list
abbrev pub Kept : Type 0
Kept = (Z : Sizes) (t : List ℕ) (H : History Z t) (l : Bond) → Recorded H l ↔ ((j : ℕ) × Stands (world_of Z t) j l)
