-- What a call answers: what it did, or why it was refused.
use Rattle.std.specs.Prelude.{Result, Ok, Err}
use Rattle.def_kinds.specs.declared.Outcome.{Outcome}
use Rattle.def_kinds.specs.declared.Outcome.TheVariants.{Done as done_outcome, Nothing as nothing_outcome}
use Rattle.def_kinds.specs.declared.Refusal.{Refusal}
use Rattle.def_kinds.specs.declared.Refusal.TheVariants.{OverSize as over_size, StillLinked as still_linked, JointsFull as joints_full, JournalFull as journal_full, NoIsland as no_island, NoScan as no_scan, TooShort as too_short, BadTables as bad_tables, SlotTaken as slot_taken, BadGeneration as bad_generation}

abbrev pub Answer : Type 0
Answer = Result Outcome Refusal

-- what a question answers, its value aside
abbrev pub answer_of : {A : Type 0} → Result A Refusal → Answer
answer_of (Ok value) = Ok done_outcome
answer_of (Err refusal) = Err refusal

abbrev pub Done : Answer
Done = Ok done_outcome

abbrev pub Nothing : Answer
Nothing = Ok nothing_outcome

abbrev pub OverSize : Answer
OverSize = Err over_size

abbrev pub StillLinked : Answer
StillLinked = Err still_linked

abbrev pub JointsFull : Answer
JointsFull = Err joints_full

abbrev pub JournalFull : Answer
JournalFull = Err journal_full

abbrev pub NoIsland : Answer
NoIsland = Err no_island

abbrev pub NoScan : Answer
NoScan = Err no_scan

abbrev pub TooShort : Answer
TooShort = Err too_short

abbrev pub BadTables : Answer
BadTables = Err bad_tables

abbrev pub SlotTaken : Answer
SlotTaken = Err slot_taken

abbrev pub BadGeneration : Answer
BadGeneration = Err bad_generation
