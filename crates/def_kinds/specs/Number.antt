-- Document 01's number of each answer, and the rig's sizes.
use Rattle.std.specs.Prelude.{ℕ, Ok, Err}
use Rattle.def_kinds.specs.declared.Outcome.TheVariants.{Done, Nothing}
use Rattle.def_kinds.specs.declared.Refusal.TheVariants.{OverSize, StillLinked, JointsFull, JournalFull, NoIsland, NoScan, TooShort, BadTables, SlotTaken, BadGeneration}
use Rattle.def_kinds.specs.declared.Sizes.{Sizes}
use Rattle.def_kinds.specs.Answers.{Answer}

abbrev pub number : Answer → ℕ
number (Ok Done) = 0
number (Ok Nothing) = 1
number (Err OverSize) = 2
number (Err StillLinked) = 3
number (Err JointsFull) = 4
number (Err JournalFull) = 5
number (Err NoIsland) = 6
number (Err NoScan) = 7
number (Err TooShort) = 8
number (Err BadTables) = 9
number (Err SlotTaken) = 10
number (Err BadGeneration) = 11

abbrev pub rig : Sizes
rig = record { slots = 4096; islands = 4096; edges = 16384; joints = 4096; journal = 8192 }
