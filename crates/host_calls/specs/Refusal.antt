-- The questions: may an island bid; what a question gets of unsound tables: answer 9, and no value.
use Rattle.std.specs.Prelude.{Bool, Option, Result, Ok, Err, ℕ}
use Rattle.def_kinds.specs.declared.Island.{Island}
use Rattle.def_kinds.specs.declared.Refusal.{Refusal}
use Rattle.def_kinds.specs.declared.Refusal.TheVariants.{BadTables}
use Rattle.def_state.specs.World.{World}
use Rattle.def_state.specs.Split.{split_allowed}

abbrev pub refused_island : Result (Option Island) Refusal
refused_island = Err BadTables

-- never refused: yes or no
unfoldable pub may_bid : ℕ → World → Result Bool Refusal
may_bid i w = Ok (split_allowed i w)

abbrev pub refused_bid : Result Bool Refusal
refused_bid = Err BadTables
