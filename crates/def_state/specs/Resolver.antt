-- The plain resolver (added): every entry of the journal in order; both handles members of one island: its count rises by 1.
use Rattle.std.specs.Prelude.{◌&&◌, not, List, [], ◌∷◌, eqb}
use Rattle.def_kinds.specs.Choice.{pick}
use Rattle.def_kinds.specs.Answers.{Nothing}
use Rattle.def_state.specs.Plain.{top, empty, more}
use Rattle.def_state.specs.World.{Removal, World, Step, done, gives, island_at, body_island}
use Rattle.def_state.specs.Fields.{journal_set, island_set, count_set}

-- one entry
unfoldable pub counted : Removal → World → World
counted r w =
    let i = body_island w r.body1 in
    pick (not (eqb i top) && eqb i (body_island w r.body2))
    (island_set w i (count_set (island_at w i) (more (island_at w i).constraint_remove_count)))
    w

unfoldable pub count_all : List Removal → World → World
count_all [] w = w
count_all (r ∷ rs) w = count_all rs (counted r w)

unfoldable pub resolve_removals : World → Step
resolve_removals w = pick (empty w.removal_journal) (gives Nothing w) (done (journal_set (count_all w.removal_journal w) []))
