-- The step that marking asleep and waking have in common.
use Rattle.std.specs.Prelude.{Bool, ℕ}
use Rattle.def_state.specs.World.{World, Step, done, island_at}
use Rattle.def_state.specs.Fields.{island_set, sleeping_set}

-- the island i sleeps, or not
unfoldable pub rest_as : ℕ → Bool → World → Step
rest_as i z w = done (island_set w i (sleeping_set (island_at w i) z))
