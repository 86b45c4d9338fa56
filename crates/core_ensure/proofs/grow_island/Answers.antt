use mathlib.Core.Path.{◌∙◌}
use Rattle.core_laws.proofs.GrowIsland.{island-ready, island-grown}
use Rattle.core_ensure.proofs.grow_island.Goals as goal

pub push-requires : goal.push-requires
push-requires c = (c.blank_island.ensures.0 ∙ c.requires.0.long, island-ready _ c.args.m c.requires.0 c.requires.1 c.requires.2 c.requires.3 c.blank_island.ensures.1)

pub returns : goal.returns
returns c = island-grown c.args.m c.requires.0 c.requires.1 c.requires.2 c.requires.3 c.blank_island.ensures.0 c.blank_island.ensures.1 c.push.ensures c.set.ensures
