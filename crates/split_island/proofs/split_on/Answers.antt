use mathlib.Core.Path.{sym, ◌∙◌}
use Rattle.split_island.proofs.Check.{split-none, split_done}
use Rattle.split_island.proofs.split_on.Goals as goal

pub returns-then-not-is_live : goal.returns-then-not-is_live
returns-then-not-is_live c = split-none c.args.i c.requires.0 (sym c.is_live.ensures.says ∙ c.if-not-is_live.true)

pub returns : goal.returns
returns c = split_done c.args.i c.requires.0 (c.is_live.ensures.lives c.if-not-is_live.false) c.split_live.ensures
