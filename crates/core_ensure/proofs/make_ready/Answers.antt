use mathlib.Core.Path.{sym, ◌∙◌}
use Rattle.core_laws.proofs.GrowIsland.{ready-now, ready-grown}
use Rattle.core_ensure.proofs.make_ready.Goals as goal

pub returns-then-count-eq0 : goal.returns-then-count-eq0
returns-then-count-eq0 c = ready-grown (sym c.count.ensures.0 ∙ c.if-count-eq0.true) c.requires.0 c.grow_island.ensures

pub returns-else-count-eq0 : goal.returns-else-count-eq0
returns-else-count-eq0 c = ready-now c.requires.0 (λ e. c.if-count-eq0.false (c.count.ensures.0 ∙ e))
