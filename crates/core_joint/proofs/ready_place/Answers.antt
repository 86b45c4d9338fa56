-- `core_joint::ready_place` meets its contract. Nothing where a place is free, and else one more. Assumes nothing.
use mathlib.Core.Path.{sym, ◌∙◌}
use Rattle.core_laws.proofs.GrowPlace.{place-now, place-made}
use Rattle.core_joint.proofs.ready_place.Goals as goal

pub returns-then-count-eq0 : goal.returns-then-count-eq0
returns-then-count-eq0 c = place-made (sym c.count.ensures.0 ∙ c.if-count-eq0.true) c.requires.0 c.grow_place.ensures

pub returns-else-count-eq0 : goal.returns-else-count-eq0
returns-else-count-eq0 c = place-now c.requires.0 (λ e. c.if-count-eq0.false (c.count.ensures.0 ∙ e))
