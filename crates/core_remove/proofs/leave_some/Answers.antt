use mathlib.Core.Path.{◌∙◌}
use Rattle.core_laws.proofs.Leave.{one-more}
use Rattle.core_remove.proofs.Laws.{others-stay}
use Rattle.core_remove.proofs.leave_some.Goals as goal

pub returns : goal.returns
returns c =
    let Q = rw (c.saturating_add.ensures ∙ one-more c.get-removals.result c.get-removals.ensures.1, c.get-removals.ensures.0) at c.set.ensures in
    others-stay c.args.s c.args.i c.requires.0 c.requires.1.slot_lt c.requires.1.home_is c.requires.1.some c.requires.2 c.remove.ensures Q
