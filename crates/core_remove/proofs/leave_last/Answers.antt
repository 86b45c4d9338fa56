use mathlib.Core.Path.{◌∙◌}
use Rattle.core_laws.proofs.Leave.{free-ready}
use Rattle.core_remove.proofs.Laws.{none_stays}
use Rattle.core_remove.proofs.leave_last.Goals as goal

pub push-requires : goal.push-requires
push-requires c = (c.set_all.ensures.same_length ∙ c.remove.ensures.same_length ∙ c.requires.0.long, free-ready c.args.s c.args.i c.requires.0 c.requires.1.slot_lt c.requires.1.home_is c.requires.1.some c.remove.ensures c.set_all.ensures)

pub returns : goal.returns
returns c = none_stays c.args.s c.args.i c.requires.0 c.requires.1.slot_lt c.requires.1.home_is c.requires.1.some c.requires.2 c.requires.3 c.requires.4 c.remove.ensures c.set_all.ensures c.push.ensures
