-- `core_joint::take_joint` meets its contract. The four stores are those of the law of `TakeJoint`. Assumes nothing.
use mathlib.Core.Path.{◌∙◌}
use Rattle.core_laws.proofs.TakeJoint.{spare-ready, joint-gone}
use Rattle.core_joint.proofs.take_joint.Goals as goal

pub push-requires : goal.push-requires
push-requires c = (c.set_all-2.ensures.same_length ∙ c.set_all.ensures.same_length ∙ c.remove.ensures.same_length ∙ c.requires.0.long, spare-ready c.args.p c.requires.0 c.requires.1 c.requires.2 c.remove.ensures c.set_all.ensures c.set_all-2.ensures)

pub returns : goal.returns
returns c = joint-gone c.args.p c.requires.0 c.requires.1 c.requires.2 c.remove.ensures c.set_all.ensures c.set_all-2.ensures c.push.ensures
