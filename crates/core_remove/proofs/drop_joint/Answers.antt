use mathlib.Core.Path.{◌∙◌}
use Rattle.core_laws.proofs.DropJoint.{place_ready, joint-dropped}
use Rattle.core_remove.proofs.drop_joint.Goals as goal

pub push-requires : goal.push-requires
push-requires c = (c.set_all-2.ensures.same_length ∙ c.set_all.ensures.same_length ∙ c.remove.ensures.same_length ∙ c.requires.0.long, place_ready c.args.i c.last-p.result c.requires.0 c.requires.1 c.requires.2 c.last-p.ensures.0 c.remove.ensures c.set_all.ensures c.set_all-2.ensures)

pub returns : goal.returns
returns c = joint-dropped c.args.i c.last-p.result c.requires.0 c.requires.1 c.requires.2 c.last-p.ensures.0 c.remove.ensures c.set_all.ensures c.set_all-2.ensures c.push.ensures
