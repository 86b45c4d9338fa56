use mathlib.Core.Path.{◌∙◌}
use Rattle.split_move.proofs.Joint.{joint-goes-then, joint-went}
use Rattle.split_move.proofs.move_joint.Goals as goal

pub push-requires : goal.push-requires
push-requires c = (c.remove.ensures.same_length ∙ c.requires.loose.long, joint-goes-then c.args.to c.args.p c.requires c.remove.ensures)

pub returns : goal.returns
returns c = joint-went c.args.to c.args.p c.requires c.remove.ensures c.push.ensures
