use mathlib.Core.Path.{◌∙◌}
use Rattle.split_move.proofs.Body.{body-goes-then, body-went}
use Rattle.split_move.proofs.move_body.Goals as goal

pub push-requires : goal.push-requires
push-requires c = (c.remove.ensures.same_length ∙ c.requires.loose.long, body-goes-then c.args.to c.args.s c.requires c.remove.ensures)

pub returns : goal.returns
returns c = body-went c.args.to c.args.s c.requires c.remove.ensures c.push.ensures
