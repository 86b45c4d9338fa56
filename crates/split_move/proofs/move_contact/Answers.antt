use mathlib.Core.Path.{◌∙◌}
use Rattle.split_move.proofs.Contact.{contact-goes-then, contact-went}
use Rattle.split_move.proofs.move_contact.Goals as goal

pub push-requires : goal.push-requires
push-requires c = (c.remove.ensures.same_length ∙ c.requires.loose.long, contact-goes-then c.args.to c.args.e c.requires c.remove.ensures)

pub returns : goal.returns
returns c = contact-went c.args.to c.args.e c.requires c.remove.ensures c.push.ensures
