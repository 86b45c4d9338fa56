use Rattle.core_laws.proofs.OneContact.{contact-linked}
use Rattle.core_contact.proofs.push_contact.Goals as goal

pub returns : goal.returns
returns c = contact-linked c.args.i c.args.e c.args.first.slot.0 c.args.first.generation c.args.second.slot.0 c.args.second.generation c.requires.0 c.requires.3.in_use c.requires.3.some c.requires.1 c.requires.2 c.push.ensures c.set_all.ensures
