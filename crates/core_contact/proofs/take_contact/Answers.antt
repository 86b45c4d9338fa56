use Rattle.core_laws.proofs.OneContact.{contact-gone}
use Rattle.core_contact.proofs.take_contact.Goals as goal

pub returns : goal.returns
returns c = contact-gone c.args.e c.requires.0 c.requires.1 c.requires.2 c.remove.ensures c.set_all.ensures
