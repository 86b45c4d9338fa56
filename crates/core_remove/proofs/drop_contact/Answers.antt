use Rattle.core_laws.proofs.DropContact.{contact-dropped}
use Rattle.core_remove.proofs.drop_contact.Goals as goal

pub returns : goal.returns
returns c = contact-dropped c.args.i c.last-e.result c.requires.0 c.requires.1 c.requires.2 c.last-e.ensures.0 c.remove.ensures c.set_all.ensures
