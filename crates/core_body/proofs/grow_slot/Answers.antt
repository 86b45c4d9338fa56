use Rattle.core_laws.proofs.GrowSlot.{grow-one}
use Rattle.core_body.proofs.grow_slot.Goals as goal

pub returns : goal.returns
returns c = grow-one c.args.n c.requires.0 c.requires.1 c.requires.2 c.requires.3 c.set_all.ensures c.set_all-2.ensures c.set.ensures
