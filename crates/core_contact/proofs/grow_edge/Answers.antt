use Rattle.core_laws.proofs.GrowEdge.{edge-grown}
use Rattle.core_contact.proofs.grow_edge.Goals as goal

pub returns : goal.returns
returns c = edge-grown c.args.e c.requires.0 c.requires.1 c.requires.2 c.requires.3 c.set_all.ensures c.set_all-2.ensures c.set.ensures
