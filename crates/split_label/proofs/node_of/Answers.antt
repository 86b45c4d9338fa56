use Rattle.core_laws.specs.Steps.{handle}
use Rattle.split_move.proofs.Node.{node-is}
use Rattle.split_label.proofs.node_of.Goals as goal

pub returns : goal.returns
returns c = rw (node-is c.requires.0 c.args.i c.requires.1 (handle c.args.h.slot.0 c.args.h.generation)) c.node_at.ensures
