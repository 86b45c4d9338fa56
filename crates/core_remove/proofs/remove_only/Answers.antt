use Rattle.core_laws.proofs.Leave.{home_lt}
use Rattle.core_remove.proofs.Laws.{linkless, emptied}
use Rattle.core_remove.proofs.remove_only.Goals as goal

pub leave_last-requires : goal.leave_last-requires
leave_last-requires c = linkless c.drop_contacts.ensures c.drop_joints.ensures c.args.s c.requires.1 c.requires.2

pub returns : goal.returns
returns c = emptied c.drop_contacts.ensures c.drop_joints.ensures c.args.s (home_lt c.args.s c.args.i c.requires.0 c.requires.1.slot_lt c.requires.1.home_is c.requires.1.some) c.leave_last.ensures c.clear_pending_split_of.ensures
