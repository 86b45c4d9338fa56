use Rattle.split_pending.proofs.Pending.{scheduled}
use Rattle.split_pending.proofs.schedule_on.Goals as goal

pub returns : goal.returns
returns c = scheduled c.args.i c.requires c.set_all.ensures
