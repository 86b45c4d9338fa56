use Rattle.core_scan.proofs.Observe.{again-yes, again-no}
use Rattle.core_scan.proofs.observe_again.Goals as goal

pub returns-then-not-eligible : goal.returns-then-not-eligible
returns-then-not-eligible c = again-no c.args.i c.requires c.args.eligible c.if-not-eligible.true c.set.ensures

pub returns-else-not-eligible : goal.returns-else-not-eligible
returns-else-not-eligible c = again-yes c.args.i c.requires c.args.eligible c.if-not-eligible.false
