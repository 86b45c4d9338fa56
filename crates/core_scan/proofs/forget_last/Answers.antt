use Rattle.core_scan.proofs.Forget.{scan-last, forgot}
use Rattle.core_scan.proofs.forget_last.Goals as goal

pub remove-requires : goal.remove-requires
remove-requires c = (c.requires.0.long, (scan-last c.last-last.result c.requires.0 c.requires.1 c.last-last.ensures.0).ready)

pub returns : goal.returns
returns c = forgot c.last-last.result c.requires.0 c.requires.1 c.last-last.ensures.0 c.remove.ensures c.set.ensures
