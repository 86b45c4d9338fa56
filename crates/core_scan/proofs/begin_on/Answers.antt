use Rattle.core_scan.proofs.Keep.{begun}
use Rattle.core_scan.proofs.begin_on.Goals as goal

pub returns : goal.returns
returns c = begun c.scan_of.result c.begin-opened.result c.clear_scan.ensures c.scan_of.ensures c.begin-opened.ensures.0 c.begin-opened.ensures.1 c.keep_scan.ensures
