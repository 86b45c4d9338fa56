use mathlib.Core.Path.{◌∙◌}
use Rattle.core_laws.proofs.Put.{bit-from}
use Rattle.core_scan.proofs.Keep.{scan_kept}
use Rattle.core_scan.proofs.keep_scan.Goals as goal

pub returns : goal.returns
returns c =
    let P = rw (c.from-open.ensures ∙ bit-from c.args.scan.open) at c.set_all.ensures in
    scan_kept c.args.scan c.requires P
