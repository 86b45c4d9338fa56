use native.Mathlib.Omega.{arith}
use mathlib.Core.Path.{◌∙◌}
use Rattle.core_laws.proofs.Put.{bit-from}
use Rattle.core_scan.proofs.Observe.{waiting-lt, first-fitting, first-noted}
use Rattle.core_scan.proofs.observe_first.Goals as goal

pub observe-more-requires : goal.observe-more-requires
observe-more-requires c = let a = waiting-lt c.args.i c.requires in let b = c.scan_of.ensures.waiting in omega arith

pub keep_scan-requires : goal.keep_scan-requires
keep_scan-requires c =
    let Q = rw (c.from.ensures ∙ bit-from c.args.eligible) at c.set.ensures in
    first-fitting c.args.i c.requires c.args.eligible c.push.ensures Q c.scan_of.result c.observe-more.result c.scan_of.ensures c.observe-more.ensures.1 c.observe-more.ensures.2

pub returns : goal.returns
returns c =
    let Q = rw (c.from.ensures ∙ bit-from c.args.eligible) at c.set.ensures in
    first-noted c.args.i c.requires c.args.eligible c.push.ensures Q c.scan_of.result c.observe-more.result c.scan_of.ensures c.observe-more.ensures.0 c.observe-more.ensures.1 c.keep_scan.ensures
