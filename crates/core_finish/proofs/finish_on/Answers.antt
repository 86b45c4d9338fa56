use native.Mathlib.Omega.{arith}
use Rattle.std.proofs.lemmas.Bool.{not-true, not-false}
use Rattle.core_finish.proofs.Finish.{finish-shut, finish-short, finish-done}
use Rattle.core_finish.proofs.finish_on.Goals as goal

pub returns-then-not-scan : goal.returns-then-not-scan
returns-then-not-scan c = finish-shut c.args.out.now c.scan_of-scan.result c.requires c.scan_of-scan.ensures (not-true _ c.if-not-scan.true)

pub returns-then-n-out : goal.returns-then-n-out
returns-then-n-out c = finish-short c.args.out.now c.scan_of-scan.result c.requires c.scan_of-scan.ensures (not-false _ c.if-not-scan.false) c.count_restful-n.result c.count_restful-n.ensures (omega (arith, c.if-n-out.true))

pub returns : goal.returns
returns c = finish-done c.args.out.now c.scan_of-scan.result c.requires c.scan_of-scan.ensures (not-false _ c.if-not-scan.false) c.count_restful-n.result c.count_restful-n.ensures c.close.result (omega (arith, c.if-n-out.false)) c.write_restful.ensures c.clear_scan.ensures c.close.ensures.0 c.close.ensures.1 c.keep_scan.ensures
