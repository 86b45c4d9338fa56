-- `core_scan::clear_scan` meets its contract. The loop keeps: the islands that are in the list yet make all with the turns, and forgetting those forgets all of the tables at the start.
use native.Mathlib.Omega.{arith}
use Rattle.core_scan.proofs.Forget.{forgotten-none, forgotten-more}
use Rattle.core_scan.proofs.clear_scan.Goals as goal

pub loop-preserved : goal.loop-preserved
loop-preserved c =
    let D = c.forget_last.ensures in
    (D.steps.does.sound, (let f = D.fewer in omega (arith, c.loop.invariant.1, c.loop-test.true)), λ u h. c.loop.invariant.2 u (forgotten-more D h))

pub returns : goal.returns
returns c = c.loop.invariant.2 _ (forgotten-none c.loop.invariant.0 (omega (arith, c.loop.invariant.1, c.loop-test.false)))
