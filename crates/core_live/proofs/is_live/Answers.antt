use native.Mathlib.Omega.{arith}
use borrow.Author.Tests.{le-ltb}
use Rattle.core_live.proofs.Live.{live-far, live-count}
use Rattle.core_live.proofs.is_live.Goals as goal

pub returns-then-i-get : goal.returns-then-i-get
returns-then-i-get c = live-count c.args.i c.requires c.count.result (omega (arith, c.get.ensures.0, c.if-i-get.true)) c.count.ensures.0

pub returns-else-i-get : goal.returns-else-i-get
returns-else-i-get c = rw (le-ltb c.args.i c.get.result c.if-i-get.false) (live-far c.args.i c.requires (omega (arith, c.get.ensures.0, c.if-i-get.false)))
