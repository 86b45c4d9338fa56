use native.Mathlib.Omega.{arith}
use Rattle.core_laws.proofs.Merge.{merge-same, merge-first, merge-second}
use Rattle.core_merge.proofs.merge_islands.Goals as goal

pub returns-then-a-b : goal.returns-then-a-b
returns-then-a-b c = merge-same c.args.a c.args.b c.requires c.if-a-b.true

pub returns-then-bodies_a-bodies_b : goal.returns-then-bodies_a-bodies_b
returns-then-bodies_a-bodies_b c = merge-first c.args.a c.args.b c.requires c.if-a-b.false (omega (arith, c.count-bodies_a.ensures.0, c.count-bodies_b.ensures.0, c.if-bodies_a-bodies_b.true)) c.absorb.ensures

pub returns-else-bodies_a-bodies_b : goal.returns-else-bodies_a-bodies_b
returns-else-bodies_a-bodies_b c = merge-second c.args.a c.args.b c.requires c.if-a-b.false (omega (arith, c.count-bodies_a.ensures.0, c.count-bodies_b.ensures.0, c.if-bodies_a-bodies_b.false)) c.absorb-else-bodies_a-bodies_b.ensures
