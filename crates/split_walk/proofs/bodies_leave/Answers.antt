-- `split_walk::bodies_leave` meets its contract. The loop has passed the bodies from place p up, and the first p are as they were; s is the last of those (`BodiesGo`).
use native.Mathlib.Omega.{arith}
use mathlib.Core.Path.{◌∙◌}
use Prim.Native.Nat.{◌*◌}
use Rattle.table_meaning.specs.Layout.{tables}
use Rattle.split_move.proofs.Node.{prev-word}
use Rattle.split_walk.proofs.Bodies.{bodies-start, body-ready, bodies-step, bodies-pass, bodies-end}
use Rattle.split_walk.proofs.bodies_leave.Goals as goal

pub loop-place-init : goal.loop-place-init
loop-place-init c = bodies-start c.args.base c.args.keep c.args.goals.now c.requires c.count-count.result c.last-s.result c.count-count.ensures.0 c.last-s.ensures.0

pub move_body-requires : goal.move_body-requires
move_body-requires c = body-ready c.args.base c.args.keep c.args.goals.now c.requires c.loop-place.invariant c.loop-place-test.true c.if-to-base.true

pub loop-place-preserved-then-to-base : goal.loop-place-preserved-then-to-base
loop-place-preserved-then-to-base c = bodies-step c.args.base c.args.keep c.args.goals.now c.requires c.loop-place.invariant c.loop-place-test.true c.get-next.result (c.get-next.ensures.0 ∙ prev-word (tables c.args.z c.loop-place.t).members (4 * c.args.z.slots) c.loop-place.s) c.if-to-base.true c.move_body.ensures

pub loop-place-preserved : goal.loop-place-preserved
loop-place-preserved c = bodies-pass c.args.base c.args.keep c.args.goals.now c.requires c.loop-place.invariant c.loop-place-test.true c.get-next.result (c.get-next.ensures.0 ∙ prev-word (tables c.args.z c.loop-place.t).members (4 * c.args.z.slots) c.loop-place.s) c.if-to-base.false

pub returns : goal.returns
returns c = bodies-end c.args.base c.args.keep c.args.goals.now c.requires c.loop-place.invariant (omega (arith, c.loop-place-test.false))
