-- `split_walk::joints_leave` meets its contract. The loop has passed the links from place p up, and the first p are as they were; q is the last of those (`JointsGo`).
use native.Mathlib.Omega.{arith}
use mathlib.Core.Path.{◌∙◌}
use Prim.Native.Nat.{◌*◌}
use Rattle.table_meaning.specs.Layout.{tables}
use Rattle.split_move.proofs.Node.{prev-word}
use Rattle.split_walk.proofs.Joints.{joints-start, joints-step, joints-end, joint-at}
use Rattle.split_walk.proofs.Back.{goals-stay}
use Rattle.split_walk.proofs.joints_leave.Goals as goal

pub loop-place-init : goal.loop-place-init
loop-place-init c = joints-start c.args.base c.args.goals.now c.requires c.count-count.result c.last-q.result c.count-count.ensures.0 c.last-q.ensures.0

pub leave_joint-requires : goal.leave_joint-requires
leave_joint-requires c = (goals-stay c.args.base c.args.goals.now c.loop-place.invariant.stays c.loop-place.invariant.went.sound c.requires, joint-at c.args.base c.args.goals.now c.requires c.loop-place.invariant c.loop-place-test.true)

pub loop-place-preserved : goal.loop-place-preserved
loop-place-preserved c = joints-step c.args.base c.args.goals.now c.requires c.loop-place.invariant c.loop-place-test.true c.get-next.result (c.get-next.ensures.0 ∙ prev-word (tables c.args.z c.loop-place.t).joints (4 * c.args.z.joints) c.loop-place.q) c.leave_joint.ensures

pub returns : goal.returns
returns c = joints-end c.args.base c.args.goals.now c.requires c.loop-place.invariant (omega (arith, c.loop-place-test.false))
