-- `core_remove::drop_joints` meets its contract. The loop keeps: what it has dropped and the links that are there yet are `links`, and dropping those clears the list of the tables at the start.
use native.Mathlib.Omega.{arith}
use Rattle.core_laws.proofs.DropJoint.{joints-cleared-none, joints-cleared-more}
use Rattle.core_remove.proofs.drop_joints.Goals as goal

pub loop-preserved : goal.loop-preserved
loop-preserved c =
    let D = c.drop_joint.ensures in (
      D.steps.does.sound,
      (let l = D.steps.larger.islands in omega (arith, c.loop.invariant.1)),
      (let f = D.fewer in omega (arith, c.loop.invariant.2, c.loop-test.true)),
      λ u h. c.loop.invariant.3 u (joints-cleared-more c.args.i c.loop.invariant.0 c.loop.invariant.1 D h),
    )

pub returns : goal.returns
returns c = c.loop.invariant.3 _ (joints-cleared-none c.args.i c.loop.invariant.0 c.loop.invariant.1 (omega (arith, c.loop.invariant.2, c.loop-test.false)))
