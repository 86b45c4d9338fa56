-- `split_island::assign_goals` meets its contract. The loop has given the first p places their goals, and has taken a number for each component that begins there and leaves (`Assigning`).
use native.Mathlib.Omega.{arith}
use mathlib.Core.Path.{subst}
use Rattle.split_island.specs.Assign.{Assigning}
use Rattle.split_island.proofs.Assign.{assign-start, assign-again, assign-kept, assign-room, assign-new}
use Rattle.split_island.proofs.assign_goals.Goals as goal
use Rattle.split_island.proofs.assign_goals.Goals.{then-label-p, else-label-p+then-p-keep, else-label-p+else-p-keep}

pub loop-p-init : goal.loop-p-init
loop-p-init c = assign-start c.requires

pub take_number-requires : goal.take_number-requires
take_number-requires c = (c.loop-p.invariant.went.sound, c.requires.asleep_le, assign-room c.requires c.loop-p.invariant c.loop-p-test.true c.if-p-keep.false c.if-label-p.false)

pub loop-p-preserved : goal.loop-p-preserved
loop-p-preserved c =
    elim c.if-label-p.branch [
      | then-label-p w ↦ rw (w.t-is, w.goals-is) (assign-again c.requires c.loop-p.invariant c.loop-p-test.true w.if-label-p.true)
      | else-label-p+then-p-keep w ↦ rw (w.t-is, w.goals-is) (assign-kept c.requires c.loop-p.invariant c.loop-p-test.true w.if-p-keep.true w.if-label-p.false)
      | else-label-p+else-p-keep w ↦
          rw (w.t-is, w.goals-is)
          (assign-new c.requires c.loop-p.invariant c.loop-p-test.true w.if-p-keep.false w.if-label-p.false w.take_number.result w.take_number.ensures)
    ]

pub returns : goal.returns
returns c = subst (Assigning c.args.z c.args.base c.args.keep c.args.asleep c.args.labels.now c.args.t.now c.loop-p.t c.loop-p.goals) (let a = c.loop-p.invariant.p_le in let b = c.loop-p-test.false in omega arith) c.loop-p.invariant
