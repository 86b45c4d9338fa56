use mathlib.Core.Path.{refl, sym}
use Rattle.list_in_table.specs.Rules.{none}
use Rattle.split_walk.proofs.Joints.{joint-stays, joint-drops, joint-ready, joint-leaves}
use Rattle.split_walk.proofs.leave_joint.Goals as goal

pub move_joint-requires : goal.move_joint-requires
move_joint-requires c = joint-ready c.args.base c.args.goals.now c.args.q c.requires.0 c.requires.1 c.handle_at-first.result c.handle_at-second.result _ c.handle_at-first.ensures c.handle_at-second.ensures c.in-Some.ensures.0 c.if-to-base.true c.in-Some.ensures.1

pub returns-in-None : goal.returns-in-None
returns-in-None c = joint-drops c.args.base c.args.goals.now c.args.q c.requires.0 c.requires.1 c.handle_at-first.result c.handle_at-second.result none c.handle_at-first.ensures c.handle_at-second.ensures (sym c.in-None.ensures) refl c.take_joint.ensures

pub returns-in-Some : goal.returns-in-Some
returns-in-Some c = joint-leaves c.args.base c.args.goals.now c.args.q c.requires.0 c.requires.1 c.handle_at-first.result c.handle_at-second.result _ c.handle_at-first.ensures c.handle_at-second.ensures c.in-Some.ensures.0 c.if-to-base.true c.in-Some.ensures.1 c.move_joint.ensures

pub returns-else-to-base : goal.returns-else-to-base
returns-else-to-base c = joint-stays c.args.base c.args.goals.now c.args.q c.requires.0 c.requires.1 c.handle_at-first.result c.handle_at-second.result _ c.handle_at-first.ensures c.handle_at-second.ensures c.in-Some.ensures.0 c.if-to-base.false
