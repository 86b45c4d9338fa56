use Rattle.split_walk.proofs.Joints.{JointsGo}
use Rattle.split_walk.proofs.joints_leave.Given as goal

abbrev pub invariant-loop-place : goal.invariant-loop-place
invariant-loop-place l = JointsGo l.z l.base l.goals l.initial.t l.t l._place l.q
