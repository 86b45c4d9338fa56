use Rattle.split_walk.proofs.Bodies.{BodiesGo}
use Rattle.split_walk.proofs.bodies_leave.Given as goal

abbrev pub invariant-loop-place : goal.invariant-loop-place
invariant-loop-place l = BodiesGo l.z l.base l.keep l.goals l.initial.t l.t l.place l.s
