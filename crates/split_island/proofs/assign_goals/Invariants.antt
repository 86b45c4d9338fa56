use Rattle.split_island.specs.Assign.{Assigning}
use Rattle.split_island.proofs.assign_goals.Given as goal

abbrev pub invariant-loop-p : goal.invariant-loop-p
invariant-loop-p l = Assigning l.z l.base l.keep l.asleep l.labels l.initial.t l.t l.goals l.p
