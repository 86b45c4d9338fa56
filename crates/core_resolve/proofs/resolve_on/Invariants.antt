use Rattle.core_laws.proofs.Resolve.{Counts}
use Rattle.core_resolve.proofs.resolve_on.Given as goal

abbrev pub invariant-loop-k : goal.invariant-loop-k
invariant-loop-k l = Counts l.z l.initial.t l.t l.k
