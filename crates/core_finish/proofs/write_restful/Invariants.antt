use Prim.Native.Nat.{◌-◌}
use Rattle.core_finish.proofs.Restful.{Written}
use Rattle.core_finish.proofs.write_restful.Given as goal

abbrev pub invariant-loop : goal.invariant-loop
invariant-loop l = Written l.z l.t l.initial.out (l.waiting - l.counter) l.island l.front l.out
