use Prim.Native.Nat.{◌/◌, ◌%◌}
use Rattle.core_chain.proofs.Laws.{Unlinking}
use Rattle.core_chain.proofs.unlink_chain.Given as goal

abbrev pub invariant-loop-ordinal : goal.invariant-loop-ordinal
invariant-loop-ordinal l = Unlinking l.z l.initial.t (l.multibody / 4294967296) (l.multibody % 4294967296) l.n l.t l.ordinal
