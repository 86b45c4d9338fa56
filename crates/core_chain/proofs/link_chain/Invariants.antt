use Prim.Native.Nat.{◌/◌, ◌%◌}
use lib.ListN.{length}
use Rattle.core_laws.specs.Steps.{handle}
use Rattle.core_chain.specs.Linking.{present}
use Rattle.core_chain.proofs.Laws.{LinkingTo}
use Rattle.core_chain.proofs.link_chain.Given as goal

abbrev pub invariant-loop-k : goal.invariant-loop-k
invariant-loop-k l = LinkingTo l.z l.initial.t (l.multibody / 4294967296) (l.multibody % 4294967296) l.list (length l.list / 2) l.t (present l.linking.last.generation) l.linking.ordinal (handle l.linking.last.slot.0 l.linking.last.generation) l.k
