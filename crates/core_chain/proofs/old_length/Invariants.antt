use mathlib.Core.Path.{◌≡◌}
use Prim.Native.Nat.{◌+◌, ◌-◌, ◌/◌, ◌%◌, ◌≤◌}
use Rattle.table_meaning.specs.Decode.{world_of}
use Rattle.def_state.specs.Chain.{old_length, chain_length}
use Rattle.core_chain.proofs.old_length.Given as goal

abbrev pub invariant-loop-ordinal : goal.invariant-loop-ordinal
invariant-loop-ordinal l = (l.ordinal ≤ l.z.joints) × (old_length l.z (world_of l.z l.t) (l.multibody / 4294967296) (l.multibody % 4294967296) ≡ l.ordinal + chain_length (world_of l.z l.t) (l.multibody / 4294967296) (l.multibody % 4294967296) l.ordinal (l.z.joints - l.ordinal))

abbrev pub decreases-loop-ordinal : goal.decreases-loop-ordinal
decreases-loop-ordinal l = l.z.joints - l.ordinal
