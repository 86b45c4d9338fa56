-- `core_chain::unlink_chain` meets its contract. The invariant: the ordinals that are left, unlinked from the present state, give the state after all. Assumes nothing.
use native.Mathlib.Omega.{arith}
use Prim.Native.Nat.{◌/◌, ◌%◌}
use Rattle.core_chain.proofs.Laws.{unlink-turn, unlink-end}
use Rattle.core_chain.proofs.unlink_chain.Goals as goal

pub loop-ordinal-preserved : goal.loop-ordinal-preserved
loop-ordinal-preserved c = unlink-turn c.args.z c.args.t.now (c.args.multibody / 4294967296) (c.args.multibody % 4294967296) c.args.n c.loop-ordinal.ordinal c.loop-ordinal.invariant (omega arith) c.unlink_joint_on.ensures

pub returns : goal.returns
returns c = unlink-end c.args.z c.args.t.now (c.args.multibody / 4294967296) (c.args.multibody % 4294967296) c.args.n c.loop-ordinal.ordinal c.loop-ordinal.invariant (omega arith)
