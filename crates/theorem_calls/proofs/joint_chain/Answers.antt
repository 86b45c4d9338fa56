-- `theorem_calls::joint_chain` meets its contract, by the law of its call.
use Rattle.core_laws.specs.Steps.{handle}
use Rattle.def_state.specs.World.{chain}
use Prim.Native.Nat.{◌/◌, ◌%◌}
use Rattle.theorem_calls.proofs.Rows.{joint-next, told-next}
use Rattle.theorem_calls.proofs.joint_chain.Goals as goal

pub returns : goal.returns
returns c =
    let x = c.ashwoodrung_joint_chain in
    let a = c.args in
    told-next (λ r. joint-next (chain (a.multibody / 4294967296) (a.multibody % 4294967296) a.ordinal) (handle a.slot1 a.generation1) (handle a.slot2 a.generation2)) x.ensures
