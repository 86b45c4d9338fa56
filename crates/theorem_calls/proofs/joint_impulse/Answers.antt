-- `theorem_calls::joint_impulse` meets its contract, by the law of its call.
use Rattle.core_laws.specs.Steps.{handle}
use Rattle.def_state.specs.World.{impulse}
use Rattle.theorem_calls.proofs.Rows.{joint-next, told-next}
use Rattle.theorem_calls.proofs.joint_impulse.Goals as goal

pub returns : goal.returns
returns c =
    let x = c.ashwoodrung_joint_impulse in
    let a = c.args in
    told-next (λ r. joint-next (impulse a.index a.generation) (handle a.slot1 a.generation1) (handle a.slot2 a.generation2)) x.ensures
