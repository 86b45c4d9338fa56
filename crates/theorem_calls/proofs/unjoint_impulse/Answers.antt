-- `theorem_calls::unjoint_impulse` meets its contract, by the law of its call.
use Rattle.def_state.specs.World.{impulse}
use Rattle.theorem_calls.proofs.Rows.{unjoint-next, told-next}
use Rattle.theorem_calls.proofs.unjoint_impulse.Goals as goal

pub returns : goal.returns
returns c =
    let x = c.ashwoodrung_unjoint_impulse in
    let a = c.args in
    told-next (λ r. unjoint-next (impulse a.index a.generation)) x.ensures
