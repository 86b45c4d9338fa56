-- `theorem_calls::retire` meets its contract, by the law of its call.
use Rattle.core_laws.specs.Steps.{handle}
use Rattle.theorem_calls.proofs.Rows.{retire-next, told-next}
use Rattle.theorem_calls.proofs.retire.Goals as goal

pub returns : goal.returns
returns c =
    let x = c.ashwoodrung_retire in
    let a = c.args in
    told-next (λ r. retire-next (handle a.slot a.generation)) x.ensures
