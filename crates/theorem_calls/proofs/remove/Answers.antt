-- `theorem_calls::remove` meets its contract, by the law of its call.
use Rattle.core_laws.specs.Steps.{handle}
use Rattle.theorem_calls.proofs.Rows.{remove-next, told-next}
use Rattle.theorem_calls.proofs.remove.Goals as goal

pub returns : goal.returns
returns c =
    let x = c.ashwoodrung_remove in
    let a = c.args in
    told-next (λ r. remove-next (handle a.slot a.generation)) x.ensures
