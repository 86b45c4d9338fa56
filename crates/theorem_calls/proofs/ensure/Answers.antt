-- `theorem_calls::ensure` meets its contract, by the law of its call.
use Rattle.core_laws.specs.Steps.{handle}
use Rattle.theorem_calls.proofs.Rows.{ensure-next, told-next}
use Rattle.theorem_calls.proofs.ensure.Goals as goal

pub returns : goal.returns
returns c =
    let x = c.ashwoodrung_ensure in
    let a = c.args in
    told-next (λ r. ensure-next (handle a.slot a.generation)) x.ensures
