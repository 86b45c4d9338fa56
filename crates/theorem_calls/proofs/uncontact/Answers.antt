-- `theorem_calls::uncontact` meets its contract, by the law of its call.
use Rattle.theorem_calls.proofs.Rows.{uncontact-next, told-next}
use Rattle.theorem_calls.proofs.uncontact.Goals as goal

pub returns : goal.returns
returns c =
    let x = c.ashwoodrung_uncontact in
    let a = c.args in
    told-next (λ r. uncontact-next a.edge) x.ensures
