-- `theorem_calls::resolve` meets its contract, by the law of its call.
use Rattle.theorem_calls.proofs.Rows.{resolve-next, told-next}
use Rattle.theorem_calls.proofs.resolve.Goals as goal

pub returns : goal.returns
returns c =
    let x = c.ashwoodrung_resolve in
    told-next (λ r. resolve-next) x.ensures
