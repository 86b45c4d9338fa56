-- `theorem_calls::run` meets its contract, by the law of its call.
use Rattle.theorem_calls.proofs.Rows.{run-next, told-next}
use Rattle.theorem_calls.proofs.run.Goals as goal

pub returns : goal.returns
returns c =
    let x = c.ashwoodrung_run in
    told-next (λ r. run-next) x.ensures
