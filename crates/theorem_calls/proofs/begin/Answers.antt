-- `theorem_calls::begin` meets its contract, by the law of its call.
use Rattle.theorem_calls.proofs.Rows.{begin-next, told-next}
use Rattle.theorem_calls.proofs.begin.Goals as goal

pub returns : goal.returns
returns c =
    let x = c.ashwoodrung_begin in
    told-next (λ r. begin-next) x.ensures
