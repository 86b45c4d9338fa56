-- `theorem_calls::renumber` meets its contract, by the law of its call.
use Rattle.theorem_calls.proofs.Rows.{renumber-next, told-next}
use Rattle.theorem_calls.proofs.renumber.Goals as goal

pub returns : goal.returns
returns c =
    let x = c.ashwoodrung_renumber in
    let a = c.args in
    told-next (λ r. renumber-next a.removed a.last) x.ensures
