-- `theorem_calls::wake` meets its contract, by the law of its call.
use Rattle.theorem_calls.proofs.Rows.{wake-next, told-next}
use Rattle.theorem_calls.proofs.wake.Goals as goal

pub returns : goal.returns
returns c =
    let x = c.ashwoodrung_wake in
    let a = c.args in
    told-next (λ r. wake-next a.island) x.ensures
