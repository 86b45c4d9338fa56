-- `theorem_calls::sleep` meets its contract, by the law of its call.
use Rattle.theorem_calls.proofs.Rows.{sleep-next, told-next}
use Rattle.theorem_calls.proofs.sleep.Goals as goal

pub returns : goal.returns
returns c =
    let x = c.ashwoodrung_sleep in
    let a = c.args in
    told-next (λ r. sleep-next a.island) x.ensures
