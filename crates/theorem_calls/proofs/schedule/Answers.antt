-- `theorem_calls::schedule` meets its contract, by the law of its call.
use Rattle.theorem_calls.proofs.Rows.{schedule-next, told-next}
use Rattle.theorem_calls.proofs.schedule.Goals as goal

pub returns : goal.returns
returns c =
    let x = c.ashwoodrung_schedule in
    let a = c.args in
    told-next (λ r. schedule-next a.island) x.ensures
