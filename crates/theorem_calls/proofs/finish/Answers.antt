-- `theorem_calls::finish` meets its contract, by the law of its call.
use Rattle.theorem_calls.proofs.Rows.{told-list-next}
use Rattle.theorem_calls.proofs.finish.Goals as goal

pub returns : goal.returns
returns c =
    let x = c.ashwoodrung_finish in
    told-list-next x.ensures
