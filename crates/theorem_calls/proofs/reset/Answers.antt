-- `theorem_calls::reset` meets its contract, by the law of its call.
use Rattle.theorem_calls.proofs.Rows.{told-reset-next}
use Rattle.theorem_calls.proofs.reset.Goals as goal

pub returns : goal.returns
returns c =
    let x = c.ashwoodrung_reset in
    told-reset-next x.ensures
