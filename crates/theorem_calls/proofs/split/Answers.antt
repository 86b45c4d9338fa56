-- `theorem_calls::split` meets its contract, by the law of its call.
use Rattle.theorem_calls.proofs.Rows.{split-next, told-next}
use Rattle.theorem_calls.proofs.split.Goals as goal

pub returns : goal.returns
returns c =
    let x = c.ashwoodrung_split in
    let a = c.args in
    told-next (λ r. split-next a.island) x.ensures
