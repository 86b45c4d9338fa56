-- `theorem_calls::observe` meets its contract, by the law of its call.
use Rattle.ashwoodrung.specs.Told.{is_set}
use Rattle.theorem_calls.proofs.Rows.{observe-next, told-next}
use Rattle.theorem_calls.proofs.observe.Goals as goal

pub returns : goal.returns
returns c =
    let x = c.ashwoodrung_observe in
    let a = c.args in
    told-next (λ r. observe-next a.island (is_set a.eligible)) x.ensures
