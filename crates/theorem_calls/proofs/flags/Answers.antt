-- `theorem_calls::flags` meets its contract, by the law of its call.
use Rattle.core_laws.specs.Steps.{handle}
use Rattle.ashwoodrung.specs.Told.{is_set}
use Rattle.theorem_calls.proofs.Rows.{flags-next, told-next}
use Rattle.theorem_calls.proofs.flags.Goals as goal

pub returns : goal.returns
returns c =
    let x = c.ashwoodrung_flags in
    let a = c.args in
    told-next (λ r. flags-next (handle a.slot a.generation) (is_set a.fixed) (is_set a.enabled) (is_set a.sleeping)) x.ensures
