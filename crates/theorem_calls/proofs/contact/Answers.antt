-- `theorem_calls::contact` meets its contract, by the law of its call.
use Rattle.core_laws.specs.Steps.{handle}
use Rattle.theorem_calls.proofs.Rows.{contact-next, told-next}
use Rattle.theorem_calls.proofs.contact.Goals as goal

pub returns : goal.returns
returns c =
    let x = c.ashwoodrung_contact in
    let a = c.args in
    told-next (λ r. contact-next a.edge (handle a.slot1 a.generation1) (handle a.slot2 a.generation2)) x.ensures
