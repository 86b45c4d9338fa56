use native.Mathlib.Omega.{arith}
use mathlib.Core.Path.{sym, ◌∙◌}
use Rattle.table_meaning.specs.Layout.{tables}
use Rattle.core_laws.proofs.Unlink.{handles-equal, link-handles, unlinked-far, unlinked-none, unlinked-same, unlinked-full, unlinked-other}
use Rattle.core_laws.proofs.Loose.{sound-loose}
use Rattle.core_contact.proofs.unlink_contact_on.Goals as goal
use Rattle.core_contact.proofs.unlink_contact_on.Goals.{then-e-get-via-then-e-get, then-e-get-via-else-e-get+then-home}

pub returns-then-e-get : goal.returns-then-e-get
returns-then-e-get c =
    elim c.then-e-get.branch [
      | then-e-get-via-then-e-get w ↦ unlinked-far c.args.e c.requires (omega (arith, c.get.ensures.0, w.if-e-get.true))
      | then-e-get-via-else-e-get+then-home w ↦ unlinked-none c.args.e c.requires (sym w.home.ensures.0 ∙ w.if-home.true)
    ]

pub take_contact-requires : goal.take_contact-requires
take_contact-requires c = (sound-loose c.requires, omega (arith, c.get.ensures.0, c.if-e-get.false), λ x. c.if-home.false (c.home.ensures.0 ∙ x))

pub returns-then-eq : goal.returns-then-eq
returns-then-eq c =
    let a = c.handle_at-first.result in
    let b = c.handle_at-second.result in
    unlinked-same c.args.e c.requires (omega (arith, c.get.ensures.0, c.if-e-get.false)) (λ x. c.if-home.false (c.home.ensures.0 ∙ x)) a.slot.0 a.generation b.slot.0 b.generation
    (link-handles (tables c.args.z c.args.t.now).touches c.args.e a.slot.0 a.generation b.slot.0 b.generation c.handle_at-first.ensures c.handle_at-second.ensures)
    (handles-equal a.slot.0 a.generation b.slot.0 b.generation c.if-eq.ensures) (c.take_contact.ensures.steps c.requires)

pub returns-then-entries-z : goal.returns-then-entries-z
returns-then-entries-z c =
    let a = c.handle_at-first.result in
    let b = c.handle_at-second.result in
    unlinked-full c.args.e c.requires (omega (arith, c.get.ensures.0, c.if-e-get.false)) (λ x. c.if-home.false (c.home.ensures.0 ∙ x)) a.slot.0 a.generation b.slot.0 b.generation
    (link-handles (tables c.args.z c.args.t.now).touches c.args.e a.slot.0 a.generation b.slot.0 b.generation c.handle_at-first.ensures c.handle_at-second.ensures)
    (handles-equal a.slot.0 a.generation b.slot.0 b.generation c.if-eq.ensures) (omega (arith, c.get-entries.ensures.0, c.if-entries-z.true))

pub take_contact-requires-2 : goal.take_contact-requires-2
take_contact-requires-2 c = (sound-loose c.requires, omega (arith, c.get.ensures.0, c.if-e-get.false), λ x. c.if-home.false (c.home.ensures.0 ∙ x))

pub returns : goal.returns
returns c =
    let a = c.handle_at-first.result in
    let b = c.handle_at-second.result in
    unlinked-other c.args.e c.requires (omega (arith, c.get.ensures.0, c.if-e-get.false)) (λ x. c.if-home.false (c.home.ensures.0 ∙ x)) a.slot.0 a.generation b.slot.0 b.generation
    (link-handles (tables c.args.z c.args.t.now).touches c.args.e a.slot.0 a.generation b.slot.0 b.generation c.handle_at-first.ensures c.handle_at-second.ensures)
    (handles-equal a.slot.0 a.generation b.slot.0 b.generation c.if-eq.ensures) (omega (arith, c.get-entries.ensures.0, c.if-entries-z.false)) (c.take_contact-2.ensures.steps c.requires) c.push_entry.ensures
