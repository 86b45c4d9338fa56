use mathlib.Core.Path.{refl, sym}
use Rattle.list_in_table.specs.Rules.{none}
use Rattle.split_walk.proofs.Contacts.{contact-stays, contact-drops, contact-ready, contact-leaves}
use Rattle.split_walk.proofs.leave_contact.Goals as goal

pub move_contact-requires : goal.move_contact-requires
move_contact-requires c = contact-ready c.args.base c.args.goals.now c.args.e c.requires.0 c.requires.1 c.handle_at-first.result c.handle_at-second.result _ c.handle_at-first.ensures c.handle_at-second.ensures c.in-Some.ensures.0 c.if-to-base.true c.in-Some.ensures.1

pub returns-in-None : goal.returns-in-None
returns-in-None c = contact-drops c.args.base c.args.goals.now c.args.e c.requires.0 c.requires.1 c.handle_at-first.result c.handle_at-second.result none c.handle_at-first.ensures c.handle_at-second.ensures (sym c.in-None.ensures) refl c.take_contact.ensures

pub returns-in-Some : goal.returns-in-Some
returns-in-Some c = contact-leaves c.args.base c.args.goals.now c.args.e c.requires.0 c.requires.1 c.handle_at-first.result c.handle_at-second.result _ c.handle_at-first.ensures c.handle_at-second.ensures c.in-Some.ensures.0 c.if-to-base.true c.in-Some.ensures.1 c.move_contact.ensures

pub returns-else-to-base : goal.returns-else-to-base
returns-else-to-base c = contact-stays c.args.base c.args.goals.now c.args.e c.requires.0 c.requires.1 c.handle_at-first.result c.handle_at-second.result _ c.handle_at-first.ensures c.handle_at-second.ensures c.in-Some.ensures.0 c.if-to-base.false
