-- `split_walk::contacts_leave` meets its contract. The loop has passed the links from place p up, and the first p are as they were; e is the last of those (`ContactsGo`).
use native.Mathlib.Omega.{arith}
use mathlib.Core.Path.{◌∙◌}
use Prim.Native.Nat.{◌*◌}
use Rattle.table_meaning.specs.Layout.{tables}
use Rattle.split_move.proofs.Node.{prev-word}
use Rattle.split_walk.proofs.Contacts.{contacts-start, contacts-step, contacts-end, contact-at}
use Rattle.split_walk.proofs.Back.{goals-stay}
use Rattle.split_walk.proofs.contacts_leave.Goals as goal

pub loop-place-init : goal.loop-place-init
loop-place-init c = contacts-start c.args.base c.args.goals.now c.requires c.count-count.result c.last-e.result c.count-count.ensures.0 c.last-e.ensures.0

pub leave_contact-requires : goal.leave_contact-requires
leave_contact-requires c = (goals-stay c.args.base c.args.goals.now c.loop-place.invariant.stays c.loop-place.invariant.went.sound c.requires, contact-at c.args.base c.args.goals.now c.requires c.loop-place.invariant c.loop-place-test.true)

pub loop-place-preserved : goal.loop-place-preserved
loop-place-preserved c = contacts-step c.args.base c.args.goals.now c.requires c.loop-place.invariant c.loop-place-test.true c.get-next.result (c.get-next.ensures.0 ∙ prev-word (tables c.args.z c.loop-place.t).contacts (4 * c.args.z.edges) c.loop-place.e) c.leave_contact.ensures

pub returns : goal.returns
returns c = contacts-end c.args.base c.args.goals.now c.requires c.loop-place.invariant (omega (arith, c.loop-place-test.false))
