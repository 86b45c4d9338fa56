use Rattle.split_walk.proofs.Contacts.{ContactsGo}
use Rattle.split_walk.proofs.contacts_leave.Given as goal

abbrev pub invariant-loop-place : goal.invariant-loop-place
invariant-loop-place l = ContactsGo l.z l.base l.goals l.initial.t l.t l._place l.e
