use native.Mathlib.Omega.{arith}
use mathlib.Core.Path.{sym, ◌∙◌, ap, subst}
use mathlib.Core.Logic.{◌≢◌}
use Prim.Native.Nat.{ℕ, ◌<◌}
use Rattle.list_in_table.specs.Rules.{none}
use Rattle.table_meaning.specs.Decode.{world_of}
use Rattle.table_meaning.specs.Layout.{Extents}
use Rattle.def_kinds.specs.Answers.{OverSize}
use Rattle.core_laws.specs.Steps.{handle}
use Rattle.core_laws.proofs.Then.{refused}
use Rattle.core_laws.proofs.Link.{link-over}
use Rattle.core_laws.proofs.LinkContact.{edge_lt, contact-old, contact-loose, contact-linked}
use Rattle.core_link.proofs.link_contact_on.Goals as goal

pub returns-then-e-z : goal.returns-then-e-z
returns-then-e-z c = refused _ OverSize c.requires (link-over c.args.z c.args.e (handle c.args.first.slot.0 c.args.first.generation) (handle c.args.second.slot.0 c.args.second.generation) (world_of c.args.z c.args.t.now) (omega (arith, c.if-e-z.true)))

pub returns-then-home : goal.returns-then-home
returns-then-home c = contact-old c.args.e c.args.first.slot.0 c.args.first.generation c.args.second.slot.0 c.args.second.generation (omega (arith, c.if-e-z.false)) c.grow_edges.ensures (λ q. c.if-home.true (c.home.ensures.0 ∙ q))

pub returns-in_default : goal.returns-in_default
returns-in_default c = contact-loose c.args.e c.args.first.slot.0 c.args.first.generation c.args.second.slot.0 c.args.second.generation (omega (arith, c.if-e-z.false)) c.grow_edges.ensures (sym c.home.ensures.0 ∙ c.if-home.false) c.in_default.ensures

pub merge_islands-island-requires : goal.merge_islands-island-requires
merge_islands-island-requires c = c.in-Some.ensures.live

pub push_contact-requires : goal.push_contact-requires
push_contact-requires c =
    let M = c.merge_islands-island.ensures in
    let l = edge_lt c.args.e c.args.first.slot.0 c.args.first.generation c.args.second.slot.0 c.args.second.generation (omega (arith, c.if-e-z.false)) c.grow_edges.ensures in
    (M.steps.does.sound, subst (λ (x : ℕ). c.args.e < x) (sym (ap (λ (X : Extents). X.edges) M.stays.extents_same)) l, M.stays.edge_none c.args.e l (sym c.home.ensures.0 ∙ c.if-home.false), record { in_use = M.in_use; some = M.live })

pub returns : goal.returns
returns c =
    let M = c.merge_islands-island.ensures in
    let d : c.merge_islands-island.result ≢ none = (λ q. (let a = M.in_use in let b = M.steps.does.sound.good.members_wf.rules.m_small in omega arith)) in
    contact-linked c.args.e c.args.first.slot.0 c.args.first.generation c.args.second.slot.0 c.args.second.generation (omega (arith, c.if-e-z.false)) c.grow_edges.ensures (sym c.home.ensures.0 ∙ c.if-home.false) c.in-Some.a c.in-Some.b _ c.in-Some.ensures M d c.push_contact.ensures
