-- `core_chain::link_next` meets its contract. Each way out is a turn of the linking, by the laws of `Laws`. Assumes nothing.
use mathlib.Core.Path.{sym, ◌∙◌}
use Prim.Native.Nat.{◌/◌, ◌%◌}
use Rattle.core_laws.specs.Steps.{handle}
use Rattle.core_chain.specs.Linking.{present}
use Rattle.core_chain.proofs.Laws.{link-first, link-pair, named-present, absent-not, present-is, linked-as}
use Rattle.core_chain.proofs.link_next.Goals as goal

pub returns-then-last : goal.returns-then-last
returns-then-last c =
    let l = c.args.linking.last in
    let h = c.args.next in
    let e = sym c.is_chainable.ensures ∙ c.if-not-is_chainable.false in
    linked-as _ (named-present _ h.slot.0 h.generation e) (link-first (c.args.multibody / 4294967296) (c.args.multibody % 4294967296) (present l.generation) c.args.linking.ordinal (handle l.slot.0 l.generation) (handle h.slot.0 h.generation) c.requires.0 e (absent-not _ c.if-last.true))

pub returns : goal.returns
returns c =
    let l = c.args.linking.last in
    let h = c.args.next in
    let e = sym c.is_chainable.ensures ∙ c.if-not-is_chainable.false in
    linked-as _ (named-present _ h.slot.0 h.generation e) (link-pair (c.args.multibody / 4294967296) (c.args.multibody % 4294967296) (present l.generation) c.args.linking.ordinal (handle l.slot.0 l.generation) (handle h.slot.0 h.generation) c.requires.0 e (present-is _ c.if-last.false) c.link_joint_on.ensures)
