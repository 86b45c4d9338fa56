-- `core_chain::link_chain` meets its contract. The invariant: what is left of the list, linked from the present state, gives the state after all. Assumes nothing.
use Prim.Native.Nat.{◌/◌, ◌%◌}
use lib.ListN.{length}
use Rattle.core_laws.specs.Steps.{handle}
use Rattle.list_in_table.specs.Rules.{none}
use Rattle.core_chain.specs.Linking.{present}
use Rattle.core_chain.proofs.Laws.{link_start, link-turn, link-end}
use Rattle.core_chain.proofs.link_chain.Goals as goal

pub loop-k-init : goal.loop-k-init
loop-k-init c = link_start c.args.z c.args.t.now (c.args.multibody / 4294967296) (c.args.multibody % 4294967296) c.args.list.now (length c.args.list.now / 2) (handle none none) c.requires.0

pub loop-k-preserved : goal.loop-k-preserved
loop-k-preserved c =
    let l = c.loop-k.linking in
    let N = rw (c.handle_in.ensures.0, c.handle_in.ensures.1) at c.link_next-linking.ensures in
    link-turn c.args.z c.args.t.now (c.args.multibody / 4294967296) (c.args.multibody % 4294967296) c.args.list.now (length c.args.list.now / 2) (present l.last.generation) l.ordinal (handle l.last.slot.0 l.last.generation) c.loop-k.k c.loop-k.invariant c.loop-k-test.true N

pub returns : goal.returns
returns c =
    let l = c.loop-k.linking in
    link-end c.args.z c.args.t.now (c.args.multibody / 4294967296) (c.args.multibody % 4294967296) c.args.list.now (length c.args.list.now / 2) (present l.last.generation) l.ordinal (handle l.last.slot.0 l.last.generation) c.loop-k.k c.loop-k.invariant c.loop-k-test.false
