-- `core_contact::grow_edges` meets its contract. The loop has tracked e edges; where k were tracked before, it does nothing.
use native.Mathlib.Omega.{arith}
use mathlib.Core.Path.{◌≡◌, sym}
use Rattle.list_in_table.proofs.Same.{below}
use Rattle.table_meaning.specs.Layout.{tables, extents}
use Rattle.core_laws.proofs.GrowEdge.{edges-enough, edges-after, edges-then, edges-as_were}
use Rattle.core_contact.proofs.grow_edges.Goals as goal

pub loop-e-init : goal.loop-e-init
loop-e-init c = (edges-enough _ c.requires.0 (omega (arith, c.get-tracked.ensures.0)), omega (arith, c.get-tracked.ensures.0), λ h. c.get-tracked.ensures.0)

pub grow_edge-requires : goal.grow_edge-requires
grow_edge-requires c = (c.loop-e.invariant.0.does.sound, sym (edges-after _ c.loop-e.invariant.0 c.loop-e.invariant.1), omega (arith, c.loop-e-test.true, c.requires.1), omega (arith, c.loop-e-test.true))

pub loop-e-preserved : goal.loop-e-preserved
loop-e-preserved c = (edges-then _ c.loop-e.invariant.1 c.loop-e.invariant.0 c.grow_edge.ensures, omega (arith, c.loop-e.invariant.1), λ h. (let q = c.loop-e.invariant.2 h in omega (arith, c.loop-e-test.true)))

pub returns : goal.returns
returns c =
    below (extents (tables c.args.z c.args.t.now)).edges c.args.k
    (λ l. (let q : c.loop-e.e ≡ c.args.k = omega (arith, c.loop-e-test.false, c.loop-e.auto.e-end, c.get-tracked.ensures.0) in rw (← q) c.loop-e.invariant.0))
    (λ l. edges-as_were c.loop-e.e c.args.k (let q = c.loop-e.invariant.2 l in omega arith) l c.loop-e.invariant.0)
