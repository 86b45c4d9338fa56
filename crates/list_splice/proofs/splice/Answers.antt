-- `list_splice::splice` meets its contract. The loop's invariant is `Walk`, and its measure the elements that are left. Assumes nothing.
use native.Mathlib.Omega.{arith}
use borrow.Author.Tests.{eq-eqb, ne_eqb}
use Prim.Native.Nat.{ℕ, ◌+◌, ◌*◌, ◌≤◌}
use mathlib.Core.List.{List}
use lib.ListN.{length-set, get_or}
use Rattle.list_in_table.specs.Rules.{none}
use Rattle.list_in_table.proofs.Pigeon.{counts-le}
use Rattle.list_splice.specs.Splice.{spliced, SpliceReady}
use Rattle.list_splice.proofs.Walk.{start, step, inside, outside, done}
use Rattle.list_splice.proofs.splice.Goals as goal

-- the two lists hold at most n elements
counts : {t : List ℕ} {b z g s : ℕ} (r : SpliceReady t b z g s) → (get_or t (z + 2 * g) 0 + get_or t (z + 2 * s) 0 ≤ r.n) × (r.n ≤ none)
counts r = (counts-le r.wf.rules _ _ r.big_lt r.small_lt r.differ, r.wf.rules.n_small)

pub returns-then-small_count-eq0 : goal.returns-then-small_count-eq0
unfolding spliced
returns-then-small_count-eq0 c = simp (eq-eqb _ _ c.if-small_count-eq0.true)

pub loop-left-init : goal.loop-left-init
loop-left-init c = (c.requires, start c.requires c.if-small_count-eq0.false)

pub overflow_add-t : goal.overflow_add-t
overflow_add-t c = omega (arith, inside c.loop-left.invariant.1 c.loop-left-test.true, c.loop-left.invariant.1.left, counts c.requires)

pub loop-left-preserved : goal.loop-left-preserved
loop-left-preserved c = (c.loop-left.invariant.0, step c.loop-left.invariant.1 c.loop-left-test.true)

pub overflow_add-t-3 : goal.overflow_add-t-3
overflow_add-t-3 c = omega (arith, c.requires, counts c.requires, outside c.loop-left.invariant.1 c.loop-left-test.false c.if-small_count-eq0.false, simp length-set at c.set_next.auto.t)

pub returns : goal.returns
unfolding spliced
returns c = rw (ne_eqb _ _ c.if-small_count-eq0.false, done c.loop-left.invariant.1 c.loop-left-test.false, c.set_next.ensures)
