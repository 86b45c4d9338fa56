-- `list_in_table::swap_remove` meets its contract. Each index is below the length by what the rules say of e and its neighbours. Assumes nothing.
use native.Mathlib.Omega.{arith}
use borrow.Author.Tests.{eq-eqb, ne_eqb}
use lib.ListN.{length-set}
use Rattle.list_in_table.specs.Table.{removed}
use Rattle.list_in_table.proofs.Laws.{known, inner}
use Rattle.list_in_table.proofs.swap_remove.Goals as goal

pub returns-then-last-e : goal.returns-then-last-e
unfolding removed
returns-then-last-e c = simp (eq-eqb _ _ c.if-last-e.true) c.set_next.ensures

pub returns-then-before_last-e : goal.returns-then-before_last-e
unfolding removed
returns-then-before_last-e c = simp (ne_eqb _ _ c.if-last-e.false, eq-eqb _ _ c.if-before_last-e.true) c.set_next-2.ensures

pub bounds-t-before_cell : goal.bounds-t-before_cell
bounds-t-before_cell c = simp length-set (omega (arith, known c.requires, inner c.requires c.if-last-e.false, simp length-set at c.set_next-2.auto.t))

pub returns : goal.returns
unfolding removed
returns c = rw (ne_eqb _ _ c.if-last-e.false, ne_eqb _ _ c.if-before_last-e.false, c.set_next-2.ensures)
