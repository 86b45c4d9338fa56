-- `list_in_table::push_last` meets its contract. Each index is below the length by the sizes of the table; the list's old last by the rules. Assumes nothing.
use native.Mathlib.Omega.{arith}
use Rattle.list_in_table.specs.Table.{pushed}
use Rattle.list_in_table.proofs.Pigeon.{count-lt}
use Rattle.list_in_table.proofs.push_last.Goals as goal

pub overflow_add-t-4 : goal.overflow_add-t-4
unfolding pushed
overflow_add-t-4 c = omega (arith, c.requires.wf.rules.n_small, count-lt c.requires.wf.rules _ _ c.requires.list_lt c.requires.elem_lt c.requires.elem_blank)

pub returns : goal.returns
unfolding pushed
returns c = c.set_next.ensures
