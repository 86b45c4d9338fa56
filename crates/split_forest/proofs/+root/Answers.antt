-- `split_forest::root` meets its contract. At each call the rest of the walk, height steps from i, ends where the whole walk ends; it calls itself on the parent with a height less by one, which is the measure. Assumes nothing.
use mathlib.Core.Path.{sym, ◌∙◌}
use Rattle.split_forest.proofs.Climb.{climb-none, climb-root, climb-step}
use Rattle.split_forest.proofs.+root.Goals as goal

pub returns-then-height-eq0 : goal.returns-then-height-eq0
returns-then-height-eq0 t c = climb-none _ _ _ c.if-height-eq0.true

pub returns-then-p-i : goal.returns-then-p-i
returns-then-p-i t c = sym (climb-root _ _ _ c.if-p-i.true)

pub returns : goal.returns
returns t c = c.root.ensures ∙ climb-step _ _ _ c.if-height-eq0.false
