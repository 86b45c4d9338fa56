-- `split_forest::clear` meets its contract. The loop's invariant: each place passed is its own parent. Assumes nothing.
use mathlib.Core.Path.{refl}
use native.Mathlib.Omega.{arith}
use Rattle.split_forest.proofs.Fresh.{fresh}
use Rattle.split_forest.proofs.clear.Goals as goal

pub returns : goal.returns
returns c =
    fresh _ _ _ c.requires.1 (λ i l. c.loop-i.invariant i (omega arith)) (λ i l. c.fill.ensures.clones i 0 (omega arith) refl)
