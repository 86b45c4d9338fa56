use mathlib.Core.Path.{◌≡◌}
use Rattle.split_forest.specs.Forest.{at, root_of}
use Rattle.def_state.specs.Connected.{most, first}
use Rattle.split_forest.proofs.keep.Given as goal

abbrev pub invariant-loop-k : goal.invariant-loop-k
invariant-loop-k l =
    (l.top ≡ most (λ k. at l.size (root_of (at l.parent) k)) l.k) × (l.best ≡ first (λ k. at l.size (root_of (at l.parent) k)) l.k)
