use mathlib.Core.Path.{◌≡◌}
use Prim.Native.Nat.{ℕ, ◌<◌}
use mathlib.Core.List.{List}
use lib.ListN.{length}
use Rattle.def_state.specs.Connected.{label}
use Rattle.split_forest.specs.Groups.{Groups}
use Rattle.split_forest.specs.Forest.{at, root_of}
use Rattle.split_forest.proofs.Leaders.{Come}
use Rattle.split_forest.proofs.name.Given as goal

abbrev pub invariant-loop-i : goal.invariant-loop-i
invariant-loop-i l =
    ((ls : List (ℕ × ℕ)) → Groups ls (length l.parent) (root_of (at l.parent))
    → Come (at (label ls (length l.parent))) (root_of (at l.parent)) (length l.parent) l.i l.first
    × ((k : ℕ) → k < l.i → at l.labels k ≡ at (label ls (length l.parent)) k))
