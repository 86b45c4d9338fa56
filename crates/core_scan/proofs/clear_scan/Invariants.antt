use mathlib.Core.Path.{◌≡◌}
use Prim.Native.Nat.{ℕ, ◌+◌}
use mathlib.Core.List.{List}
use Rattle.table_meaning.specs.Layout.{tables, scan_in}
use Rattle.table_meaning.specs.Sound.{Sound}
use Rattle.core_scan.specs.Scanning.{Forgotten}
use Rattle.core_scan.proofs.clear_scan.Given as goal

abbrev pub invariant-loop : goal.invariant-loop
invariant-loop l = Sound l.z l.t × (l.counter + (scan_in l.z (tables l.z l.t)).count 0 ≡ l.waiting) × ((u : List ℕ) → Forgotten l.z l.t u → Forgotten l.z l.initial.t u)
