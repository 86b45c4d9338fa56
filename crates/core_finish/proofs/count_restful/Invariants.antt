use mathlib.Core.Path.{◌≡◌}
use mathlib.Core.Logic.{◌≢◌}
use Prim.Native.Nat.{◌+◌, ◌-◌}
use lib.ListN.{length}
use Rattle.core_finish.specs.Restful.{restful, restful_to}
use Rattle.core_finish.proofs.Restful.{Stands}
use Rattle.core_finish.proofs.count_restful.Given as goal

abbrev pub invariant-loop : goal.invariant-loop
invariant-loop l = (l.waiting - l.counter ≢ 0 → Stands l.z l.t (l.waiting - l.counter) l.island) × (length (restful_to l.z l.t (l.waiting - l.counter) l.island) + l.found ≡ length (restful l.z l.t))
