use Prim.Native.Nat.{◌≤◌}
use Rattle.table_meaning.specs.Layout.{tables, extents}
use Rattle.core_laws.specs.Steps.{Grew}
use Rattle.core_body.proofs.grow_slots.Given as goal

abbrev pub invariant-loop-n : goal.invariant-loop-n
invariant-loop-n l = Grew l.z l.n l.initial.t l.t × ((extents (tables l.z l.initial.t)).slots ≤ l.n)
