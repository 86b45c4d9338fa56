use mathlib.Core.Path.{◌≡◌}
use Prim.Native.Nat.{◌≤◌}
use Rattle.table_meaning.specs.Layout.{tables, extents}
use Rattle.core_laws.specs.Steps.{Steps}
use Rattle.core_laws.specs.Linking.{tracking}
use Rattle.core_contact.proofs.grow_edges.Given as goal

abbrev pub invariant-loop-e : goal.invariant-loop-e
invariant-loop-e l = Steps l.z (tracking l.e) l.initial.t l.t × ((extents (tables l.z l.initial.t)).edges ≤ l.e) × (l.k ≤ (extents (tables l.z l.initial.t)).edges → l.e ≡ (extents (tables l.z l.initial.t)).edges)
