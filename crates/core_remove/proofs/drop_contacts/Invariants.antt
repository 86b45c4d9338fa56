use mathlib.Core.Path.{◌≡◌}
use Prim.Native.Nat.{ℕ, ◌+◌, ◌<◌}
use mathlib.Core.List.{List}
use Rattle.table_meaning.specs.Layout.{tables, extents, contacts_in}
use Rattle.table_meaning.specs.Sound.{Sound}
use Rattle.core_laws.specs.Drops.{Cleared}
use Rattle.core_remove.proofs.drop_contacts.Given as goal

abbrev pub invariant-loop : goal.invariant-loop
invariant-loop l = Sound l.z l.t × (l.i < (extents (tables l.z l.t)).islands) × (l.counter + (contacts_in l.z (tables l.z l.t)).count l.i ≡ l.links) × ((u : List ℕ) → Cleared l.z l.i l.t u → Cleared l.z l.i l.initial.t u)
