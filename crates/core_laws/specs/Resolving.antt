-- What it is that a journal entry was counted: the step, and that no table but the islands' rows changed.
use Rattle.std.specs.Prelude.{◌≡◌, List, ℕ, ◌*◌}
use Rattle.def_kinds.specs.declared.Sizes.{Sizes}
use Rattle.def_state.specs.World.{Removal, World, Step, done}
use Rattle.def_state.specs.Resolver.{counted}
use Rattle.table_meaning.specs.Layout.{tables, rows_put, extents}
use Rattle.table_meaning.specs.Does.{RowsKept}
use Rattle.core_laws.specs.Steps.{Steps}

-- the entry of these two handles
abbrev pub entry_of : (slot1 generation1 slot2 generation2 : ℕ) → Removal
entry_of a b c d = record { body1 = record { slot = a; generation = b }; body2 = record { slot = c; generation = d } }

unfoldable pub counting : Removal → World → Step
counting r w = done (counted r w)

-- of the tables, the rows alone changed, and of those only what is in use
pub record RowsOnly (Z : Sizes) (t t' : List ℕ) : Type 0 where
  pub same : tables Z t' ≡ rows_put (tables Z t) (tables Z t').rows
  pub kept : RowsKept (3 * (extents (tables Z t)).islands) (tables Z t).rows (tables Z t').rows

pub record Counted (Z : Sizes) (r : Removal) (t t' : List ℕ) : Type 0 where
  pub steps : Steps Z (counting r) t t'
  pub only : RowsOnly Z t t'
