-- A body that is in an island, in the words of the tables.
use Rattle.std.specs.Prelude.{◌≡◌, ◌≢◌, List, ℕ, ◌<◌}
use Rattle.list_in_table.specs.Rules.{none}
use Rattle.def_kinds.specs.declared.Sizes.{Sizes}
use Rattle.table_meaning.specs.Layout.{tables, extents, members_in}

-- the body in the slot s, which is in use, is in the island i
pub record Housed (Z : Sizes) (s i : ℕ) (t : List ℕ) : Type 0 where
  pub slot_lt : s < (extents (tables Z t)).slots
  pub home_is : (members_in Z (tables Z t)).home s ≡ i
  pub some : i ≢ none
