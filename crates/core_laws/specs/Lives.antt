-- A live island in use.
use Rattle.std.specs.Prelude.{◌≢◌, List, ℕ, ◌<◌}
use Rattle.def_kinds.specs.declared.Sizes.{Sizes}
use Rattle.table_meaning.specs.Layout.{tables, extents, members_in}

pub record Lives (Z : Sizes) (t : List ℕ) (i : ℕ) : Type 0 where
  pub in_use : i < (extents (tables Z t)).islands
  pub some : (members_in Z (tables Z t)).count i ≢ 0
