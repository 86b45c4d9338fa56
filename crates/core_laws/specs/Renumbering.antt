-- What it is that the last edge can take the number of another.
use Rattle.std.specs.Prelude.{◌≡◌, ◌≢◌, List, ℕ, ◌+◌, ◌<◌}
use Rattle.list_in_table.specs.Rules.{none}
use Rattle.def_kinds.specs.declared.Sizes.{Sizes}
use Rattle.table_meaning.specs.Layout.{tables, extents, contacts_in}
use Rattle.table_meaning.specs.Sound.{Sound}

-- the edge l is the last that is tracked, and linked; g is another, not linked
pub record Handing (Z : Sizes) (g l : ℕ) (t : List ℕ) : Type 0 where
  pub sound : Sound Z t
  pub edges_is : (extents (tables Z t)).edges ≡ l + 1
  pub to_lt : g < l
  pub to_free : (contacts_in Z (tables Z t)).home g ≡ none
  pub from_linked : (contacts_in Z (tables Z t)).home l ≢ none
