-- What label_island asks, and what it gives.
use Rattle.std.specs.Prelude.{◌≡◌, List, ℕ, ◌≤◌, length}
use Rattle.def_kinds.specs.declared.Sizes.{Sizes}
use Rattle.def_state.specs.Connected.{components, keep_label}
use Rattle.def_state.specs.Split.{links_of, labels_of}
use Rattle.table_meaning.specs.Layout.{tables, members_in}
use Rattle.table_meaning.specs.Decode.{world_of}
use Rattle.table_meaning.specs.Sound.{Sound}
use Rattle.core_laws.specs.Lives.{Lives}
use Rattle.split_forest.specs.Groups.{Inside}
use Rattle.split_label.specs.declared.Shape.{Shape}

-- each slice has one word for each body of the island
pub record Ready (Z : Sizes) (t : List ℕ) (i : ℕ) (parent size first labels : List ℕ) : Type 0 where
  pub sound : Sound Z t
  pub lives : Lives Z t i
  pub few : Z.slots ≤ 4096
  pub parent_long : length parent ≡ (members_in Z (tables Z t)).count i
  pub size_long : length size ≡ (members_in Z (tables Z t)).count i
  pub first_long : length first ≡ (members_in Z (tables Z t)).count i
  pub labels_long : length labels ≡ (members_in Z (tables Z t)).count i

pub record Labelled (Z : Sizes) (t : List ℕ) (i : ℕ) (labels : List ℕ) (r : Shape) : Type 0 where
  pub labels_are : labels ≡ labels_of (world_of Z t) i
  pub components_are : r.components ≡ components (labels_of (world_of Z t) i)
  pub keep_is : r.keep ≡ keep_label (labels_of (world_of Z t) i)
  -- a link's ends are places of the island's bodies
  pub inside : Inside (links_of (world_of Z t) i) (length labels)
