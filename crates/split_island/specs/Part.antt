-- The split of an island on sound tables.
use Rattle.std.specs.Prelude.{◌≡◌, List, ℕ, ◌≤◌, length}
use Rattle.def_kinds.specs.declared.Sizes.{Sizes}
use Rattle.def_state.specs.World.{World, Step, done}
use Rattle.def_state.specs.Connected.{keep_label}
use Rattle.def_state.specs.Split.{links_of, labels_of, parted, checked, split}
use Rattle.table_meaning.specs.Layout.{tables, members_in}
use Rattle.table_meaning.specs.Decode.{world_of}
use Rattle.table_meaning.specs.Sound.{Sound}
use Rattle.core_laws.specs.Steps.{Steps}
use Rattle.core_laws.specs.Lives.{Lives}
use Rattle.split_forest.specs.Groups.{Inside}

unfoldable pub parting : ℕ → World → Step
parting i w = done (parted i w)

unfoldable pub checking : ℕ → World → Step
checking i w = done (checked i w)

unfoldable pub splitting : ℕ → World → Step
splitting i w = done (split i w)

-- the labels are those of the island's bodies
pub record PartReady (Z : Sizes) (base keep : ℕ) (L goals t : List ℕ) : Type 0 where
  pub sound : Sound Z t
  pub lives : Lives Z t base
  pub labels_are : L ≡ labels_of (world_of Z t) base
  pub keep_is : keep ≡ keep_label L
  pub inside : Inside (links_of (world_of Z t) base) (length L)
  pub goals_long : length goals ≡ length L

pub record Parts (Z : Sizes) (base : ℕ) (t t' : List ℕ) : Type 0 where
  pub steps : Steps Z (parting base) t t'
  pub lives : Lives Z t' base

-- four slices of one word for each body of the island
pub record SplitReady (Z : Sizes) (i : ℕ) (t parent size first labels : List ℕ) : Type 0 where
  pub sound : Sound Z t
  pub lives : Lives Z t i
  pub few : Z.slots ≤ 4096
  pub parent_long : length parent ≡ (members_in Z (tables Z t)).count i
  pub size_long : length size ≡ (members_in Z (tables Z t)).count i
  pub first_long : length first ≡ (members_in Z (tables Z t)).count i
  pub labels_long : length labels ≡ (members_in Z (tables Z t)).count i

-- a live island of n bodies, of which there are at most 4096
pub record Splittable (Z : Sizes) (i n : ℕ) (t : List ℕ) : Type 0 where
  pub sound : Sound Z t
  pub lives : Lives Z t i
  pub few : Z.slots ≤ 4096
  pub bodies : n ≡ (members_in Z (tables Z t)).count i
