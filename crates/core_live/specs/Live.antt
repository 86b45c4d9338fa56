-- Whether a number is that of a live island.
use Rattle.std.specs.Prelude.{◌≡◌, Bool, true, List, ℕ}
use Rattle.def_kinds.specs.declared.Sizes.{Sizes}
use Rattle.def_state.specs.World.{live}
use Rattle.table_meaning.specs.Decode.{world_of}
use Rattle.core_laws.specs.Lives.{Lives}

-- r says whether the island i is live
pub record LiveIs (Z : Sizes) (t : List ℕ) (i : ℕ) (r : Bool) : Type 0 where
  pub says : r ≡ live (world_of Z t) i
  pub lives : r ≡ true → Lives Z t i
