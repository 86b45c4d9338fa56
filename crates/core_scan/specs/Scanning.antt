-- The steps that begin and observe are made of, and what the core functions say of the tables.
use Rattle.std.specs.Prelude.{◌≡◌, ◌≢◌, Bool, false, List, [], ℕ, ◌+◌, ◌<◌, get_or}
use Rattle.list_in_table.specs.Rules.{none}
use Rattle.def_kinds.specs.declared.Sizes.{Sizes}
use Rattle.def_kinds.specs.declared.Scan.{Scan}
use Rattle.def_state.specs.Plain.{drop_last}
use Rattle.def_state.specs.World.{World, Step, done}
use Rattle.def_state.specs.Fields.{scan_set}
use Rattle.def_state.specs.Scan.{observed}
use Rattle.table_meaning.specs.Layout.{tables, extents, scan_in}
use Rattle.table_meaning.specs.Decode.{flag}
use Rattle.table_meaning.specs.Sound.{Sound}
use Rattle.core_laws.specs.Steps.{Steps}

-- the island that was observed last is forgotten
unfoldable pub forget_last : World → Step
forget_last w = done (scan_set w w.sleep_scan_stamp w.scanning (drop_last w.sleep_scan_touched))

-- all observations are
unfoldable pub forget : World → Step
forget w = done (scan_set w w.sleep_scan_stamp w.scanning [])

-- the scan has this stamp, and is open or not
unfoldable pub stamped : ℕ → Bool → World → Step
stamped n o w = done (scan_set w n o w.sleep_scan_touched)

-- one observation is noted
unfoldable pub noting : ℕ → Bool → World → Step
noting i e w = done (scan_set w w.sleep_scan_stamp w.scanning (observed i e w.sleep_scan_touched))

-- s is the scan that the tables hold
pub record ScanIs (Z : Sizes) (t : List ℕ) (s : Scan) : Type 0 where
  pub stamp : s.stamp ≡ get_or (tables Z t).head 7 0
  pub opened : s.open ≡ flag (get_or (tables Z t).head 8 0)
  pub waiting : s.waiting ≡ (scan_in Z (tables Z t)).count 0

-- what writing the scan s asks: as many islands wait as s says, and none where it is closed
pub record Fitting (Z : Sizes) (t : List ℕ) (s : Scan) : Type 0 where
  pub sound : Sound Z t
  pub waiting : s.waiting ≡ (scan_in Z (tables Z t)).count 0
  pub closed : s.open ≡ false → s.waiting ≡ 0

-- the last of the list went
pub record Forgot (Z : Sizes) (t t' : List ℕ) : Type 0 where
  pub steps : Steps Z forget_last t t'
  pub fewer : (scan_in Z (tables Z t')).count 0 + 1 ≡ (scan_in Z (tables Z t)).count 0
  pub head : (tables Z t').head ≡ (tables Z t).head

-- all of it
pub record Forgotten (Z : Sizes) (t t' : List ℕ) : Type 0 where
  pub steps : Steps Z forget t t'
  pub none_left : (scan_in Z (tables Z t')).count 0 ≡ 0
  pub head : (tables Z t').head ≡ (tables Z t).head

-- the island i is in use and was not observed yet, and the scan is open
pub record Unheard (Z : Sizes) (t : List ℕ) (i : ℕ) : Type 0 where
  pub sound : Sound Z t
  pub in_use : i < (extents (tables Z t)).islands
  pub opened : get_or (tables Z t).head 8 0 ≡ 1
  pub unlisted : (scan_in Z (tables Z t)).home i ≡ none

-- the island i is in use and was observed before
pub record Heard (Z : Sizes) (t : List ℕ) (i : ℕ) : Type 0 where
  pub sound : Sound Z t
  pub in_use : i < (extents (tables Z t)).islands
  pub listed : (scan_in Z (tables Z t)).home i ≢ none
