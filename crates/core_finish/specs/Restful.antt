-- The observed islands that may sleep, by the words of the tables.
use Rattle.std.specs.Prelude.{◌≡◌, true, false, List, map, ℕ, ◌+◌, set}
use Rattle.list_in_table.specs.Rules.{walk}
use Rattle.def_kinds.specs.declared.Sizes.{Sizes}
use Rattle.def_state.specs.Scan.{sleepable, sleepables}
use Rattle.table_meaning.specs.Layout.{tables, scan_in}
use Rattle.table_meaning.specs.Decode.{observed_at, world_of}

-- the islands that may sleep, of all that were observed
abbrev pub restful : Sizes → List ℕ → List ℕ
restful Z t = sleepables (world_of Z t) (world_of Z t).sleep_scan_touched

-- of the first k of the list, which end in e
abbrev pub restful_to : Sizes → List ℕ → ℕ → ℕ → List ℕ
restful_to Z t k e = sleepables (world_of Z t) (map (observed_at (tables Z t).fit) (walk (scan_in Z (tables Z t)).prev k e))

-- the island e was written to out[r], with r + 1 the place k, where it may sleep; else nothing was
pub record Wrote (Z : Sizes) (t : List ℕ) (e k r : ℕ) (out out' : List ℕ) : Type 0 where
  pub rests : sleepable (world_of Z t) (observed_at (tables Z t).fit e) ≡ true → (r + 1 ≡ k) × (out' ≡ set out r e)
  pub wakes : sleepable (world_of Z t) (observed_at (tables Z t).fit e) ≡ false → (r ≡ k) × (out' ≡ out)
