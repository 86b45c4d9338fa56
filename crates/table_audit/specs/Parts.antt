-- Well formed tables, part by part: what each function of the audit answers.
use Rattle.std.specs.Prelude.{◌≡◌, ◌≢◌, List, ℕ, ◌*◌, ◌≤◌, ◌<◌, get_or}
use Rattle.list_in_table.specs.Rules.{none}
use Rattle.list_in_table.specs.Table.{Wf}
use Rattle.def_kinds.specs.declared.Sizes.{Sizes}
use Rattle.table_meaning.specs.Layout.{Tables, extents, scan_in}
use Rattle.table_meaning.specs.Rule.{HeadRule}
use Rattle.table_meaning.specs.Sound.{SlotAt, IslandAt, SeenAt, EdgeAt, JointAt, SameKey}
use Rattle.table_audit.specs.declared.Used.{Used}

-- so much is in use
pub record Extended (T : Tables) (used : Used) : Type 0 where
  pub slots_are : used.slots ≡ (extents T).slots
  pub islands_are : used.islands ≡ (extents T).islands
  pub edges_are : used.edges ≡ (extents T).edges
  pub joints_are : used.joints ≡ (extents T).joints
  pub journal_is : used.journal ≡ (extents T).journal

-- it is within the sizes
pub record Within (Z : Sizes) (used : Used) : Type 0 where
  pub enough : Z.slots ≤ Z.islands
  pub slots_le : used.slots ≤ Z.slots
  pub islands_le : used.islands ≤ Z.islands
  pub edges_le : used.edges ≤ Z.edges
  pub joints_le : used.joints ≤ Z.joints
  pub journal_le : used.journal ≤ Z.journal

-- the six chain tables keep the rules as far as they are in use
pub record Chained (Z : Sizes) (T : Tables) (used : Used) : Type 0 where
  pub members_wf : Wf T.members 0 (4 * Z.slots) used.slots used.islands
  pub freed_wf : Wf T.freed 0 (4 * Z.islands) used.islands 1
  pub contacts_wf : Wf T.contacts 0 (4 * Z.edges) used.edges used.islands
  pub joints_wf : Wf T.joints 0 (4 * Z.joints) used.joints used.islands
  pub spare_wf : Wf T.spare 0 (4 * Z.joints) used.joints 1
  pub scan_wf : Wf T.scan 0 (4 * Z.islands) used.islands 1

-- each entry in use keeps its rule
pub record Ruled (Z : Sizes) (T : Tables) (used : Used) : Type 0 where
  pub slot : (s : ℕ) → s < used.slots → SlotAt Z T s
  pub island : (i : ℕ) → i < used.islands → IslandAt Z T i
  pub seen : (i : ℕ) → i < used.islands → SeenAt Z T i
  pub edge : (k : ℕ) → k < used.edges → EdgeAt Z T k
  pub joint : (p : ℕ) → p < used.joints → JointAt Z T p

abbrev pub HeadAt : Sizes → Tables → Type 0
HeadAt Z T = HeadRule (get_or T.head 5 0) (get_or T.head 6 0) (get_or T.head 8 0) ((scan_in Z T).count 0)

-- the place q is not linked, or its key is another than that of the place p
abbrev pub Other : (home : ℕ → ℕ) (keys : List ℕ) (p q : ℕ) → Type 0
Other home keys p q = home q ≢ none → SameKey keys p q → ⊥

-- the place p is not linked, or its key is that of no linked place below it
abbrev pub New : (home : ℕ → ℕ) (keys : List ℕ) (p : ℕ) → Type 0
New home keys p = home p ≢ none → (q : ℕ) → q < p → Other home keys p q
