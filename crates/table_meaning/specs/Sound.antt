-- Well formed tables.
use Rattle.std.specs.Prelude.{◌≡◌, ◌≢◌, List, ℕ, ◌+◌, ◌*◌, ◌≤◌, ◌<◌, length, get_or}
use Rattle.list_in_table.specs.Rules.{none}
use Rattle.list_in_table.specs.Table.{Wf}
use Rattle.def_kinds.specs.declared.Sizes.{Sizes}
use Rattle.table_meaning.specs.Layout.{Tables, tables, total, Extents, extents, members_in, contacts_in, joints_in, freed_in, spare_in, scan_in}
use Rattle.table_meaning.specs.Rule.{SlotRule, IslandRule, ScanRule, EdgeRule, JointRule, HeadRule}

-- the rule of each entry, at its words
module _ (Z : Sizes) (T : Tables) where
  abbrev pub SlotAt : ℕ → Type 0
  SlotAt s = SlotRule (get_or T.slots (5 * s) 0) (get_or T.slots (5 * s + 2) 0) (get_or T.slots (5 * s + 3) 0) (get_or T.slots (5 * s + 4) 0) ((members_in Z T).home s)

  abbrev pub IslandAt : ℕ → Type 0
  IslandAt i =
      IslandRule ((members_in Z T).count i) ((contacts_in Z T).count i) ((joints_in Z T).count i) (get_or T.rows (3 * i) 0) (get_or T.rows (3 * i + 1) 0)
      (get_or T.rows (3 * i + 2) 0)
      ((freed_in Z T).home i)

  abbrev pub SeenAt : ℕ → Type 0
  SeenAt i = ScanRule ((scan_in Z T).home i) (get_or T.fit i 0)

  abbrev pub EdgeAt : ℕ → Type 0
  EdgeAt e =
      EdgeRule ((contacts_in Z T).home e) (get_or T.touches (4 * e) 0) (get_or T.touches (4 * e + 1) 0) (get_or T.touches (4 * e + 2) 0) (get_or T.touches (4 * e + 3) 0)

  abbrev pub JointAt : ℕ → Type 0
  JointAt p =
      JointRule ((joints_in Z T).home p) ((spare_in Z T).home p) (get_or T.keys (8 * p) 0) (get_or T.keys (8 * p + 1) 0) (get_or T.keys (8 * p + 2) 0) (get_or T.keys (8 * p + 3) 0)
      (get_or T.keys (8 * p + 4) 0)
      (get_or T.keys (8 * p + 5) 0)
      (get_or T.keys (8 * p + 6) 0)
      (get_or T.keys (8 * p + 7) 0)

-- the places p and q have the same key, word for word
pub record SameKey (keys : List ℕ) (p q : ℕ) : Type 0 where
  pub kind : get_or keys (8 * p) 0 ≡ get_or keys (8 * q) 0
  pub a : get_or keys (8 * p + 1) 0 ≡ get_or keys (8 * q + 1) 0
  pub b : get_or keys (8 * p + 2) 0 ≡ get_or keys (8 * q + 2) 0
  pub c : get_or keys (8 * p + 3) 0 ≡ get_or keys (8 * q + 3) 0

-- no key twice among the linked places below n
abbrev pub Distinct : (home : ℕ → ℕ) (keys : List ℕ) (n : ℕ) → Type 0
Distinct home keys n = (p q : ℕ) → p < n → q < n → home p ≢ none → home q ≢ none → SameKey keys p q → p ≡ q

-- what is in use is well formed; of the rest nothing is asked
pub record Good (Z : Sizes) (X : Extents) (T : Tables) : Type 0 where
  pub enough : Z.slots ≤ Z.islands
  pub slots_le : X.slots ≤ Z.slots
  pub islands_le : X.islands ≤ Z.islands
  pub edges_le : X.edges ≤ Z.edges
  pub joints_le : X.joints ≤ Z.joints
  pub journal_le : X.journal ≤ Z.journal
  pub members_wf : Wf T.members 0 (4 * Z.slots) X.slots X.islands
  pub freed_wf : Wf T.freed 0 (4 * Z.islands) X.islands 1
  pub contacts_wf : Wf T.contacts 0 (4 * Z.edges) X.edges X.islands
  pub joints_wf : Wf T.joints 0 (4 * Z.joints) X.joints X.islands
  pub spare_wf : Wf T.spare 0 (4 * Z.joints) X.joints 1
  pub scan_wf : Wf T.scan 0 (4 * Z.islands) X.islands 1
  pub slot : (s : ℕ) → s < X.slots → SlotAt Z T s
  pub island : (i : ℕ) → i < X.islands → IslandAt Z T i
  pub seen : (i : ℕ) → i < X.islands → SeenAt Z T i
  pub edge : (e : ℕ) → e < X.edges → EdgeAt Z T e
  pub joint : (p : ℕ) → p < X.joints → JointAt Z T p
  pub distinct : Distinct (joints_in Z T).home T.keys X.joints
  pub head : HeadRule (get_or T.head 5 0) (get_or T.head 6 0) (get_or T.head 8 0) ((scan_in Z T).count 0)

pub record Sound (Z : Sizes) (t : List ℕ) : Type 0 where
  pub long : length t ≡ total Z
  pub good : Good Z (extents (tables Z t)) (tables Z t)
