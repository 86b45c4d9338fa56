-- Tables in the middle of a split: all is well formed, but that an island may have no body yet.
use Rattle.std.specs.Prelude.{◌≡◌, ◌⊎◌, List, ℕ, ◌+◌, ◌*◌, ◌≤◌, ◌<◌, length, get_or}
use Rattle.list_in_table.specs.Rules.{none, View, list_of}
use Rattle.list_in_table.specs.Table.{Wf}
use Rattle.def_kinds.specs.declared.Sizes.{Sizes}
use Rattle.def_state.specs.World.{World}
use Rattle.def_state.specs.Links.{contact_removed, joint_removed}
use Rattle.table_meaning.specs.Layout.{Tables, tables, total, Extents, extents, members_in, contacts_in, joints_in, freed_in, scan_in}
use Rattle.table_meaning.specs.Decode.{world_of}
use Rattle.table_meaning.specs.Rule.{Freed, HeadRule}
use Rattle.table_meaning.specs.Sound.{SlotAt, SeenAt, EdgeAt, JointAt, Distinct, Sound}
use Rattle.table_meaning.specs.Does.{SameBehind}
use Rattle.table_meaning.specs.Larger.{Larger}
use Rattle.core_laws.specs.Steps.{Steps, grow_island, one_island, ready, readied}
use Rattle.core_laws.specs.Drops.{Stays, ContactsStay, JointsStay}
use Rattle.core_laws.specs.Linking.{contact_remove}
use Rattle.core_laws.specs.Places.{JointTaken}

-- an island's number that is not free
pub record Open (sleeping freed : ℕ) : Type 0 where
  pub sleeping_flag : sleeping ≤ 1
  pub not_freed : freed ≡ none

module _ (Z : Sizes) (T : Tables) where
  abbrev pub OpenAt : ℕ → Type 0
  OpenAt i = Open (get_or T.rows (3 * i + 2) 0) ((freed_in Z T).home i)

  abbrev pub LooseAt : ℕ → Type 0
  LooseAt i =
      OpenAt i
      ⊎ Freed ((members_in Z T).count i) ((contacts_in Z T).count i) ((joints_in Z T).count i) (get_or T.rows (3 * i) 0) (get_or T.rows (3 * i + 1) 0)
      (get_or T.rows (3 * i + 2) 0)
      ((freed_in Z T).home i)

-- Sound.Good, with the looser rule of an island
pub record Loose (Z : Sizes) (X : Extents) (T : Tables) : Type 0 where
  pub enough : Z.slots ≤ Z.islands
  pub slots_le : X.slots ≤ Z.slots
  pub islands_le : X.islands ≤ Z.islands
  pub edges_le : X.edges ≤ Z.edges
  pub joints_le : X.joints ≤ Z.joints
  pub journal_le : X.journal ≤ Z.journal
  pub members_wf : Wf T.members 0 (4 * Z.slots) X.slots X.islands
  pub freed_wf : Wf T.freed 0 (4 * Z.islands) X.islands 1
  pub contacts_wf : Wf T.contacts 0 (4 * Z.edges) X.edges X.islands
  pub joints_wf : Wf T.joints 0 (4 * Z.joints) X.joints X.islands
  pub spare_wf : Wf T.spare 0 (4 * Z.joints) X.joints 1
  pub scan_wf : Wf T.scan 0 (4 * Z.islands) X.islands 1
  pub slot : (s : ℕ) → s < X.slots → SlotAt Z T s
  pub island : (i : ℕ) → i < X.islands → LooseAt Z T i
  pub seen : (i : ℕ) → i < X.islands → SeenAt Z T i
  pub edge : (e : ℕ) → e < X.edges → EdgeAt Z T e
  pub joint : (p : ℕ) → p < X.joints → JointAt Z T p
  pub distinct : Distinct (joints_in Z T).home T.keys X.joints
  pub head : HeadRule (get_or T.head 5 0) (get_or T.head 6 0) (get_or T.head 8 0) ((scan_in Z T).count 0)

pub record Loosely (Z : Sizes) (t : List ℕ) : Type 0 where
  pub long : length t ≡ total Z
  pub loose : Loose Z (extents (tables Z t)) (tables Z t)

-- every island that is not free has a body
abbrev pub Peopled : (Z : Sizes) (X : Extents) (T : Tables) → Type 0
Peopled Z X T = (i : ℕ) → i < X.islands → (freed_in Z T).home i ≡ none → 0 < (members_in Z T).count i

-- the tables came to t', and hold what f makes of the state of t
pub record Moves (Z : Sizes) (f : World → World) (t t' : List ℕ) : Type 0 where
  pub sound : Loosely Z t'
  pub after : world_of Z t' ≡ f (world_of Z t)
  pub frame : SameBehind Z (extents (tables Z t')) (tables Z t) (tables Z t')
  pub larger : Larger (extents (tables Z t)) (extents (tables Z t'))

-- at most one entry of the list i went, and the first p are as they were
pub record EntryLeft (S S' : View) (i p : ℕ) : Type 0 where
  pub below : (q : ℕ) → q < p → get_or (list_of S' i) q 0 ≡ get_or (list_of S i) q 0
  pub few : S.count i ≤ S'.count i + 1

-- the contact link e went, by swap removal
pub record ContactGone (Z : Sizes) (e : ℕ) (t t' : List ℕ) : Type 0 where
  pub moves : Moves Z (contact_removed ((contacts_in Z (tables Z t)).home e) ((contacts_in Z (tables Z t)).place e)) t t'
  pub steps : Sound Z t → Steps Z (contact_remove ((contacts_in Z (tables Z t)).home e) ((contacts_in Z (tables Z t)).place e)) t t'
  pub stays : Stays (tables Z t) (tables Z t')
  pub joints : JointsStay (tables Z t) (tables Z t')
  pub left : EntryLeft (contacts_in Z (tables Z t)) (contacts_in Z (tables Z t')) ((contacts_in Z (tables Z t)).home e) ((contacts_in Z (tables Z t)).place e)

-- the joint link at the place p went, and its place of the key table is free
pub record JointGone (Z : Sizes) (p : ℕ) (t t' : List ℕ) : Type 0 where
  pub moves : Moves Z (joint_removed ((joints_in Z (tables Z t)).home p) ((joints_in Z (tables Z t)).place p)) t t'
  pub taken : Sound Z t → JointTaken Z ((joints_in Z (tables Z t)).home p) ((joints_in Z (tables Z t)).place p) t t'
  pub stays : Stays (tables Z t) (tables Z t')
  pub contacts : ContactsStay (tables Z t) (tables Z t')
  pub left : EntryLeft (joints_in Z (tables Z t)) (joints_in Z (tables Z t')) ((joints_in Z (tables Z t)).home p) ((joints_in Z (tables Z t)).place p)

-- the bodies of the slots in use, and where they are, as before
pub record BodiesStay (Z : Sizes) (T U : Tables) : Type 0 where
  pub slots_in_use : (extents U).slots ≡ (extents T).slots
  pub slots : U.slots ≡ T.slots
  pub home : (s : ℕ) → s < (extents T).slots → (members_in Z U).home s ≡ (members_in Z T).home s
  pub place : (s : ℕ) → s < (extents T).slots → (members_in Z U).place s ≡ (members_in Z T).place s
  pub count : (i : ℕ) → i < (extents T).islands → (members_in Z U).count i ≡ (members_in Z T).count i
  pub body_list : (i : ℕ) → i < (extents T).islands → list_of (members_in Z U) i ≡ list_of (members_in Z T) i

-- the numbers that were in use are free, or not, as before, and those that came into use are free
pub record NumbersStay (Z : Sizes) (T U : Tables) : Type 0 where
  pub freed : (j : ℕ) → j < (extents T).islands → (freed_in Z U).home j ≡ (freed_in Z T).home j
  pub sleeping : (j : ℕ) → j < (extents T).islands → get_or U.rows (3 * j + 2) 0 ≡ get_or T.rows (3 * j + 2) 0
  pub new : (j : ℕ) → j < (extents U).islands → (freed_in Z U).home j ≡ none → j < (extents T).islands

-- one more number is in use, freed
pub record IslandMore (Z : Sizes) (t t' : List ℕ) : Type 0 where
  pub moves : Moves Z one_island t t'
  pub steps : Sound Z t → Steps Z grow_island t t'
  pub stays : BodiesStay Z (tables Z t) (tables Z t')
  pub numbers : NumbersStay Z (tables Z t) (tables Z t')

-- a number is free
pub record MadeReady (Z : Sizes) (t t' : List ℕ) : Type 0 where
  pub moves : Moves Z readied t t'
  pub steps : Sound Z t → Steps Z ready t t'
  pub stays : BodiesStay Z (tables Z t) (tables Z t')
  pub numbers : NumbersStay Z (tables Z t) (tables Z t')
