-- A link or a body of an island goes to another island, by swap removal; a number is taken for a new island; the place of a body, in the words of the tables.
use Rattle.std.specs.Prelude.{◌≡◌, ◌≢◌, Bool, List, ℕ, ◌+◌, ◌*◌, ◌<◌, get_or, eqb, ltb}
use Rattle.list_in_table.specs.Rules.{none}
use Rattle.def_kinds.specs.Choice.{pick}
use Rattle.def_kinds.specs.declared.Sizes.{Sizes}
use Rattle.def_state.specs.Plain.{top}
use Rattle.def_state.specs.World.{Handle, absent_contact, World, island_at}
use Rattle.def_state.specs.Fields.{island_set}
use Rattle.def_state.specs.Membership.{new_number, alloc_island}
use Rattle.def_state.specs.Links.{contact_pushed, contact_removed}
use Rattle.def_state.specs.Split.{new_island, joint_moved, body_moved}
use Rattle.table_meaning.specs.Layout.{Tables, tables, extents, members_in, contacts_in, joints_in, freed_in}
use Rattle.table_meaning.specs.Decode.{world_of, flag}
use Rattle.core_laws.specs.Drops.{Stays, ContactsStay, JointsStay}
use Rattle.core_laws.specs.Loose.{OpenAt, Loosely, Moves, EntryLeft, BodiesStay}

-- the contact link at place p of the island base goes to the island to
unfoldable pub contact_moved : ℕ → ℕ → ℕ → World → World
contact_moved base to p w = contact_pushed to (get_or (island_at w base).contact_links p absent_contact) (contact_removed base p w)

-- a new island with no body yet (Split new_islands, once)
unfoldable pub reserved : Bool → World → World
reserved z w = island_set (alloc_island w) (new_number w) (new_island z)

-- node_of, by the words: the place of the body that the handle names in the island i, or none
unfoldable pub node_at : Sizes → Tables → ℕ → Handle → ℕ
node_at Z T i h =
    pick (ltb h.slot (extents T).slots)
    (pick (eqb h.generation top) top
    (pick (eqb (get_or T.slots (5 * h.slot) 0) h.generation) (pick (eqb ((members_in Z T).home h.slot) i) ((members_in Z T).place h.slot) top) top))
    top

module _ (Z : Sizes) (to : ℕ) (t t' : List ℕ) where
  -- the contact link e went to the island to
  pub record ContactMoved (e : ℕ) : Type 0 where
    pub moves : Moves Z (contact_moved ((contacts_in Z (tables Z t)).home e) to ((contacts_in Z (tables Z t)).place e)) t t'
    pub stays : Stays (tables Z t) (tables Z t')
    pub joints : JointsStay (tables Z t) (tables Z t')
    pub left : EntryLeft (contacts_in Z (tables Z t)) (contacts_in Z (tables Z t')) ((contacts_in Z (tables Z t)).home e) ((contacts_in Z (tables Z t)).place e)

  -- the joint link at the place p of the key table
  pub record JointMoved (p : ℕ) : Type 0 where
    pub moves : Moves Z (joint_moved ((joints_in Z (tables Z t)).home p) to ((joints_in Z (tables Z t)).place p)) t t'
    pub stays : Stays (tables Z t) (tables Z t')
    pub contacts : ContactsStay (tables Z t) (tables Z t')
    pub left : EntryLeft (joints_in Z (tables Z t)) (joints_in Z (tables Z t')) ((joints_in Z (tables Z t)).home p) ((joints_in Z (tables Z t)).place p)

  -- the body in slot s
  pub record BodyMoved (s : ℕ) : Type 0 where
    pub moves : Moves Z (body_moved ((members_in Z (tables Z t)).home s) to ((members_in Z (tables Z t)).place s)) t t'
    pub head : (tables Z t').head ≡ (tables Z t).head
    pub rows : (tables Z t').rows ≡ (tables Z t).rows
    pub freed : (tables Z t').freed ≡ (tables Z t).freed
    pub left : EntryLeft (members_in Z (tables Z t)) (members_in Z (tables Z t')) ((members_in Z (tables Z t)).home s) ((members_in Z (tables Z t)).place s)
    pub fewer : (members_in Z (tables Z t')).count ((members_in Z (tables Z t)).home s) + 1 ≡ (members_in Z (tables Z t)).count ((members_in Z (tables Z t)).home s)
    pub more : (members_in Z (tables Z t')).count to ≡ (members_in Z (tables Z t)).count to + 1
    pub other : (j : ℕ) → j < (extents (tables Z t)).islands → j ≢ (members_in Z (tables Z t)).home s → j ≢ to → (members_in Z (tables Z t')).count j ≡ (members_in Z (tables Z t)).count j

-- where it goes: an island that is not free, and not its own
module _ (Z : Sizes) (to : ℕ) (t : List ℕ) where
  pub record ContactGoes (e : ℕ) : Type 0 where
    pub loose : Loosely Z t
    pub edge_lt : e < (extents (tables Z t)).edges
    pub linked : (contacts_in Z (tables Z t)).home e ≢ none
    pub to_lt : to < (extents (tables Z t)).islands
    pub to_open : OpenAt Z (tables Z t) to
    pub away : to ≢ (contacts_in Z (tables Z t)).home e

  pub record JointGoes (p : ℕ) : Type 0 where
    pub loose : Loosely Z t
    pub place_lt : p < (extents (tables Z t)).joints
    pub linked : (joints_in Z (tables Z t)).home p ≢ none
    pub to_lt : to < (extents (tables Z t)).islands
    pub to_open : OpenAt Z (tables Z t) to
    pub away : to ≢ (joints_in Z (tables Z t)).home p

  pub record BodyGoes (s : ℕ) : Type 0 where
    pub loose : Loosely Z t
    pub slot_lt : s < (extents (tables Z t)).slots
    pub listed : (members_in Z (tables Z t)).home s ≢ none
    pub to_lt : to < (extents (tables Z t)).islands
    pub to_open : OpenAt Z (tables Z t) to
    pub away : to ≢ (members_in Z (tables Z t)).home s

-- the number r was taken; asleep is its sleeping word
pub record NumberTaken (Z : Sizes) (asleep r : ℕ) (t t' : List ℕ) : Type 0 where
  pub moves : Moves Z (reserved (flag asleep)) t t'
  pub number : r ≡ new_number (world_of Z t)
  pub stays : BodiesStay Z (tables Z t) (tables Z t')
  pub lt : r < (extents (tables Z t')).islands
  pub opens : OpenAt Z (tables Z t') r
  pub no_body : (members_in Z (tables Z t')).count r ≡ 0
  -- it was free, or not in use
  pub new : (j : ℕ) → j < (extents (tables Z t)).islands → (freed_in Z (tables Z t)).home j ≡ none → j ≢ r
  pub still_open : (j : ℕ) → j < (extents (tables Z t)).islands → OpenAt Z (tables Z t) j → OpenAt Z (tables Z t') j
  -- a number that is not free after it was not free before, or is r
  pub was_open : (j : ℕ) → j < (extents (tables Z t')).islands → (freed_in Z (tables Z t')).home j ≡ none → j ≢ r → (j < (extents (tables Z t)).islands) × ((freed_in Z (tables Z t)).home j ≡ none)
