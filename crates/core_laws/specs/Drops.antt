-- What it is that links of an island went: the step, how many are left, and the tables that are as they were.
use Rattle.std.specs.Prelude.{◌≡◌, List, ℕ, ◌+◌}
use Rattle.def_kinds.specs.declared.Sizes.{Sizes}
use Rattle.table_meaning.specs.Layout.{Tables, tables, contacts_in, joints_in}
use Rattle.core_laws.specs.Steps.{Steps, drop_contact, drop_contacts, drop_joint, drop_joints}

-- the tables that links are no part of
pub record Stays (T U : Tables) : Type 0 where
  pub head : U.head ≡ T.head
  pub slots : U.slots ≡ T.slots
  pub members : U.members ≡ T.members
  pub rows : U.rows ≡ T.rows
  pub freed : U.freed ≡ T.freed
  pub journal : U.journal ≡ T.journal
  pub scan : U.scan ≡ T.scan
  pub fit : U.fit ≡ T.fit

-- the tables of contact links, and those of joint links
pub record ContactsStay (T U : Tables) : Type 0 where
  pub contacts : U.contacts ≡ T.contacts
  pub touches : U.touches ≡ T.touches

pub record JointsStay (T U : Tables) : Type 0 where
  pub joints : U.joints ≡ T.joints
  pub keys : U.keys ≡ T.keys
  pub spare : U.spare ≡ T.spare

module _ (Z : Sizes) (i : ℕ) (t t' : List ℕ) where
  -- the last contact link of the island i went
  pub record Dropped : Type 0 where
    pub steps : Steps Z (drop_contact i) t t'
    pub fewer : (contacts_in Z (tables Z t')).count i + 1 ≡ (contacts_in Z (tables Z t)).count i
    pub stays : Stays (tables Z t) (tables Z t')
    pub joints : JointsStay (tables Z t) (tables Z t')

  -- all of them
  pub record Cleared : Type 0 where
    pub steps : Steps Z (drop_contacts i) t t'
    pub none : (contacts_in Z (tables Z t')).count i ≡ 0
    pub stays : Stays (tables Z t) (tables Z t')
    pub joints : JointsStay (tables Z t) (tables Z t')

  -- the last joint link of the island i went
  pub record JointDropped : Type 0 where
    pub steps : Steps Z (drop_joint i) t t'
    pub fewer : (joints_in Z (tables Z t')).count i + 1 ≡ (joints_in Z (tables Z t)).count i
    pub stays : Stays (tables Z t) (tables Z t')
    pub contacts : ContactsStay (tables Z t) (tables Z t')

  -- all of them
  pub record JointsCleared : Type 0 where
    pub steps : Steps Z (drop_joints i) t t'
    pub none : (joints_in Z (tables Z t')).count i ≡ 0
    pub stays : Stays (tables Z t) (tables Z t')
    pub contacts : ContactsStay (tables Z t) (tables Z t')
