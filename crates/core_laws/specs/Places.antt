-- Joint places: which one has a key; one more place; and what it is that a link was taken out.
use Rattle.std.specs.Prelude.{◌≡◌, ◌⊎◌, ◌≢◌, List, [], ◌∷◌, ◌++◌, ℕ, ◌+◌, ◌*◌, ◌<◌, get_or}
use Rattle.list_in_table.specs.Rules.{none}
use Rattle.def_kinds.specs.declared.JointKey.{JointKey}
use Rattle.def_kinds.specs.declared.Sizes.{Sizes}
use Rattle.def_state.specs.World.{World, Step, done}
use Rattle.def_state.specs.Fields.{places_set}
use Rattle.table_meaning.specs.Layout.{Tables, tables, extents, joints_in}
use Rattle.table_meaning.specs.Keys.{words_of}
use Rattle.core_laws.specs.Steps.{Steps}
use Rattle.core_laws.specs.Drops.{Stays, ContactsStay}
use Rattle.core_laws.specs.Linking.{joint_remove}

-- words of a key: an impulse joint's (the fourth is 0), or a chain's
abbrev pub KeyRule : (kind c : ℕ) → Type 0
KeyRule kind c = ((kind ≡ 0) × (c ≡ 0)) ⊎ (kind ≡ 1)

-- the place p has these key words
pub record HasKey (keys : List ℕ) (p kind a b c : ℕ) : Type 0 where
  pub kind_is : get_or keys (8 * p) 0 ≡ kind
  pub a_is : get_or keys (8 * p + 1) 0 ≡ a
  pub b_is : get_or keys (8 * p + 2) 0 ≡ b
  pub c_is : get_or keys (8 * p + 3) 0 ≡ c

module _ (Z : Sizes) (T : Tables) (kind a b c : ℕ) where
  -- the place p is linked, with these words
  pub record LinkedAs (p : ℕ) : Type 0 where
    pub linked : (joints_in Z T).home p ≢ none
    pub key : HasKey T.keys p kind a b c

  pub record KeyAt (p : ℕ) : Type 0 where
    pub place_lt : p < (extents T).joints
    pub keyed : LinkedAs p

  -- no linked place in use has them
  abbrev pub Unlinked : Type 0
  Unlinked = (p : ℕ) → p < (extents T).joints → LinkedAs p → ⊥

-- the place p, in use, is linked with this key
abbrev pub PlaceHas : (Z : Sizes) (T : Tables) (key : JointKey) (p : ℕ) → Type 0
PlaceHas Z T key p = KeyAt Z T (words_of key).kind (words_of key).first (words_of key).second (words_of key).third p

-- no linked place in use has this key
abbrev pub NoPlaceHas : (Z : Sizes) (T : Tables) (key : JointKey) → Type 0
NoPlaceHas Z T key = Unlinked Z T (words_of key).kind (words_of key).first (words_of key).second (words_of key).third

-- the next place of the key table comes into use, free
unfoldable pub one_place : World → World
one_place w = places_set w (w.joint_places + 1) (w.free_places ++ (w.joint_places ∷ []))

unfoldable pub grow_place : World → Step
grow_place w = done (one_place w)

-- the link at place l of the island i went, and its place of the key table is free
pub record JointTaken (Z : Sizes) (i l : ℕ) (t t' : List ℕ) : Type 0 where
  pub steps : Steps Z (joint_remove i l) t t'
  pub fewer : (joints_in Z (tables Z t')).count i + 1 ≡ (joints_in Z (tables Z t)).count i
  pub stays : Stays (tables Z t) (tables Z t')
  pub contacts : ContactsStay (tables Z t) (tables Z t')
