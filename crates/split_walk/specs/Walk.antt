-- The walks of a split, from the highest place down: one step of each (Split contacts_leave, joints_leave, bodies_leave), and what they ask.
use Rattle.std.specs.Prelude.{◌≡◌, List, ℕ, ◌<◌, length, get_or, eqb}
use Rattle.list_in_table.specs.Rules.{none}
use Rattle.def_kinds.specs.Choice.{pick}
use Rattle.def_kinds.specs.declared.Handle.{Handle as Named}
use Rattle.def_kinds.specs.declared.Sizes.{Sizes}
use Rattle.def_state.specs.Plain.{top}
use Rattle.def_state.specs.World.{Handle, absent_contact, absent_joint, World, island_at}
use Rattle.def_state.specs.Links.{contact_removed, joint_removed}
use Rattle.def_state.specs.Split.{link_goal, joint_moved, body_moved, contacts_leave, joints_leave, bodies_leave}
use Rattle.table_meaning.specs.Layout.{tables, extents, members_in, contacts_in, joints_in, freed_in}
use Rattle.core_laws.specs.Drops.{Stays, ContactsStay, JointsStay}
use Rattle.core_laws.specs.Steps.{handle}
use Rattle.core_laws.specs.Loose.{OpenAt, Loosely, Peopled, Moves, EntryLeft}
use Rattle.split_move.specs.Shift.{contact_moved, node_at}

-- where the body at each place goes
abbrev pub goes : List ℕ → ℕ → ℕ
goes goals n = get_or goals n 0

-- where a link between these two bodies goes, or none
abbrev pub goal_of : Sizes → List ℕ → ℕ → List ℕ → Named → Named → ℕ
goal_of Z t base goals first second =
    link_goal (goes goals) (node_at Z (tables Z t) base (handle first.slot.0 first.generation)) (node_at Z (tables Z t) base (handle second.slot.0 second.generation))

unfoldable pub contact_leaves : (Handle → ℕ) → (ℕ → ℕ) → ℕ → ℕ → World → World
contact_leaves node g base p w =
    let l = get_or (island_at w base).contact_links p absent_contact in
    let to = link_goal g (node l.body1) (node l.body2) in
    pick (eqb to base) w (pick (eqb to top) (contact_removed base p w) (contact_moved base to p w))

unfoldable pub joint_leaves : (Handle → ℕ) → (ℕ → ℕ) → ℕ → ℕ → World → World
joint_leaves node g base p w =
    let l = get_or (island_at w base).joint_links p absent_joint in
    let to = link_goal g (node l.body1) (node l.body2) in
    pick (eqb to base) w (pick (eqb to top) (joint_removed base p w) (joint_moved base to p w))

unfoldable pub body_leaves : (ℕ → ℕ) → ℕ → ℕ → World → World
body_leaves g base p w = pick (eqb (g p) base) w (body_moved base (g p) p w)

-- the goal of each place of the island base is a number that is not free
pub record Goals (Z : Sizes) (base : ℕ) (goals t : List ℕ) : Type 0 where
  pub loose : Loosely Z t
  pub base_lt : base < (extents (tables Z t)).islands
  pub long : length goals ≡ (members_in Z (tables Z t)).count base
  pub lt : (n : ℕ) → n < length goals → get_or goals n 0 < (extents (tables Z t)).islands
  pub opens : (n : ℕ) → n < length goals → OpenAt Z (tables Z t) (get_or goals n 0)

-- where the link e goes, of those that are left in the list of base
pub record ContactAt (Z : Sizes) (base e : ℕ) (t : List ℕ) : Type 0 where
  pub edge_lt : e < (extents (tables Z t)).edges
  pub home : (contacts_in Z (tables Z t)).home e ≡ base

pub record JointIn (Z : Sizes) (base p : ℕ) (t : List ℕ) : Type 0 where
  pub place_lt : p < (extents (tables Z t)).joints
  pub home : (joints_in Z (tables Z t)).home p ≡ base

pub record BodyIn (Z : Sizes) (base s : ℕ) (t : List ℕ) : Type 0 where
  pub slot_lt : s < (extents (tables Z t)).slots
  pub home : (members_in Z (tables Z t)).home s ≡ base

module _ (Z : Sizes) (base : ℕ) (goals t t' : List ℕ) where
  -- the contact link e went where it goes
  pub record ContactLeft (e : ℕ) : Type 0 where
    pub moves : Moves Z (contact_leaves (node_at Z (tables Z t) base) (goes goals) base ((contacts_in Z (tables Z t)).place e)) t t'
    pub stays : Stays (tables Z t) (tables Z t')
    pub joints : JointsStay (tables Z t) (tables Z t')
    pub left : EntryLeft (contacts_in Z (tables Z t)) (contacts_in Z (tables Z t')) base ((contacts_in Z (tables Z t)).place e)

  pub record JointLeft (p : ℕ) : Type 0 where
    pub moves : Moves Z (joint_leaves (node_at Z (tables Z t) base) (goes goals) base ((joints_in Z (tables Z t)).place p)) t t'
    pub stays : Stays (tables Z t) (tables Z t')
    pub contacts : ContactsStay (tables Z t) (tables Z t')
    pub left : EntryLeft (joints_in Z (tables Z t)) (joints_in Z (tables Z t')) base ((joints_in Z (tables Z t)).place p)

  -- all of them did
  pub record ContactsLeft : Type 0 where
    pub moves : Moves Z (contacts_leave (node_at Z (tables Z t) base) (goes goals) base ((contacts_in Z (tables Z t)).count base)) t t'
    pub stays : Stays (tables Z t) (tables Z t')
    pub joints : JointsStay (tables Z t) (tables Z t')

  pub record JointsLeft : Type 0 where
    pub moves : Moves Z (joints_leave (node_at Z (tables Z t) base) (goes goals) base ((joints_in Z (tables Z t)).count base)) t t'
    pub stays : Stays (tables Z t) (tables Z t')

  pub record BodiesLeft : Type 0 where
    pub moves : Moves Z (bodies_leave (goes goals) base ((members_in Z (tables Z t)).count base)) t t'
    pub peopled : Peopled Z (extents (tables Z t')) (tables Z t')
    pub base_some : 0 < (members_in Z (tables Z t')).count base

-- a place whose body goes to i
pub record GoalOf (goals : List ℕ) (i : ℕ) : Type 0 where
  pub place : ℕ
  pub place_lt : place < length goals
  pub goal_is : get_or goals place 0 ≡ i

-- a number that is not free has a body, or gets one; the body at the place keep stays
pub record KeepStays (Z : Sizes) (base keep : ℕ) (goals t : List ℕ) : Type 0 where
  pub goals_are : Goals Z base goals t
  pub keep_lt : keep < length goals
  pub keep_stays : get_or goals keep 0 ≡ base
  pub gets : (i : ℕ) → i < (extents (tables Z t)).islands → (freed_in Z (tables Z t)).home i ≡ none → (members_in Z (tables Z t)).count i ≡ 0 → GoalOf goals i
