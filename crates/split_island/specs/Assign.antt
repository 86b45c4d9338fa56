-- Where each place of an island goes: the kept component stays, each other one gets a number when its first place is met.
use Rattle.std.specs.Prelude.{◌≡◌, Bool, List, ℕ, ◌≤◌, ◌<◌, length, get_or, eqb}
use Rattle.list_in_table.specs.Rules.{none}
use Rattle.def_kinds.specs.Choice.{pick}
use Rattle.def_kinds.specs.declared.Sizes.{Sizes}
use Rattle.def_state.specs.World.{World, island_at}
use Rattle.def_state.specs.Membership.{new_number}
use Rattle.def_state.specs.Connected.{tally}
use Rattle.def_state.specs.Split.{leads, new_islands}
use Rattle.table_meaning.specs.Layout.{tables, extents, members_in, freed_in}
use Rattle.table_meaning.specs.Decode.{world_of, flag}
use Rattle.table_meaning.specs.Sound.{Sound}
use Rattle.core_laws.specs.Lives.{Lives}
use Rattle.core_laws.specs.Loose.{OpenAt, Moves, BodiesStay}

-- the labels of an island's places, and the label that stays
pub record Labels (L : List ℕ) (keep : ℕ) : Type 0 where
  pub le : (p : ℕ) → p < length L → get_or L p 0 ≤ p
  pub own : (p : ℕ) → p < length L → get_or L (get_or L p 0) 0 ≡ get_or L p 0
  pub keep_lt : keep < length L
  pub keep_own : get_or L keep 0 ≡ keep

-- the goal of the place p: base, or the number of the new island that its component gets
unfoldable pub goal_at : List ℕ → ℕ → ℕ → Bool → World → ℕ → ℕ
goal_at L keep base z w p = pick (eqb (get_or L p 0) keep) base (new_number (new_islands (tally (leads L keep) (get_or L p 0)) z w))

pub record AssignReady (Z : Sizes) (base keep asleep : ℕ) (L goals t : List ℕ) : Type 0 where
  pub sound : Sound Z t
  pub lives : Lives Z t base
  pub labels : Labels L keep
  pub labels_long : length L ≡ (members_in Z (tables Z t)).count base
  pub goals_long : length goals ≡ length L
  pub asleep_le : asleep ≤ 1

-- a place below p whose body goes to i
pub record GoalBelow (goals : List ℕ) (p i : ℕ) : Type 0 where
  pub place : ℕ
  pub place_lt : place < p
  pub goal_is : get_or goals place 0 ≡ i

-- the places below p have their goals, and the numbers for them are taken
pub record Assigning (Z : Sizes) (base keep asleep : ℕ) (L t0 t goals : List ℕ) (p : ℕ) : Type 0 where
  pub went : Moves Z (λ w. new_islands (tally (leads L keep) p) (flag asleep) w) t0 t
  pub goals_long : length goals ≡ length L
  pub p_le : p ≤ length L
  pub goals_are : (q : ℕ) → q < p → get_or goals q 0 ≡ goal_at L keep base (flag asleep) (world_of Z t0) q
  pub stays : BodiesStay Z (tables Z t0) (tables Z t)
  pub base_same : island_at (world_of Z t) base ≡ island_at (world_of Z t0) base
  pub base_open : OpenAt Z (tables Z t) base
  pub lt : (q : ℕ) → q < p → get_or goals q 0 < (extents (tables Z t)).islands
  pub opens : (q : ℕ) → q < p → OpenAt Z (tables Z t) (get_or goals q 0)
  pub gets : (i : ℕ) → i < (extents (tables Z t)).islands → (freed_in Z (tables Z t)).home i ≡ none → (members_in Z (tables Z t)).count i ≡ 0 → GoalBelow goals p i
