-- A forest over the places below n: p gives a place's parent, which of a root is the root itself, and z the size of a root's tree.
use Rattle.std.specs.Prelude.{◌≡◌, ◌≢◌, Bool, ℕ, zero, suc, ◌^◌, ◌≤◌, ◌<◌, List, ◌∷◌, length, get_or, set, eqb}
use Rattle.list_in_table.specs.Rules.{none, Is}
use Rattle.def_state.specs.Connected.{Joined, tally}
use Rattle.split_forest.specs.Groups.{Groups}

abbrev pub at : List ℕ → ℕ → ℕ
at xs i = get_or xs i 0

-- the place k steps to a parent above i
unfoldable pub climb : (ℕ → ℕ) → ℕ → ℕ → ℕ
climb p zero i = i
climb p (suc k) i = climb p k (p i)

-- the root of i: no tree is higher than 12
unfoldable pub root_of : (ℕ → ℕ) → ℕ → ℕ
root_of p i = climb p 12 i

-- how many of the places below n have the name r
unfoldable pub members : (ℕ → ℕ) → ℕ → ℕ → ℕ
members f n r = tally (λ i. eqb (f i) r) n

-- some number of steps leads from i to a root, whose size is at least 2 to that number
pub record Tall (p z : ℕ → ℕ) (i : ℕ) : Type 0 where
  pub steps : ℕ
  pub top : p (climb p steps i) ≡ climb p steps i
  pub wide : 2 ^ steps ≤ z (climb p steps i)

pub record Forest (n : ℕ) (p z : ℕ → ℕ) : Type 0 where
  pub n_small : n ≤ 4096
  pub within : (i : ℕ) → i < n → p i < n
  pub tall : (i : ℕ) → i < n → Tall p z i
  pub counted : (r : ℕ) → r < n → p r ≡ r → z r ≡ members (root_of p) n r

-- the forest stands, and its roots name the groups that the links ls make
pub record ForestStands (n : ℕ) (p z : ℕ → ℕ) (ls : List (ℕ × ℕ)) : Type 0 where
  pub forest : Forest n p z
  pub groups : Groups ls n (root_of p)

-- a forest in two slices
pub record Wood (parent size : List ℕ) : Type 0 where
  pub forest : Forest (length parent) (at parent) (at size)
  pub as_long : length size ≡ length parent

-- what a walk from i asks: parents, and i, within the list
pub record RootReady (parent : List ℕ) (i : ℕ) : Type 0 where
  pub within : (j : ℕ) → j < length parent → at parent j < length parent
  pub place_lt : i < length parent

-- r is the root of i, and i then hangs under it
pub record Lifted (xs zs : List ℕ) (i r : ℕ) : Type 0 where
  pub found : r ≡ climb (at xs) 12 i
  pub under : zs ≡ set xs i r

pub record JoinReady (parent size : List ℕ) (a b : ℕ) : Type 0 where
  pub wood : Wood parent size
  pub a_lt : a < length parent
  pub b_lt : b < length parent

-- p before, q and y after a join of a and b, which said r: were they apart
pub record JoinDone (n : ℕ) (p q y : ℕ → ℕ) (a b : ℕ) (r : Bool) : Type 0 where
  pub forest : Forest n q y
  pub groups : (ls : List (ℕ × ℕ)) → Groups ls n (root_of p) → Groups ((a, b) ∷ ls) n (root_of q)
  pub apart : (ls : List (ℕ × ℕ)) → Groups ls n (root_of p) → Is r (Joined ls a b → ⊥)

-- r is what stands at j, or k where none stands there, which is then put there
pub record Led (xs zs : List ℕ) (j k r : ℕ) : Type 0 where
  pub new : at xs j ≡ none → (zs ≡ set xs j k) × (r ≡ k)
  pub old : at xs j ≢ none → (zs ≡ xs) × (r ≡ at xs j)

pub record NameReady (parent first labels : List ℕ) : Type 0 where
  pub n_small : length parent ≤ 4096
  pub within : (j : ℕ) → j < length parent → at parent j < length parent
  pub first_long : length first ≡ length parent
  pub labels_long : length labels ≡ length parent
