-- What is true of every state that sound tables hold, as far as it is needed here.
use Rattle.std.specs.Prelude.{◌≡◌, ◌≢◌, [], ℕ, ◌≤◌, ◌<◌, length, get_or}
use Rattle.def_state.specs.Plain.{top}
use Rattle.def_state.specs.World.{absent_contact, absent_joint, absent_island, World, body_of, island_at}
use Rattle.theorem_split.specs.Graph.{In}

-- no slot is a body of two islands, and top is the number of none
pub record Apart (w : World) : Type 0 where
  pub small : length w.islands ≤ top
  pub once : (i j s : ℕ) → In s (island_at w i).bodies → In s (island_at w j).bodies → i ≡ j

-- the numbers in the free stack are in use, and differ
pub record Stack (w : World) : Type 0 where
  pub below : (n : ℕ) → In n w.free_islands → n < length w.islands
  pub differ : (p q : ℕ) → p < length w.free_islands → q < length w.free_islands → get_or w.free_islands p 0 ≡ get_or w.free_islands q 0 → p ≡ q

pub record Fine (w : World) : Type 0 where
  pub apart : Apart w
  pub stack : Stack w
  -- no slot is twice in one list
  pub single : (i p q : ℕ) → p < length (island_at w i).bodies → q < length (island_at w i).bodies → get_or (island_at w i).bodies p 0 ≡ get_or (island_at w i).bodies q 0
      → p ≡ q
  pub few : (i : ℕ) → length (island_at w i).bodies ≤ top
  -- a listed body is live
  pub alive : (i s : ℕ) → In s (island_at w i).bodies → (body_of w s).generation ≢ top
  -- an edge number is linked once
  pub edges : (i j p q : ℕ) → p < length (island_at w i).contact_links → q < length (island_at w j).contact_links
      → (get_or (island_at w i).contact_links p absent_contact).edge_id ≡ (get_or (island_at w j).contact_links q absent_contact).edge_id
      → (i ≡ j) × (p ≡ q)
  -- a joint's key is linked once
  pub keys : (i j p q : ℕ) → p < length (island_at w i).joint_links → q < length (island_at w j).joint_links
      → (get_or (island_at w i).joint_links p absent_joint).key ≡ (get_or (island_at w j).joint_links q absent_joint).key
      → (i ≡ j) × (p ≡ q)
  -- a free number names nothing, and a number in use that has no body is free
  pub free : (n : ℕ) → In n w.free_islands → island_at w n ≡ absent_island
  pub unused : (n : ℕ) → n < length w.islands → (island_at w n).bodies ≡ [] → In n w.free_islands
  -- a listed slot is one of the table's
  pub slots : (i s : ℕ) → In s (island_at w i).bodies → s < length w.bodies
