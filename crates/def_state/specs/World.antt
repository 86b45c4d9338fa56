-- The state that the calls are about. The names are those of persistent.rs, with hyphens.
-- What has no counterpart there: the body table (`bodies`), and the places of the flat key table that stands for the Rust's hash map.
use Rattle.std.specs.Prelude.{Bool, false, not, List, [], ℕ, zero, suc, length, get_or, eqb}
use Rattle.std.proofs.Math.Option.{Option, none}
use Rattle.def_kinds.specs.Choice.{pick}
use Rattle.def_kinds.specs.Answers.{Answer, Done}
use Rattle.def_state.specs.Plain.{top, has}

-- RigidBodyHandle
pub record Handle : Type 0 where
  pub slot : ℕ
  pub generation : ℕ

-- a body slot. Its generation is top where it holds no live body; lowest is the lowest generation allowed next
pub record Body : Type 0 where
  pub generation : ℕ
  pub lowest : ℕ
  pub fixed : Bool
  pub enabled : Bool
  pub sleeping : Bool

-- JointLinkKey. A multibody's 64 bits are its high and low 32
pub data Key : Type 0 where
  impulse : (index generation : ℕ) → Key
  chain : (high low ordinal : ℕ) → Key

pub record ContactLink : Type 0 where
  pub edge_id : ℕ
  pub body1 : Handle
  pub body2 : Handle

-- place: where the flat key table keeps it
pub record JointLink : Type 0 where
  pub place : ℕ
  pub key : Key
  pub body1 : Handle
  pub body2 : Handle

-- PersistentIsland. Its bodies are their slots: a listed body is live, so its generation is its slot's. It is live exactly if it has a body
pub record Island : Type 0 where
  pub bodies : List ℕ
  pub contact_links : List ContactLink
  pub joint_links : List JointLink
  pub constraint_remove_count : ℕ
  pub split_denied_until : ℕ
  pub sleeping : Bool

pub record Removal : Type 0 where
  pub body1 : Handle
  pub body2 : Handle

-- an island that was observed in the scan, and whether all observations of it were eligible
pub record Observed : Type 0 where
  pub island : ℕ
  pub eligible : Bool

pub record World : Type 0 where
  -- by slot, up to the highest that was ever put
  pub bodies : List Body
  -- by number, up to the next never used one
  pub islands : List Island
  -- a stack, its top last
  pub free_islands : List ℕ
  -- the length of contact_link_locs
  pub tracked : ℕ
  -- how many places of the key table were ever used, and the stack of those that are free
  pub joint_places : ℕ
  pub free_places : List ℕ
  pub removal_journal : List Removal
  pub split_island : Option ℕ
  pub sleep_scan_stamp : ℕ
  pub scanning : Bool
  pub sleep_scan_touched : List Observed

abbrev pub absent : Handle
absent = record { slot = top; generation = top }

abbrev pub absent_body : Body
absent_body = record { generation = top; lowest = 0; fixed = false; enabled = false; sleeping = false }

-- PersistentIsland::default
abbrev pub absent_island : Island
absent_island = record { bodies = []; contact_links = []; joint_links = []; constraint_remove_count = 0; split_denied_until = 0; sleeping = false }

abbrev pub absent_contact : ContactLink
absent_contact = record { edge_id = top; body1 = absent; body2 = absent }

abbrev pub absent_joint : JointLink
absent_joint = record { place = top; key = impulse 0 0; body1 = absent; body2 = absent }

-- after reset
abbrev pub empty_world : World
empty_world =
    record {
      bodies = [];
      islands = [];
      free_islands = [];
      tracked = 0;
      joint_places = 0;
      free_places = [];
      removal_journal = [];
      split_island = none;
      sleep_scan_stamp = 0;
      scanning = false;
      sleep_scan_touched = [];
    }

-- what a call answers, and the state after it
pub record Step : Type 0 where
  pub answer : Answer
  pub after : World

abbrev pub done : World → Step
done w = record { answer = Done; after = w }

abbrev pub gives : Answer → World → Step
gives r w = record { answer = r; after = w }

-- ---- what the state says of a handle, a body, an island

-- the body in slot s; a slot that was never put holds none
abbrev pub body_of : World → ℕ → Body
body_of w s = get_or w.bodies s absent_body

abbrev pub island_at : World → ℕ → Island
island_at w i = get_or w.islands i absent_island

-- the handle names a live body (RigidBodySet::get)
unfoldable pub named : World → Handle → Bool
named w h = pick (eqb h.generation top) false (eqb (body_of w h.slot).generation h.generation)

-- an island below k that lists the slot s, or top
unfoldable pub island_below : List Island → ℕ → ℕ → ℕ
island_below is s zero = top
island_below is s (suc k) = pick (has (get_or is k absent_island).bodies s) k (island_below is s k)

-- the island that lists the slot s, or top (the Rust's ids.island_id, INVALID_ISLAND for none)
unfoldable pub island_of : World → ℕ → ℕ
island_of w s = island_below w.islands s (length w.islands)

-- body_island: top for none
unfoldable pub body_island : World → Handle → ℕ
body_island w h = pick (named w h) (island_of w h.slot) top

unfoldable pub live : World → ℕ → Bool
live w i = not (eqb (length (island_at w i).bodies) 0)
