-- The state that the tables hold.
use Rattle.std.specs.Prelude.{Bool, true, false, List, [], ◌∷◌, ◌++◌, map, ℕ, zero, suc, ◌+◌, ◌*◌, get_or, eqb}
use Rattle.std.proofs.Math.Option.{Option, none, some}
use Rattle.list_in_table.specs.Rules.{list_of}
use Rattle.def_kinds.specs.Choice.{pick}
use Rattle.def_kinds.specs.declared.Sizes.{Sizes}
use Rattle.def_state.specs.World.{Handle, Body, Key, impulse, chain, ContactLink, JointLink, Island, Removal, Observed, World}
use Rattle.table_meaning.specs.Layout.{Tables, tables, Extents, extents, members_in, contacts_in, joints_in, freed_in, spare_in, scan_in}

-- the list of f 0, f 1, .. of n elements
unfoldable pub tabulate : {A : Type 0} → ℕ → (ℕ → A) → List A
tabulate zero f = []
tabulate (suc n) f = tabulate n f ++ (f n ∷ [])

-- a flag's word, and the flag that it is
abbrev pub bit_of : Bool → ℕ
bit_of true = 1
bit_of false = 0

abbrev pub flag : ℕ → Bool
flag x = eqb x 1

-- the handle in the two words at j
abbrev pub handle_at : List ℕ → ℕ → Handle
handle_at x j = record { slot = get_or x j 0; generation = get_or x (j + 1) 0 }

abbrev pub body_at : List ℕ → ℕ → Body
body_at x s =
    record {
      generation = get_or x (5 * s) 0;
      lowest = get_or x (5 * s + 1) 0;
      fixed = flag (get_or x (5 * s + 2) 0);
      enabled = flag (get_or x (5 * s + 3) 0);
      sleeping = flag (get_or x (5 * s + 4) 0);
    }

abbrev pub contact_at : List ℕ → ℕ → ContactLink
contact_at x e = record { edge_id = e; body1 = handle_at x (4 * e); body2 = handle_at x (4 * e + 2) }

abbrev pub key_of : ℕ → ℕ → ℕ → ℕ → Key
key_of kind a b c = pick (eqb kind 0) (impulse a b) (chain a b c)

abbrev pub joint_at : List ℕ → ℕ → JointLink
joint_at x p =
    record {
      place = p;
      key = key_of (get_or x (8 * p) 0) (get_or x (8 * p + 1) 0) (get_or x (8 * p + 2) 0) (get_or x (8 * p + 3) 0);
      body1 = handle_at x (8 * p + 4);
      body2 = handle_at x (8 * p + 6);
    }

abbrev pub removal_at : List ℕ → ℕ → Removal
removal_at x j = record { body1 = handle_at x (4 * j); body2 = handle_at x (4 * j + 2) }

abbrev pub observed_at : List ℕ → ℕ → Observed
observed_at x i = record { island = i; eligible = flag (get_or x i 0) }

abbrev pub island_in : Sizes → Tables → ℕ → Island
island_in Z T i =
    record {
      bodies = list_of (members_in Z T) i;
      contact_links = map (contact_at T.touches) (list_of (contacts_in Z T) i);
      joint_links = map (joint_at T.keys) (list_of (joints_in Z T) i);
      constraint_remove_count = get_or T.rows (3 * i) 0;
      split_denied_until = get_or T.rows (3 * i + 1) 0;
      sleeping = flag (get_or T.rows (3 * i + 2) 0);
    }

abbrev pub pending : ℕ → ℕ → Option ℕ
pending f i = pick (eqb f 1) (some i) none

abbrev pub decode : Sizes → Extents → Tables → World
decode Z X T =
    record {
      bodies = tabulate X.slots (body_at T.slots);
      islands = tabulate X.islands (island_in Z T);
      free_islands = list_of (freed_in Z T) 0;
      tracked = X.edges;
      joint_places = X.joints;
      free_places = list_of (spare_in Z T) 0;
      removal_journal = tabulate X.journal (removal_at T.journal);
      split_island = pending (get_or T.head 5 0) (get_or T.head 6 0);
      sleep_scan_stamp = get_or T.head 7 0;
      scanning = flag (get_or T.head 8 0);
      sleep_scan_touched = map (observed_at T.fit) (list_of (scan_in Z T) 0);
    }

unfoldable pub world_of : Sizes → List ℕ → World
world_of Z t = decode Z (extents (tables Z t)) (tables Z t)
