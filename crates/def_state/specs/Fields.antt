-- One field set anew, of the state and of an island: what `w.field = x` is in Rust. Nothing else is said here.
use Rattle.std.specs.Prelude.{Bool, List, ℕ, set}
use Rattle.std.proofs.Math.Option.{Option}
use Rattle.def_state.specs.World.{Body, ContactLink, JointLink, Island, Removal, Observed, World}

-- ---- of the state

module _ (w : World) where
  abbrev pub bodies_set : List Body → World
  bodies_set x =
      record {
        bodies = x;
        islands = w.islands;
        free_islands = w.free_islands;
        tracked = w.tracked;
        joint_places = w.joint_places;
        free_places = w.free_places;
        removal_journal = w.removal_journal;
        split_island = w.split_island;
        sleep_scan_stamp = w.sleep_scan_stamp;
        scanning = w.scanning;
        sleep_scan_touched = w.sleep_scan_touched;
      }

  abbrev pub islands_set : List Island → World
  islands_set x =
      record {
        bodies = w.bodies;
        islands = x;
        free_islands = w.free_islands;
        tracked = w.tracked;
        joint_places = w.joint_places;
        free_places = w.free_places;
        removal_journal = w.removal_journal;
        split_island = w.split_island;
        sleep_scan_stamp = w.sleep_scan_stamp;
        scanning = w.scanning;
        sleep_scan_touched = w.sleep_scan_touched;
      }

  abbrev pub free_set : List ℕ → World
  free_set x =
      record {
        bodies = w.bodies;
        islands = w.islands;
        free_islands = x;
        tracked = w.tracked;
        joint_places = w.joint_places;
        free_places = w.free_places;
        removal_journal = w.removal_journal;
        split_island = w.split_island;
        sleep_scan_stamp = w.sleep_scan_stamp;
        scanning = w.scanning;
        sleep_scan_touched = w.sleep_scan_touched;
      }

  abbrev pub tracked_set : ℕ → World
  tracked_set x =
      record {
        bodies = w.bodies;
        islands = w.islands;
        free_islands = w.free_islands;
        tracked = x;
        joint_places = w.joint_places;
        free_places = w.free_places;
        removal_journal = w.removal_journal;
        split_island = w.split_island;
        sleep_scan_stamp = w.sleep_scan_stamp;
        scanning = w.scanning;
        sleep_scan_touched = w.sleep_scan_touched;
      }

  -- how many places of the key table, and which are free
  abbrev pub places_set : ℕ → List ℕ → World
  places_set x y =
      record {
        bodies = w.bodies;
        islands = w.islands;
        free_islands = w.free_islands;
        tracked = w.tracked;
        joint_places = x;
        free_places = y;
        removal_journal = w.removal_journal;
        split_island = w.split_island;
        sleep_scan_stamp = w.sleep_scan_stamp;
        scanning = w.scanning;
        sleep_scan_touched = w.sleep_scan_touched;
      }

  abbrev pub journal_set : List Removal → World
  journal_set x =
      record {
        bodies = w.bodies;
        islands = w.islands;
        free_islands = w.free_islands;
        tracked = w.tracked;
        joint_places = w.joint_places;
        free_places = w.free_places;
        removal_journal = x;
        split_island = w.split_island;
        sleep_scan_stamp = w.sleep_scan_stamp;
        scanning = w.scanning;
        sleep_scan_touched = w.sleep_scan_touched;
      }

  abbrev pub split_set : Option ℕ → World
  split_set x =
      record {
        bodies = w.bodies;
        islands = w.islands;
        free_islands = w.free_islands;
        tracked = w.tracked;
        joint_places = w.joint_places;
        free_places = w.free_places;
        removal_journal = w.removal_journal;
        split_island = x;
        sleep_scan_stamp = w.sleep_scan_stamp;
        scanning = w.scanning;
        sleep_scan_touched = w.sleep_scan_touched;
      }

  -- the scan: its stamp, whether it is open, and what was observed
  abbrev pub scan_set : ℕ → Bool → List Observed → World
  scan_set x y z =
      record {
        bodies = w.bodies;
        islands = w.islands;
        free_islands = w.free_islands;
        tracked = w.tracked;
        joint_places = w.joint_places;
        free_places = w.free_places;
        removal_journal = w.removal_journal;
        split_island = w.split_island;
        sleep_scan_stamp = x;
        scanning = y;
        sleep_scan_touched = z;
      }

-- the island at number i
unfoldable pub island_set : World → ℕ → Island → World
island_set w i a = islands_set w (set w.islands i a)

-- ---- of an island

abbrev pub members_set : Island → List ℕ → Island
members_set a bs =
    record {
      bodies = bs;
      contact_links = a.contact_links;
      joint_links = a.joint_links;
      constraint_remove_count = a.constraint_remove_count;
      split_denied_until = a.split_denied_until;
      sleeping = a.sleeping;
    }

abbrev pub contacts_set : Island → List ContactLink → Island
contacts_set a ls =
    record {
      bodies = a.bodies;
      contact_links = ls;
      joint_links = a.joint_links;
      constraint_remove_count = a.constraint_remove_count;
      split_denied_until = a.split_denied_until;
      sleeping = a.sleeping;
    }

abbrev pub joints_set : Island → List JointLink → Island
joints_set a ls =
    record {
      bodies = a.bodies;
      contact_links = a.contact_links;
      joint_links = ls;
      constraint_remove_count = a.constraint_remove_count;
      split_denied_until = a.split_denied_until;
      sleeping = a.sleeping;
    }

abbrev pub count_set : Island → ℕ → Island
count_set a c =
    record {
      bodies = a.bodies;
      contact_links = a.contact_links;
      joint_links = a.joint_links;
      constraint_remove_count = c;
      split_denied_until = a.split_denied_until;
      sleeping = a.sleeping;
    }

abbrev pub sleeping_set : Island → Bool → Island
sleeping_set a z =
    record {
      bodies = a.bodies;
      contact_links = a.contact_links;
      joint_links = a.joint_links;
      constraint_remove_count = a.constraint_remove_count;
      split_denied_until = a.split_denied_until;
      sleeping = z;
    }
