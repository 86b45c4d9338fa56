-- The ten sample runs of document 01, A to J, as one table: what is called, and what is then seen; E in two rows. At the rig's sizes.
use mathlib.Core.Path.{◌≡◌, refl}
use mathlib.Core.Bool.{true, false}
use mathlib.Core.List.{List, [], ◌∷◌, ◌++◌, map}
use Prim.Native.Nat.{ℕ, zero, suc}
use lib.ListN.{length}
use Rattle.def_kinds.specs.Number.{number, rig}
use Rattle.def_state.specs.Plain.{has, place_of, more}
use Rattle.def_state.specs.World.{Handle, Island, empty_world, named, island_below, island_of, body_island, live}
use Rattle.def_state.specs.Fields.{island_set}
use Rattle.def_state.specs.Bodies.{grown, placed, put, flags, vacate, retire}
use Rattle.def_state.specs.Membership.{clear_pending_split_of, new_number, alloc_island, may_join, joined, ensure, free_island, left, remove}
use Rattle.def_state.specs.Links.{edges_of, contact_below, contact_home, survivor, add_counts, absorb, merge_islands, target, merged, contact_pushed, track, link_contact, same_handle, journal_removal, journal_refuses, contact_removed, unlink_contact, renumbered, contact_edge_removed}
use Rattle.def_state.specs.Resolver.{counted, count_all, resolve_removals}
use Rattle.def_state.specs.Connected.{lower, lowers, label, tally, components, weight, most, first, keep_label}
use Rattle.def_state.specs.Split.{node_of, contact_ends, joint_ends, links_of, labels_of, leads, new_numbers, new_islands, goal, link_goal, contacts_leave, joints_leave, body_moved, bodies_leave, denial, checked, parted, split, split_island_now}
use Rattle.def_state.specs.Scan.{begin_sleep_scan}
use Rattle.def_state.specs.Calls.{Call, Reset, Put, Flags, Ensure, Contact, Uncontact, Renumber, Resolve, Split, Begin, perform, answers, run}

-- an island as it is seen: its bodies, its contact links' edges, its count and its denial
record Seen : Type 0 where
  bodies : List ℕ
  edges : List ℕ
  count : ℕ
  denied : ℕ

-- a row: the numbers of the last answers, the islands by number, the free stack, the tracked length, and how many entries the journal has
record Row : Type 0 where
  answered : List ℕ
  islands : List Seen
  free : List ℕ
  tracked : ℕ
  journal : ℕ

abbrev isle : List ℕ → List ℕ → ℕ → ℕ → Seen
isle bs es c d = record { bodies = bs; edges = es; count = c; denied = d }

abbrev freed : Seen
freed = isle [] [] 0 0

abbrev seen : Island → Seen
seen a = isle a.bodies (edges_of a) a.constraint_remove_count a.split_denied_until

-- the calls `before`, then the calls `last`, whose answers are shown
abbrev shown : List Call → List Call → Row
shown before last =
    let w = run rig before empty_world in
    let v = run rig last w in
    record {
      answered = map number (answers rig last w);
      islands = map seen v.islands;
      free = v.free_islands;
      tracked = v.tracked;
      journal = length v.removal_journal;
    }

abbrev row : List ℕ → List Seen → List ℕ → ℕ → ℕ → Row
row rs is f t j = record { answered = rs; islands = is; free = f; tracked = t; journal = j }

abbrev body : ℕ → Handle
body s = record { slot = s; generation = 0 }

-- a free body is put, and ensured
abbrev put_all : List Call
put_all = Put (body 0) false true false ∷ Put (body 1) false true false ∷ Put (body 2) false true false ∷ Put (body 3) false true false ∷ []

abbrev start : List Call
start = Reset ∷ put_all ++ (Ensure (body 0) ∷ Ensure (body 1) ∷ Ensure (body 2) ∷ Ensure (body 3) ∷ [])

abbrev A : List Call
A = Contact 0 (body 0) (body 1) ∷ []

abbrev B : List Call
B = Contact 1 (body 2) (body 3) ∷ []

abbrev C : List Call
C = Contact 2 (body 1) (body 2) ∷ []

abbrev D : List Call
D = Put (body 4) false true false ∷ Ensure (body 4) ∷ []

-- in two steps: the unlink, which leaves one entry, and the resolver
abbrev E : List Call
E = Uncontact 0 ∷ Resolve ∷ []

abbrev to_c : List Call
to_c = start ++ (A ++ (B ++ C))

abbrev to_e : List Call
to_e = to_c ++ (D ++ E)

abbrev begins : ℕ → List Call
begins zero = []
begins (suc k) = Begin ∷ begins k

-- an island of one body
abbrev alone : ℕ → Seen
alone s = isle (s ∷ []) [] 0 0

table : List Row
table =
    shown start A
    ∷ shown (start ++ A) B
    ∷ shown (start ++ (A ++ B)) C
    ∷ shown to_c D
    ∷ shown (to_c ++ D) (Uncontact 0 ∷ [])
    ∷ shown (to_c ++ D) E
    ∷ shown (to_e ++ begins 5) (Split 0 ∷ [])
    ∷ shown to_e (Renumber 0 2 ∷ [])
    ∷ shown to_e (Renumber 0 5 ∷ Renumber 3 2 ∷ Renumber 1 2 ∷ [])
    ∷ shown start (Contact 16383 (body 7) (body 8) ∷ Contact 16384 (body 0) (body 1) ∷ [])
    ∷ shown (Reset ∷ Put (body 0) false true false ∷ Put (body 5) true true false ∷ Ensure (body 0) ∷ [])
    (Contact 0 (body 0) (body 5) ∷ Flags (body 5) false true false ∷ Ensure (body 5) ∷ [])
    ∷ []

expected : List Row
expected =
    row (0 ∷ []) (isle (0 ∷ 1 ∷ []) (0 ∷ []) 0 0 ∷ freed ∷ alone 2 ∷ alone 3 ∷ []) (1 ∷ []) 1 0
    ∷ row (0 ∷ []) (isle (0 ∷ 1 ∷ []) (0 ∷ []) 0 0 ∷ freed ∷ isle (2 ∷ 3 ∷ []) (1 ∷ []) 0 0 ∷ freed ∷ []) (1 ∷ 3 ∷ []) 2 0
    ∷ row (0 ∷ []) (isle (0 ∷ 1 ∷ 2 ∷ 3 ∷ []) (0 ∷ 1 ∷ 2 ∷ []) 0 0 ∷ freed ∷ freed ∷ freed ∷ []) (1 ∷ 3 ∷ 2 ∷ []) 3 0
    ∷ row (0 ∷ 0 ∷ []) (isle (0 ∷ 1 ∷ 2 ∷ 3 ∷ []) (0 ∷ 1 ∷ 2 ∷ []) 0 0 ∷ freed ∷ alone 4 ∷ freed ∷ []) (1 ∷ 3 ∷ []) 3 0
    ∷ row (0 ∷ []) (isle (0 ∷ 1 ∷ 2 ∷ 3 ∷ []) (2 ∷ 1 ∷ []) 0 0 ∷ freed ∷ alone 4 ∷ freed ∷ []) (1 ∷ 3 ∷ []) 3 1
    ∷ row (0 ∷ 0 ∷ []) (isle (0 ∷ 1 ∷ 2 ∷ 3 ∷ []) (2 ∷ 1 ∷ []) 1 0 ∷ freed ∷ alone 4 ∷ freed ∷ []) (1 ∷ 3 ∷ []) 3 0
    ∷ row (0 ∷ []) (isle (3 ∷ 1 ∷ 2 ∷ []) (2 ∷ 1 ∷ []) 0 21 ∷ freed ∷ alone 4 ∷ alone 0 ∷ []) (1 ∷ []) 3 0
    ∷ row (0 ∷ []) (isle (0 ∷ 1 ∷ 2 ∷ 3 ∷ []) (0 ∷ 1 ∷ []) 1 0 ∷ freed ∷ alone 4 ∷ freed ∷ []) (1 ∷ 3 ∷ []) 2 0
    ∷ row (1 ∷ 1 ∷ 3 ∷ []) (isle (0 ∷ 1 ∷ 2 ∷ 3 ∷ []) (2 ∷ 1 ∷ []) 1 0 ∷ freed ∷ alone 4 ∷ freed ∷ []) (1 ∷ 3 ∷ []) 3 0
    ∷ row (1 ∷ 2 ∷ []) (alone 0 ∷ alone 1 ∷ alone 2 ∷ alone 3 ∷ []) [] 16384 0
    ∷ row (0 ∷ 0 ∷ 0 ∷ []) (isle (0 ∷ []) (0 ∷ []) 0 0 ∷ alone 5 ∷ []) [] 1 0
    ∷ []

samples : table ≡ expected
unfolding table expected has place_of more named island_below island_of body_island live island_set clear_pending_split_of grown placed put flags vacate retire new_number alloc_island may_join joined ensure free_island left remove contact_below contact_home survivor add_counts absorb merge_islands target merged contact_pushed track link_contact same_handle journal_removal journal_refuses contact_removed unlink_contact renumbered contact_edge_removed counted count_all resolve_removals lower lowers label tally components weight most first keep_label node_of contact_ends joint_ends links_of labels_of leads new_numbers new_islands goal link_goal contacts_leave joints_leave body_moved bodies_leave denial checked parted split split_island_now begin_sleep_scan perform answers run
samples = refl
