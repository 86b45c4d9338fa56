-- Sentences that are close to demand 3's, and false: each with a run of calls that refutes it. (The last sentence without its condition: SampleJ.)
use mathlib.Core.Path.{◌≡◌, refl, ap}
use mathlib.Core.Logic.{◌≢◌}
use mathlib.Core.Bool.{true, false}
use mathlib.Core.List.{[], ◌∷◌}
use Prim.Native.Nat.{ℕ}
use native.Mathlib.Omega.{arith}
use Rattle.def_kinds.specs.Number.{rig}
use Rattle.def_state.specs.Plain.{has, place_of, more}
use Rattle.def_state.specs.World.{Handle, World, empty_world, island_at, named, island_below, island_of, body_island, live}
use Rattle.def_state.specs.Fields.{island_set}
use Rattle.def_state.specs.Bodies.{grown, placed, put}
use Rattle.def_state.specs.Membership.{clear_pending_split_of, new_number, alloc_island, may_join, joined, ensure, left, remove}
use Rattle.def_state.specs.Links.{contact_below, contact_home, survivor, add_counts, absorb, merge_islands, target, merged, contact_pushed, track, link_contact, same_handle, journal_removal, journal_refuses, contact_removed, unlink_contact}
use Rattle.def_state.specs.Connected.{lower, lowers, label, tally, components, weight, most, first, keep_label}
use Rattle.def_state.specs.Split.{node_of, contact_ends, joint_ends, links_of, labels_of, leads, new_numbers, new_islands, goal, link_goal, contacts_leave, joints_leave, body_moved, bodies_leave, denial, checked, parted, split}
use Rattle.def_state.specs.Calls.{Reset, Put, Ensure, Remove, Contact, Uncontact, perform, run}
use Rattle.theorem_split.specs.Graph.{here, there, Path, stop, step, edge, Stands, Own, Whole}
use Rattle.theorem_split.proofs.Member.{none_in}

abbrev body : ℕ → Handle
body s = record { slot = s; generation = 0 }

-- ---- "the two bodies of a RecordedAfter link that were members share an island": not once one of them left, though it came back

abbrev pub came_back : World
came_back =
    run rig
    (Reset
    ∷ Put (body 0) false true false
    ∷ Put (body 1) false true false
    ∷ Ensure (body 0)
    ∷ Ensure (body 1)
    ∷ Contact 0 (body 0) (body 1)
    ∷ Remove (body 1)
    ∷ Ensure (body 1)
    ∷ [])
    empty_world

pub still-recorded : Stands came_back 0 (record { name = edge 0; body1 = body 0; body2 = body 1 })
unfolding has place_of more named island_below island_of body_island island_set clear_pending_split_of grown placed put new_number alloc_island may_join joined ensure left remove contact_below contact_home survivor add_counts absorb merge_islands target merged contact_pushed track link_contact perform run
still-recorded = here refl

pub not-shared : (body_island came_back (body 0) ≡ 0) × (body_island came_back (body 1) ≡ 1)
unfolding has place_of more named island_below island_of body_island island_set clear_pending_split_of grown placed put new_number alloc_island may_join joined ensure left remove contact_below contact_home survivor add_counts absorb merge_islands target merged contact_pushed track link_contact perform run
not-shared = (refl, refl)

-- ---- "an island with count 0 is connected by its own links": not while the journal names two of its bodies

abbrev pub unresolved : World
unresolved =
    run rig
    (Reset ∷ Put (body 0) false true false ∷ Put (body 1) false true false ∷ Ensure (body 0) ∷ Ensure (body 1) ∷ Contact 0 (body 0) (body 1) ∷ Uncontact 0 ∷ [])
    empty_world

-- no link stands in island 0
no-path : (a b : Handle) → Path (Own unresolved 0) a b → a ≡ b
unfolding has place_of named island_below island_of body_island island_set clear_pending_split_of grown placed put new_number alloc_island may_join joined ensure contact_below contact_home survivor add_counts absorb merge_islands target merged contact_pushed track link_contact same_handle journal_removal journal_refuses contact_removed unlink_contact perform run
no-path a b stop = refl
no-path a b (step o p) = absurd (none_in o.stands)

pub count-zero : (island_at unresolved 0).constraint_remove_count ≡ 0
unfolding has place_of named island_below island_of body_island island_set clear_pending_split_of grown placed put new_number alloc_island may_join joined ensure contact_below contact_home survivor add_counts absorb merge_islands target merged contact_pushed track link_contact same_handle journal_removal journal_refuses contact_removed unlink_contact perform run
count-zero = refl

pub not-connected : Whole unresolved 0 → ⊥
unfolding has place_of named island_below island_of body_island island_set clear_pending_split_of grown placed put new_number alloc_island may_join joined ensure contact_below contact_home survivor add_counts absorb merge_islands target merged contact_pushed track link_contact same_handle journal_removal journal_refuses contact_removed unlink_contact perform run
not-connected W =
    let e : ◌≡◌ {A = ℕ} 0 1 = ap (λ (h : Handle). h.slot) (no-path (body 0) (body 1) (W (body 0) (body 1) refl refl)) in
    omega arith

-- ---- "two bodies of a split island are together if a path of its links joins them": not if it leads through a body that is no member

-- 0 and 1 are both linked to the fixed body 5
abbrev pub through_fixed : World
through_fixed =
    run rig
    (Reset
    ∷ Put (body 0) false true false
    ∷ Put (body 1) false true false
    ∷ Put (body 5) true true false
    ∷ Ensure (body 0)
    ∷ Ensure (body 1)
    ∷ Contact 0 (body 0) (body 1)
    ∷ Contact 1 (body 0) (body 5)
    ∷ Contact 2 (body 1) (body 5)
    ∷ Uncontact 0
    ∷ [])
    empty_world

pub both-stand : Stands through_fixed 0 (record { name = edge 1; body1 = body 0; body2 = body 5 }) × Stands through_fixed 0 (record { name = edge 2; body1 = body 1; body2 = body 5 })
unfolding has place_of named island_below island_of body_island island_set clear_pending_split_of grown placed put new_number alloc_island may_join joined ensure contact_below contact_home survivor add_counts absorb merge_islands target merged contact_pushed track link_contact same_handle journal_removal journal_refuses contact_removed unlink_contact perform run
both-stand = (there (here refl), here refl)

pub split-apart : body_island (split 0 through_fixed) (body 0) ≢ body_island (split 0 through_fixed) (body 1)
unfolding has place_of named island_below island_of body_island live island_set clear_pending_split_of grown placed put new_number alloc_island may_join joined ensure contact_below contact_home survivor add_counts absorb merge_islands target merged contact_pushed track link_contact same_handle journal_removal journal_refuses contact_removed unlink_contact lower lowers label tally components weight most first keep_label node_of contact_ends joint_ends links_of labels_of leads new_numbers new_islands goal link_goal contacts_leave joints_leave body_moved bodies_leave denial checked parted split perform run
split-apart e = let z : ◌≡◌ {A = ℕ} 0 1 = e in omega arith
