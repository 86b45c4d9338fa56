-- Where the two promises end: runs of calls that refute what is a little more than they say.
use mathlib.Core.Path.{◌≡◌, refl, sym, ◌∙◌, ap, subst}
use mathlib.Core.Bool.{true, false}
use mathlib.Core.List.{List, [], ◌∷◌}
use Prim.Native.Nat.{ℕ, zero, suc, ◌+◌, ◌%◌, ◌<◌}
use native.Mathlib.Nat.{mod-eq_of_lt, zero-add}
use native.Mathlib.Omega.{arith}
use lib.ListN.{replicate}
use Rattle.def_kinds.specs.Number.{rig}
use Rattle.def_kinds.specs.declared.Sizes.{Sizes}
use Rattle.def_state.specs.Plain.{has, place_of, more}
use Rattle.def_state.specs.World.{Handle, World, empty_world, named, island_below, island_of, body_island, live}
use Rattle.def_state.specs.Fields.{scan_set, island_set}
use Rattle.def_state.specs.Bodies.{grown, placed, put}
use Rattle.def_state.specs.Membership.{clear_pending_split_of, new_number, alloc_island, may_join, joined, ensure, left, remove}
use Rattle.def_state.specs.Links.{contact_below, contact_home, survivor, add_counts, absorb, merge_islands, target, merged, contact_pushed, track, link_contact}
use Rattle.def_state.specs.Connected.{lower, lowers, label, tally, components}
use Rattle.def_state.specs.Split.{node_of, contact_ends, joint_ends, links_of, labels_of, denial, checked, split, split_island_now, denied, split_allowed}
use Rattle.def_state.specs.Scan.{begin_sleep_scan, observed, observe_body_for_sleep, sleepable, sleepables, finish_sleep_scan}
use Rattle.def_state.specs.Calls.{Call, Reset, Put, Ensure, Remove, Contact, Split, Begin, Observe, perform, run}

abbrev body : ℕ → Handle
body s = record { slot = s; generation = 0 }

-- two bodies, each an island
abbrev two : List Call → List Call
two cs = Reset ∷ Put (body 0) false true false ∷ Put (body 1) false true false ∷ Ensure (body 0) ∷ Ensure (body 1) ∷ cs

-- ---- "a finish lists no island with a body whose island was observed unfit in that scan": not where a link moved the body after that

-- island 0 is observed unfit, island 1 fit; then a link brings body 0 into island 1
abbrev pub moved : World
moved = run rig (two (Begin ∷ Observe 0 false ∷ Observe 1 true ∷ Contact 0 (body 1) (body 0) ∷ [])) empty_world

pub moved_home : body_island moved (body 0) ≡ 1
unfolding has place_of named island_below island_of body_island live island_set clear_pending_split_of grown placed put new_number alloc_island may_join joined ensure contact_below contact_home survivor add_counts absorb merge_islands target merged contact_pushed track link_contact begin_sleep_scan observed observe_body_for_sleep perform run
moved_home = refl

pub moved_listed : (finish_sleep_scan 4096 moved).listed ≡ 1 ∷ []
unfolding has place_of named island_below island_of body_island live island_set clear_pending_split_of grown placed put new_number alloc_island may_join joined ensure contact_below contact_home survivor add_counts absorb merge_islands target merged contact_pushed track link_contact begin_sleep_scan observed observe_body_for_sleep sleepable sleepables finish_sleep_scan perform run
moved_listed = refl

-- ---- "15 scans after a split an island with a count may bid": not yet

-- island 0 is split, which leaves it whole, and then has a count
abbrev counts : List Call → List Call
counts cs = Split 0 ∷ Remove (body 1) ∷ cs

abbrev linked : World
linked = run rig (two (Contact 0 (body 0) (body 1) ∷ [])) empty_world

abbrev pub fifteen : List Call
fifteen = Begin ∷ Begin ∷ Begin ∷ Begin ∷ Begin ∷ Begin ∷ Begin ∷ Begin ∷ Begin ∷ Begin ∷ Begin ∷ Begin ∷ Begin ∷ Begin ∷ Begin ∷ []

pub too-early : split_allowed 0 (run rig (counts fifteen) linked) ≡ false
unfolding has place_of more named island_below island_of body_island live island_set clear_pending_split_of grown placed put new_number alloc_island may_join joined ensure left remove contact_below contact_home survivor add_counts absorb merge_islands target merged contact_pushed track link_contact lower lowers label tally components node_of contact_ends joint_ends links_of labels_of denial checked split split_island_now denied split_allowed begin_sleep_scan perform run
too-early = refl

pub then-it-may : split_allowed 0 (run rig (counts (Begin ∷ fifteen)) linked) ≡ true
unfolding has place_of more named island_below island_of body_island live island_set clear_pending_split_of grown placed put new_number alloc_island may_join joined ensure left remove contact_below contact_home survivor add_counts absorb merge_islands target merged contact_pushed track link_contact lower lowers label tally components node_of contact_ends joint_ends links_of labels_of denial checked split split_island_now denied split_allowed begin_sleep_scan perform run
then-it-may = refl

-- ---- "16 scans after a split it may bid": not if the stamp wrapped meanwhile

-- n scans begun set the stamp, where it does not wrap
begun-run : (Z : Sizes) (n : ℕ) (w : World) → w.sleep_scan_stamp + suc n < 4294967296
    → run Z (replicate (suc n) Begin) w ≡ scan_set w (w.sleep_scan_stamp + suc n) true []
unfolding run perform begin_sleep_scan
begun-run Z zero w l = ap (λ (s : ℕ). scan_set w s true []) (mod-eq_of_lt l)
begun-run Z (suc n) w l =
    let s = w.sleep_scan_stamp in
    let e : (s + 1) % 4294967296 ≡ s + 1 = mod-eq_of_lt (omega arith) in
    let k : s + 1 + suc n ≡ s + suc (suc n) = omega arith in
    ap (λ (x : ℕ). run Z (replicate (suc n) Begin) (scan_set w x true [])) e
    ∙ begun-run Z n (scan_set w (s + 1) true []) (subst (λ (x : ℕ). x < 4294967296) (sym k) l)
    ∙ ap (λ (x : ℕ). scan_set w x true []) k

at-the-end : split_allowed 0 (run rig (counts (Begin ∷ fifteen)) (scan_set linked 4294967290 true [])) ≡ false
unfolding has place_of more named island_below island_of body_island live island_set clear_pending_split_of grown placed put new_number alloc_island may_join joined ensure left remove contact_below contact_home survivor add_counts absorb merge_islands target merged contact_pushed track link_contact lower lowers label tally components node_of contact_ends joint_ends links_of labels_of denial checked split split_island_now denied split_allowed begin_sleep_scan perform run
at-the-end = refl

linked-stamp : linked.sleep_scan_stamp ≡ 0
unfolding has named island_below island_of body_island island_set clear_pending_split_of grown placed put new_number alloc_island may_join joined ensure contact_below contact_home survivor absorb merge_islands target merged contact_pushed track link_contact perform run
linked-stamp = refl

-- the island is split at stamp 4294967290; 16 scans later the stamp is 10, and the denial 4294967295
pub after-a-wrap : (n : ℕ) → suc n ≡ 4294967290 → split_allowed 0 (run rig (counts (Begin ∷ fifteen)) (run rig (replicate (suc n) Begin) linked)) ≡ false
after-a-wrap n e =
    let k : linked.sleep_scan_stamp + suc n ≡ 4294967290 = ap (λ (s : ℕ). s + suc n) linked-stamp ∙ zero-add (suc n) ∙ e in
    subst (λ (w : World). split_allowed 0 (run rig (counts (Begin ∷ fifteen)) w) ≡ false)
    (sym (begun-run rig n linked (below-wrap k) ∙ ap (λ (s : ℕ). scan_set linked s true []) k))
    at-the-end
  where
    below-wrap : {s : ℕ} → s ≡ 4294967290 → s < 4294967296
    below-wrap q = omega arith
