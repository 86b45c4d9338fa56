-- Sample J of document 01: a link names body 5 before it is a member, so its history is not clean; and the last sentence would be false of it.
use mathlib.Core.Path.{◌≡◌, refl, subst}
use mathlib.Core.Logic.{inl, ◌≢◌}
use mathlib.Core.Bool.{true, false}
use mathlib.Core.List.{List, [], ◌∷◌}
use Prim.Native.Nat.{ℕ}
use native.Mathlib.Omega.{arith}
use Rattle.def_kinds.specs.Number.{rig}
use Rattle.def_kinds.specs.Answers.{Answer}
use Rattle.def_state.specs.Plain.{top, has, place_of}
use Rattle.def_state.specs.World.{Handle, World, empty_world, named, island_below, island_of, body_island, live}
use Rattle.def_state.specs.Fields.{island_set}
use Rattle.def_state.specs.Bodies.{grown, placed, put, flags}
use Rattle.def_state.specs.Membership.{new_number, alloc_island, may_join, joined, ensure}
use Rattle.def_state.specs.Links.{contact_below, contact_home, survivor, merge_islands, target, merged, contact_pushed, track, link_contact}
use Rattle.def_state.specs.Connected.{lower, lowers, label, tally, components}
use Rattle.def_state.specs.Split.{node_of, contact_ends, joint_ends, links_of, labels_of, denial, checked, parted, split, split_island_now}
use Rattle.def_state.specs.Calls.{Reset, Put, Flags, Ensure, Contact, Split, perform, run}
use Rattle.table_meaning.specs.Decode.{world_of}
use Rattle.table_meaning.specs.Does.{Called}
use Rattle.theorem_split.specs.Graph.{here, edge, Bond}
use Rattle.theorem_history.specs.History.{History, call}
use Rattle.theorem_history.specs.Clean.{Clean}
use Rattle.theorem_history.proofs.Change.{EntersIn, LinkedIn}
use Rattle.theorem_history.proofs.Sentences.{after, recorded-holds}

abbrev body : ℕ → Handle
body s = record { slot = s; generation = 0 }

-- body 0 is a member and linked to the fixed body 5, which then turns free
abbrev pub before : World
before =
    run rig
    (Reset ∷ Put (body 0) false true false ∷ Put (body 5) true true false ∷ Ensure (body 0) ∷ Contact 0 (body 0) (body 5) ∷ Flags (body 5) false true false ∷ [])
    empty_world

abbrev link : Bond
link = record { name = edge 0; body1 = body 0; body2 = body 5 }

unclean : EntersIn before (perform rig (Ensure (body 5)) before).after → ⊥
unfolding has place_of named island_below island_of body_island island_set grown placed put flags new_number alloc_island may_join joined ensure contact_below contact_home survivor merge_islands target merged contact_pushed track link_contact perform run
unclean N = (N (body 5) refl (λ e. (let z : 1 ≡ top = e in omega arith)) 0 link (here refl)).1 refl

-- no history that ends in sample J is clean
pub sample-j : (t t' : List ℕ) (H : History rig t) → world_of rig t ≡ before → (r : Answer) (d : Called rig (perform rig (Ensure (body 5))) t r t') → Clean (call H (Ensure (body 5)) r d) → ⊥
sample-j t t' H e r d k =
    let E : EntersIn (world_of rig t) (world_of rig t') = λ h o i j l s. k.1 h o i l ((recorded-holds H l).1 (j, s)) in
    unclean
    (subst (λ (w : World). EntersIn w (perform rig (Ensure (body 5)) w).after) e (subst (λ (v : World). EntersIn (world_of rig t) v) (after H (Ensure (body 5)) r d) E))

-- every island split once, 0 and 5 are in two islands still, though a RecordedAfter link between the two members joins them
abbrev pub final : World
final = run rig (Ensure (body 5) ∷ Split 0 ∷ Split 1 ∷ []) before

pub still-apart : body_island final (body 0) ≢ body_island final (body 5)
unfolding has place_of named island_below island_of body_island live island_set grown placed put flags new_number alloc_island may_join joined ensure contact_below contact_home survivor merge_islands target merged contact_pushed track link_contact lower lowers label tally components node_of contact_ends joint_ends links_of labels_of denial checked parted split split_island_now perform run
still-apart e = let z : ◌≡◌ {A = ℕ} 0 1 = e in omega arith

pub still-linked : LinkedIn final (body 0) (body 5)
unfolding has place_of named island_below island_of body_island live island_set grown placed put flags new_number alloc_island may_join joined ensure contact_below contact_home survivor merge_islands target merged contact_pushed track link_contact lower lowers label tally components node_of contact_ends joint_ends links_of labels_of denial checked parted split split_island_now perform run
still-linked =
    record {
      island = 0;
      link = link;
      stands = here refl;
      joins = inl (refl, refl);
      first = λ e. (let z : 0 ≡ top = e in omega arith);
      second = λ e. (let z : 1 ≡ top = e in omega arith);
    }
