-- A refusal, an answer whose number is above 1, changes no word.
use mathlib.Core.Path.{◌≡◌, refl, subst}
use mathlib.Core.Logic.{inl, inr}
use mathlib.Core.Bool.{Bool, true, false, ◌&&◌, not}
use mathlib.Core.List.{List}
use mathlib.Core.Option.{Option, none, some}
use Prim.Native.Nat.{ℕ, ◌+◌, ◌-◌, ◌<◌}
use native.Mathlib.Omega.{arith}
use lib.ListN.{length, get_or}
use lib.Dec.{eqb, ltb, leb}
use Rattle.def_kinds.specs.Choice.{pick}
use Rattle.def_kinds.specs.declared.Sizes.{Sizes}
use Rattle.def_kinds.specs.Answers.{Answer, Done, Nothing}
use Rattle.def_kinds.specs.Number.{number}
use Rattle.def_state.specs.Plain.{top, empty, place_of}
use Rattle.def_state.specs.World.{Handle, Key, absent_contact, absent_joint, World, Step, done, gives, body_of, named, island_at, island_of, live}
use Rattle.def_state.specs.Fields.{split_set}
use Rattle.def_state.specs.Bodies.{put, retire, flags}
use Rattle.def_state.specs.Membership.{may_join, ensure, remove}
use Rattle.def_state.specs.Links.{edges_of, key_place, contact_home, joint_home, target, track, link_contact, joint_room, link_joint, journal_refuses, unlink_contact, unlink_joint, contact_edge_removed}
use Rattle.def_state.specs.Resolver.{resolve_removals}
use Rattle.def_state.specs.Chain.{chained, old_length, refresh_multibody_chain}
use Rattle.def_state.specs.Split.{split_island_now, schedule_split, run_split, run_pending_split}
use Rattle.def_state.specs.Scan.{begin_sleep_scan, observe_body_for_sleep, sleepables, Listing, finish_sleep_scan, mark_island_sleeping, wake_island}
use Rattle.def_state.specs.Calls.{finished, perform, Reset, Put, Retire, Flags, Ensure, Remove, Contact, Uncontact, Renumber, Joint, Unjoint, Chain, Resolve, Split, Schedule, Run, Begin, Observe, Finish, Sleep, Wake}
use Rattle.def_state.specs.Calls.{Call as HostCall}
use Rattle.table_meaning.specs.Decode.{world_of}
use Rattle.table_meaning.specs.Does.{Called}
use Rattle.table_meaning.proofs.Unique.{kept-words}

-- an answer whose number is above 1 leaves the state
abbrev pub Careful : (World → Step) → Type 0
Careful f = (w : World) → 1 < number (f w).answer → (f w).after ≡ w

pub refusal-keeps : (Z : Sizes) (f : World → Step) → Careful f → (t : List ℕ) (r : Answer) (t' : List ℕ) → Called Z f t r t' → 1 < number r → t' ≡ t
refusal-keeps Z f k t r t' (inl x) h =
    kept-words Z f t r t' x.0 x.1 (k (world_of Z t) (subst (λ (a : Answer). 1 < number a) x.1.answer h))
refusal-keeps Z f k t r t' (inr x) h = x.same

-- ---- every call is careful

record Fine (w : World) (s : Step) : Type 0 where
  keeps : 1 < number s.answer → s.after ≡ w

fine-pick : (w : World) (b : Bool) {x y : Step} → Fine w x → Fine w y → Fine w (pick b x y)
fine-pick w true p q = p
fine-pick w false p q = q

-- answer 0, and answer 1, may leave any state; any other leaves it as it was
fine-done : {w v : World} → Fine w (done v)
fine-done = record { keeps = λ h. absurd (omega arith) }

fine-nothing : {w v : World} → Fine w (gives Nothing v)
fine-nothing = record { keeps = λ h. absurd (omega arith) }

fine-refuse : {w : World} {r : Answer} → Fine w (gives r w)
fine-refuse = record { keeps = λ h. refl }

-- the same of the scan's finish, which has a listing too
record FineListing (w : World) (l : Listing) : Type 0 where
  keeps : 1 < number l.answer → l.after ≡ w

listing-pick : (w : World) (b : Bool) {x y : Listing} → FineListing w x → FineListing w y → FineListing w (pick b x y)
listing-pick w true p q = p
listing-pick w false p q = q

listing-done : {w v : World} {ns : List ℕ} → FineListing w (record { answer = Done; listed = ns; after = v })
listing-done = record { keeps = λ h. absurd (omega arith) }

listing-refuse : {w : World} {r : Answer} {ns : List ℕ} → FineListing w (record { answer = r; listed = ns; after = w })
listing-refuse = record { keeps = λ h. refl }

module _ (Z : Sizes) (w : World) where
  fine-put : (h : Handle) (f e z : Bool) → Fine w (put Z h f e z w)
  unfolding put
  fine-put h f e z =
      fine-pick w (leb Z.slots h.slot) fine-refuse
      (fine-pick w (eqb (body_of w h.slot).generation top)
      (fine-pick w (ltb h.generation (body_of w h.slot).lowest) fine-refuse (fine-pick w (eqb h.generation top) fine-refuse fine-done))
      fine-refuse)

  fine-retire : (h : Handle) → Fine w (retire h w)
  unfolding retire
  fine-retire h = fine-pick w (named w h) fine-done fine-refuse

  fine-flags : (h : Handle) (f e z : Bool) → Fine w (flags h f e z w)
  unfolding flags
  fine-flags h f e z = fine-pick w (named w h) fine-done fine-refuse

  fine-ensure : (h : Handle) → Fine w (ensure h w)
  unfolding ensure
  fine-ensure h = fine-pick w (may_join w h) fine-done fine-refuse

  fine-remove : (h : Handle) → Fine w (remove h w)
  unfolding remove
  fine-remove h = fine-pick w (named w h) (fine-pick w (eqb (island_of w h.slot) top) fine-refuse fine-done) fine-refuse

  fine-contact : (e : ℕ) (h1 h2 : Handle) → Fine w (link_contact Z e h1 h2 w)
  unfolding link_contact
  fine-contact e h1 h2 =
      let v = track (e + 1) w in
      fine-pick w (leb Z.edges e) fine-refuse
      (fine-pick w (not (eqb (contact_home v e) top)) fine-nothing (fine-pick w (eqb (target v h1 h2) top) fine-nothing fine-done))

  fine-uncontact : (e : ℕ) → Fine w (unlink_contact Z e w)
  unfolding unlink_contact
  fine-uncontact e =
      let i = contact_home w e in
      let p = place_of (edges_of (island_at w i)) e in
      let l = get_or (island_at w i).contact_links p absent_contact in
      fine-pick w (eqb i top) fine-refuse (fine-pick w (journal_refuses Z l.body1 l.body2 w) fine-refuse fine-done)

  fine-renumber : (r l : ℕ) → Fine w (contact_edge_removed r l w)
  unfolding contact_edge_removed
  fine-renumber r l =
      fine-pick w (leb w.tracked r) fine-refuse
      (fine-pick w (not (eqb (contact_home w r) top)) fine-refuse (fine-pick w (eqb w.tracked (l + 1)) fine-done fine-refuse))

  fine-joint : (q : Key) (h1 h2 : Handle) → Fine w (link_joint Z q h1 h2 w)
  unfolding link_joint
  fine-joint q h1 h2 =
      fine-pick w (not (eqb (joint_home w q) top)) fine-refuse
      (fine-pick w (eqb (target w h1 h2) top) fine-refuse (fine-pick w (eqb (joint_room Z w) 0) fine-refuse fine-done))

  fine-unjoint : (q : Key) → Fine w (unlink_joint Z q w)
  unfolding unlink_joint
  fine-unjoint q =
      let i = joint_home w q in
      let p = key_place (island_at w i).joint_links q in
      let l = get_or (island_at w i).joint_links p absent_joint in
      fine-pick w (eqb i top) fine-refuse (fine-pick w (journal_refuses Z l.body1 l.body2 w) fine-refuse fine-done)

  fine-chain : (u v : ℕ) (hs : List Handle) → Fine w (refresh_multibody_chain Z u v hs w)
  unfolding refresh_multibody_chain
  fine-chain u v hs =
      let old = old_length Z w u v in
      fine-pick w (ltb Z.slots (length hs)) fine-refuse
      (fine-pick w (ltb (joint_room Z w + old) (length (chained w hs) - 1)) fine-refuse
      (fine-pick w (ltb (Z.journal - length w.removal_journal) old) fine-refuse fine-done))

  fine-resolve : Fine w (resolve_removals w)
  unfolding resolve_removals
  fine-resolve = fine-pick w (empty w.removal_journal) fine-refuse fine-done

  fine-split : (i : ℕ) → Fine w (split_island_now i w)
  unfolding split_island_now
  fine-split i = fine-pick w (live w i) fine-done fine-refuse

  fine-schedule : (i : ℕ) → Fine w (schedule_split i w)
  unfolding schedule_split
  fine-schedule i = fine-done

  -- whatever was pending, it answers 0 or 1
  fine-run-of : (o : Option ℕ) (v : World) → Fine w (run_split o v)
  fine-run-of none v = fine-nothing
  fine-run-of (some i) v = fine-pick w (live v i && not (island_at v i).sleeping) fine-done fine-nothing

  fine-run : Fine w (run_pending_split w)
  unfolding run_pending_split
  fine-run = fine-run-of w.split_island (split_set w none)

  fine-begin : Fine w (begin_sleep_scan w)
  unfolding begin_sleep_scan
  fine-begin = fine-done

  fine-observe : (i : ℕ) (e : Bool) → Fine w (observe_body_for_sleep i e w)
  unfolding observe_body_for_sleep
  fine-observe i e = fine-pick w (live w i) (fine-pick w w.scanning fine-done fine-refuse) fine-refuse

  fine-finish : (room : ℕ) → Fine w (finished room w)
  unfolding finished finish_sleep_scan
  fine-finish room =
      let list = sleepables w w.sleep_scan_touched in
      let x : FineListing w (finish_sleep_scan room w) = listing-pick w (not w.scanning) listing-refuse (listing-pick w (ltb room (length list)) listing-refuse listing-done) in
      record { keeps = x.keeps }

  fine-sleep : (i : ℕ) → Fine w (mark_island_sleeping i w)
  unfolding mark_island_sleeping
  fine-sleep i = fine-pick w (live w i) fine-done fine-refuse

  fine-wake : (i : ℕ) → Fine w (wake_island i w)
  unfolding wake_island
  fine-wake i = fine-pick w (live w i) fine-done fine-refuse

  fine : (c : HostCall) → Fine w (perform Z c w)
  unfolding perform
  fine Reset = fine-done
  fine (Put h f e z) = fine-put h f e z
  fine (Retire h) = fine-retire h
  fine (Flags h f e z) = fine-flags h f e z
  fine (Ensure h) = fine-ensure h
  fine (Remove h) = fine-remove h
  fine (Contact e h1 h2) = fine-contact e h1 h2
  fine (Uncontact e) = fine-uncontact e
  fine (Renumber r l) = fine-renumber r l
  fine (Joint q h1 h2) = fine-joint q h1 h2
  fine (Unjoint q) = fine-unjoint q
  fine (Chain u v hs) = fine-chain u v hs
  fine Resolve = fine-resolve
  fine (Split i) = fine-split i
  fine (Schedule i) = fine-schedule i
  fine Run = fine-run
  fine Begin = fine-begin
  fine (Observe i e) = fine-observe i e
  fine (Finish room) = fine-finish room
  fine (Sleep i) = fine-sleep i
  fine (Wake i) = fine-wake i

pub perform-careful : (Z : Sizes) (c : HostCall) → Careful (perform Z c)
perform-careful Z c w h = (fine Z w c).keeps h
