-- No call but a split raises a denial, and none but reset, begin, observe and finish changes the scan.
use mathlib.Core.Path.{◌≡◌, refl, sym, ◌∙◌, ap, subst}
use mathlib.Core.Logic.{◌≢◌}
use mathlib.Core.Bool.{Bool, true, false, ◌&&◌, ◌||◌, not}
use mathlib.Core.Option.{Option, some}
use mathlib.Core.List.{List, [], ◌∷◌, ◌++◌, reverse}
use Prim.Native.Nat.{ℕ, zero, suc, ◌+◌, ◌-◌, ◌≤◌, ◌<◌}
use native.Mathlib.Nat.{le_refl, le_trans, le_of_eq}
use native.Mathlib.Omega.{arith}
use lib.ListN.{length, get_or, set}
use lib.Seq.{get_or-set_same, get_or-set_other, set_out}
use lib.Dec.{eqb, ltb, leb}
use borrow.Author.Tests.{ltb-true}
use Rattle.def_kinds.specs.Choice.{pick}
use Rattle.list_in_table.proofs.Laws.{either}
use Rattle.list_in_table.proofs.Same.{below}
use Rattle.table_meaning.proofs.Tab.{get_d_beyond}
use Rattle.def_kinds.specs.declared.Sizes.{Sizes}
use Rattle.def_state.specs.Plain.{top, empty, place_of, swap_remove}
use Rattle.def_state.specs.World.{Handle, Key, chain, ContactLink, absent_contact, JointLink, absent_joint, Island, absent_island, Removal, World, Step, body_of, island_at, named, island_of, body_island, live}
use Rattle.def_state.specs.Fields.{free_set, tracked_set, places_set, journal_set, split_set, island_set, joints_set, members_set, sleeping_set}
use Rattle.def_state.specs.Bodies.{placed, put, flags, vacate, retire}
use Rattle.def_state.specs.Membership.{clear_pending_split_of, new_number, alloc_island, may_join, singleton, joined, ensure, places_of, free_island, left, remove}
use Rattle.def_state.specs.Links.{edges_of, key_place, contact_home, joint_home, survivor, absorbed, absorb, merge_islands, target, merged, contact_pushed, track, link_contact, joint_pushed, new_place, take_place, joint_room, link_joint, same_handle, journal_removal, journal_refuses, contact_removed, unlink_contact, joint_removed, unlink_joint, renumbered, contact_edge_removed}
use Rattle.def_state.specs.Resolver.{counted, count_all, resolve_removals}
use Rattle.def_state.specs.Chain.{chained, old_length, unlinked, linked, linked_all, refresh_multibody_chain}
use Rattle.def_state.specs.Connected.{components}
use Rattle.def_state.specs.Split.{labels_of, new_island, new_islands, link_goal, contacts_leave, joint_moved, joints_leave, body_moved, bodies_leave, denial, checked, parted, split, schedule_split}
use Rattle.def_state.specs.Scan.{mark_island_sleeping, wake_island}
use Rattle.theorem_split.proofs.Numbers.{get_or-grown}
use Rattle.theorem_history.proofs.Basic.{ways}

abbrev pub denied_at : World → ℕ → ℕ
denied_at w j = (island_at w j).split_denied_until

-- the scan is as it was
pub record Idle (w v : World) : Type 0 where
  pub stamp : v.sleep_scan_stamp ≡ w.sleep_scan_stamp
  pub scanning : v.scanning ≡ w.scanning
  pub touched : v.sleep_scan_touched ≡ w.sleep_scan_touched

-- and no denial rose, but perhaps where P is not
pub record Mild (P : ℕ → Type 0) (w v : World) : Type 0 where
  pub idle : Idle w v
  pub denied : (j : ℕ) → P j → denied_at v j ≤ denied_at w j

abbrev pub All : ℕ → Type 0
All j = Unit {0}

pub idle-refl : (w : World) → Idle w w
idle-refl w = record { stamp = refl; scanning = refl; touched = refl }

pub idle_then : {w u v : World} → Idle w u → Idle u v → Idle w v
idle_then a b = record { stamp = b.stamp ∙ a.stamp; scanning = b.scanning ∙ a.scanning; touched = b.touched ∙ a.touched }

module _ {P : ℕ → Type 0} where
  pub mild-refl : (w : World) → Mild P w w
  mild-refl w = record { idle = idle-refl w; denied = λ j p. le_refl _ }

  pub mild-then : {w u v : World} → Mild P w u → Mild P u v → Mild P w v
  mild-then a b = record { idle = idle_then a.idle b.idle; denied = λ j p. le_trans (b.denied j p) (a.denied j p) }

  -- the islands and the scan are the same
  pub mild-same : {w v : World} → v.islands ≡ w.islands → Idle w v → Mild P w v
  mild-same e i = record { idle = i; denied = λ j p. le_of_eq (ap (λ (is : List Island). (get_or is j absent_island).split_denied_until) e) }

  -- one island anew
  pub mild-set : (w : World) (i : ℕ) (a : Island) → (P i → a.split_denied_until ≤ denied_at w i) → Mild P w (island_set w i a)
  unfolding island_set
  mild-set w i a h =
      record {
        idle = record { stamp = refl; scanning = refl; touched = refl };
        denied =
            λ j p.
            either j i
            (λ q.
            below i (length w.islands)
            (λ l.
            subst (λ (k : ℕ). (get_or (set w.islands i a) k absent_island).split_denied_until ≤ denied_at w k) (sym q)
            (le_trans (le_of_eq (ap (λ (x : Island). x.split_denied_until) (get_or-set_same w.islands i a absent_island l))) (h (subst P q p))))
            (λ l. le_of_eq (ap (λ (x : List Island). (get_or x j absent_island).split_denied_until) (set_out w.islands i a l))))
            (λ d. le_of_eq (ap (λ (x : Island). x.split_denied_until) (get_or-set_other w.islands i j a absent_island d)));
      }

  -- one island anew, whose denial is what it was; or 0
  pub mild-keep : (w : World) (i : ℕ) (a : Island) → a.split_denied_until ≡ denied_at w i → Mild P w (island_set w i a)
  mild-keep w i a e = mild-set w i a (λ p. le_of_eq e)

  pub mild-zero : (w : World) (i : ℕ) (a : Island) → a.split_denied_until ≡ 0 → Mild P w (island_set w i a)
  mild-zero w i a e = mild-set w i a (λ p. omega arith)

  -- ---- fields that are not islands

  pub pending-mild : (w : World) (x : Option ℕ) → Mild P w (split_set w x)
  pending-mild w x = mild-same refl (record { stamp = refl; scanning = refl; touched = refl })

  pub free-mild : (w : World) (x : List ℕ) → Mild P w (free_set w x)
  free-mild w x = mild-same refl (record { stamp = refl; scanning = refl; touched = refl })

  pub places-mild : (w : World) (x : ℕ) (y : List ℕ) → Mild P w (places_set w x y)
  places-mild w x y = mild-same refl (record { stamp = refl; scanning = refl; touched = refl })

  pub tracked-mild : (w : World) (x : ℕ) → Mild P w (tracked_set w x)
  tracked-mild w x = mild-same refl (record { stamp = refl; scanning = refl; touched = refl })

  pub journal-mild : (w : World) (x : List Removal) → Mild P w (journal_set w x)
  journal-mild w x = mild-same refl (record { stamp = refl; scanning = refl; touched = refl })

  pub clear-mild : (i : ℕ) (w : World) → Mild P w (clear_pending_split_of i w)
  unfolding clear_pending_split_of
  clear-mild i w = pending-mild w _

  -- ---- bodies

  pub put-mild : (Z : Sizes) (h : Handle) (f e z : Bool) (w : World) → Mild P w (put Z h f e z w).after
  unfolding put placed
  put-mild Z h f e z w =
      ways (λ (s : Step). Mild P w s.after) (leb Z.slots h.slot) (λ q. mild-refl w)
      (λ q.
      ways (λ (s : Step). Mild P w s.after) (eqb (body_of w h.slot).generation top)
      (λ v.
      ways (λ (s : Step). Mild P w s.after) (ltb h.generation (body_of w h.slot).lowest) (λ o. mild-refl w)
      (λ o.
      ways (λ (s : Step). Mild P w s.after) (eqb h.generation top) (λ o. mild-refl w)
      (λ o. mild-same refl (record { stamp = refl; scanning = refl; touched = refl }))))
      (λ v. mild-refl w))

  pub flags-mild : (h : Handle) (f e z : Bool) (w : World) → Mild P w (flags h f e z w).after
  unfolding flags
  flags-mild h f e z w =
      ways (λ (s : Step). Mild P w s.after) (named w h) (λ n. mild-same refl (record { stamp = refl; scanning = refl; touched = refl })) (λ n. mild-refl w)

  -- ---- membership

  pub alloc-mild : (w : World) → Mild P w (alloc_island w)
  unfolding alloc_island
  alloc-mild w =
      ways (λ (v : World). Mild P w v) (empty w.free_islands)
      (λ q.
      record {
        idle = record { stamp = refl; scanning = refl; touched = refl };
        denied = λ j p. le_of_eq (ap (λ (x : Island). x.split_denied_until) (get_or-grown w.islands j));
      })
      (λ q. free-mild w _)

  pub ensure-mild : (h : Handle) (w : World) → Mild P w (ensure h w).after
  unfolding ensure joined
  ensure-mild h w =
      ways (λ (s : Step). Mild P w s.after) (may_join w h)
      (λ q. mild-then (alloc-mild w) (mild-zero (alloc_island w) (new_number w) (singleton h.slot (body_of w h.slot).sleeping) refl))
      (λ q. mild-refl w)

  pub freed-mild : (i : ℕ) (w : World) → Mild P w (free_island i w)
  unfolding free_island
  freed-mild i w =
      let v = places_set w w.joint_places (w.free_places ++ reverse (places_of (island_at w i))) in
      mild-then (places-mild w _ _) (mild-then (mild-zero v i absent_island refl) (mild-then (free-mild (island_set v i absent_island) _) (clear-mild i _)))

  pub remove-mild : (h : Handle) (w : World) → Mild P w (remove h w).after
  unfolding remove left
  remove-mild h w =
      ways (λ (s : Step). Mild P w s.after) (named w h)
      (λ n.
      ways (λ (s : Step). Mild P w s.after) (eqb (island_of w h.slot) top) (λ q. mild-refl w)
      (λ q.
      let i = island_of w h.slot in
      ways (λ (v : World). Mild P w v) (empty (swap_remove 0 (island_at w i).bodies (place_of (island_at w i).bodies h.slot))) (λ o. freed-mild i w)
      (λ o. mild-keep w i _ refl)))
      (λ n. mild-refl w)

  pub retire-mild : (h : Handle) (w : World) → Mild P w (retire h w).after
  unfolding retire vacate
  retire-mild h w =
      ways (λ (s : Step). Mild P w s.after) (named w h)
      (λ n. mild-then (remove-mild h w) (mild-same refl (record { stamp = refl; scanning = refl; touched = refl })))
      (λ n. mild-refl w)

  -- ---- links

  absorb-mild : (a b : ℕ) (w : World) → Mild P w (absorb a b w)
  unfolding absorb
  absorb-mild a b w =
      let x = island_set w a (absorbed (island_at w a) (island_at w b)) in
      mild-then (mild-keep w a (absorbed (island_at w a) (island_at w b)) refl)
      (mild-then (mild-zero x b absent_island refl) (mild-then (free-mild (island_set x b absent_island) _) (clear-mild b _)))

  merged-mild : (h1 h2 : Handle) (w : World) → Mild P w (merged h1 h2 w)
  unfolding merged merge_islands
  merged-mild h1 h2 w =
      let a = body_island w h1 in
      let b = body_island w h2 in
      ways (λ (v : World). Mild P w v) (eqb a top || eqb b top) (λ q. mild-refl w)
      (λ q.
      ways (λ (v : World). Mild P w v) (eqb a b) (λ q. mild-refl w)
      (λ q. ways (λ (v : World). Mild P w v) (eqb (survivor w a b) a) (λ q. absorb-mild a b w) (λ q. absorb-mild b a w)))

  contact_push-mild : (i : ℕ) (l : ContactLink) (w : World) → Mild P w (contact_pushed i l w)
  unfolding contact_pushed
  contact_push-mild i l w = mild-keep w i _ refl

  joint_push-mild : (i : ℕ) (l : JointLink) (w : World) → Mild P w (joint_pushed i l w)
  unfolding joint_pushed
  joint_push-mild i l w = mild-keep w i _ refl

  track-mild : (k : ℕ) (w : World) → Mild P w (track k w)
  unfolding track
  track-mild k w = tracked-mild w _

  pub contact-mild : (Z : Sizes) (e : ℕ) (h1 h2 : Handle) (w : World) → Mild P w (link_contact Z e h1 h2 w).after
  unfolding link_contact
  contact-mild Z e h1 h2 w =
      let v = track (e + 1) w in
      let T = track-mild (e + 1) w in
      ways (λ (s : Step). Mild P w s.after) (leb Z.edges e) (λ q. mild-refl w)
      (λ q.
      ways (λ (s : Step). Mild P w s.after) (not (eqb (contact_home v e) top)) (λ q. T)
      (λ q.
      ways (λ (s : Step). Mild P w s.after) (eqb (target v h1 h2) top) (λ q. T)
      (λ q. mild-then T (mild-then (merged-mild h1 h2 v) (contact_push-mild (target v h1 h2) (record { edge_id = e; body1 = h1; body2 = h2 }) (merged h1 h2 v))))))

  take-mild : (w : World) → Mild P w (take_place w)
  unfolding take_place
  take-mild w = ways (λ (v : World). Mild P w v) (empty w.free_places) (λ q. places-mild w _ _) (λ q. places-mild w _ _)

  pub joint-mild : (Z : Sizes) (q : Key) (h1 h2 : Handle) (w : World) → Mild P w (link_joint Z q h1 h2 w).after
  unfolding link_joint
  joint-mild Z q h1 h2 w =
      ways (λ (s : Step). Mild P w s.after) (not (eqb (joint_home w q) top)) (λ o. mild-refl w)
      (λ o.
      ways (λ (s : Step). Mild P w s.after) (eqb (target w h1 h2) top) (λ o. mild-refl w)
      (λ o.
      ways (λ (s : Step). Mild P w s.after) (eqb (joint_room Z w) 0) (λ o. mild-refl w)
      (λ o. mild-then (merged-mild h1 h2 w) (mild-then (take-mild (merged h1 h2 w)) (joint_push-mild (target w h1 h2) (record { place = new_place w; key = q; body1 = h1; body2 = h2 }) (take_place (merged h1 h2 w)))))))

  entry-mild : (h1 h2 : Handle) (w : World) → Mild P w (journal_removal h1 h2 w)
  unfolding journal_removal
  entry-mild h1 h2 w = ways (λ (v : World). Mild P w v) (same_handle h1 h2) (λ q. mild-refl w) (λ q. journal-mild w _)

  contact-off-mild : (i p : ℕ) (w : World) → Mild P w (contact_removed i p w)
  unfolding contact_removed
  contact-off-mild i p w = mild-keep w i _ refl

  joint-off-mild : (i p : ℕ) (w : World) → Mild P w (joint_removed i p w)
  unfolding joint_removed
  joint-off-mild i p w =
      let v = places_set w w.joint_places (w.free_places ++ ((get_or (island_at w i).joint_links p absent_joint).place ∷ [])) in
      mild-then (places-mild w _ _) (mild-keep v i (joints_set (island_at w i) (swap_remove absent_joint (island_at w i).joint_links p)) refl)

  pub uncontact-mild : (Z : Sizes) (e : ℕ) (w : World) → Mild P w (unlink_contact Z e w).after
  unfolding unlink_contact
  uncontact-mild Z e w =
      let i = contact_home w e in
      let p = place_of (edges_of (island_at w i)) e in
      let l = get_or (island_at w i).contact_links p absent_contact in
      ways (λ (s : Step). Mild P w s.after) (eqb i top) (λ q. mild-refl w)
      (λ q.
      ways (λ (s : Step). Mild P w s.after) (journal_refuses Z l.body1 l.body2 w) (λ q. mild-refl w)
      (λ q. mild-then (contact-off-mild i p w) (entry-mild l.body1 l.body2 (contact_removed i p w))))

  pub unjoint-mild : (Z : Sizes) (q : Key) (w : World) → Mild P w (unlink_joint Z q w).after
  unfolding unlink_joint
  unjoint-mild Z q w =
      let i = joint_home w q in
      let p = key_place (island_at w i).joint_links q in
      let l = get_or (island_at w i).joint_links p absent_joint in
      ways (λ (s : Step). Mild P w s.after) (eqb i top) (λ q. mild-refl w)
      (λ q.
      ways (λ (s : Step). Mild P w s.after) (journal_refuses Z l.body1 l.body2 w) (λ q. mild-refl w)
      (λ q. mild-then (joint-off-mild i p w) (entry-mild l.body1 l.body2 (joint_removed i p w))))

  pub renumber-mild : (r k : ℕ) (w : World) → Mild P w (contact_edge_removed r k w).after
  unfolding contact_edge_removed renumbered
  renumber-mild r k w =
      ways (λ (s : Step). Mild P w s.after) (leb w.tracked r) (λ q. mild-refl w)
      (λ q.
      ways (λ (s : Step). Mild P w s.after) (not (eqb (contact_home w r) top)) (λ q. mild-refl w)
      (λ q.
      ways (λ (s : Step). Mild P w s.after) (eqb w.tracked (k + 1))
      (λ q.
      mild-then (ways (λ (v : World). Mild P w v) (eqb (contact_home w k) top) (λ q. mild-refl w) (λ q. mild-keep w (contact_home w k) _ refl))
      (tracked-mild (renumbered r k w) k))
      (λ q. mild-refl w)))

  -- ---- the resolver, chains

  counted-mild : (r : Removal) (w : World) → Mild P w (counted r w)
  unfolding counted
  counted-mild r w =
      let i = body_island w r.body1 in
      ways (λ (v : World). Mild P w v) (not (eqb i top) && eqb i (body_island w r.body2)) (λ q. mild-keep w i _ refl) (λ q. mild-refl w)

  count-all-mild : (rs : List Removal) (w : World) → Mild P w (count_all rs w)
  unfolding count_all
  count-all-mild [] w = mild-refl w
  count-all-mild (r ∷ rs) w = mild-then (counted-mild r w) (count-all-mild rs (counted r w))

  pub resolve-mild : (w : World) → Mild P w (resolve_removals w).after
  unfolding resolve_removals
  resolve-mild w =
      ways (λ (s : Step). Mild P w s.after) (empty w.removal_journal) (λ q. mild-refl w)
      (λ q. mild-then (count-all-mild w.removal_journal w) (journal-mild (count_all w.removal_journal w) []))

  unlinked-mild : (Z : Sizes) (high low o k : ℕ) (w : World) → Mild P w (unlinked Z high low o k w)
  unfolding unlinked
  unlinked-mild Z high low o zero w = mild-refl w
  unlinked-mild Z high low o (suc k) w = mild-then (unjoint-mild Z (chain high low o) w) (unlinked-mild Z high low (o + 1) k _)

  linked-mild : (Z : Sizes) (high low o : ℕ) (prev : Handle) (hs : List Handle) (w : World) → Mild P w (linked Z high low o prev hs w)
  unfolding linked
  linked-mild Z high low o prev [] w = mild-refl w
  linked-mild Z high low o prev (h ∷ hs) w = mild-then (joint-mild Z (chain high low o) prev h w) (linked-mild Z high low (o + 1) h hs _)

  linked-all-mild : (Z : Sizes) (high low : ℕ) (hs : List Handle) (w : World) → Mild P w (linked_all Z high low hs w)
  unfolding linked_all
  linked-all-mild Z high low [] w = mild-refl w
  linked-all-mild Z high low (h ∷ hs) w = linked-mild Z high low 0 h hs w

  pub chain-mild : (Z : Sizes) (high low : ℕ) (hs : List Handle) (w : World) → Mild P w (refresh_multibody_chain Z high low hs w).after
  unfolding refresh_multibody_chain
  chain-mild Z high low hs w =
      let old = old_length Z w high low in
      let new = chained w hs in
      ways (λ (s : Step). Mild P w s.after) (ltb Z.slots (length hs)) (λ q. mild-refl w)
      (λ q.
      ways (λ (s : Step). Mild P w s.after) (ltb (joint_room Z w + old) (length new - 1)) (λ q. mild-refl w)
      (λ q.
      ways (λ (s : Step). Mild P w s.after) (ltb (Z.journal - length w.removal_journal) old) (λ q. mild-refl w)
      (λ q. mild-then (unlinked-mild Z high low 0 old w) (linked-all-mild Z high low new (unlinked Z high low 0 old w)))))

  -- ---- a split, up to its last step

  new-mild : (k : ℕ) (z : Bool) (w : World) → Mild P w (new_islands k z w)
  unfolding new_islands
  new-mild zero z w = mild-refl w
  new-mild (suc k) z w = mild-then (mild-then (alloc-mild w) (mild-zero (alloc_island w) (new_number w) (new_island z) refl)) (new-mild k z _)

  contacts-mild : (node : Handle → ℕ) (g : ℕ → ℕ) (b p : ℕ) (w : World) → Mild P w (contacts_leave node g b p w)
  unfolding contacts_leave
  contacts-mild node g b zero w = mild-refl w
  contacts-mild node g b (suc p) w =
      let l = get_or (island_at w b).contact_links p absent_contact in
      let to = link_goal g (node l.body1) (node l.body2) in
      mild-then
      (ways (λ (v : World). Mild P w v) (eqb to b) (λ q. mild-refl w)
      (λ q.
      ways (λ (v : World). Mild P w v) (eqb to top) (λ q. contact-off-mild b p w)
      (λ q. mild-then (contact-off-mild b p w) (contact_push-mild to l (contact_removed b p w)))))
      (contacts-mild node g b p _)

  moved-mild : (b to p : ℕ) (w : World) → Mild P w (joint_moved b to p w)
  unfolding joint_moved
  moved-mild b to p w = mild-then (mild-keep w b _ refl) (joint_push-mild to (get_or (island_at w b).joint_links p absent_joint) _)

  joints-mild : (node : Handle → ℕ) (g : ℕ → ℕ) (b p : ℕ) (w : World) → Mild P w (joints_leave node g b p w)
  unfolding joints_leave
  joints-mild node g b zero w = mild-refl w
  joints-mild node g b (suc p) w =
      let l = get_or (island_at w b).joint_links p absent_joint in
      let to = link_goal g (node l.body1) (node l.body2) in
      mild-then
      (ways (λ (v : World). Mild P w v) (eqb to b) (λ q. mild-refl w)
      (λ q. ways (λ (v : World). Mild P w v) (eqb to top) (λ q. joint-off-mild b p w) (λ q. moved-mild b to p w)))
      (joints-mild node g b p _)

  body-mild : (b to p : ℕ) (w : World) → Mild P w (body_moved b to p w)
  unfolding body_moved
  body-mild b to p w =
      let v = island_set w b (members_set (island_at w b) (swap_remove 0 (island_at w b).bodies p)) in
      mild-then (mild-keep w b (members_set (island_at w b) (swap_remove 0 (island_at w b).bodies p)) refl)
      (mild-keep v to (members_set (island_at v to) ((island_at v to).bodies ++ (get_or (island_at w b).bodies p 0 ∷ []))) refl)

  bodies-mild : (g : ℕ → ℕ) (b p : ℕ) (w : World) → Mild P w (bodies_leave g b p w)
  unfolding bodies_leave
  bodies-mild g b zero w = mild-refl w
  bodies-mild g b (suc p) w =
      mild-then (ways (λ (v : World). Mild P w v) (eqb (g p) b) (λ q. mild-refl w) (λ q. body-mild b (g p) p w)) (bodies-mild g b p _)

  parted-mild : (i : ℕ) (w : World) → Mild P w (parted i w)
  unfolding parted
  parted-mild i w = mild-then (mild-then (mild-then (new-mild _ _ w) (contacts-mild _ _ i _ _)) (joints-mild _ _ i _ _)) (bodies-mild _ i _ _)

  before-mild : (i : ℕ) (w : World) → Mild P w (pick (leb (components (labels_of w i)) 1) w (parted i w))
  before-mild i w = ways (λ (v : World). Mild P w v) (leb (components (labels_of w i)) 1) (λ q. mild-refl w) (λ q. parted-mild i w)

  -- ---- sleep

  asleep-mild : (w : World) (i : ℕ) (z : Bool) → Mild P w (island_set w i (sleeping_set (island_at w i) z))
  asleep-mild w i z = mild-keep w i _ refl

  pub sleep-mild : (i : ℕ) (w : World) → Mild P w (mark_island_sleeping i w).after
  unfolding mark_island_sleeping
  sleep-mild i w = ways (λ (s : Step). Mild P w s.after) (live w i) (λ q. mild-then (asleep-mild w i true) (clear-mild i _)) (λ q. mild-refl w)

  pub wake-mild : (i : ℕ) (w : World) → Mild P w (wake_island i w).after
  unfolding wake_island
  wake-mild i w = ways (λ (s : Step). Mild P w s.after) (live w i) (λ q. asleep-mild w i false) (λ q. mild-refl w)

  pub schedule-mild : (i : ℕ) (w : World) → Mild P w (schedule_split i w).after
  unfolding schedule_split
  schedule-mild i w = pending-mild w (some i)

-- ---- a split raises no denial but its island's, and that to at most the stamp and 16

pub denial-le : (s : ℕ) → denial s ≤ s + 16
unfolding denial
denial-le s = ways (λ (d : ℕ). d ≤ s + 16) (ltb top (s + 16)) (λ q. short s (ltb-true top (s + 16) q)) (λ q. le_refl _)
  where
    short : (s : ℕ) → top < s + 16 → top ≤ s + 16
    short s q = omega arith

checked-mild : (i : ℕ) (w : World) → Mild (λ (j : ℕ). j ≢ i) w (checked i w)
unfolding checked
checked-mild i w = mild-set w i _ (λ o. absurd (o refl))

pub split-mild : (i : ℕ) (w : World) → Mild (λ (j : ℕ). j ≢ i) w (split i w)
unfolding split
split-mild i w = mild-then (before-mild i w) (checked-mild i _)

-- the split island itself
checked-denied : (i : ℕ) (w : World) → denied_at (checked i w) i ≤ w.sleep_scan_stamp + 16
unfolding checked island_set
checked-denied i w =
    below i (length w.islands)
    (λ l. le_trans (le_of_eq (ap (λ (x : Island). x.split_denied_until) (get_or-set_same w.islands i _ absent_island l))) (denial-le w.sleep_scan_stamp))
    (λ l. le_trans (le_of_eq (ap (λ (x : List Island). (get_or x i absent_island).split_denied_until) (set_out w.islands i _ l) ∙ beyond l)) (zero-le (w.sleep_scan_stamp + 16)))
  where
    beyond : length w.islands ≤ i → denied_at w i ≡ 0
    beyond l = ap (λ (x : Island). x.split_denied_until) (get_d_beyond w.islands absent_island i l)

    zero-le : (n : ℕ) → 0 ≤ n
    zero-le n = omega arith

pub split-denied : (i : ℕ) (w : World) → denied_at (split i w) i ≤ w.sleep_scan_stamp + 16
unfolding split
split-denied i w =
    let B = before-mild {P = All} i w in
    subst (λ (s : ℕ). denied_at (checked i (pick (leb (components (labels_of w i)) 1) w (parted i w))) i ≤ s + 16) B.idle.stamp (checked-denied i _)

-- its count is 0
pub split-count : (i : ℕ) (w : World) → (island_at (split i w) i).constraint_remove_count ≡ 0
unfolding split checked island_set
split-count i w = at_set (pick (leb (components (labels_of w i)) 1) w (parted i w)).islands i _ refl
  where
    at_set : (is : List Island) (i : ℕ) (a : Island) → a.constraint_remove_count ≡ 0 → (get_or (set is i a) i absent_island).constraint_remove_count ≡ 0
    at_set is i a e =
        below i (length is) (λ l. ap (λ (x : Island). x.constraint_remove_count) (get_or-set_same is i a absent_island l) ∙ e)
        (λ l.
        ap (λ (x : List Island). (get_or x i absent_island).constraint_remove_count) (set_out is i a l)
        ∙ ap (λ (x : Island). x.constraint_remove_count) (get_d_beyond is absent_island i l))
