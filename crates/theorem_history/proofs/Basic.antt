-- Calls that change no island, link, count or entry.
use mathlib.Core.Path.{◌≡◌, refl, sym, ◌∙◌, ap, subst}
use mathlib.Core.Bool.{Bool, true, false, not}
use mathlib.Core.Option.{Option, some}
use mathlib.Core.List.{List, [], ◌++◌, map}
use Prim.Native.Nat.{ℕ, zero, suc, ◌+◌, ◌-◌}
use native.Mathlib.Omega.{arith}
use lib.ListN.{length, get_or, set, replicate, length-set, length-replicate, get_or-replicate, get_or-append}
use lib.Seq.{get_or-set_same, get_or-set_other, set_out, get_or-append-add}
use lib.Dec.{eqb, ltb, leb}
use borrow.Author.Tests.{eqb-true}
use Rattle.def_kinds.specs.Choice.{pick}
use Rattle.list_in_table.proofs.Laws.{either}
use Rattle.list_in_table.proofs.Same.{below}
use Rattle.table_meaning.proofs.Tab.{get_d_beyond}
use Rattle.def_kinds.specs.declared.Sizes.{Sizes}
use Rattle.def_state.specs.Plain.{top}
use Rattle.def_state.specs.World.{Handle, Body, absent_body, ContactLink, JointLink, Island, absent_island, World, Step, body_of, island_at, named, island_below, island_of, body_island, live}
use Rattle.def_state.specs.Fields.{bodies_set, split_set, scan_set, island_set, sleeping_set}
use Rattle.def_state.specs.Membership.{clear_pending_split_of}
use Rattle.def_state.specs.Bodies.{grown, filled, placed, put, flags}
use Rattle.def_state.specs.Split.{schedule_split}
use Rattle.def_state.specs.Scan.{begin_sleep_scan, observe_body_for_sleep, observed, Listing, sleepables, finish_sleep_scan, mark_island_sleeping, wake_island}
use Rattle.def_state.specs.Calls.{finished}
use Rattle.theorem_split.specs.Graph.{In, of_contact, of_joint}
use Rattle.theorem_split.specs.Fine.{Fine}
use Rattle.theorem_split.proofs.Homes.{member, named-generation}
use Rattle.theorem_history.proofs.Change.{Same}

-- what holds of both ways of a pick
pub ways : {A : Type 0} (P : A → Type 0) (b : Bool) {x y : A} → (b ≡ true → P x) → (b ≡ false → P y) → P (pick b x y)
ways P true f g = f refl
ways P false f g = g refl

-- one part of an element is kept by setting another
pub set-part : {A B : Type 0} (f : A → B) (xs : List A) (i : ℕ) (a d : A) → f a ≡ f (get_or xs i d) → (j : ℕ) → f (get_or (set xs i a) j d) ≡ f (get_or xs j d)
set-part f xs i a d e j =
    either j i
    (λ q.
    below i (length xs)
    (λ l. ap (λ k. f (get_or (set xs i a) k d)) q ∙ ap f (get_or-set_same xs i a d l) ∙ e ∙ ap (λ k. f (get_or xs k d)) (sym q))
    (λ l. ap (λ x. f (get_or x j d)) (set_out xs i a l)))
    (λ o. ap f (get_or-set_other xs i j a d o))

-- ---- a body's island, where names and lists are as they were

pub below-same : (is js : List Island) (s k : ℕ) → ((j : ℕ) → (get_or js j absent_island).bodies ≡ (get_or is j absent_island).bodies) → island_below js s k ≡ island_below is s k
unfolding island_below
below-same is js s zero h = refl
below-same is js s (suc k) h = rw (h k, below-same is js s k h)

pub slot_same : (w v : World) → length v.islands ≡ length w.islands → ((j : ℕ) → (island_at v j).bodies ≡ (island_at w j).bodies) → (s : ℕ) → island_of v s ≡ island_of w s
unfolding island_of
slot_same w v e h s = rw e (below-same w.islands v.islands s (length w.islands) h)

pub home_same : (w v : World) (h : Handle) → named v h ≡ named w h → island_of v h.slot ≡ island_of w h.slot → body_island v h ≡ body_island w h
unfolding body_island
home_same w v h p q = rw (p, q)

pub named-same : (w v : World) (h : Handle) → (body_of v h.slot).generation ≡ (body_of w h.slot).generation → named v h ≡ named w h
unfolding named
named-same w v h e = rw e

-- all of an island that is seen here
pub record Seen : Type 0 where
  pub bodies : List ℕ
  pub contacts : List ContactLink
  pub joints : List JointLink
  pub removals : ℕ

abbrev pub seen : Island → Seen
seen a = record { bodies = a.bodies; contacts = a.contact_links; joints = a.joint_links; removals = a.constraint_remove_count }

-- the same generations, the same islands but for what is not seen, the same journal
pub same_by : (w v : World) → ((s : ℕ) → (body_of v s).generation ≡ (body_of w s).generation) → length v.islands ≡ length w.islands
    → ((j : ℕ) → seen (island_at v j) ≡ seen (island_at w j))
    → v.removal_journal ≡ w.removal_journal
    → Same w v
same_by w v g e f j =
    record {
      home = λ h. home_same w v h (named-same w v h (g h.slot)) (slot_same w v e (λ i. ap (λ (s : Seen). s.bodies) (f i)) h.slot);
      to = λ i l s. subst (λ (x : Seen). In l (map of_contact x.contacts ++ map of_joint x.joints)) (sym (f i)) s;
      from = λ i l s. subst (λ (x : Seen). In l (map of_contact x.contacts ++ map of_joint x.joints)) (f i) s;
      counts = λ i. ap (λ (s : Seen). s.removals) (f i);
      journal = j;
    }

pub same_refl : (w : World) → Same w w
same_refl w = record { home = λ h. refl; to = λ i l s. s; from = λ i l s. s; counts = λ i. refl; journal = refl }

-- ---- the body table

get_or-vacant : (xs : List Body) (k j : ℕ) → get_or (xs ++ replicate k absent_body) j absent_body ≡ get_or xs j absent_body
get_or-vacant xs k j =
    below j (length xs) (λ l. get_or-append xs (replicate k absent_body) absent_body j l)
    (λ l.
    let e : length xs + (j - length xs) ≡ j = omega arith in
    subst (λ (n : ℕ). get_or (xs ++ replicate k absent_body) n absent_body ≡ absent_body) e
    (get_or-append-add xs (replicate k absent_body) (j - length xs) absent_body ∙ vacant k (j - length xs))
    ∙ sym (get_d_beyond xs absent_body j l))
  where
    vacant : (k j : ℕ) → get_or (replicate k absent_body) j absent_body ≡ absent_body
    vacant k j =
        below j k (λ l. get_or-replicate k j absent_body absent_body l)
        (λ l. get_d_beyond (replicate k absent_body) absent_body j (let h = length-replicate k absent_body in omega arith))

module _ (Z : Sizes) (w : World) (F : Fine w) (h : Handle) (f e z : Bool) where
  -- a vacant slot takes a body, which is in no island
  placed_same : (body_of w h.slot).generation ≡ top → Same w (placed h f e z w)
  unfolding placed grown
  placed_same vacant =
      record {
        home =
            λ k.
            either k.slot h.slot
            (λ q. out k (placed h f e z w) (λ i m. nobody i (subst (λ (s : ℕ). In s (island_at w i).bodies) q m)) ∙ sym (out k w (λ i m. nobody i (subst (λ (s : ℕ). In s (island_at w i).bodies) q m))))
            (λ d.
            home_same w (placed h f e z w) k
            (named-same w (placed h f e z w) k
            (ap (λ (b : Body). b.generation)
            (get_or-set_other (w.bodies ++ replicate (h.slot + 1 - length w.bodies) absent_body) h.slot k.slot (filled h f e z (body_of w h.slot)) absent_body d
            ∙ get_or-vacant w.bodies (h.slot + 1 - length w.bodies) k.slot)))
            (slot_same w (placed h f e z w) refl (λ j. refl) k.slot));
        to = λ i l s. s;
        from = λ i l s. s;
        counts = λ i. refl;
        journal = refl;
      }
    where
      nobody : (i : ℕ) → In h.slot (island_at w i).bodies → ⊥
      nobody i m = F.alive i h.slot m vacant

      out : (k : Handle) (v : World) → ((i : ℕ) → In k.slot (island_at v i).bodies → ⊥) → body_island v k ≡ top
      out k v o = either (body_island v k) top (λ q. q) (λ d. absurd (o (body_island v k) (member v (body_island v k) k refl d).listed))

  pub put_same : Same w (put Z h f e z w).after
  unfolding put
  put_same =
      ways (λ (s : Step). Same w s.after) (leb Z.slots h.slot) (λ q. same_refl w)
      (λ q.
      ways (λ (s : Step). Same w s.after) (eqb (body_of w h.slot).generation top)
      (λ v.
      ways (λ (s : Step). Same w s.after) (ltb h.generation (body_of w h.slot).lowest) (λ o. same_refl w)
      (λ o.
      ways (λ (s : Step). Same w s.after) (eqb h.generation top) (λ o. same_refl w)
      (λ o. placed_same (eqb-true (body_of w h.slot).generation top v))))
      (λ v. same_refl w))

  pub flags-same : Same w (flags h f e z w).after
  unfolding flags
  flags-same =
      ways (λ (s : Step). Same w s.after) (named w h)
      (λ n.
      same_by w (bodies_set w (set w.bodies h.slot (filled h f e z (body_of w h.slot))))
      (set-part (λ (b : Body). b.generation) w.bodies h.slot (filled h f e z (body_of w h.slot)) absent_body (sym (named-generation w h n).0))
      refl
      (λ j. refl)
      refl)
      (λ n. same_refl w)

-- ---- the waiting split, the scan, sleep

pub schedule-same : (i : ℕ) (w : World) → Same w (schedule_split i w).after
unfolding schedule_split
schedule-same i w = same_by w (split_set w (some i)) (λ s. refl) refl (λ j. refl) refl

pub pending-same : (o : Option ℕ) (w : World) → Same w (split_set w o)
pending-same o w = same_by w (split_set w o) (λ s. refl) refl (λ j. refl) refl

pub begin-same : (w : World) → Same w (begin_sleep_scan w).after
unfolding begin_sleep_scan
begin-same w = same_by w (begin_sleep_scan w).after (λ s. refl) refl (λ j. refl) refl

pub observe-same : (i : ℕ) (e : Bool) (w : World) → Same w (observe_body_for_sleep i e w).after
unfolding observe_body_for_sleep
observe-same i e w =
    ways (λ (s : Step). Same w s.after) (live w i)
    (λ q.
    ways (λ (s : Step). Same w s.after) w.scanning
    (λ q. same_by w (scan_set w w.sleep_scan_stamp true (observed i e w.sleep_scan_touched)) (λ s. refl) refl (λ j. refl) refl)
    (λ q. same_refl w))
    (λ q. same_refl w)

pub finish-same : (room : ℕ) (w : World) → Same w (finished room w).after
unfolding finished finish_sleep_scan
finish-same room w =
    ways (λ (s : Listing). Same w s.after) (not w.scanning) (λ q. same_refl w)
    (λ q.
    ways (λ (s : Listing). Same w s.after) (ltb room (length (sleepables w w.sleep_scan_touched))) (λ q. same_refl w)
    (λ q. same_by w (scan_set w w.sleep_scan_stamp false []) (λ s. refl) refl (λ j. refl) refl))

sleep-set : (w : World) (i : ℕ) (z : Bool) → Same w (island_set w i (sleeping_set (island_at w i) z))
unfolding island_set
sleep-set w i z =
    same_by w (island_set w i (sleeping_set (island_at w i) z)) (λ s. refl) (length-set w.islands i _) (set-part seen w.islands i _ absent_island refl) refl

pub sleep-same : (i : ℕ) (w : World) → Same w (mark_island_sleeping i w).after
unfolding mark_island_sleeping clear_pending_split_of
sleep-same i w =
    ways (λ (s : Step). Same w s.after) (live w i)
    (λ q.
    let S = sleep-set w i true in
    let P = pending-same (clear_pending_split_of i (island_set w i (sleeping_set (island_at w i) true))).split_island (island_set w i (sleeping_set (island_at w i) true)) in
    record {
      home = λ h. P.home h ∙ S.home h;
      to = λ j l s. P.to j l (S.to j l s);
      from = λ j l s. S.from j l (P.from j l s);
      counts = λ j. P.counts j ∙ S.counts j;
      journal = P.journal ∙ S.journal;
    })
    (λ q. same_refl w)

pub wake-same : (i : ℕ) (w : World) → Same w (wake_island i w).after
unfolding wake_island
wake-same i w = ways (λ (s : Step). Same w s.after) (live w i) (λ q. sleep-set w i false) (λ q. same_refl w)
