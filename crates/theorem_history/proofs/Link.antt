-- Contact link and joint link: a link is made.
use mathlib.Core.Path.{◌≡◌, refl, sym, ◌∙◌, ap, subst}
use mathlib.Core.Logic.{◌⊎◌, inl, inr, ◌≢◌, ⊎_elim}
use mathlib.Core.Bool.{Bool, true, false, not}
use mathlib.Core.List.{List, [], ◌∷◌, ◌++◌}
use Prim.Native.Nat.{ℕ, ◌+◌, ◌<◌}
use native.Mathlib.Omega.{arith}
use lib.ListN.{length, get_or, set, length-set}
use lib.Seq.{get_or-set_same, get_or-set_other}
use lib.Dec.{eqb, leb}
use borrow.Author.Tests.{eqb-true, eqb-false, not-false}
use Rattle.def_kinds.specs.Choice.{pick}
use Rattle.list_in_table.proofs.Laws.{either}
use Rattle.def_kinds.specs.declared.Sizes.{Sizes}
use Rattle.def_state.specs.Plain.{top, empty, drop_last}
use Rattle.def_state.specs.World.{Handle, Key, ContactLink, JointLink, absent_joint, Island, absent_island, World, Step, body_of, island_at, body_island}
use Rattle.def_state.specs.Fields.{places_set, island_set, contacts_set, joints_set}
use Rattle.def_state.specs.Links.{contact_home, joint_home, target, merged, contact_pushed, track, link_contact, joint_pushed, new_place, take_place, joint_room, link_joint}
use Rattle.theorem_split.specs.Graph.{In, here, edge, joint, Bond, of_contact, of_joint, bonds_of, Stands}
use Rattle.theorem_split.specs.Fine.{Apart}
use Rattle.theorem_split.proofs.Member.{in_one, in_left, in_right, in-cases}
use Rattle.theorem_split.proofs.Bonds.{contact-bond, joint-bond, bonds-all}
use Rattle.theorem_history.specs.Ties.{Event, nothing, is_done}
use Rattle.theorem_history.proofs.Change.{count, Calm, Same, Made, Change, same, linked}
use Rattle.theorem_history.proofs.Basic.{ways, set-part, same_by, same_refl, home_same, named-same, slot_same}
use Rattle.theorem_history.proofs.Keys.{Keyed, Fresh, keyed-same, merged-keyed, pushed-keyed, not_found}
use Rattle.theorem_history.proofs.Fuse.{Fused, merged-fused}

-- ---- a link put behind the list of island i

pub record Pushed (i : ℕ) (l : Bond) (u v : World) : Type 0 where
  pub generations : (s : ℕ) → (body_of v s).generation ≡ (body_of u s).generation
  pub long : length v.islands ≡ length u.islands
  pub bodies : (j : ℕ) → (island_at v j).bodies ≡ (island_at u j).bodies
  pub counts : (j : ℕ) → count v j ≡ count u j
  pub to : (j : ℕ) (k : Bond) → Stands u j k → Stands v j k
  pub new : Stands v i l
  pub from : (j : ℕ) (k : Bond) → Stands v j k → Stands u j k ⊎ ((k ≡ l) × (j ≡ i))
  pub journal : v.removal_journal ≡ u.removal_journal

module _ (i : ℕ) (u : World) (il : i < length u.islands) where
  contact_push : (c : ContactLink) → Pushed i (of_contact c) u (contact_pushed i c u)
  unfolding contact_pushed island_set
  contact_push c =
      let A = island_at u i in
      let N = contacts_set A (A.contact_links ++ (c ∷ [])) in
      let at : get_or (set u.islands i N) i absent_island ≡ N = get_or-set_same u.islands i N absent_island il in
      let off : (j : ℕ) → j ≢ i → get_or (set u.islands i N) j absent_island ≡ island_at u j = λ j d. get_or-set_other u.islands i j N absent_island d in
      record {
        generations = λ s. refl;
        long = length-set u.islands i N;
        bodies = set-part (λ (a : Island). a.bodies) u.islands i N absent_island refl;
        counts = set-part (λ (a : Island). a.constraint_remove_count) u.islands i N absent_island refl;
        to =
            λ j k s.
            either j i
            (λ e.
            subst (λ (x : ℕ). In k (bonds_of (get_or (set u.islands i N) x absent_island))) (sym e)
            (subst (λ (a : Island). In k (bonds_of a)) (sym at)
            (bonds-all A (λ (b : Bond). In b (bonds_of N)) (λ x m. contact-bond N x (in_left (c ∷ []) m)) (λ x m. joint-bond N x m) k
            (subst (λ (x : ℕ). Stands u x k) e s))))
            (λ d. subst (λ (a : Island). In k (bonds_of a)) (sym (off j d)) s);
        new = subst (λ (a : Island). In (of_contact c) (bonds_of a)) (sym at) (contact-bond N c (in_right A.contact_links (here refl)));
        from =
            λ j k s.
            either j i
            (λ e.
            ⊎_elim (λ m. inl (subst (λ (x : ℕ). Stands u x k) (sym e) m)) (λ m. inr (m, e))
            (bonds-all N (λ (b : Bond). Stands u i b ⊎ (b ≡ of_contact c))
            (λ x m. ⊎_elim (λ q. inl (contact-bond A x q)) (λ q. inr (ap of_contact (sym (in_one q)))) (in-cases A.contact_links m))
            (λ x m. inl (joint-bond A x m))
            k
            (subst (λ (a : Island). In k (bonds_of a)) at (subst (λ (x : ℕ). In k (bonds_of (get_or (set u.islands i N) x absent_island))) e s))))
            (λ d. inl (subst (λ (a : Island). In k (bonds_of a)) (off j d) s));
        journal = refl;
      }

  joint_push : (c : JointLink) → Pushed i (of_joint c) u (joint_pushed i c u)
  unfolding joint_pushed island_set
  joint_push c =
      let A = island_at u i in
      let N = joints_set A (A.joint_links ++ (c ∷ [])) in
      let at : get_or (set u.islands i N) i absent_island ≡ N = get_or-set_same u.islands i N absent_island il in
      let off : (j : ℕ) → j ≢ i → get_or (set u.islands i N) j absent_island ≡ island_at u j = λ j d. get_or-set_other u.islands i j N absent_island d in
      record {
        generations = λ s. refl;
        long = length-set u.islands i N;
        bodies = set-part (λ (a : Island). a.bodies) u.islands i N absent_island refl;
        counts = set-part (λ (a : Island). a.constraint_remove_count) u.islands i N absent_island refl;
        to =
            λ j k s.
            either j i
            (λ e.
            subst (λ (x : ℕ). In k (bonds_of (get_or (set u.islands i N) x absent_island))) (sym e)
            (subst (λ (a : Island). In k (bonds_of a)) (sym at)
            (bonds-all A (λ (b : Bond). In b (bonds_of N)) (λ x m. contact-bond N x m) (λ x m. joint-bond N x (in_left (c ∷ []) m)) k
            (subst (λ (x : ℕ). Stands u x k) e s))))
            (λ d. subst (λ (a : Island). In k (bonds_of a)) (sym (off j d)) s);
        new = subst (λ (a : Island). In (of_joint c) (bonds_of a)) (sym at) (joint-bond N c (in_right A.joint_links (here refl)));
        from =
            λ j k s.
            either j i
            (λ e.
            ⊎_elim (λ m. inl (subst (λ (x : ℕ). Stands u x k) (sym e) m)) (λ m. inr (m, e))
            (bonds-all N (λ (b : Bond). Stands u i b ⊎ (b ≡ of_joint c))
            (λ x m. inl (contact-bond A x m))
            (λ x m. ⊎_elim (λ q. inl (joint-bond A x q)) (λ q. inr (ap of_joint (sym (in_one q)))) (in-cases A.joint_links m))
            k
            (subst (λ (a : Island). In k (bonds_of a)) at (subst (λ (x : ℕ). In k (bonds_of (get_or (set u.islands i N) x absent_island))) e s))))
            (λ d. inl (subst (λ (a : Island). In k (bonds_of a)) (off j d) s));
        journal = refl;
      }

-- ---- merged, then pushed

module _ (w u v : World) (l : Bond) (i : ℕ) (A : Apart w) (F : Fused l.body1 l.body2 i w u) (P : Pushed i l u v) where
  pub pushed-apart : Apart v
  pushed-apart =
      record {
        small = rw P.long F.apart.small;
        once = λ a b s m n. F.apart.once a b s (subst (λ (x : List ℕ). In s x) (P.bodies a) m) (subst (λ (x : List ℕ). In s x) (P.bodies b) n);
      }

  push-home : (k : Handle) → body_island v k ≡ body_island u k
  push-home k = home_same u v k (named-same u v k (P.generations k.slot)) (slot_same u v P.long P.bodies k.slot)

  pub made-link : Made l w v
  made-link =
      record {
        into = i;
        in_some = λ e. (let a = F.in_use in let b = F.apart.small in omega arith);
        new = F.new;
        new_top = F.new_top;
        new_some = F.new_some;
        home = λ k. push-home k ∙ F.home k;
        first = F.first;
        second = F.second;
        to = λ j k s. P.to (F.new j) k (F.to j k s);
        stands = P.new;
        from = λ j k s. ⊎_elim (λ m. inl (F.from j k m)) (λ m. inr m) (P.from j k s);
        counts = λ j d c. F.counts j d (sym (P.counts (F.new j)) ∙ c);
        glue = F.glue;
        journal = P.journal ∙ F.journal;
      }

same-made : {l : Bond} {w u v : World} → Same w u → Made l u v → Made l w v
same-made {l} {w} {u} {v} S E =
    record {
      into = E.into;
      in_some = E.in_some;
      new = E.new;
      new_top = E.new_top;
      new_some = E.new_some;
      home = λ k. E.home k ∙ ap E.new (S.home k);
      first = λ d. ap E.new (sym (S.home l.body1)) ∙ E.first (λ q. d (sym (S.home l.body1) ∙ q));
      second = λ d. ap E.new (sym (S.home l.body2)) ∙ E.second (λ q. d (sym (S.home l.body2) ∙ q));
      to = λ j k s. E.to j k (S.to j k s);
      stands = E.stands;
      from = λ j k s. ⊎_elim (λ o. inl (o.0, o.1, S.from o.0 k o.2)) (λ o. inr o) (E.from j k s);
      counts = λ j d c. sym (S.counts j) ∙ E.counts j d c;
      glue =
          λ i j a b e.
          ⊎_elim (λ q. inl q)
          (λ q.
          inr
          (⊎_elim (λ x. inl (x.0 ∙ S.home l.body1, x.1 ∙ S.home l.body2)) (λ x. inr (x.0 ∙ S.home l.body2, x.1 ∙ S.home l.body1)) q))
          (E.glue i j a b e);
      journal = E.journal ∙ S.journal;
    }

-- ---- contact link

track-same : (k : ℕ) (w : World) → Same w (track k w)
unfolding track
track-same k w = same_by w (track k w) (λ s. refl) refl (λ j. refl) refl

track-apart : (k : ℕ) (w : World) → Apart w → Apart (track k w)
unfolding track
track-apart k w A = record { small = A.small; once = A.once }

module _ (Z : Sizes) (e : ℕ) (h1 h2 : Handle) (w : World) (A : Apart w) where
  abbrev contact_bond : Bond
  contact_bond = record { name = edge e; body1 = h1; body2 = h2 }

  pub contact-change : Change (pick (is_done (link_contact Z e h1 h2 w)) (Event.made contact_bond) nothing) w (link_contact Z e h1 h2 w).after
  unfolding link_contact
  contact-change =
      ways (λ (s : Step). Change (pick (is_done s) (Event.made contact_bond) nothing) w s.after) (leb Z.edges e) (λ q. same (same_refl w))
      (λ q.
      ways (λ (s : Step). Change (pick (is_done s) (Event.made contact_bond) nothing) w s.after) (not (eqb (contact_home (track (e + 1) w) e) top))
      (λ q. same (track-same (e + 1) w))
      (λ q.
      ways (λ (s : Step). Change (pick (is_done s) (Event.made contact_bond) nothing) w s.after) (eqb (target (track (e + 1) w) h1 h2) top)
      (λ q. same (track-same (e + 1) w))
      (λ q.
      let u = track (e + 1) w in
      let B : Apart (track (e + 1) w) = track-apart (e + 1) w A in
      let F : Fused h1 h2 (target (track (e + 1) w) h1 h2) (track (e + 1) w) (merged h1 h2 (track (e + 1) w)) =
      merged-fused (track (e + 1) w) B h1 h2 (eqb-false (target (track (e + 1) w) h1 h2) top q) in
      linked
      (same-made (track-same (e + 1) w)
      (made-link (track (e + 1) w) (merged h1 h2 (track (e + 1) w)) _ contact_bond (target (track (e + 1) w) h1 h2) B F
      (contact_push (target (track (e + 1) w) h1 h2) (merged h1 h2 (track (e + 1) w)) F.in_use (record { edge_id = e; body1 = h1; body2 = h2 })))))))

-- ---- joint link

place-pushed : (i : ℕ) (l : Bond) (u v : World) → Pushed i l (take_place u) v → Pushed i l u v
unfolding take_place
place-pushed i l u v P = go (empty u.free_places) P
  where
    go : (b : Bool) → Pushed i l (pick b (places_set u (u.joint_places + 1) []) (places_set u u.joint_places (drop_last u.free_places))) v → Pushed i l u v
    go true P =
        record {
          generations = P.generations;
          long = P.long;
          bodies = P.bodies;
          counts = P.counts;
          to = P.to;
          new = P.new;
          from = P.from;
          journal = P.journal;
        }
    go false P =
        record {
          generations = P.generations;
          long = P.long;
          bodies = P.bodies;
          counts = P.counts;
          to = P.to;
          new = P.new;
          from = P.from;
          journal = P.journal;
        }

place-islands : (u : World) → (take_place u).islands ≡ u.islands
unfolding take_place
place-islands u = ways (λ (x : World). x.islands ≡ u.islands) (empty u.free_places) (λ q. refl) (λ q. refl)

place-keyed : (u : World) → Keyed u → Keyed (take_place u)
place-keyed u K = keyed-same u (take_place u) (λ j. ap (λ (is : List Island). (get_or is j absent_island).joint_links) (place-islands u)) K

place-fresh : (u : World) (q : Key) → Fresh u q → Fresh (take_place u) q
place-fresh u q f j r l e =
    f j r (subst (λ (is : List Island). r < length (get_or is j absent_island).joint_links) (place-islands u) l)
    (ap (λ (is : List Island). (get_or (get_or is j absent_island).joint_links r absent_joint).key) (sym (place-islands u)) ∙ e)

place-long : (u : World) → length (take_place u).islands ≡ length u.islands
unfolding take_place
place-long u = ways (λ (x : World). length x.islands ≡ length u.islands) (empty u.free_places) (λ q. refl) (λ q. refl)

module _ (Z : Sizes) (q : Key) (h1 h2 : Handle) (w : World) (A : Apart w) (K : Keyed w) where
  abbrev joint_bond : Bond
  joint_bond = record { name = joint q; body1 = h1; body2 = h2 }

  -- the change; the islands after it are apart and no key is twice again, and nobody became a member
  pub joint-change : Change (pick (is_done (link_joint Z q h1 h2 w)) (Event.made joint_bond) nothing) w (link_joint Z q h1 h2 w).after × Apart (link_joint Z q h1 h2 w).after × Keyed (link_joint Z q h1 h2 w).after × Calm w (link_joint Z q h1 h2 w).after
  unfolding link_joint
  joint-change =
      ways (λ (s : Step). Change (pick (is_done s) (Event.made joint_bond) nothing) w s.after × Apart s.after × Keyed s.after × Calm w s.after) (not (eqb (joint_home w q) top)) (λ z. (same (same_refl w), A, K, λ h e. e))
      (λ nf.
      ways (λ (s : Step). Change (pick (is_done s) (Event.made joint_bond) nothing) w s.after × Apart s.after × Keyed s.after × Calm w s.after) (eqb (target w h1 h2) top) (λ z. (same (same_refl w), A, K, λ h e. e))
      (λ t.
      ways (λ (s : Step). Change (pick (is_done s) (Event.made joint_bond) nothing) w s.after × Apart s.after × Keyed s.after × Calm w s.after) (eqb (joint_room Z w) 0) (λ z. (same (same_refl w), A, K, λ h e. e))
      (λ z.
      let F : Fused h1 h2 (target w h1 h2) w (merged h1 h2 w) = merged-fused w A h1 h2 (eqb-false (target w h1 h2) top t) in
      let home : joint_home w q ≡ top = eqb-true (joint_home w q) top (not-false (eqb (joint_home w q) top) nf) in
      let M = merged-keyed w K h1 h2 q (not_found w A.small q home) in
      let P : Pushed (target w h1 h2) joint_bond (merged h1 h2 w) (joint_pushed (target w h1 h2) (record { place = new_place w; key = q; body1 = h1; body2 = h2 }) (take_place (merged h1 h2 w))) =
      place-pushed (target w h1 h2) joint_bond (merged h1 h2 w) _
      (joint_push (target w h1 h2) (take_place (merged h1 h2 w)) (rw (place-long (merged h1 h2 w)) F.in_use) (record { place = new_place w; key = q; body1 = h1; body2 = h2 })) in (
        linked (made-link w (merged h1 h2 w) _ joint_bond (target w h1 h2) A F P),
        pushed-apart w (merged h1 h2 w) _ joint_bond (target w h1 h2) A F P,
        pushed-keyed (target w h1 h2) (record { place = new_place w; key = q; body1 = h1; body2 = h2 }) (take_place (merged h1 h2 w)) (place-keyed (merged h1 h2 w) M.0)
            (place-fresh (merged h1 h2 w) q M.1)
            (rw (place-long (merged h1 h2 w)) F.in_use),
        (λ h e. (let E = made-link w (merged h1 h2 w) _ joint_bond (target w h1 h2) A F P in E.home h ∙ ap E.new e ∙ E.new_top)),
      ))))
