-- What a split does: `Parted`.
use mathlib.Core.Path.{◌≡◌, refl, sym, ◌∙◌, ap, subst}
use mathlib.Core.Logic.{◌⊎◌, inl, inr, ◌≢◌, ⊎_elim, ◌↔◌}
use mathlib.Core.Bool.{Bool, true}
use mathlib.Core.List.{List, ◌++◌, map}
use Prim.Native.Nat.{ℕ, ◌≤◌, ◌<◌}
use native.Mathlib.Omega.{arith}
use lib.ListN.{length, get_or, length-set}
use lib.Seq.{get_or-set_same, get_or-set_other}
use lib.Dec.{eqb}
use borrow.Author.Tests.{eq-eqb, ne_eqb, eqb-false, not-true}
use Rattle.list_in_table.proofs.Laws.{either}
use Rattle.table_meaning.proofs.Tab.{get_d_beyond}
use Rattle.def_state.specs.Plain.{top}
use Rattle.def_state.specs.World.{Handle, ContactLink, JointLink, Island, absent_island, World, body_of, island_at, named, body_island, live}
use Rattle.def_state.specs.Fields.{island_set}
use Rattle.def_state.specs.Connected.{components}
use Rattle.def_state.specs.Split.{node_of, links_of, labels_of, link_goal, denial, checked}
use Rattle.theorem_split.specs.Graph.{In, Path, Bond, of_contact, of_joint, Stands, Own, Whole}
use Rattle.theorem_split.specs.Fine.{Apart, Fine}
use Rattle.theorem_split.specs.Parted.{Steady, Parted}
use Rattle.theorem_split.proofs.Member.{none_in, in-at, at_in}
use Rattle.theorem_split.proofs.Homes.{in_use, member, at_home, named_table, own_name}
use Rattle.theorem_split.proofs.Walk.{Went}
use Rattle.theorem_split.proofs.Leave.{bodies_at, set-field}
use Rattle.theorem_split.proofs.Numbers.{Spare}
use Rattle.split_forest.specs.Groups.{Inside}
use Rattle.split_forest.proofs.Labels.{length_label, label-joined, label-own, label-lt}
use Rattle.theorem_split.proofs.Goals.{one_label, one-component}
use Rattle.theorem_split.proofs.Ends.{node-out, node-lt, node-slot, node_in, ends-inside, path-joined, joined-path}

-- a live island has a body, and a number in use
pub live-some : (w : World) (i : ℕ) → live w i ≡ true → 0 < length (island_at w i).bodies
unfolding live
live-some w i e = let d = eqb-false (length (island_at w i).bodies) 0 (not-true (eqb (length (island_at w i).bodies) 0) e) in omega arith

pub some-live : (w : World) (i : ℕ) {s : ℕ} → In s (island_at w i).bodies → live w i ≡ true
unfolding live
some-live w i m = let l = (at_in 0 m).lt in rw (ne_eqb (length (island_at w i).bodies) 0 (λ e. (let x : length (island_at w i).bodies ≡ 0 = e in omega arith)))

pub spare-none : (w : World) → Fine w → (j : ℕ) → Spare w j → island_at w j ≡ absent_island
spare-none w F j (inl i) = F.free j i
spare-none w F j (inr l) = get_d_beyond w.islands absent_island j l

module _ (w : World) (F : Fine w) (i : ℕ) (lv : live w i ≡ true) where
  pub some : 0 < length (island_at w i).bodies
  some = live-some w i lv

  pub i_lt : i < length w.islands
  i_lt = in_use w i (in-at 0 (island_at w i).bodies 0 some)

  pub it : i ≢ top
  it e = let l = i_lt in let s = F.apart.small in omega arith

  pub not_spare : Spare w i → ⊥
  not_spare s =
      none_in (subst (λ (a : Island). In (get_or (island_at w i).bodies 0 0) a.bodies) (spare-none w F i s) (in-at 0 (island_at w i).bodies 0 some))

  abbrev n : ℕ
  n = length (island_at w i).bodies

  abbrev ls : List (ℕ × ℕ)
  ls = links_of w i

  inside : Inside (links_of w i) (length (island_at w i).bodies)
  inside = ends-inside w F i it

  abbrev L : List ℕ
  L = labels_of w i

  pub long : length (labels_of w i) ≡ length (island_at w i).bodies
  unfolding labels_of
  long = length_label (links_of w i) (length (island_at w i).bodies)

  pub own : (p : ℕ) → p < length (labels_of w i) → get_or (labels_of w i) (get_or (labels_of w i) p 0) 0 ≡ get_or (labels_of w i) p 0
  unfolding labels_of
  own p l = label-own ls n inside p (rw long at l)

  pub lt : (p : ℕ) → p < length (labels_of w i) → get_or (labels_of w i) p 0 < length (labels_of w i)
  unfolding labels_of
  lt p l = rw long (label-lt ls n inside p (rw long at l))

  -- two bodies have one label exactly if a path joins them
  same-label : (a b : Handle) → body_island w a ≡ i → body_island w b ≡ i
      → (get_or (labels_of w i) (node_of w i a) 0 ≡ get_or (labels_of w i) (node_of w i b) 0) ↔ Path (Own w i) a b
  unfolding labels_of
  same-label a b ha hb =
      let J = label-joined ls n inside (node_of w i a) (node_of w i b) (node-lt w F i it a ha) (node-lt w F i it b hb) in
      ((λ e. joined-path w F i it (J.0 e) a b ha hb refl refl), (λ p. J.1 (path-joined w F i it p)))

  -- the handle of the body at place q
  handle-at : (q : ℕ) → q < length (island_at w i).bodies → (h : Handle) × (body_island w h ≡ i) × (node_of w i h ≡ q)
  handle-at q l =
      let s = get_or (island_at w i).bodies q 0 in
      let m : In s (island_at w i).bodies = in-at 0 (island_at w i).bodies q l in
      let g = (body_of w s).generation in
      let h : Handle = record { slot = get_or (island_at w i).bodies q 0; generation = (body_of w (get_or (island_at w i).bodies q 0)).generation } in
      let e : body_island w h ≡ i = at_home w F.apart i h (record { named_is = own_name w s (F.alive i s m); listed = m }) in
      (h, e, F.single i (node_of w i h) q (node-lt w F i it h e) l (node-slot w F i it h e))

  -- a connected island has one component
  pub whole-one : Whole w i → components (labels_of w i) ≤ 1
  whole-one W =
      one-component (labels_of w i)
      (λ a b la lb oa ob.
      let x = handle-at a (rw long at la) in
      let y = handle-at b (rw long at lb) in
      sym oa ∙ ap (λ (k : ℕ). get_or (labels_of w i) k 0) (sym x.2) ∙ (same-label x.0 y.0 x.1 y.1).1 (W x.0 y.0 x.1 y.1)
      ∙ ap (λ (k : ℕ). get_or (labels_of w i) k 0) y.2
      ∙ ob)

  -- in an island of one component all places have one label
  one_same : components (labels_of w i) ≤ 1 → (p q : ℕ) → p < length (island_at w i).bodies → q < length (island_at w i).bodies
      → get_or (labels_of w i) p 0 ≡ get_or (labels_of w i) q 0
  one_same one p q pl ql =
      let p' : p < length (labels_of w i) = rw long pl in
      let q' : q < length (labels_of w i) = rw long ql in
      one_label (labels_of w i) one (get_or (labels_of w i) p 0) (get_or (labels_of w i) q 0) (lt p p') (lt q q') (own p p') (own q q')

  -- so it is connected
  pub one-whole : components (labels_of w i) ≤ 1 → Whole w i
  one-whole one a b ha hb =
      (same-label a b ha hb).0 (one_same one (node_of w i a) (node_of w i b) (node-lt w F i it a ha) (node-lt w F i it b hb))

-- a walk's outcome: the body at place q of i goes to `dest q`, and links go with their ends
pub record Shift (i : ℕ) (w v : World) (dest : ℕ → ℕ) : Type 0 where
  pub small : length v.islands ≤ top
  pub steady : Steady w v
  pub dest_in : (q : ℕ) → q < length (island_at w i).bodies → dest q ≢ top
  pub dest_same : (p q : ℕ) → p < length (island_at w i).bodies → q < length (island_at w i).bodies
      → (dest p ≡ dest q) ↔ (get_or (labels_of w i) p 0 ≡ get_or (labels_of w i) q 0)
  pub body_out : (j s : ℕ) → In s (bodies_at v j) → Went 0 (λ q x. dest q) i (λ q. get_or (bodies_at w i) q 0) (length (bodies_at w i)) s j ⊎ ((j ≢ i) × In s (bodies_at w j))
  pub body_move : (q : ℕ) → q < length (bodies_at w i) → In (get_or (bodies_at w i) q 0) (bodies_at v (dest q))
  pub body_keep : (j s : ℕ) → j ≢ i → In s (bodies_at w j) → In s (bodies_at v j)
  pub other : (j : ℕ) → j ≢ i → live w j ≡ true → island_at v j ≡ island_at w j
  pub link_keep : (j : ℕ) (l : Bond) → j ≢ i → Stands w j l → Stands v j l
  pub link_move : (j : ℕ) (l : Bond) → Stands w i l → link_goal dest (node_of w i l.body1) (node_of w i l.body2) ≡ j → j ≢ top → Stands v j l
  -- a link with neither end in i stays where i is one component, and is dropped where it is several
  pub link_none : (l : Bond) → Stands w i l → node_of w i l.body1 ≡ top → node_of w i l.body2 ≡ top
      → ((components (labels_of w i) ≤ 1) × Stands v i l) ⊎ ((1 < components (labels_of w i)) × ((j : ℕ) → Stands v j l → ⊥))
  pub link_out : (j : ℕ) (l : Bond) → Stands v j l
      → ((j ≢ i) × Stands w j l)
      ⊎ (Stands w i l
      × ((link_goal dest (node_of w i l.body1) (node_of w i l.body2) ≡ j) ⊎ ((node_of w i l.body1 ≡ top) × (node_of w i l.body2 ≡ top))))
  pub count : (q : ℕ) → q < length (bodies_at w i) → (island_at v (dest q)).constraint_remove_count ≡ 0
  pub sleeping : (q : ℕ) → q < length (bodies_at w i) → (island_at v (dest q)).sleeping ≡ (island_at w i).sleeping
  pub denied : (island_at v i).split_denied_until ≡ denial w.sleep_scan_stamp
  pub free : (q : ℕ) → q < length (bodies_at w i) → dest q ≢ i → (island_at v (dest q)).split_denied_until ≡ 0

pub goal-first : (g : ℕ → ℕ) (a b : ℕ) → a ≢ top → link_goal g a b ≡ g a
unfolding link_goal
goal-first g a b d = rw (ne_eqb a top d)

pub goal-second : (g : ℕ → ℕ) (a b : ℕ) → a ≡ top → b ≢ top → link_goal g a b ≡ g b
unfolding link_goal
goal-second g a b e d = rw (eq-eqb a top e, ne_eqb b top d)

pub goal-none : (g : ℕ → ℕ) (a b : ℕ) → a ≡ top → b ≡ top → link_goal g a b ≡ top
unfolding link_goal
goal-none g a b e d = rw (eq-eqb a top e, eq-eqb b top d)

module _ (w : World) (F : Fine w) (i : ℕ) (lv : live w i ≡ true) (v : World) (dest : ℕ → ℕ) (S : Shift i w v dest) where
  abbrev node : Handle → ℕ
  node = node_of w i

  abbrev i≢ : i ≢ top
  i≢ = it w F i lv

  -- a slot of i goes to one island alone
  once : (j k s : ℕ) → In s (bodies_at v j) → In s (bodies_at v k) → j ≡ k
  once j k s a b =
      ⊎_elim
      (λ g.
      ⊎_elim
      (λ h.
      let q : g.place ≡ h.place = F.single i g.place h.place g.lt h.lt (g.is ∙ sym h.is) in
      sym g.to ∙ ap dest q ∙ h.to)
      (λ h. absurd (h.0 (F.apart.once k i s h.1 (subst (λ (x : ℕ). In x (bodies_at w i)) g.is (in-at 0 (bodies_at w i) g.place g.lt)))))
      (S.body_out k s b))
      (λ g.
      ⊎_elim
      (λ h. absurd (g.0 (F.apart.once j i s g.1 (subst (λ (x : ℕ). In x (bodies_at w i)) h.is (in-at 0 (bodies_at w i) h.place h.lt)))))
      (λ h. F.apart.once j k s g.1 h.1)
      (S.body_out k s b))
      (S.body_out j s a)

  A : Apart v
  A = record { small = S.small; once = once }

  name : (h : Handle) → named v h ≡ named w h
  name = named_table w v S.steady.table

  -- a body of i is where its place goes
  moved : (h : Handle) → body_island w h ≡ i → body_island v h ≡ dest (node h)
  moved h e =
      at_home v A (dest (node h)) h
      (record {
        named_is = name h ∙ (member w i h e i≢).named_is;
        listed = subst (λ (x : ℕ). In x (bodies_at v (dest (node h)))) (node-slot w F i i≢ h e) (S.body_move (node h) (node-lt w F i i≢ h e));
      })

  stays : (h : Handle) → body_island w h ≢ i → body_island v h ≡ body_island w h
  stays h d =
      either (body_island w h) top
      (λ e.
      either (body_island v h) top (λ o. o ∙ sym e)
      (λ o.
      absurd
      (let m = member v (body_island v h) h refl o in
      let nm : named w h ≡ true = sym (name h) ∙ m.named_is in
      ⊎_elim
      (λ g.
      d
      (at_home w F.apart i h
      (record { named_is = nm; listed = subst (λ (x : ℕ). In x (bodies_at w i)) g.is (in-at 0 (bodies_at w i) g.place g.lt) })))
      (λ g. o (sym (at_home w F.apart (body_island v h) h (record { named_is = nm; listed = g.1 })) ∙ e))
      (S.body_out (body_island v h) h.slot m.listed))))
      (λ o.
      let m = member w (body_island w h) h refl o in
      at_home v A (body_island w h) h
      (record { named_is = name h ∙ m.named_is; listed = S.body_keep (body_island w h) h.slot d m.listed }))

  pub parts : Parted i w v
  parts =
      record {
        apart = A;
        steady = S.steady;
        stay = stays;
        some = λ h e q. S.dest_in (node h) (node-lt w F i i≢ h e) (sym (moved h e) ∙ q);
        together =
            λ a b ha hb.
            let D = S.dest_same (node a) (node b) (node-lt w F i i≢ a ha) (node-lt w F i i≢ b hb) in
            let P = same-label w F i lv a b ha hb in
            ((λ e. P.0 (D.0 (sym (moved a ha) ∙ e ∙ moved b hb))), (λ p. moved a ha ∙ D.1 (P.1 p) ∙ sym (moved b hb)));
        other = S.other;
        kept = S.link_keep;
        first =
            λ l s e.
            S.link_move (body_island v l.body1) l s (goal-first dest (node l.body1) (node l.body2) (node_in w F i i≢ l.body1 e) ∙ sym (moved l.body1 e))
            (λ q. S.dest_in (node l.body1) (node-lt w F i i≢ l.body1 e) (sym (moved l.body1 e) ∙ q));
        second =
            λ l s d e.
            S.link_move (body_island v l.body2) l s
            (goal-second dest (node l.body1) (node l.body2) (node-out w F i i≢ l.body1 d) (node_in w F i i≢ l.body2 e) ∙ sym (moved l.body2 e))
            (λ q. S.dest_in (node l.body2) (node-lt w F i i≢ l.body2 e) (sym (moved l.body2 e) ∙ q));
        neither =
            λ l s d e.
            ⊎_elim (λ a. inl (one-whole w F i lv a.0, a.1))
            (λ a. inr ((λ W. (let x = whole-one w F i lv W in let y = a.0 in omega arith)), a.1))
            (S.link_none l s (node-out w F i i≢ l.body1 d) (node-out w F i i≢ l.body2 e));
        from =
            λ j l s.
            ⊎_elim (λ a. inl a)
            (λ a.
            inr
            (record {
              stood = a.0;
              first =
                  λ e.
                  ⊎_elim (λ g. moved l.body1 e ∙ sym (goal-first dest (node l.body1) (node l.body2) (node_in w F i i≢ l.body1 e)) ∙ g)
                  (λ g. absurd (node_in w F i i≢ l.body1 e g.0))
                  a.1;
              second =
                  λ d e.
                  ⊎_elim
                  (λ g.
                  moved l.body2 e
                  ∙ sym (goal-second dest (node l.body1) (node l.body2) (node-out w F i i≢ l.body1 d) (node_in w F i i≢ l.body2 e))
                  ∙ g)
                  (λ g. absurd (node_in w F i i≢ l.body2 e g.1))
                  a.1;
            }))
            (S.link_out j l s);
        count = λ h e. subst (λ (k : ℕ). (island_at v k).constraint_remove_count ≡ 0) (sym (moved h e)) (S.count (node h) (node-lt w F i i≢ h e));
        sleeping = λ h e. subst (λ (k : ℕ). (island_at v k).sleeping ≡ (island_at w i).sleeping) (sym (moved h e)) (S.sleeping (node h) (node-lt w F i i≢ h e));
        denied = S.denied;
        free =
            λ h e d.
            subst (λ (k : ℕ). (island_at v k).split_denied_until ≡ 0) (sym (moved h e))
            (S.free (node h) (node-lt w F i i≢ h e) (λ q. d (moved h e ∙ q)));
      }

-- ---- count 0, denial set

pub checked-steady : (i : ℕ) (w : World) → Steady w (checked i w)
unfolding checked island_set
checked-steady i w = record { table = refl; tracked = refl; joint_places = refl; journal = refl; pending = refl; stamp = refl; scanning = refl; touched = refl }

pub checked-long : (i : ℕ) (w : World) → length (checked i w).islands ≡ length w.islands
unfolding checked island_set
checked-long i w = length-set w.islands i _

-- all of an island but its count and its denial
pub record Held : Type 0 where
  pub bodies : List ℕ
  pub contacts : List ContactLink
  pub joints : List JointLink
  pub sleeping : Bool

abbrev pub held_by : Island → Held
held_by a = record { bodies = a.bodies; contacts = a.contact_links; joints = a.joint_links; sleeping = a.sleeping }

pub checked-held : (i : ℕ) (w : World) (j : ℕ) → held_by (island_at (checked i w) j) ≡ held_by (island_at w j)
unfolding checked island_set
checked-held i w j = set-field held_by w.islands i _ refl j

pub checked-other : (i : ℕ) (w : World) (j : ℕ) → j ≢ i → island_at (checked i w) j ≡ island_at w j
unfolding checked island_set
checked-other i w j d = get_or-set_other w.islands i j _ absent_island d

pub checked-count : (i : ℕ) (w : World) → i < length w.islands → (island_at (checked i w) i).constraint_remove_count ≡ 0
unfolding checked island_set
checked-count i w l = ap (λ (a : Island). a.constraint_remove_count) (get_or-set_same w.islands i _ absent_island l)

pub checked-denied : (i : ℕ) (w : World) → i < length w.islands → (island_at (checked i w) i).split_denied_until ≡ denial w.sleep_scan_stamp
unfolding checked island_set
checked-denied i w l = ap (λ (a : Island). a.split_denied_until) (get_or-set_same w.islands i _ absent_island l)

-- lists that are equal hold the same
pub held-bodies : (w v : World) (j : ℕ) → held_by (island_at v j) ≡ held_by (island_at w j) → bodies_at v j ≡ bodies_at w j
held-bodies w v j e = ap (λ (h : Held). h.bodies) e

pub held-stands : (w v : World) (j : ℕ) → held_by (island_at v j) ≡ held_by (island_at w j) → (l : Bond) → Stands w j l → Stands v j l
held-stands w v j e l s =
    subst (λ (h : Held). In l (map of_contact h.contacts ++ map of_joint h.joints)) (sym e) s

-- ---- one component

module _ (w : World) (F : Fine w) (i : ℕ) (lv : live w i ≡ true) (one : components (labels_of w i) ≤ 1) where
  pub whole : Shift i w (checked i w) (λ q. i)
  whole =
      record {
        small = rw (checked-long i w) F.apart.small;
        steady = checked-steady i w;
        dest_in = λ q l. it w F i lv;
        dest_same = λ p q pl ql. ((λ e. one_same w F i lv one p q pl ql), (λ e. refl));
        body_out =
            λ j s m.
            let m' : In s (bodies_at w j) = subst (λ (x : List ℕ). In s x) (held-bodies w (checked i w) j (checked-held i w j)) m in
            either j i
            (λ e.
            let r = at_in 0 (subst (λ (x : ℕ). In s (bodies_at w x)) e m') in
            inl (record { place = r.place; lt = r.lt; is = r.is; to = sym e }))
            (λ d. inr (d, m'));
        body_move =
            λ q l.
            subst (λ (x : List ℕ). In (get_or (bodies_at w i) q 0) x) (sym (held-bodies w (checked i w) i (checked-held i w i))) (in-at 0 (bodies_at w i) q l);
        body_keep = λ j s d m. subst (λ (x : List ℕ). In s x) (sym (held-bodies w (checked i w) j (checked-held i w j))) m;
        other = λ j d l. checked-other i w j d;
        link_keep = λ j l d s. held-stands w (checked i w) j (checked-held i w j) l s;
        link_move = λ j l s e d. subst (λ (x : ℕ). Stands (checked i w) x l) (to-i l j e d) (held-stands w (checked i w) i (checked-held i w i) l s);
        link_none = λ l s a b. inl (one, held-stands w (checked i w) i (checked-held i w i) l s);
        link_out =
            λ j l s.
            let s' : Stands w j l = held-stands (checked i w) w j (sym (checked-held i w j)) l s in
            either j i (λ e. inr (subst (λ (x : ℕ). Stands w x l) e s', stale l j e)) (λ d. inl (d, s'));
        count = λ q l. checked-count i w (i_lt w F i lv);
        sleeping = λ q l. ap (λ (h : Held). h.sleeping) (checked-held i w i);
        denied = checked-denied i w (i_lt w F i lv);
        free = λ q l d. absurd (d refl);
      }
    where
      to-i : (l : Bond) (j : ℕ) → link_goal (λ q. i) (node_of w i l.body1) (node_of w i l.body2) ≡ j → j ≢ top → i ≡ j
      to-i l j e d =
          either (node_of w i l.body1) top
          (λ a.
          either (node_of w i l.body2) top (λ b. absurd (d (sym e ∙ goal-none (λ q. i) _ _ a b))) (λ b. sym (goal-second (λ q. i) _ _ a b) ∙ e))
          (λ a. sym (goal-first (λ q. i) _ _ a) ∙ e)

      stale : (l : Bond) (j : ℕ) → j ≡ i
          → (link_goal (λ q. i) (node_of w i l.body1) (node_of w i l.body2) ≡ j) ⊎ ((node_of w i l.body1 ≡ top) × (node_of w i l.body2 ≡ top))
      stale l j e =
          either (node_of w i l.body1) top
          (λ a. either (node_of w i l.body2) top (λ b. inr (a, b)) (λ b. inl (goal-second (λ q. i) _ _ a b ∙ sym e)))
          (λ a. inl (goal-first (λ q. i) _ _ a ∙ sym e))
