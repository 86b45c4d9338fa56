-- A split of an island with more than one component.
use mathlib.Core.Path.{◌≡◌, refl, sym, ◌∙◌, ap, subst}
use mathlib.Core.Logic.{◌⊎◌, inl, inr, ◌≢◌, ⊎_elim, ◌↔◌}
use mathlib.Core.Bool.{Bool, true, false≢true}
use mathlib.Core.List.{List, [], ◌++◌}
use Prim.Native.Nat.{ℕ, ◌-◌, ◌≤◌, ◌<◌}
use native.Mathlib.Omega.{arith}
use lib.ListN.{length, get_or}
use lib.Dec.{leb}
use borrow.Author.Tests.{leb-true, leb-false}
use Rattle.list_in_table.proofs.Laws.{either}
use Rattle.table_meaning.specs.Decode.{tabulate}
use Rattle.table_meaning.proofs.Tab.{get_d_beyond}
use Rattle.def_state.specs.Plain.{top, has}
use Rattle.def_state.specs.World.{Handle, ContactLink, absent_contact, JointLink, absent_joint, Island, absent_island, World, island_at, live}
use Rattle.def_state.specs.Connected.{components, keep_label}
use Rattle.def_state.specs.Split.{node_of, labels_of, new_island, new_numbers, new_islands, goal, link_goal, contacts_leave, joints_leave, bodies_leave, denial, checked, parted, split}
use Rattle.theorem_split.specs.Graph.{In, Bond, bonds_of, Stands}
use Rattle.theorem_split.specs.Fine.{Fine}
use Rattle.theorem_split.specs.Parted.{Steady, Parted}
use Rattle.theorem_split.proofs.Member.{none_in, in-has, has_in}
use Rattle.theorem_split.proofs.Homes.{bool, in_use, stands-use}
use Rattle.theorem_split.proofs.Bonds.{contact-bond, joint-bond, bonds-all, stands_one}
use Rattle.theorem_split.proofs.Walk.{Walk, base-out, base-in, other-out, other-in, other-same, stood, walked-out, walked-keep, walked-move, walked_same}
use Rattle.theorem_split.proofs.Leave.{Rest, rest_of, Row, row_of, contacts_at, NoContacts, contact_goal, contacts-rest, contacts-field, contacts-walk, joints_at, NoJoints, joint_goal, joints-rest, joints-field, joints-walk, bodies_at, NoBodies, bodies-rest, bodies-field, bodies-walk}
use Rattle.theorem_split.proofs.Numbers.{Spare, News, news, length-numbers, steady, news-steady}
use Rattle.theorem_split.proofs.Goals.{goal-in, goal-one}
use Rattle.theorem_split.proofs.Ends.{node-home, node-lt}
use Rattle.theorem_split.proofs.Split.{spare-none, some, i_lt, it, not_spare, long, own, lt, Shift, goal-first, goal-second, goal-none, Held, checked-steady, checked-long, checked-held, checked-other, checked-count, checked-denied, held-bodies, held-stands, parts, whole}

-- an island by its six parts
pub island-is : (a b : Island) → a.bodies ≡ b.bodies → a.contact_links ≡ b.contact_links → a.joint_links ≡ b.joint_links → row_of a ≡ row_of b → a ≡ b
island-is a b p q r s =
    λ k.
    record {
      bodies = p k;
      contact_links = q k;
      joint_links = r k;
      constraint_remove_count = (s k).count;
      split_denied_until = (s k).denied;
      sleeping = (s k).sleeping;
    }

rest-steady : (w v : World) → rest_of v ≡ rest_of w → Steady w v
rest-steady w v e =
    record {
      table = ap (λ (r : Rest). r.table) e;
      tracked = ap (λ (r : Rest). r.tracked) e;
      joint_places = ap (λ (r : Rest). r.joint_places) e;
      journal = ap (λ (r : Rest). r.journal) e;
      pending = ap (λ (r : Rest). r.pending) e;
      stamp = ap (λ (r : Rest). r.stamp) e;
      scanning = ap (λ (r : Rest). r.scanning) e;
      touched = ap (λ (r : Rest). r.touched) e;
    }

module _ (w : World) (F : Fine w) (i : ℕ) (lv : live w i ≡ true) where
  abbrev L : List ℕ
  L = labels_of w i

  abbrev z : Bool
  z = (island_at w i).sleeping

  abbrev k : ℕ
  k = components (labels_of w i) - 1

  abbrev ns : List ℕ
  ns = new_numbers k z w

  abbrev dest : ℕ → ℕ
  dest q = goal L (keep_label L) i ns (get_or L q 0)

  abbrev node : Handle → ℕ
  node = node_of w i

  abbrev v0 : World
  v0 = new_islands k z w

  abbrev v1 : World
  v1 = contacts_leave node dest i (length (contacts_at w i)) v0

  abbrev v2 : World
  v2 = joints_leave node dest i (length (joints_at w i)) v1

  abbrev v3 : World
  v3 = bodies_leave dest i (length (bodies_at w i)) v2

  N : News w v0 ns (new_island z)
  N = news k z w F.stack

  fresh : (m : ℕ) → In m ns → m ≢ i
  fresh m j e = not_spare w F i lv (subst (λ (x : ℕ). Spare w x) e (N.spare m j))

  -- new islands are empty, as the numbers' were before
  new-lists : (j : ℕ) → (bodies_at v0 j ≡ bodies_at w j) × (contacts_at v0 j ≡ contacts_at w j) × (joints_at v0 j ≡ joints_at w j)
  new-lists j =
      bool (has ns j)
      (λ e.
      let a : island_at v0 j ≡ new_island z = N.new j (has_in ns j e) in
      let b : island_at w j ≡ absent_island = spare-none w F j (N.spare j (has_in ns j e)) in (
        ap (λ (x : Island). x.bodies) a ∙ sym (ap (λ (x : Island). x.bodies) b),
        ap (λ (x : Island). x.contact_links) a ∙ sym (ap (λ (x : Island). x.contact_links) b),
        ap (λ (x : Island). x.joint_links) a ∙ sym (ap (λ (x : Island). x.joint_links) b),
      ))
      (λ e.
      let a : island_at v0 j ≡ island_at w j = N.others j (λ m. false≢true (sym e ∙ in-has m)) in
      (ap (λ (x : Island). x.bodies) a, ap (λ (x : Island). x.contact_links) a, ap (λ (x : Island). x.joint_links) a))

  longer : length w.islands ≤ length v0.islands
  longer = N.longer

  base_lt : i < length v0.islands
  base_lt = let a = i_lt w F i lv in let b = longer in omega arith

  label_at : (q : ℕ) → q < length (bodies_at w i) → (get_or L q 0 < length L) × (get_or L (get_or L q 0) 0 ≡ get_or L q 0)
  label_at q l = let l' : q < length L = rw (long w F i lv) l in (lt w F i lv q l', own w F i lv q l')

  pub L-some : 0 < length (labels_of w i)
  L-some = rw (long w F i lv) (some w F i lv)

  dest-ways : (q : ℕ) → q < length (bodies_at w i) → (dest q ≡ i) ⊎ In (dest q) ns
  dest-ways q l =
      goal-in L (own w F i lv) (lt w F i lv) L-some i ns (length-numbers k z w) fresh N.differ (get_or L q 0) (label_at q l).0 (label_at q l).1

  dest-lt : (q : ℕ) → q < length (bodies_at w i) → dest q < length v0.islands
  dest-lt q l = ⊎_elim (λ e. rw e base_lt) (λ m. N.in_use (dest q) m) (dest-ways q l)

  dest_same : (p q : ℕ) → p < length (bodies_at w i) → q < length (bodies_at w i) → (dest p ≡ dest q) ↔ (get_or L p 0 ≡ get_or L q 0)
  dest_same p q pl ql = (
    (λ e.
        goal-one L (own w F i lv) (lt w F i lv) L-some i ns (length-numbers k z w) fresh N.differ (get_or L p 0) (get_or L q 0) (label_at p pl).0 (label_at q ql).0
        (label_at p pl).1
        (label_at q ql).1
        e),
    (λ e. ap (goal L (keep_label L) i ns) e),
  )

  link-lt : (a b : Handle) → (link_goal dest (node a) (node b) ≡ top) ⊎ (link_goal dest (node a) (node b) < length v0.islands)
  link-lt a b =
      either (node a) top
      (λ p.
      either (node b) top (λ q. inl (goal-none dest (node a) (node b) p q))
      (λ q.
      inr
      (rw (goal-second dest (node a) (node b) p q) (dest-lt (node b) (node-lt w F i (it w F i lv) b (node-home w F i (it w F i lv) b q))))))
      (λ p.
      inr (rw (goal-first dest (node a) (node b) p) (dest-lt (node a) (node-lt w F i (it w F i lv) a (node-home w F i (it w F i lv) a p)))))

  long1 : length v1.islands ≡ length v0.islands
  long1 = ap (λ (r : Rest). r.long) (contacts-rest node dest i (length (contacts_at w i)) v0)

  long2 : length v2.islands ≡ length v0.islands
  long2 = ap (λ (r : Rest). r.long) (joints-rest node dest i (length (joints_at w i)) v1) ∙ long1

  pub long3 : length v3.islands ≡ length v0.islands
  long3 = ap (λ (r : Rest). r.long) (bodies-rest dest i (length (bodies_at w i)) v2) ∙ long2

  -- ---- the walks

  CW : Walk absent_contact (contact_goal node dest i) i (length (contacts_at w i)) (contacts_at v0) (contacts_at v1)
  CW = contacts-walk node dest i (length (contacts_at w i)) v0 base_lt (λ l. link-lt l.body1 l.body2)

  JW : Walk absent_joint (joint_goal node dest i) i (length (joints_at w i)) (joints_at v1) (joints_at v2)
  JW = joints-walk node dest i (length (joints_at w i)) v1 (rw long1 base_lt) (λ l. rw long1 (link-lt l.body1 l.body2))

  BW : Walk 0 (λ q x. dest q) i (length (bodies_at w i)) (bodies_at v2) (bodies_at v3)
  BW = bodies-walk dest i (length (bodies_at w i)) v2 (rw long2 base_lt) (λ q l. rw long2 (dest-lt q l))

  -- ---- each list through the other walks
  contacts3 : (j : ℕ) → contacts_at v3 j ≡ contacts_at v1 j
  contacts3 j =
      ap (λ (x : NoBodies). x.contacts) (bodies-field dest i (length (bodies_at w i)) v2 j)
      ∙ ap (λ (x : NoJoints). x.contacts) (joints-field node dest i (length (joints_at w i)) v1 j)

  joints3 : (j : ℕ) → joints_at v3 j ≡ joints_at v2 j
  joints3 j = ap (λ (x : NoBodies). x.joints) (bodies-field dest i (length (bodies_at w i)) v2 j)

  joints1 : (j : ℕ) → joints_at v1 j ≡ joints_at w j
  joints1 j = ap (λ (x : NoContacts). x.joints) (contacts-field node dest i (length (contacts_at w i)) v0 j) ∙ (new-lists j).2

  bodies2 : (j : ℕ) → bodies_at v2 j ≡ bodies_at w j
  bodies2 j =
      ap (λ (x : NoJoints). x.bodies) (joints-field node dest i (length (joints_at w i)) v1 j)
      ∙ ap (λ (x : NoContacts). x.bodies) (contacts-field node dest i (length (contacts_at w i)) v0 j)
      ∙ (new-lists j).0

  rows : (j : ℕ) → row_of (island_at v3 j) ≡ row_of (island_at v0 j)
  rows j =
      ap (λ (x : NoBodies). x.row) (bodies-field dest i (length (bodies_at w i)) v2 j)
      ∙ ap (λ (x : NoJoints). x.row) (joints-field node dest i (length (joints_at w i)) v1 j)
      ∙ ap (λ (x : NoContacts). x.row) (contacts-field node dest i (length (contacts_at w i)) v0 j)

  stood-b : bodies_at v2 i ≡ tabulate (length (bodies_at w i)) (λ q. get_or (bodies_at w i) q 0) ++ []
  stood-b = bodies2 i ∙ stood 0 (bodies_at w i)

  -- ---- contact links and joint links, out and in

  abbrev goes : Bond → ℕ
  goes l = link_goal dest (node l.body1) (node l.body2)

  abbrev contact_goes : ContactLink → ℕ
  contact_goes c = link_goal dest (node c.body1) (node c.body2)

  abbrev joint_goes : JointLink → ℕ
  joint_goes c = link_goal dest (node c.body1) (node c.body2)

  contact-out : (j : ℕ) → j ≢ top → (c : ContactLink) → In c (contacts_at v3 j) → ((j ≢ i) × In c (contacts_at w j)) ⊎ (In c (contacts_at w i) × (contact_goes c ≡ j))
  contact-out j jt c m =
      ⊎_elim (λ a. inl (a.0, subst (λ (x : List ContactLink). In c x) (new-lists j).1 a.1)) (λ a. inr a)
      (walked-out absent_contact contact_goes i (contacts_at w i) CW (new-lists i).1 j jt (subst (λ (x : List ContactLink). In c x) (contacts3 j) m))

  contact-keep : (j : ℕ) → j ≢ top → j ≢ i → (c : ContactLink) → In c (contacts_at w j) → In c (contacts_at v3 j)
  contact-keep j jt d c m =
      subst (λ (x : List ContactLink). In c x) (sym (contacts3 j))
      (walked-keep absent_contact contact_goes i (contacts_at w i) CW (new-lists i).1 j jt d (subst (λ (x : List ContactLink). In c x) (sym (new-lists j).1) m))

  contact-move : (j : ℕ) → j ≢ top → (c : ContactLink) → In c (contacts_at w i) → contact_goes c ≡ j → In c (contacts_at v3 j)
  contact-move j jt c m q =
      subst (λ (x : List ContactLink). In c x) (sym (contacts3 j)) (walked-move absent_contact contact_goes i (contacts_at w i) CW (new-lists i).1 j jt m q)

  contact-same : (j : ℕ) → j ≢ top → j ≢ i → ((c : ContactLink) → In c (contacts_at w i) → contact_goes c ≢ j) → contacts_at v3 j ≡ contacts_at w j
  contact-same j jt d h = contacts3 j ∙ walked_same absent_contact contact_goes i (contacts_at w i) CW (new-lists i).1 j jt d h ∙ (new-lists j).1

  joint-out : (j : ℕ) → j ≢ top → (c : JointLink) → In c (joints_at v3 j) → ((j ≢ i) × In c (joints_at w j)) ⊎ (In c (joints_at w i) × (joint_goes c ≡ j))
  joint-out j jt c m =
      ⊎_elim (λ a. inl (a.0, subst (λ (x : List JointLink). In c x) (joints1 j) a.1)) (λ a. inr a)
      (walked-out absent_joint joint_goes i (joints_at w i) JW (joints1 i) j jt (subst (λ (x : List JointLink). In c x) (joints3 j) m))

  joint-keep : (j : ℕ) → j ≢ top → j ≢ i → (c : JointLink) → In c (joints_at w j) → In c (joints_at v3 j)
  joint-keep j jt d c m =
      subst (λ (x : List JointLink). In c x) (sym (joints3 j))
      (walked-keep absent_joint joint_goes i (joints_at w i) JW (joints1 i) j jt d (subst (λ (x : List JointLink). In c x) (sym (joints1 j)) m))

  joint-move : (j : ℕ) → j ≢ top → (c : JointLink) → In c (joints_at w i) → joint_goes c ≡ j → In c (joints_at v3 j)
  joint-move j jt c m q =
      subst (λ (x : List JointLink). In c x) (sym (joints3 j)) (walked-move absent_joint joint_goes i (joints_at w i) JW (joints1 i) j jt m q)

  joint-same : (j : ℕ) → j ≢ top → j ≢ i → ((c : JointLink) → In c (joints_at w i) → joint_goes c ≢ j) → joints_at v3 j ≡ joints_at w j
  joint-same j jt d h = joints3 j ∙ walked_same absent_joint joint_goes i (joints_at w i) JW (joints1 i) j jt d h ∙ joints1 j

  -- ---- all of it

  abbrev v4 : World
  v4 = checked i v3

  steady4 : Steady w v4
  steady4 =
      steady (news-steady k z w)
      (steady (rest-steady v0 v1 (contacts-rest node dest i (length (contacts_at w i)) v0))
      (steady (rest-steady v1 v2 (joints-rest node dest i (length (joints_at w i)) v1))
      (steady (rest-steady v2 v3 (bodies-rest dest i (length (bodies_at w i)) v2)) (checked-steady i v3))))

  i-lt3 : i < length v3.islands
  i-lt3 = rw long3 base_lt

  module _ (small : length v3.islands ≤ top) where
    use4 : (j : ℕ) {s : ℕ} → In s (bodies_at v3 j) → j ≢ top
    use4 j m e = let l = in_use v3 j m in omega arith

    link4 : (j : ℕ) (l : Bond) → Stands v3 j l → j ≢ top
    link4 j l m e = absurd (below_none j l (let s = small in omega arith) m)
      where
        below_none : (j : ℕ) (l : Bond) → length v3.islands ≤ j → Stands v3 j l → ⊥
        below_none j l b m = none_in (subst (λ (a : Island). In l (bonds_of a)) (get_d_beyond v3.islands absent_island j b) m)

    in-w : (j : ℕ) → j < length w.islands → j ≢ top
    in-w j l e = let a = F.apart.small in omega arith

    stands-w : (j : ℕ) (l : Bond) → Stands w j l → j ≢ top
    stands-w j l m = in-w j (stands-use w j l m)

    goal-not : (j : ℕ) → j ≢ top → j ≢ i → (In j ns → ⊥) → (a b : Handle) → link_goal dest (node a) (node b) ≢ j
    goal-not j jt ji jn a b e =
        either (node a) top
        (λ p.
        either (node b) top (λ q. jt (sym e ∙ goal-none dest (node a) (node b) p q))
        (λ q. dest-not (node b) (node-lt w F i (it w F i lv) b (node-home w F i (it w F i lv) b q)) (sym (goal-second dest (node a) (node b) p q) ∙ e)))
        (λ p. dest-not (node a) (node-lt w F i (it w F i lv) a (node-home w F i (it w F i lv) a p)) (sym (goal-first dest (node a) (node b) p) ∙ e))
      where
        dest-not : (q : ℕ) → q < length (bodies_at w i) → dest q ≢ j
        dest-not q l e = ⊎_elim (λ o. ji (sym e ∙ o)) (λ m. jn (subst (λ (x : ℕ). In x ns) e m)) (dest-ways q l)

    not_new : (j : ℕ) → live w j ≡ true → In j ns → ⊥
    not_new j l m = not_spare w F j l (N.spare j m)

    same3 : (j : ℕ) → j ≢ i → live w j ≡ true → island_at v3 j ≡ island_at w j
    same3 j d l =
        let jt : j ≢ top = in-w j (i_lt w F j l) in
        let nn : In j ns → ⊥ = not_new j l in
        island-is (island_at v3 j) (island_at w j)
        (other-same 0 (λ q x. dest q) i (λ q. get_or (bodies_at w i) q 0) j d jt BW [] stood-b
        (λ q ql e. ⊎_elim (λ o. d (sym e ∙ o)) (λ m. nn (subst (λ (x : ℕ). In x ns) e m)) (dest-ways q ql))
        ∙ bodies2 j)
        (contact-same j jt d (λ c m. goal-not j jt d nn c.body1 c.body2))
        (joint-same j jt d (λ c m. goal-not j jt d nn c.body1 c.body2))
        (rows j ∙ ap row_of (N.others j nn))

    -- a link that stands somewhere afterwards stood there, or stood in i and went there
    stood3 : (j : ℕ) (l : Bond) → Stands v4 j l → Stands v3 j l
    stood3 j l s = held-stands v4 v3 j (sym (checked-held i v3 j)) l s

    came : (j : ℕ) (l : Bond) → Stands v4 j l → ((j ≢ i) × Stands w j l) ⊎ (Stands w i l × (goes l ≡ j))
    came j l s =
        let s' : Stands v3 j l = stood3 j l s in
        let jt : j ≢ top = link4 j l s' in
        bonds-all (island_at v3 j) (λ (b : Bond). ((j ≢ i) × Stands w j b) ⊎ (Stands w i b × (goes b ≡ j)))
        (λ c m. ⊎_elim (λ a. inl (a.0, contact-bond (island_at w j) c a.1)) (λ a. inr (contact-bond (island_at w i) c a.0, a.1)) (contact-out j jt c m))
        (λ c m. ⊎_elim (λ a. inl (a.0, joint-bond (island_at w j) c a.1)) (λ a. inr (joint-bond (island_at w i) c a.0, a.1)) (joint-out j jt c m))
        l
        s'

    shift : 1 < components (labels_of w i) → Shift i w v4 dest
    shift many =
        record {
          small = rw (checked-long i v3) small;
          steady = steady4;
          dest_in = λ q l e. (let a = dest-lt q l in let b = long3 in omega arith);
          dest_same = dest_same;
          body_out =
              λ j s m.
              let m' : In s (bodies_at v3 j) = subst (λ (x : List ℕ). In s x) (held-bodies v3 v4 j (checked-held i v3 j)) m in
              either j i
              (λ e.
              ⊎_elim (λ a. absurd (none_in a))
              (λ g. inl (record { place = g.place; lt = g.lt; is = g.is; to = g.to ∙ sym e }))
              (base-out 0 (λ q x. dest q) i (λ q. get_or (bodies_at w i) q 0) BW [] stood-b (subst (λ (x : ℕ). In s (bodies_at v3 x)) e m')))
              (λ d.
              ⊎_elim (λ a. inr (d, subst (λ (x : List ℕ). In s x) (bodies2 j) a)) (λ g. inl g)
              (other-out 0 (λ q x. dest q) i (λ q. get_or (bodies_at w i) q 0) j d (use4 j m') BW [] stood-b m'));
          body_move =
              λ q l.
              subst (λ (x : List ℕ). In (get_or (bodies_at w i) q 0) x) (sym (held-bodies v3 v4 (dest q) (checked-held i v3 (dest q))))
              (either (dest q) i
              (λ e.
              subst (λ (x : ℕ). In (get_or (bodies_at w i) q 0) (bodies_at v3 x)) (sym e)
              (base-in 0 (λ q x. dest q) i (λ q. get_or (bodies_at w i) q 0) BW [] stood-b (inr (record { place = q; lt = l; is = refl; to = e }))))
              (λ d.
              other-in 0 (λ q x. dest q) i (λ q. get_or (bodies_at w i) q 0) (dest q) d (λ e. (let a = dest-lt q l in let b = long3 in omega arith)) BW [] stood-b
              (inr (record { place = q; lt = l; is = refl; to = refl }))));
          body_keep =
              λ j s d m.
              subst (λ (x : List ℕ). In s x) (sym (held-bodies v3 v4 j (checked-held i v3 j)))
              (other-in 0 (λ q x. dest q) i (λ q. get_or (bodies_at w i) q 0) j d (in-w j (in_use w j m)) BW [] stood-b
              (inl (subst (λ (x : List ℕ). In s x) (sym (bodies2 j)) m)));
          other = λ j d l. checked-other i v3 j d ∙ same3 j d l;
          link_keep =
              λ j l d s.
              let jt = stands-w j l s in
              held-stands v3 v4 j (checked-held i v3 j) l
              (bonds-all (island_at w j) (λ (b : Bond). Stands v3 j b) (λ c m. contact-bond (island_at v3 j) c (contact-keep j jt d c m))
              (λ c m. joint-bond (island_at v3 j) c (joint-keep j jt d c m))
              l
              s);
          link_move =
              λ j l s e jt.
              held-stands v3 v4 j (checked-held i v3 j) l
              (bonds-all (island_at w i) (λ (b : Bond). goes b ≡ j → Stands v3 j b) (λ c m q. contact-bond (island_at v3 j) c (contact-move j jt c m q))
              (λ c m q. joint-bond (island_at v3 j) c (joint-move j jt c m q))
              l
              s
              e);
          link_none =
              λ l s a b.
              inr (
                many,
                (λ j m.
                    ⊎_elim (λ o. o.0 (stands_one w F j i l o.1 s))
                    (λ o. link4 j l (stood3 j l m) (sym o.1 ∙ goal-none dest (node l.body1) (node l.body2) a b))
                    (came j l m)),
              );
          link_out = λ j l s. ⊎_elim (λ a. inl a) (λ a. inr (a.0, inl a.1)) (came j l s);
          count = λ q l. (row-of q l).0;
          sleeping = λ q l. (row-of q l).1;
          denied = checked-denied i v3 i-lt3 ∙ ap denial steady3.stamp;
          free = λ q l d. row-free q l d;
        }
      where
        steady3 : Steady w v3
        steady3 =
            steady (news-steady k z w)
            (steady (rest-steady v0 v1 (contacts-rest node dest i (length (contacts_at w i)) v0))
            (steady (rest-steady v1 v2 (joints-rest node dest i (length (joints_at w i)) v1)) (rest-steady v2 v3 (bodies-rest dest i (length (bodies_at w i)) v2))))

        new_row : (q : ℕ) → q < length (bodies_at w i) → dest q ≢ i → row_of (island_at v4 (dest q)) ≡ row_of (new_island z)
        new_row q l d =
            ap row_of (checked-other i v3 (dest q) d) ∙ rows (dest q)
            ∙ ap row_of (N.new (dest q) (⊎_elim (λ e. absurd (d e)) (λ m. m) (dest-ways q l)))

        row-of : (q : ℕ) → q < length (bodies_at w i) → ((island_at v4 (dest q)).constraint_remove_count ≡ 0) × ((island_at v4 (dest q)).sleeping ≡ (island_at w i).sleeping)
        row-of q l =
            either (dest q) i
            (λ e.
            rw e (
              checked-count i v3 i-lt3,
              ap (λ (h : Held). h.sleeping) (checked-held i v3 i) ∙ ap (λ (r : Row). r.sleeping) (rows i)
                  ∙ ap (λ (a : Island). a.sleeping) (N.others i (λ m. fresh i m refl)),
            ))
            (λ d. (ap (λ (r : Row). r.count) (new_row q l d), ap (λ (r : Row). r.sleeping) (new_row q l d)))

        row-free : (q : ℕ) → q < length (bodies_at w i) → dest q ≢ i → (island_at v4 (dest q)).split_denied_until ≡ 0
        row-free q l d = ap (λ (r : Row). r.denied) (new_row q l d)

-- ---- a split of a live island

pub split_parts : (w : World) → Fine w → (i : ℕ) → live w i ≡ true → length (split i w).islands ≤ top → Parted i w (split i w)
unfolding split parted
split_parts w F i lv small =
    bool (leb (components (labels_of w i)) 1)
    (λ e. rw e (parts w F i lv (checked i w) (λ q. i) (whole w F i lv (leb-true (components (labels_of w i)) 1 e))))
    (λ e.
    rw e
    (parts w F i lv (checked i (v3 w F i lv)) (dest w F i lv)
    (shift w F i lv (rw (checked-long i (v3 w F i lv)) at (rw e at small)) (leb-false (components (labels_of w i)) 1 e))))
