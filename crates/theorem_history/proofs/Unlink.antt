-- Contact unlink and joint unlink: a link goes.
use mathlib.Core.Path.{◌≡◌, refl, sym, ◌∙◌, ap, subst}
use mathlib.Core.Logic.{◌⊎◌, inl, inr, ◌≢◌, ⊎_elim}
use mathlib.Core.Bool.{Bool, true, false, ◌&&◌, false≢true}
use mathlib.Core.List.{List, [], ◌∷◌, ◌++◌, map}
use Prim.Native.Nat.{ℕ, zero, suc, ◌<◌}
use native.Mathlib.Omega.{arith}
use lib.ListN.{length, get_or, set, length-set, length-map}
use lib.Seq.{get_or-set_same, get_or-set_other}
use lib.Dec.{eqb, ltb}
use borrow.Author.Tests.{eqb-true, eqb-false, ltb-true}
use Rattle.def_kinds.specs.Choice.{pick}
use Rattle.list_in_table.proofs.Laws.{either}
use Rattle.list_in_table.proofs.Same.{below}
use Rattle.table_meaning.proofs.Tab.{get_d_beyond}
use Rattle.def_kinds.specs.declared.Sizes.{Sizes}
use Rattle.def_state.specs.Plain.{top, has, place_of, swap_remove}
use Rattle.def_state.specs.World.{Handle, Key, impulse, chain, ContactLink, absent_contact, JointLink, absent_joint, Island, absent_island, Removal, World, Step, body_of, island_at}
use Rattle.def_state.specs.Fields.{journal_set, island_set, contacts_set, joints_set}
use Rattle.def_state.specs.Links.{edges_of, same_key, key_place, contact_below, joint_below, contact_home, joint_home, same_handle, journal_removal, journal_refuses, contact_removed, unlink_contact, joint_removed, unlink_joint}
use Rattle.theorem_split.specs.Graph.{Name, In, here, edge, joint, Bond, of_contact, of_joint, bonds_of, Stands}
use Rattle.theorem_split.specs.Fine.{Apart, Fine}
use Rattle.theorem_split.proofs.Member.{in_left, in_right, has_in, swap-old, swap-cases, at_in, swap-before}
use Rattle.theorem_history.proofs.Keys.{Keyed, removed-keyed, removed-fresh, journal-keyed}
use Rattle.theorem_split.proofs.Homes.{bool, handle-same}
use Rattle.theorem_split.proofs.Ends.{place_in}
use Rattle.theorem_split.proofs.Bonds.{contact-bond, joint-bond, bonds-all}
use Rattle.theorem_history.specs.Ties.{nothing, unlinked, is_done}
use Rattle.theorem_history.proofs.Change.{count, Calm, entry_of, Dropped, Change, same, dropped}
use Rattle.theorem_history.proofs.Basic.{ways, set-part, same_refl, home_same, named-same, slot_same}

-- ---- what the search for a link finds

pub contact-found : (is : List Island) (e k : ℕ) → contact_below is e k ≢ top → In e (edges_of (get_or is (contact_below is e k) absent_island))
unfolding contact_below
contact-found is e zero d = absurd (d refl)
contact-found is e (suc k) d =
    bool (has (edges_of (get_or is k absent_island)) e) (λ q. rw q (has_in (edges_of (get_or is k absent_island)) e q)) (λ q. rw q (contact-found is e k (rw q at d)))

joint-found : (is : List Island) (q : Key) (k : ℕ) → joint_below is q k ≢ top
    → key_place (get_or is (joint_below is q k) absent_island).joint_links q < length (get_or is (joint_below is q k) absent_island).joint_links
unfolding joint_below
joint-found is q zero d = absurd (d refl)
joint-found is q (suc k) d =
    bool (ltb (key_place (get_or is k absent_island).joint_links q) (length (get_or is k absent_island).joint_links)) (λ e. rw e (ltb-true _ _ e))
    (λ e. rw e (joint-found is q k (rw e at d)))

both_true : (a b : Bool) → a && b ≡ true → (a ≡ true) × (b ≡ true)
both_true true b e = (refl, e)
both_true false b e = absurd (false≢true e)

pub same_key-refl : (k q : Key) → same_key k q ≡ true → k ≡ q
same_key-refl (impulse i g) (impulse j h) e =
    let b = both_true (eqb i j) (eqb g h) e in
    let p = eqb-true i j b.0 in
    let r = eqb-true g h b.1 in
    cc
same_key-refl (impulse i g) (chain u v o) e = absurd (false≢true e)
same_key-refl (chain u v o) (impulse j h) e = absurd (false≢true e)
same_key-refl (chain u v o) (chain x y p) e =
    let b = both_true (eqb u x) (eqb v y && eqb o p) e in
    let c = both_true (eqb v y) (eqb o p) b.1 in
    let r = eqb-true u x b.0 in
    let s = eqb-true v y c.0 in
    let t = eqb-true o p c.1 in
    cc

key-at : (ls : List JointLink) (q : Key) → key_place ls q < length ls → (get_or ls (key_place ls q) absent_joint).key ≡ q
unfolding key_place
key-at [] q l = absurd (omega arith)
key-at (c ∷ ls) q l =
    bool (same_key c.key q) (λ e. rw e (same_key-refl c.key q e))
    (λ e. rw e (key-at ls q (let x : suc (key_place ls q) < suc (length ls) = rw e at l in omega arith)))

pub edge_at : (cs : List ContactLink) (p : ℕ) → p < length cs → get_or (map (λ (l : ContactLink). l.edge_id) cs) p 0 ≡ (get_or cs p absent_contact).edge_id
edge_at [] p l = absurd (omega arith)
edge_at (c ∷ cs) zero l = refl
edge_at (c ∷ cs) (suc p) l = edge_at cs p (omega arith)

-- ---- a link cut out of an island's list

pub record Cut (l : Bond) (u v : World) : Type 0 where
  pub generations : (s : ℕ) → (body_of v s).generation ≡ (body_of u s).generation
  pub long : length v.islands ≡ length u.islands
  pub bodies : (j : ℕ) → (island_at v j).bodies ≡ (island_at u j).bodies
  pub counts : (j : ℕ) → count v j ≡ count u j
  pub to : (j : ℕ) (k : Bond) → Stands u j k → Stands v j k ⊎ (k ≡ l)
  pub from : (j : ℕ) (k : Bond) → Stands v j k → Stands u j k
  pub journal : v.removal_journal ≡ u.removal_journal

in_list : (i : ℕ) (u : World) {A : Type 0} (get : Island → List A) → get absent_island ≡ [] → (p : ℕ) → p < length (get (island_at u i)) → i < length u.islands
in_list i u get e p l =
    below i (length u.islands) (λ k. k)
    (λ k. absurd (let z : p < 0 = subst (λ x. p < length x) e (subst (λ (a : Island). p < length (get a)) (get_d_beyond u.islands absent_island i k) l) in omega arith))

module _ (i p : ℕ) (u : World) where
  abbrev A : Island
  A = island_at u i

  contact-cut : p < length (island_at u i).contact_links → Cut (of_contact (get_or (island_at u i).contact_links p absent_contact)) u (contact_removed i p u)
  unfolding contact_removed island_set
  contact-cut pl =
      let N = contacts_set A (swap_remove absent_contact A.contact_links p) in
      let at : get_or (set u.islands i N) i absent_island ≡ N = get_or-set_same u.islands i N absent_island (in_list i u (λ (a : Island). a.contact_links) refl p pl) in
      let off : (j : ℕ) → j ≢ i → get_or (set u.islands i N) j absent_island ≡ island_at u j = λ j d. get_or-set_other u.islands i j N absent_island d in
      record {
        generations = λ s. refl;
        long = length-set u.islands i N;
        bodies = set-part (λ (a : Island). a.bodies) u.islands i N absent_island refl;
        counts = set-part (λ (a : Island). a.constraint_remove_count) u.islands i N absent_island refl;
        to =
            λ j k s.
            either j i
            (λ e.
            bonds-all A (λ (b : Bond). In b (bonds_of (get_or (set u.islands i N) j absent_island)) ⊎ (b ≡ of_contact (get_or A.contact_links p absent_contact)))
            (λ x m.
            ⊎_elim (λ q. inr (ap of_contact q))
            (λ q. inl (subst (λ (y : ℕ). In (of_contact x) (bonds_of (get_or (set u.islands i N) y absent_island))) (sym e) (subst (λ (a : Island). In (of_contact x) (bonds_of a)) (sym at) (contact-bond N x q))))
            (swap-cases absent_contact A.contact_links p pl m))
            (λ x m. inl (subst (λ (y : ℕ). In (of_joint x) (bonds_of (get_or (set u.islands i N) y absent_island))) (sym e) (subst (λ (a : Island). In (of_joint x) (bonds_of a)) (sym at) (joint-bond N x m))))
            k
            (subst (λ (y : ℕ). Stands u y k) e s))
            (λ d. inl (subst (λ (a : Island). In k (bonds_of a)) (sym (off j d)) s));
        from =
            λ j k s.
            either j i
            (λ e.
            subst (λ (y : ℕ). Stands u y k) (sym e)
            (bonds-all N (λ (b : Bond). Stands u i b) (λ x m. contact-bond A x (swap-old absent_contact A.contact_links p pl m)) (λ x m. joint-bond A x m) k
            (subst (λ (a : Island). In k (bonds_of a)) at (subst (λ (y : ℕ). In k (bonds_of (get_or (set u.islands i N) y absent_island))) e s))))
            (λ d. subst (λ (a : Island). In k (bonds_of a)) (off j d) s);
        journal = refl;
      }

  joint-cut : p < length (island_at u i).joint_links → Cut (of_joint (get_or (island_at u i).joint_links p absent_joint)) u (joint_removed i p u)
  unfolding joint_removed island_set
  joint-cut pl =
      let N = joints_set A (swap_remove absent_joint A.joint_links p) in
      let at : get_or (set u.islands i N) i absent_island ≡ N = get_or-set_same u.islands i N absent_island (in_list i u (λ (a : Island). a.joint_links) refl p pl) in
      let off : (j : ℕ) → j ≢ i → get_or (set u.islands i N) j absent_island ≡ island_at u j = λ j d. get_or-set_other u.islands i j N absent_island d in
      record {
        generations = λ s. refl;
        long = length-set u.islands i N;
        bodies = set-part (λ (a : Island). a.bodies) u.islands i N absent_island refl;
        counts = set-part (λ (a : Island). a.constraint_remove_count) u.islands i N absent_island refl;
        to =
            λ j k s.
            either j i
            (λ e.
            bonds-all A (λ (b : Bond). In b (bonds_of (get_or (set u.islands i N) j absent_island)) ⊎ (b ≡ of_joint (get_or A.joint_links p absent_joint)))
            (λ x m. inl (subst (λ (y : ℕ). In (of_contact x) (bonds_of (get_or (set u.islands i N) y absent_island))) (sym e) (subst (λ (a : Island). In (of_contact x) (bonds_of a)) (sym at) (contact-bond N x m))))
            (λ x m.
            ⊎_elim (λ q. inr (ap of_joint q))
            (λ q. inl (subst (λ (y : ℕ). In (of_joint x) (bonds_of (get_or (set u.islands i N) y absent_island))) (sym e) (subst (λ (a : Island). In (of_joint x) (bonds_of a)) (sym at) (joint-bond N x q))))
            (swap-cases absent_joint A.joint_links p pl m))
            k
            (subst (λ (y : ℕ). Stands u y k) e s))
            (λ d. inl (subst (λ (a : Island). In k (bonds_of a)) (sym (off j d)) s));
        from =
            λ j k s.
            either j i
            (λ e.
            subst (λ (y : ℕ). Stands u y k) (sym e)
            (bonds-all N (λ (b : Bond). Stands u i b) (λ x m. contact-bond A x m) (λ x m. joint-bond A x (swap-old absent_joint A.joint_links p pl m)) k
            (subst (λ (a : Island). In k (bonds_of a)) at (subst (λ (y : ℕ). In k (bonds_of (get_or (set u.islands i N) y absent_island))) e s))))
            (λ d. subst (λ (a : Island). In k (bonds_of a)) (off j d) s);
        journal = refl;
      }

-- ---- cut, then journalled

same-handle : (h k : Handle) → same_handle h k ≡ true → h ≡ k
unfolding same_handle
same-handle h k e =
    let b = both_true (eqb h.slot k.slot) (eqb h.generation k.generation) e in
    handle-same h k (eqb-true _ _ b.0) (eqb-true _ _ b.1)

module _ (l : Bond) (w v : World) (C : Cut l w v) (A : Apart w) (G : (j : ℕ) (k : Bond) → Stands v j k → k.name ≢ l.name) where
  abbrev after : World
  after = journal_removal l.body1 l.body2 v

  -- the journal has one entry more, or the link was a body's with itself
  pub journalled : Dropped l.name w (journal_removal l.body1 l.body2 v) × Apart (journal_removal l.body1 l.body2 v)
  unfolding journal_removal
  journalled =
      ways (λ (x : World). Dropped l.name w x × Apart x) (same_handle l.body1 l.body2)
      (λ q. (
        record {
          link = l;
          named = refl;
          home = λ k. home_same w v k (named-same w v k (C.generations k.slot)) (slot_same w v C.long C.bodies k.slot);
          to = C.to;
          from = C.from;
          counts = C.counts;
          kept = λ e i. subst (λ (x : List Removal). In e x) (sym C.journal) i;
          journal = inl (same-handle l.body1 l.body2 q);
          gone = G;
        },
        record {
          small = rw C.long A.small;
          once = λ i j s a b. A.once i j s (subst (λ (x : List ℕ). In s x) (C.bodies i) a) (subst (λ (x : List ℕ). In s x) (C.bodies j) b);
        },
      ))
      (λ q. (
        record {
          link = l;
          named = refl;
          home =
              λ k.
              home_same w (journal_set v (v.removal_journal ++ (entry_of l ∷ []))) k (named-same w (journal_set v (v.removal_journal ++ (entry_of l ∷ []))) k (C.generations k.slot))
              (slot_same w (journal_set v (v.removal_journal ++ (entry_of l ∷ []))) C.long C.bodies k.slot);
          to = C.to;
          from = C.from;
          counts = C.counts;
          kept = λ e i. in_left (entry_of l ∷ []) (subst (λ (x : List Removal). In e x) (sym C.journal) i);
          journal = inr (in_right v.removal_journal (here refl));
          gone = G;
        },
        record {
          small = rw C.long A.small;
          once = λ i j s a b. A.once i j s (subst (λ (x : List ℕ). In s x) (C.bodies i) a) (subst (λ (x : List ℕ). In s x) (C.bodies j) b);
        },
      ))

edge-one : (a b : ℕ) → ◌≡◌ {A = Name} (edge a) (edge b) → a ≡ b
edge-one a b e = cc

joint-one : (a b : Key) → ◌≡◌ {A = Name} (joint a) (joint b) → a ≡ b
joint-one a b e = cc

not-both : (a : ℕ) (b : Key) → ◌≡◌ {A = Name} (edge a) (joint b) → ⊥
not-both a b e = let z : ◌≡◌ {A = ℕ} 0 1 = cc in omega arith

-- no other contact link has the edge number
contact-gone : (w : World) → Fine w → (i p : ℕ) (pl : p < length (island_at w i).contact_links) (j : ℕ) (k : Bond) → Stands (contact_removed i p w) j k
    → k.name ≢ edge (get_or (island_at w i).contact_links p absent_contact).edge_id
unfolding contact_removed island_set
contact-gone w F i p pl j k s =
    let xs = (island_at w i).contact_links in
    let N = contacts_set (island_at w i) (swap_remove absent_contact (island_at w i).contact_links p) in
    let il : i < length w.islands = in_list i w (λ (a : Island). a.contact_links) refl p pl in
    bonds-all (get_or (set w.islands i N) j absent_island) (λ (b : Bond). b.name ≢ edge (get_or (island_at w i).contact_links p absent_contact).edge_id)
    (λ c m e.
    let n : c.edge_id ≡ (get_or (island_at w i).contact_links p absent_contact).edge_id = edge-one _ _ e in
    either j i
    (λ q.
    let m' : In c (swap_remove absent_contact (island_at w i).contact_links p) =
    subst (λ (a : Island). In c a.contact_links) (get_or-set_same w.islands i N absent_island il)
    (subst (λ (y : ℕ). In c (get_or (set w.islands i N) y absent_island).contact_links) q m) in
    let r = at_in absent_contact m' in
    let b = swap-before absent_contact (island_at w i).contact_links p r.place pl r.lt in
    b.other (F.edges i i b.at p b.lt pl (ap (λ (x : ContactLink). x.edge_id) (sym b.is ∙ r.is) ∙ n)).1)
    (λ d.
    let m' : In c (island_at w j).contact_links = subst (λ (a : Island). In c a.contact_links) (get_or-set_other w.islands i j N absent_island d) m in
    let r = at_in absent_contact m' in
    d (F.edges j i r.place p r.lt pl (ap (λ (x : ContactLink). x.edge_id) r.is ∙ n)).0))
    (λ c m e. not-both _ _ (sym e))
    k
    s

-- no other joint link has the key
joint-gone : (w : World) → Keyed w → (i p : ℕ) (pl : p < length (island_at w i).joint_links) (j : ℕ) (k : Bond) → Stands (joint_removed i p w) j k
    → k.name ≢ joint (get_or (island_at w i).joint_links p absent_joint).key
joint-gone w K i p pl j k s =
    bonds-all (island_at (joint_removed i p w) j) (λ (b : Bond). b.name ≢ joint (get_or (island_at w i).joint_links p absent_joint).key) (λ c m e. not-both _ _ e)
    (λ c m e.
    let r = at_in absent_joint m in
    removed-fresh i p w K pl (in_list i w (λ (a : Island). a.joint_links) refl p pl) j r.place r.lt (ap (λ (x : JointLink). x.key) r.is ∙ joint-one _ _ e))
    k
    s

pub uncontact-change : (Z : Sizes) (e : ℕ) (w : World) → Fine w → Change (pick (is_done (unlink_contact Z e w)) (unlinked (edge e)) nothing) w (unlink_contact Z e w).after
unfolding unlink_contact contact_home
uncontact-change Z e w F =
    let A = F.apart in
    let i = contact_below w.islands e (length w.islands) in
    let p = place_of (edges_of (island_at w i)) e in
    let l = get_or (island_at w i).contact_links p absent_contact in
    ways (λ (s : Step). Change (pick (is_done s) (unlinked (edge e)) nothing) w s.after) (eqb i top) (λ q. same (same_refl w))
    (λ q.
    ways (λ (s : Step). Change (pick (is_done s) (unlinked (edge e)) nothing) w s.after) (journal_refuses Z l.body1 l.body2 w) (λ r. same (same_refl w))
    (λ r.
    let m : In e (edges_of (island_at w i)) = contact-found w.islands e (length w.islands) (eqb-false i top q) in
    let pl : p < length (island_at w i).contact_links = rw (length-map (island_at w i).contact_links (λ (c : ContactLink). c.edge_id)) at (place_in m).0 in
    let n : l.edge_id ≡ e = sym (edge_at (island_at w i).contact_links p pl) ∙ (place_in m).1 in
    dropped
    (subst (λ (x : ℕ). Dropped (edge x) w (journal_removal l.body1 l.body2 (contact_removed i p w))) n
    (journalled (of_contact l) w (contact_removed i p w) (contact-cut i p w pl) A (contact-gone w F i p pl)).0)))

-- the change; the islands after it are apart and no key is twice again, and nobody became a member
pub unjoint-change : (Z : Sizes) (k : Key) (w : World) → Apart w → Keyed w
    → Change (pick (is_done (unlink_joint Z k w)) (unlinked (joint k)) nothing) w (unlink_joint Z k w).after × Apart (unlink_joint Z k w).after × Keyed (unlink_joint Z k w).after
    × Calm w (unlink_joint Z k w).after
unfolding unlink_joint joint_home
unjoint-change Z k w A K =
    let i = joint_below w.islands k (length w.islands) in
    let p = key_place (island_at w i).joint_links k in
    let l = get_or (island_at w i).joint_links p absent_joint in
    ways (λ (s : Step). Change (pick (is_done s) (unlinked (joint k)) nothing) w s.after × Apart s.after × Keyed s.after × Calm w s.after) (eqb i top)
    (λ q. (same (same_refl w), A, K, λ h e. e))
    (λ q.
    ways (λ (s : Step). Change (pick (is_done s) (unlinked (joint k)) nothing) w s.after × Apart s.after × Keyed s.after × Calm w s.after)
    (journal_refuses Z l.body1 l.body2 w)
    (λ r. (same (same_refl w), A, K, λ h e. e))
    (λ r.
    let pl : p < length (island_at w i).joint_links = joint-found w.islands k (length w.islands) (eqb-false i top q) in
    let n : l.key ≡ k = key-at (island_at w i).joint_links k pl in
    let J = journalled (of_joint l) w (joint_removed i p w) (joint-cut i p w pl) A (joint-gone w K i p pl) in (
      dropped (subst (λ (x : Key). Dropped (joint x) w (journal_removal l.body1 l.body2 (joint_removed i p w))) n J.0),
      J.1,
      journal-keyed l.body1 l.body2 (joint_removed i p w) (removed-keyed i p w K pl (in_list i w (λ (a : Island). a.joint_links) refl p pl)),
      (λ h e. J.0.home h ∙ e),
    )))
