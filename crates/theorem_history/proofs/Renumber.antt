-- Renumber: the last edge takes the removed number.
use mathlib.Core.Path.{◌≡◌, refl, sym, ◌∙◌, ap, subst}
use mathlib.Core.Logic.{◌≢◌}
use mathlib.Core.Bool.{true, not, false≢true}
use mathlib.Core.List.{List}
use Prim.Native.Nat.{ℕ, zero, suc, ◌+◌, ◌≤◌, ◌<◌}
use native.Mathlib.Omega.{arith}
use lib.ListN.{length, get_or, set, length-set, length-map}
use lib.Seq.{get_or-set_same, get_or-set_other}
use lib.Dec.{eqb, leb}
use borrow.Author.Tests.{eq-eqb, ne_eqb}
use Rattle.def_kinds.specs.Choice.{pick}
use Rattle.list_in_table.proofs.Laws.{either}
use Rattle.def_state.specs.Plain.{top, has, place_of}
use Rattle.def_state.specs.World.{ContactLink, absent_contact, Island, absent_island, World, Step, island_at}
use Rattle.def_state.specs.Fields.{tracked_set, island_set, contacts_set}
use Rattle.def_state.specs.Links.{edges_of, contact_below, contact_home, renamed, renumbered, contact_edge_removed}
use Rattle.theorem_split.specs.Graph.{In, Bond, of_contact, of_joint, bonds_of, Stands}
use Rattle.theorem_split.specs.Fine.{Fine}
use Rattle.theorem_split.proofs.Member.{in-at, at_in, in_map, in-has}
use Rattle.theorem_split.proofs.Homes.{bool, stands-use}
use Rattle.theorem_split.proofs.Ends.{place_in}
use Rattle.theorem_split.proofs.Bonds.{contact-bond, joint-bond, bonds-all}
use Rattle.theorem_history.specs.Ties.{Event, nothing, new_bond, is_done}
use Rattle.theorem_history.proofs.Change.{Renumbered, Change, same}
use Rattle.theorem_history.proofs.Basic.{ways, set-part, same_refl, home_same, named-same, slot_same}
use Rattle.theorem_history.proofs.Unlink.{contact-found, edge_at}

-- an edge that an island lists is found
contact-none : (is : List Island) (e k j : ℕ) → length is ≤ top → k ≤ length is → contact_below is e k ≡ top → j < k → In e (edges_of (get_or is j absent_island)) → ⊥
unfolding contact_below
contact-none is e zero j s kl q l m = omega arith
contact-none is e (suc k) j s kl q l m =
    bool (has (edges_of (get_or is k absent_island)) e) (λ h. (let z : k ≡ top = rw h at q in omega arith))
    (λ h.
    either j k (λ o. false≢true (sym h ∙ subst (λ (i : ℕ). has (edges_of (get_or is i absent_island)) e ≡ true) o (in-has m)))
    (λ o. contact-none is e k j s (omega arith) (rw h at q) (omega arith) m))

new-same : (r n : ℕ) (c : ContactLink) → c.edge_id ≢ n → new_bond r n (of_contact c) ≡ of_contact c
new-same r n c d = rw (ne_eqb c.edge_id n d)

new-last : (r n : ℕ) (c : ContactLink) → c.edge_id ≡ n → new_bond r n (of_contact c) ≡ of_contact (renamed r c)
new-last r n c e = rw (eq-eqb c.edge_id n e)

-- no island has the last edge
module _ (r n : ℕ) (w : World) (F : Fine w) (t : contact_home w n ≡ top) where
  absent : (j : ℕ) (c : ContactLink) → In c (island_at w j).contact_links → c.edge_id ≢ n
  unfolding contact_home
  absent j c m e =
      contact-none w.islands n (length w.islands) j F.apart.small (omega arith) t (stands-use w j (of_contact c) (contact-bond (island_at w j) c m))
      (subst (λ (x : ℕ). In x (edges_of (island_at w j))) e (in_map (λ (l : ContactLink). l.edge_id) m))

  none-renumbered : Renumbered r n w w
  none-renumbered =
      record {
        home = λ h. refl;
        to =
            λ j l s.
            bonds-all (island_at w j) (λ (b : Bond). Stands w j (new_bond r n b))
            (λ c m. subst (λ (b : Bond). Stands w j b) (sym (new-same r n c (absent j c m))) (contact-bond (island_at w j) c m))
            (λ c m. joint-bond (island_at w j) c m)
            l
            s;
        from =
            λ j l s.
            bonds-all (island_at w j) (λ (b : Bond). (k : Bond) × Stands w j k × (b ≡ new_bond r n k))
            (λ c m. (of_contact c, contact-bond (island_at w j) c m, sym (new-same r n c (absent j c m))))
            (λ c m. (of_joint c, joint-bond (island_at w j) c m, refl))
            l
            s;
        counts = λ j. refl;
        journal = refl;
      }

-- island i has it, at place p
module _ (r n : ℕ) (w : World) (F : Fine w) (t : contact_home w n ≢ top) where
  abbrev i : ℕ
  i = contact_home w n

  abbrev cs : List ContactLink
  cs = (island_at w i).contact_links

  abbrev p : ℕ
  p = place_of (edges_of (island_at w i)) n

  at : In n (edges_of (island_at w (contact_home w n)))
  unfolding contact_home
  at = contact-found w.islands n (length w.islands) t

  pl : p < length cs
  pl = rw (length-map (island_at w i).contact_links (λ (c : ContactLink). c.edge_id)) at (place_in at).0

  pn : (get_or cs p absent_contact).edge_id ≡ n
  pn = sym (edge_at cs p pl) ∙ (place_in at).1

  il : i < length w.islands
  il = stands-use w i (of_contact (get_or cs p absent_contact)) (contact-bond (island_at w i) (get_or cs p absent_contact) (in-at absent_contact cs p pl))

  abbrev new : ContactLink
  new = renamed r (get_or cs p absent_contact)

  abbrev N : Island
  N = contacts_set (island_at w i) (set cs p new)

  abbrev v : World
  v = island_set w i N

  at_i : island_at v i ≡ N
  unfolding island_set
  at_i = get_or-set_same w.islands i N absent_island il

  off-i : (j : ℕ) → j ≢ i → island_at v j ≡ island_at w j
  unfolding island_set
  off-i j d = get_or-set_other w.islands i j N absent_island d

  -- the link at place q of i's list, in the new list
  in-new : (q : ℕ) → q < length cs → In (new_bond r n (of_contact (get_or cs q absent_contact))) (bonds_of N)
  in-new q ql =
      either q p
      (λ e.
      subst (λ (k : ℕ). In (new_bond r n (of_contact (get_or cs k absent_contact))) (bonds_of N)) (sym e)
      (subst (λ (b : Bond). In b (bonds_of N)) (sym (new-last r n (get_or cs p absent_contact) pn))
      (contact-bond N new (subst (λ (c : ContactLink). In c (set cs p new)) (get_or-set_same cs p new absent_contact pl) (in-at absent_contact (set cs p new) p (rw (length-set cs p new) pl))))))
      (λ d.
      let o : (get_or cs q absent_contact).edge_id ≢ n = λ e. d (F.edges i i q p ql pl (e ∙ sym pn)).1 in
      subst (λ (b : Bond). In b (bonds_of N)) (sym (new-same r n (get_or cs q absent_contact) o))
      (contact-bond N (get_or cs q absent_contact) (subst (λ (c : ContactLink). In c (set cs p new)) (get_or-set_other cs p q new absent_contact d) (in-at absent_contact (set cs p new) q (rw (length-set cs p new) ql)))))

  to-new : (j : ℕ) (l : Bond) → Stands w j l → Stands v j (new_bond r n l)
  to-new j l s =
      either j i
      (λ e.
      subst (λ (k : ℕ). Stands v k (new_bond r n l)) (sym e)
      (subst (λ (a : Island). In (new_bond r n l) (bonds_of a)) (sym at_i)
      (bonds-all (island_at w i) (λ (b : Bond). In (new_bond r n b) (bonds_of N))
      (λ c m. (let x = at_in absent_contact m in subst (λ (y : ContactLink). In (new_bond r n (of_contact y)) (bonds_of N)) x.is (in-new x.place x.lt)))
      (λ c m. joint-bond N c m)
      l
      (subst (λ (k : ℕ). Stands w k l) e s))))
      (λ d.
      subst (λ (a : Island). In (new_bond r n l) (bonds_of a)) (sym (off-i j d))
      (bonds-all (island_at w j) (λ (b : Bond). In (new_bond r n b) (bonds_of (island_at w j)))
      (λ c m.
      let x = at_in absent_contact m in
      let o : c.edge_id ≢ n = λ e. d (F.edges j i x.place p x.lt pl (ap (λ (y : ContactLink). y.edge_id) x.is ∙ e ∙ sym pn)).0 in
      subst (λ (b : Bond). In b (bonds_of (island_at w j))) (sym (new-same r n c o)) (contact-bond (island_at w j) c m))
      (λ c m. joint-bond (island_at w j) c m)
      l
      s))

  from-new : (j : ℕ) (l : Bond) → Stands v j l → (k : Bond) × Stands w j k × (l ≡ new_bond r n k)
  from-new j l s =
      either j i
      (λ e.
      let got : (k : Bond) × Stands w i k × (l ≡ new_bond r n k) =
      bonds-all N (λ (b : Bond). (k : Bond) × Stands w i k × (b ≡ new_bond r n k)) old (λ c m. (of_joint c, joint-bond (island_at w i) c m, refl)) l
      (subst (λ (a : Island). In l (bonds_of a)) at_i (subst (λ (k : ℕ). Stands v k l) e s)) in
      (got.0, subst (λ (k : ℕ). Stands w k got.0) (sym e) got.1, got.2))
      (λ d.
      bonds-all (island_at w j) (λ (b : Bond). (k : Bond) × Stands w j k × (b ≡ new_bond r n k))
      (λ c m.
      let x = at_in absent_contact m in
      let o : c.edge_id ≢ n = λ e. d (F.edges j i x.place p x.lt pl (ap (λ (y : ContactLink). y.edge_id) x.is ∙ e ∙ sym pn)).0 in
      (of_contact c, contact-bond (island_at w j) c m, sym (new-same r n c o)))
      (λ c m. (of_joint c, joint-bond (island_at w j) c m, refl))
      l
      (subst (λ (a : Island). In l (bonds_of a)) (off-i j d) s))
    where
      old : (c : ContactLink) → In c (set cs p new) → (k : Bond) × Stands w i k × (of_contact c ≡ new_bond r n k)
      old c m =
          let x = at_in absent_contact m in
          let xl : x.place < length cs = rw (length-set cs p new) at x.lt in
          either x.place p
          (λ e.
          let y : new ≡ c = sym (get_or-set_same cs p new absent_contact pl) ∙ ap (λ (k : ℕ). get_or (set cs p new) k absent_contact) (sym e) ∙ x.is in (
            of_contact (get_or cs p absent_contact),
            contact-bond (island_at w i) (get_or cs p absent_contact) (in-at absent_contact cs p pl),
            ap of_contact (sym y) ∙ sym (new-last r n (get_or cs p absent_contact) pn),
          ))
          (λ d.
          let y : get_or cs x.place absent_contact ≡ c = sym (get_or-set_other cs p x.place new absent_contact d) ∙ x.is in
          let o : c.edge_id ≢ n = λ e. d (F.edges i i x.place p xl pl (ap (λ (z : ContactLink). z.edge_id) y ∙ e ∙ sym pn)).1 in
          (of_contact c, contact-bond (island_at w i) c (subst (λ (z : ContactLink). In z cs) y (in-at absent_contact cs x.place xl)), sym (new-same r n c o)))

  some-renumbered : Renumbered r n w v
  unfolding island_set
  some-renumbered =
      record {
        home =
            λ h.
            home_same w v h (named-same w v h refl)
            (slot_same w v (length-set w.islands i N) (set-part (λ (a : Island). a.bodies) w.islands i N absent_island refl) h.slot);
        to = to-new;
        from = from-new;
        counts = set-part (λ (a : Island). a.constraint_remove_count) w.islands i N absent_island refl;
        journal = refl;
      }

-- the tracked length shrinks
shrunk : (r n k : ℕ) (w u : World) → Renumbered r n w u → Renumbered r n w (tracked_set u k)
shrunk r n k w u R =
    record {
      home = λ h. home_same u (tracked_set u k) h (named-same u (tracked_set u k) h refl) (slot_same u (tracked_set u k) refl (λ j. refl) h.slot) ∙ R.home h;
      to = R.to;
      from = R.from;
      counts = R.counts;
      journal = R.journal;
    }

all-renumbered : (r n : ℕ) (w : World) → Fine w → Renumbered r n w (renumbered r n w)
unfolding renumbered
all-renumbered r n w F =
    either (contact_home w n) top (λ e. rw (eq-eqb (contact_home w n) top e) (none-renumbered r n w F e))
    (λ d. rw (ne_eqb (contact_home w n) top d) (some-renumbered r n w F d))

pub renumber-change : (r n : ℕ) (w : World) → Fine w → Change (pick (is_done (contact_edge_removed r n w)) (Event.renumbered r n) nothing) w (contact_edge_removed r n w).after
unfolding contact_edge_removed
renumber-change r n w F =
    ways (λ (s : Step). Change (pick (is_done s) (Event.renumbered r n) nothing) w s.after) (leb w.tracked r) (λ q. same (same_refl w))
    (λ q.
    ways (λ (s : Step). Change (pick (is_done s) (Event.renumbered r n) nothing) w s.after) (not (eqb (contact_home w r) top)) (λ q. same (same_refl w))
    (λ q.
    ways (λ (s : Step). Change (pick (is_done s) (Event.renumbered r n) nothing) w s.after) (eqb w.tracked (n + 1))
    (λ q. Change.renamed (shrunk r n n w (renumbered r n w) (all-renumbered r n w F)))
    (λ q. same (same_refl w))))
