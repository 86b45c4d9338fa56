-- A path over the places of an island's bodies is a path over the bodies.
use mathlib.Core.Path.{◌≡◌, refl, sym, ◌∙◌, ap, subst}
use mathlib.Core.Logic.{◌⊎◌, inl, inr, ◌≢◌, ⊎_elim}
use mathlib.Core.List.{List, [], ◌∷◌, ◌++◌, map}
use Prim.Native.Nat.{ℕ, ◌<◌}
use native.Mathlib.Omega.{arith}
use lib.ListN.{length, get_or}
use borrow.Author.Tests.{eq-eqb, ne_eqb}
use Rattle.list_in_table.proofs.Laws.{either}
use Rattle.def_state.specs.Plain.{top, place_of}
use Rattle.def_state.specs.World.{Handle, ContactLink, JointLink, World, island_at, body_island}
use Rattle.def_state.specs.Connected.{Link, Joined}
use Rattle.def_state.specs.Split.{node_of, ends, contact_ends, joint_ends, links_of}
use Rattle.theorem_split.specs.Graph.{In, here, there, Path, Bond, of_contact, of_joint, bonds_of, Own}
use Rattle.theorem_split.specs.Fine.{Fine}
use Rattle.theorem_split.proofs.Homes.{member, named-one}

pub place_in : {s : ℕ} {xs : List ℕ} → In s xs → (place_of xs s < length xs) × (get_or xs (place_of xs s) 0 ≡ s)
unfolding place_of
place_in {s} (here {y} {ys} e) = rw (eq-eqb y s e) (omega arith, e)
place_in {s} (there {y} {ys} i) =
    either y s (λ e. rw (eq-eqb y s e) (omega arith, e))
    (λ d. (let h = place_in i in let l = h.0 in rw (ne_eqb y s d) (omega arith, h.1)))

-- ---- the pairs of places, over links of both kinds

module _ (node : Handle → ℕ) where
  abbrev bond_ends : List Bond → List (ℕ × ℕ) → List (ℕ × ℕ)
  bond_ends [] ls = ls
  bond_ends (l ∷ rest) ls = ends (node l.body1) (node l.body2) (bond_ends rest ls)

  bond-append : (xs ys : List Bond) (ls : List (ℕ × ℕ)) → bond_ends (xs ++ ys) ls ≡ bond_ends xs (bond_ends ys ls)
  bond-append [] ys ls = refl
  bond-append (x ∷ xs) ys ls = ap (ends (node x.body1) (node x.body2)) (bond-append xs ys ls)

  -- a link of bs whose ends stand at x and y
  pub record Crossing (bs : List Bond) (x y : ℕ) : Type 0 where
    pub link : Bond
    pub listed : In link bs
    pub first : node link.body1 ≢ top
    pub second : node link.body2 ≢ top
    pub at : ((x ≡ node link.body1) × (y ≡ node link.body2)) ⊎ ((x ≡ node link.body2) × (y ≡ node link.body1))

  later : {l : Bond} {bs : List Bond} {x y : ℕ} → Crossing bs x y → Crossing (l ∷ bs) x y
  later c = record { link = c.link; listed = there c.listed; first = c.first; second = c.second; at = c.at }

  crossing : (bs : List Bond) (x y : ℕ) → Link (bond_ends bs []) x y → Crossing bs x y
  crossing [] x y k = absurd k
  crossing (l ∷ bs) x y k =
      either (node l.body1) top
      (λ e. later (crossing bs x y (rw (eq-eqb (node l.body1) top e) at k)))
      (λ d.
      either (node l.body2) top
      (λ e. later (crossing bs x y (rw (ne_eqb (node l.body1) top d, eq-eqb (node l.body2) top e) at k)))
      (λ o. found d o (crossing bs x y) (rw (ne_eqb (node l.body1) top d, ne_eqb (node l.body2) top o) at k)))
    where
      found : node l.body1 ≢ top → node l.body2 ≢ top → (Link (bond_ends bs []) x y → Crossing bs x y)
          → ((x ≡ node l.body1) × (y ≡ node l.body2)) ⊎ ((x ≡ node l.body2) × (y ≡ node l.body1)) ⊎ Link (bond_ends bs []) x y
          → Crossing (l ∷ bs) x y
      found d o f (inl e) = record { link = l; listed = here refl; first = d; second = o; at = inl e }
      found d o f (inr (inl e)) = record { link = l; listed = here refl; first = d; second = o; at = inr e }
      found d o f (inr (inr r)) = later (f r)

  crossed : (bs : List Bond) (l : Bond) → In l bs → node l.body1 ≢ top → node l.body2 ≢ top
      → Link (bond_ends bs []) (node l.body1) (node l.body2) × Link (bond_ends bs []) (node l.body2) (node l.body1)
  crossed [] l i d o = elim i [ ]
  crossed (k ∷ bs) l (here e) d o =
      let d' : node k.body1 ≢ top = rw e d in
      let o' : node k.body2 ≢ top = rw e o in
      rw (ne_eqb (node k.body1) top d', ne_eqb (node k.body2) top o') (
        inl (ap (λ (b : Bond). node b.body1) (sym e), ap (λ (b : Bond). node b.body2) (sym e)),
        inr (inl (ap (λ (b : Bond). node b.body2) (sym e), ap (λ (b : Bond). node b.body1) (sym e))),
      )
  crossed (k ∷ bs) l (there i) d o =
      let r = crossed bs l i d o in
      (skip k (node l.body1) (node l.body2) r.0, skip k (node l.body2) (node l.body1) r.1)
    where
      skip : (k : Bond) (x y : ℕ) → Link (bond_ends bs []) x y → Link (bond_ends (k ∷ bs) []) x y
      skip k x y r =
          either (node k.body1) top (λ e. rw (eq-eqb (node k.body1) top e) r)
          (λ d.
          either (node k.body2) top (λ e. rw (ne_eqb (node k.body1) top d, eq-eqb (node k.body2) top e) r)
          (λ o. rw (ne_eqb (node k.body1) top d, ne_eqb (node k.body2) top o) (inr (inr r))))

contact-ends : (w : World) (i : ℕ) (cs : List ContactLink) (ls : List (ℕ × ℕ)) → contact_ends w i cs ls ≡ bond_ends (node_of w i) (map of_contact cs) ls
unfolding contact_ends
contact-ends w i [] ls = refl
contact-ends w i (c ∷ cs) ls = ap (ends (node_of w i c.body1) (node_of w i c.body2)) (contact-ends w i cs ls)

joint-ends : (w : World) (i : ℕ) (js : List JointLink) → joint_ends w i js ≡ bond_ends (node_of w i) (map of_joint js) []
unfolding joint_ends
joint-ends w i [] = refl
joint-ends w i (c ∷ cs) = ap (ends (node_of w i c.body1) (node_of w i c.body2)) (joint-ends w i cs)

links-bonds : (w : World) (i : ℕ) → links_of w i ≡ bond_ends (node_of w i) (bonds_of (island_at w i)) []
unfolding links_of
links-bonds w i =
    contact-ends w i (island_at w i).contact_links (joint_ends w i (island_at w i).joint_links)
    ∙ ap (bond_ends (node_of w i) (map of_contact (island_at w i).contact_links)) (joint-ends w i (island_at w i).joint_links)
    ∙ sym (bond-append (node_of w i) (map of_contact (island_at w i).contact_links) (map of_joint (island_at w i).joint_links) [])

-- ---- nodes

module _ (w : World) (F : Fine w) (i : ℕ) (it : i ≢ top) where
  abbrev node : Handle → ℕ
  node = node_of w i

  pub node-home : (h : Handle) → node_of w i h ≢ top → body_island w h ≡ i
  unfolding node_of
  node-home h d = either (body_island w h) i (λ e. e) (λ o. absurd (d (rw (ne_eqb (body_island w h) i o))))

  node-is : (h : Handle) → body_island w h ≡ i → node_of w i h ≡ place_of (island_at w i).bodies h.slot
  unfolding node_of
  node-is h e = rw (eq-eqb (body_island w h) i e)

  pub node-out : (h : Handle) → body_island w h ≢ i → node_of w i h ≡ top
  unfolding node_of
  node-out h d = rw (ne_eqb (body_island w h) i d)

  pub node-lt : (h : Handle) → body_island w h ≡ i → node_of w i h < length (island_at w i).bodies
  node-lt h e = rw (node-is h e) (place_in (member w i h e it).listed).0

  pub node-slot : (h : Handle) → body_island w h ≡ i → get_or (island_at w i).bodies (node_of w i h) 0 ≡ h.slot
  node-slot h e = rw (node-is h e) (place_in (member w i h e it).listed).1

  pub node_in : (h : Handle) → body_island w h ≡ i → node_of w i h ≢ top
  node_in h e q = let l = node-lt h e in let f = F.few i in omega arith

  pub node-one : (a b : Handle) → body_island w a ≡ i → body_island w b ≡ i → node_of w i a ≡ node_of w i b → a ≡ b
  node-one a b p q e =
      named-one w a b (member w i a p it).named_is (member w i b q it).named_is
      (sym (node-slot a p) ∙ ap (λ (k : ℕ). get_or (island_at w i).bodies k 0) e ∙ node-slot b q)

  -- both ends of a link of places are places of the island
  pub ends-inside : (x y : ℕ) → Link (links_of w i) x y → x < length (island_at w i).bodies
  ends-inside x y k =
      let c = crossing node (bonds_of (island_at w i)) x y (rw (links-bonds w i) at k) in
      ⊎_elim (λ e. rw e.0 (node-lt c.link.body1 (node-home c.link.body1 c.first)))
      (λ e. rw e.0 (node-lt c.link.body2 (node-home c.link.body2 c.second)))
      c.at

  own-link : (a b : Handle) → Own w i a b → Link (links_of w i) (node a) (node b)
  own-link a b o =
      let r : (d : node o.link.body1 ≢ top) (e : node o.link.body2 ≢ top) → Link (bond_ends node (bonds_of (island_at w i)) []) (node o.link.body1) (node o.link.body2) × Link (bond_ends node (bonds_of (island_at w i)) []) (node o.link.body2) (node o.link.body1) =
      crossed node (bonds_of (island_at w i)) o.link o.stands in
      let da = node_in a o.first in
      let db = node_in b o.second in
      rw (links-bonds w i)
      (⊎_elim
      (λ e.
      subst (λ (h : Handle). Link (bond_ends node (bonds_of (island_at w i)) []) (node h) (node b)) e.0
      (subst (λ (h : Handle). Link (bond_ends node (bonds_of (island_at w i)) []) (node o.link.body1) (node h)) e.1
      (r (λ q. da (ap node (sym e.0) ∙ q)) (λ q. db (ap node (sym e.1) ∙ q))).0))
      (λ e.
      subst (λ (h : Handle). Link (bond_ends node (bonds_of (island_at w i)) []) (node h) (node b)) e.1
      (subst (λ (h : Handle). Link (bond_ends node (bonds_of (island_at w i)) []) (node o.link.body2) (node h)) e.0
      (r (λ q. db (ap node (sym e.0) ∙ q)) (λ q. da (ap node (sym e.1) ∙ q))).1))
      o.joins)

  pub path-joined : {a b : Handle} → Path (Own w i) a b → Joined (links_of w i) (node_of w i a) (node_of w i b)
  path-joined Path.stop = Joined.stop
  path-joined {a} (Path.step {b = b} o p) = Joined.step (own-link a b o) (path-joined p)

  pub joined-path : {x y : ℕ} → Joined (links_of w i) x y → (a b : Handle) → body_island w a ≡ i → body_island w b ≡ i → node_of w i a ≡ x → node_of w i b ≡ y
      → Path (Own w i) a b
  joined-path Joined.stop a b ha hb ea eb = subst (λ (h : Handle). Path (Own w i) a h) (node-one a b ha hb (ea ∙ sym eb)) Path.stop
  joined-path {x} (Joined.step {b = z} k p) a b ha hb ea eb =
      let c : Crossing node (bonds_of (island_at w i)) x z = crossing node (bonds_of (island_at w i)) x z (rw (links-bonds w i) at k) in
      let h1 : body_island w c.link.body1 ≡ i = node-home c.link.body1 c.first in
      let h2 : body_island w c.link.body2 ≡ i = node-home c.link.body2 c.second in
      ⊎_elim
      (λ e.
      Path.step (record { link = c.link; stands = c.listed; joins = inl (node-one c.link.body1 a h1 ha (sym e.0 ∙ sym ea), refl); first = ha; second = h2 })
      (joined-path p c.link.body2 b h2 hb (sym e.1) eb))
      (λ e.
      Path.step (record { link = c.link; stands = c.listed; joins = inr (refl, node-one c.link.body2 a h2 ha (sym e.0 ∙ sym ea)); first = ha; second = h1 })
      (joined-path p c.link.body1 b h1 hb (sym e.1) eb))
      c.at
