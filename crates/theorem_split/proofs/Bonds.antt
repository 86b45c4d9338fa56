-- Links of both kinds as one list.
use mathlib.Core.Path.{◌≡◌, refl, sym, ◌∙◌, ap, subst}
use mathlib.Core.Logic.{⊎_elim}
use mathlib.Core.List.{map}
use Prim.Native.Nat.{ℕ}
use native.Mathlib.Omega.{arith}
use Rattle.def_state.specs.World.{Key, ContactLink, absent_contact, JointLink, absent_joint, Island, World, island_at}
use Rattle.theorem_split.specs.Graph.{In, Name, edge, joint, Bond, of_contact, of_joint, bonds_of, Stands}
use Rattle.theorem_split.specs.Fine.{Fine}
use Rattle.theorem_split.proofs.Member.{in_left, in_right, in-cases, in_map, map-in, at_in}

pub contact-bond : (a : Island) (c : ContactLink) → In c a.contact_links → In (of_contact c) (bonds_of a)
contact-bond a c i = in_left (map of_joint a.joint_links) (in_map of_contact i)

pub joint-bond : (a : Island) (c : JointLink) → In c a.joint_links → In (of_joint c) (bonds_of a)
joint-bond a c i = in_right (map of_contact a.contact_links) (in_map of_joint i)

-- what holds of each contact link and each joint link holds of each link
pub bonds-all : (a : Island) (P : Bond → Type 0) → ((c : ContactLink) → In c a.contact_links → P (of_contact c)) → ((c : JointLink) → In c a.joint_links → P (of_joint c))
    → (l : Bond) → In l (bonds_of a) → P l
bonds-all a P f g l i =
    ⊎_elim (λ m. (let s = map-in of_contact a.contact_links m in subst P s.is (f s.source s.listed)))
    (λ m. (let s = map-in of_joint a.joint_links m in subst P s.is (g s.source s.listed)))
    (in-cases (map of_contact a.contact_links) i)

-- ---- a link stands in one island alone

edge-one : (a b : ℕ) → ◌≡◌ {A = Name} (edge a) (edge b) → a ≡ b
edge-one a b e = cc

joint-one : (p q : Key) → ◌≡◌ {A = Name} (joint p) (joint q) → p ≡ q
joint-one p q e = cc

names-differ : (a : ℕ) (q : Key) → ◌≡◌ {A = Name} (edge a) (joint q) → ⊥
names-differ a q e = let z : ◌≡◌ {A = ℕ} 0 1 = cc in omega arith

abbrev name_of : Bond → Name
name_of l = l.name

module _ (w : World) (F : Fine w) (i j : ℕ) where
  contact-one : (c d : ContactLink) → In c (island_at w i).contact_links → In d (island_at w j).contact_links → of_contact d ≡ of_contact c → i ≡ j
  contact-one c d m n e =
      let x = at_in absent_contact m in
      let y = at_in absent_contact n in
      (F.edges i j x.place y.place x.lt y.lt
      (ap (λ (l : ContactLink). l.edge_id) x.is ∙ sym (edge-one d.edge_id c.edge_id (ap name_of e)) ∙ sym (ap (λ (l : ContactLink). l.edge_id) y.is))
      ).0

  key_one : (c d : JointLink) → In c (island_at w i).joint_links → In d (island_at w j).joint_links → of_joint d ≡ of_joint c → i ≡ j
  key_one c d m n e =
      let x = at_in absent_joint m in
      let y = at_in absent_joint n in
      (F.keys i j x.place y.place x.lt y.lt
      (ap (λ (l : JointLink). l.key) x.is ∙ sym (joint-one d.key c.key (ap name_of e)) ∙ sym (ap (λ (l : JointLink). l.key) y.is))
      ).0

  pub stands_one : (l : Bond) → Stands w i l → Stands w j l → i ≡ j
  stands_one =
      bonds-all (island_at w i) (λ (b : Bond). Stands w j b → i ≡ j)
      (λ c m s.
      bonds-all (island_at w j) (λ (b : Bond). b ≡ of_contact c → i ≡ j) (λ d n e. contact-one c d m n e)
      (λ d n e. absurd (names-differ c.edge_id d.key (sym (ap name_of e))))
      (of_contact c)
      s
      refl)
      (λ c m s.
      bonds-all (island_at w j) (λ (b : Bond). b ≡ of_joint c → i ≡ j) (λ d n e. absurd (names-differ d.edge_id c.key (ap name_of e)))
      (λ d n e. key_one c d m n e)
      (of_joint c)
      s
      refl)
