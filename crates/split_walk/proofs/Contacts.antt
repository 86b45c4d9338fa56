-- The contact links leave.
use mathlib.Core.Path.{◌≡◌, refl, sym, ◌∙◌, ap, subst, fun_ext}
use mathlib.Core.Logic.{◌≢◌}
use mathlib.Core.List.{List}
use Prim.Native.Nat.{ℕ, zero, suc, ◌+◌, ◌-◌, ◌*◌, ◌<◌}
use native.Mathlib.Omega.{arith}
use lib.ListN.{get_or}
use lib.Dec.{eqb}
use borrow.Author.Tests.{eq-eqb, ne_eqb}
use Rattle.list_in_table.specs.Rules.{none, Rules}
use Rattle.def_kinds.specs.Choice.{pick}
use Rattle.list_in_table.proofs.Order.{At}
use Rattle.def_kinds.specs.declared.Handle.{Handle as Named}
use Rattle.def_kinds.specs.declared.Sizes.{Sizes}
use Rattle.def_state.specs.Plain.{top}
use Rattle.def_state.specs.World.{Handle, absent_contact, World, island_at}
use Rattle.def_state.specs.Links.{contact_removed}
use Rattle.def_state.specs.Split.{contacts_leave}
use Rattle.table_meaning.specs.Layout.{Tables, tables, extents, contacts_in}
use Rattle.table_meaning.specs.Decode.{contact_at, decode, world_of}
use Rattle.core_laws.specs.Steps.{handle}
use Rattle.core_laws.specs.Drops.{Stays, JointsStay}
use Rattle.core_laws.specs.Linking.{contact_of}
use Rattle.core_laws.specs.Loose.{OpenAt, Moves, EntryLeft, ContactGone}
use Rattle.core_laws.proofs.Loose.{moves-as, moves-none}
use Rattle.core_laws.proofs.Stays.{stays-refl, stays_then}
use Rattle.core_laws.proofs.Touching.{link-held}
use Rattle.split_move.specs.Shift.{contact_moved, node_at, ContactMoved, ContactGoes}
use Rattle.split_move.proofs.Node.{node_stays}
use Rattle.split_walk.specs.Walk.{goal_of, goes, contact_leaves, Goals, ContactAt, ContactLeft, ContactsLeft}
use Rattle.core_laws.proofs.Unlink.{link-handles}
use Rattle.split_walk.proofs.Back.{walk-on, walk_start, left-none, stays-bodies, way}
use Rattle.split_walk.proofs.Goal.{node-lt, goal-cases}

joints-refl : {T : Tables} → JointsStay T T
joints-refl = record { joints = refl; keys = refl; spare = refl }

joints-then : {T U W : Tables} → JointsStay T U → JointsStay U W → JointsStay T W
joints-then A B = record { joints = B.joints ∙ A.joints; keys = B.keys ∙ A.keys; spare = B.spare ∙ A.spare }

-- ---- one link
module _ {Z : Sizes} {t : List ℕ} (base : ℕ) (goals : List ℕ) (e : ℕ) (G : Goals Z base goals t) (A : ContactAt Z base e t) (first second : Named) (to : ℕ)
    (p1 : (first.slot.0 ≡ get_or (tables Z t).touches (4 * e) 0) × (first.generation ≡ get_or (tables Z t).touches (4 * e + 1) 0))
    (p2 : (second.slot.0 ≡ get_or (tables Z t).touches (4 * e + 2) 0) × (second.generation ≡ get_or (tables Z t).touches (4 * e + 2 + 1) 0))
    (r : to ≡ goal_of Z t base goals first second) where
  abbrev s1 : ℕ
  s1 = first.slot.0

  abbrev g1 : ℕ
  g1 = first.generation

  abbrev s2 : ℕ
  s2 = second.slot.0

  abbrev g2 : ℕ
  g2 = second.generation

  q : contact_at (tables Z t).touches e ≡ contact_of e s1 g1 s2 g2
  q = link-handles (tables Z t).touches e s1 g1 s2 g2 p1 p2

  abbrev T : Tables
  T = tables Z t

  abbrev p : ℕ
  p = (contacts_in Z T).place e

  abbrev f : World → World
  f = contact_leaves (node_at Z T base) (goes goals) base p

  not_none : base ≢ none
  not_none d = let m = G.loose.loose.contacts_wf.rules.m_small in let l = G.base_lt in omega arith

  pub contact-linked : (contacts_in Z T).home e ≢ none
  contact-linked d = not_none (sym A.home ∙ d)

  link : get_or (island_at (world_of Z t) base).contact_links p absent_contact ≡ contact_of e s1 g1 s2 g2
  unfolding world_of
  link =
      ap (λ (b : ℕ). get_or (island_at (decode Z (extents T) T) b).contact_links p absent_contact) (sym A.home) ∙ link-held Z (extents T) T G.loose.loose e A.edge_lt contact-linked ∙ q

  leaves : f (world_of Z t) ≡ pick (eqb to base) (world_of Z t) (pick (eqb to top) (contact_removed base p (world_of Z t)) (contact_moved base to p (world_of Z t)))
  unfolding contact_leaves
  leaves = rw (link, sym r)

  pub contact-stays : to ≡ base → ContactLeft Z base goals t t e
  contact-stays h =
      record {
        moves = moves-as (λ w. w) f (sym (leaves ∙ rw (eq-eqb to base h))) (moves-none G.loose);
        stays = stays-refl _;
        joints = joints-refl;
        left = left-none (contacts_in Z T) base p;
      }

  pub contact-drops : {t' : List ℕ} → to ≡ top → ContactGone Z e t t' → ContactLeft Z base goals t t' e
  contact-drops {t'} h D =
      let d : to ≢ base = λ x. not_none (sym x ∙ h) in
      record {
        moves = moves-as (contact_removed base p) f (sym (leaves ∙ rw (ne_eqb to base d, eq-eqb to top h))) (subst (λ (b : ℕ). Moves Z (contact_removed b p) t t') A.home D.moves);
        stays = D.stays;
        joints = D.joints;
        left = subst (λ (b : ℕ). EntryLeft (contacts_in Z T) (contacts_in Z (tables Z t')) b p) A.home D.left;
      }

  pub contact-ready : to ≢ base → to ≢ top → ContactGoes Z to t e
  contact-ready d h =
      let n1 = node_at Z T base (handle s1 g1) in
      let n2 = node_at Z T base (handle s2 g2) in
      let k : to ≢ top → (to < (extents T).islands) × OpenAt Z T to =
      rw r
      (goal-cases goals n1 n2 (λ x. x ≢ top → (x < (extents T).islands) × OpenAt Z T x)
      (λ a x. (G.lt n1 (node-lt base goals (handle s1 g1) G a), G.opens n1 (node-lt base goals (handle s1 g1) G a)))
      (λ a x. (G.lt n2 (node-lt base goals (handle s2 g2) G a), G.opens n2 (node-lt base goals (handle s2 g2) G a)))
      (λ x. absurd (x refl))) in
      record {
        loose = G.loose;
        edge_lt = A.edge_lt;
        linked = contact-linked;
        to_lt = (k h).0;
        to_open = (k h).1;
        away = λ x. d (x ∙ A.home);
      }

  pub contact-leaves : {t' : List ℕ} → to ≢ base → to ≢ top → ContactMoved Z to t t' e → ContactLeft Z base goals t t' e
  contact-leaves {t'} d h D =
      record {
        moves =
            moves-as (contact_moved base to p) f (sym (leaves ∙ rw (ne_eqb to base d, ne_eqb to top h)))
            (subst (λ (b : ℕ). Moves Z (contact_moved b to p) t t') A.home D.moves);
        stays = D.stays;
        joints = D.joints;
        left = subst (λ (b : ℕ). EntryLeft (contacts_in Z T) (contacts_in Z (tables Z t')) b p) A.home D.left;
      }

-- ---- the walk
pub record ContactsGo (Z : Sizes) (base : ℕ) (goals t0 t : List ℕ) (p e : ℕ) : Type 0 where
  pub went : Moves Z (λ w. world_of Z t) t0 t
  pub rest : contacts_leave (node_at Z (tables Z t0) base) (goes goals) base p (world_of Z t) ≡ contacts_leave (node_at Z (tables Z t0) base) (goes goals) base ((contacts_in Z (tables Z t0)).count base) (world_of Z t0)
  pub stays : Stays (tables Z t0) (tables Z t)
  pub joints : JointsStay (tables Z t0) (tables Z t)
  pub here : 0 < p → At (extents (tables Z t)).edges (contacts_in Z (tables Z t)) base (p - 1) e

module _ {Z : Sizes} {t0 : List ℕ} (base : ℕ) (goals : List ℕ) (G : Goals Z base goals t0) where
  pub contacts-start : (c e : ℕ) → c ≡ (contacts_in Z (tables Z t0)).count base → e ≡ (contacts_in Z (tables Z t0)).last base → ContactsGo Z base goals t0 t0 c e
  contacts-start c e q r =
      record {
        went = moves-as (λ w. w) (λ w. world_of Z t0) refl (moves-none G.loose);
        rest = ap (λ (k : ℕ). contacts_leave (node_at Z (tables Z t0) base) (goes goals) base k (world_of Z t0)) q;
        stays = stays-refl _;
        joints = joints-refl;
        here = walk_start G.loose.loose.contacts_wf.rules base e c G.base_lt q r;
      }

  one : (node : Handle → ℕ) (g : ℕ → ℕ) (b p : ℕ) (w : World) → 0 < p → contacts_leave node g b p w ≡ contacts_leave node g b (p - 1) (contact_leaves node g b (p - 1) w)
  unfolding contacts_leave contact_leaves contact_moved
  one node g b zero w h = absurd (omega arith)
  one node g b (suc p) w h = let q : suc p - 1 ≡ p = omega arith in rw q

  module _ {t : List ℕ} {p e : ℕ} (I : ContactsGo Z base goals t0 t p e) (pp : 0 < p) where
    base-in : base < (extents (tables Z t)).islands
    base-in = let a = G.base_lt in let b = I.went.larger.islands in omega arith

    pub contact-at : ContactAt Z base e t
    contact-at = record { edge_lt = (I.here pp).lt; home = (I.here pp).home_is }

    nodes : node_at Z (tables Z t) base ≡ node_at Z (tables Z t0) base
    nodes = fun_ext (λ (h : Handle). node_stays Z (tables Z t0) (tables Z t) base h (stays-bodies I.stays))

    pub contacts-step : {t' : List ℕ} (next : ℕ) → next ≡ (contacts_in Z (tables Z t)).prev e → ContactLeft Z base goals t t' e → ContactsGo Z base goals t0 t' (p - 1) next
    contacts-step {t'} next q D =
        let S = contacts_in Z (tables Z t) in
        let a = (I.here pp).place_is in
        let x : (extents (tables Z t')).edges ≡ (extents (tables Z t)).edges = ap (λ (x : List ℕ). get_or x 2 0) D.stays.head in
        let y : (extents (tables Z t')).islands ≡ (extents (tables Z t)).islands = ap (λ (x : List ℕ). get_or x 1 0) D.stays.head in
        let R' : Rules (extents (tables Z t)).edges (extents (tables Z t)).islands (contacts_in Z (tables Z t')) = rw (x, y) at D.moves.sound.loose.contacts_wf.rules in
        record {
          went = way (contact_leaves (node_at Z (tables Z t) base) (goes goals) base (S.place e)) I.went D.moves;
          rest =
              ap (contacts_leave (node_at Z (tables Z t0) base) (goes goals) base (p - 1))
              (D.moves.after
              ∙ ap (λ (n : Handle → ℕ). contact_leaves n (goes goals) base (S.place e) (world_of Z t)) nodes
              ∙ ap (λ (k : ℕ). contact_leaves (node_at Z (tables Z t0) base) (goes goals) base k (world_of Z t)) a)
              ∙ sym (one (node_at Z (tables Z t0) base) (goes goals) base p (world_of Z t) pp) ∙ I.rest;
          stays = stays_then I.stays D.stays;
          joints = joints-then I.joints D.joints;
          here = λ h.
              subst (λ (n : ℕ). At n (contacts_in Z (tables Z t')) base (p - 1 - 1) next) (sym x)
              (subst (At (extents (tables Z t)).edges (contacts_in Z (tables Z t')) base (p - 1 - 1)) (sym q)
              (walk-on I.went.sound.loose.contacts_wf.rules R' base e (p - 1) base-in (I.here pp) D.left h));
        }

  pub contacts-end : {t : List ℕ} {p e : ℕ} → ContactsGo Z base goals t0 t p e → p ≡ 0 → ContactsLeft Z base goals t0 t
  unfolding contacts_leave
  contacts-end {t} I h =
      record {
        moves =
            moves-as (λ w. world_of Z t) (contacts_leave (node_at Z (tables Z t0) base) (goes goals) base ((contacts_in Z (tables Z t0)).count base))
            (sym (ap (λ (k : ℕ). contacts_leave (node_at Z (tables Z t0) base) (goes goals) base k (world_of Z t)) h) ∙ I.rest)
            I.went;
        stays = I.stays;
        joints = I.joints;
      }
