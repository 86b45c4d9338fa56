-- The joint links leave.
use mathlib.Core.Path.{◌≡◌, refl, sym, ◌∙◌, ap, subst, fun_ext}
use mathlib.Core.Logic.{◌≢◌}
use mathlib.Core.List.{List}
use Prim.Native.Nat.{ℕ, zero, suc, ◌+◌, ◌-◌, ◌*◌, ◌<◌}
use native.Mathlib.Omega.{arith}
use lib.ListN.{get_or}
use lib.Dec.{eqb}
use borrow.Author.Tests.{eq-eqb, ne_eqb}
use Rattle.list_in_table.specs.Rules.{none, Rules}
use Rattle.def_kinds.specs.Choice.{pick}
use Rattle.list_in_table.proofs.Order.{At}
use Rattle.def_kinds.specs.declared.Handle.{Handle as Named}
use Rattle.def_kinds.specs.declared.Sizes.{Sizes}
use Rattle.def_state.specs.Plain.{top}
use Rattle.def_state.specs.World.{Handle, absent_joint, World, island_at}
use Rattle.def_state.specs.Links.{joint_removed}
use Rattle.def_state.specs.Split.{joint_moved, joints_leave}
use Rattle.table_meaning.specs.Layout.{Tables, tables, extents, joints_in}
use Rattle.table_meaning.specs.Decode.{handle_at, joint_at, decode, world_of}
use Rattle.core_laws.specs.Steps.{handle}
use Rattle.core_laws.specs.Drops.{Stays, ContactsStay}
use Rattle.core_laws.specs.Loose.{OpenAt, Moves, EntryLeft, JointGone}
use Rattle.core_laws.proofs.Loose.{moves-as, moves-none}
use Rattle.core_laws.proofs.Stays.{stays-refl, stays_then}
use Rattle.core_laws.proofs.JointKeys.{link_at}
use Rattle.split_move.specs.Shift.{node_at, JointMoved, JointGoes}
use Rattle.split_move.proofs.Node.{node_stays}
use Rattle.split_walk.specs.Walk.{goal_of, goes, joint_leaves, Goals, JointIn, JointLeft, JointsLeft}
use Rattle.split_walk.proofs.Back.{walk-on, walk_start, left-none, stays-bodies, way}
use Rattle.split_walk.proofs.Goal.{node-lt, goal-cases}

contacts-refl : {T : Tables} → ContactsStay T T
contacts-refl = record { contacts = refl; touches = refl }

contacts-then : {T U W : Tables} → ContactsStay T U → ContactsStay U W → ContactsStay T W
contacts-then A B = record { contacts = B.contacts ∙ A.contacts; touches = B.touches ∙ A.touches }

-- a handle by its two words
pub key-handle : (x : List ℕ) (j k s g : ℕ) → k ≡ j + 1 → s ≡ get_or x j 0 → g ≡ get_or x k 0 → handle_at x j ≡ handle s g
key-handle x j k s g e p q = handle-is (sym p) (ap (λ (i : ℕ). get_or x i 0) (sym e) ∙ sym q)
  where
    handle-is : {a a' b b' : ℕ} → a ≡ a' → b ≡ b' → handle a b ≡ handle a' b'
    handle-is p q = rw (p, q)

-- ---- one link
module _ {Z : Sizes} {t : List ℕ} (base : ℕ) (goals : List ℕ) (e : ℕ) (G : Goals Z base goals t) (A : JointIn Z base e t) (first second : Named) (to : ℕ)
    (p1 : (first.slot.0 ≡ get_or (tables Z t).keys (8 * e + 4) 0) × (first.generation ≡ get_or (tables Z t).keys (8 * e + 4 + 1) 0))
    (p2 : (second.slot.0 ≡ get_or (tables Z t).keys (8 * e + 6) 0) × (second.generation ≡ get_or (tables Z t).keys (8 * e + 6 + 1) 0))
    (r : to ≡ goal_of Z t base goals first second) where
  abbrev s1 : ℕ
  s1 = first.slot.0

  abbrev g1 : ℕ
  g1 = first.generation

  abbrev s2 : ℕ
  s2 = second.slot.0

  abbrev g2 : ℕ
  g2 = second.generation

  q1 : (joint_at (tables Z t).keys e).body1 ≡ handle s1 g1
  q1 = key-handle (tables Z t).keys (8 * e + 4) _ s1 g1 refl p1.0 p1.1

  q2 : (joint_at (tables Z t).keys e).body2 ≡ handle s2 g2
  q2 = key-handle (tables Z t).keys (8 * e + 6) _ s2 g2 refl p2.0 p2.1

  abbrev T : Tables
  T = tables Z t

  abbrev p : ℕ
  p = (joints_in Z T).place e

  abbrev f : World → World
  f = joint_leaves (node_at Z T base) (goes goals) base p

  not_none : base ≢ none
  not_none d = let m = G.loose.loose.joints_wf.rules.m_small in let l = G.base_lt in omega arith

  pub joint-linked : (joints_in Z T).home e ≢ none
  joint-linked d = not_none (sym A.home ∙ d)

  link : get_or (island_at (world_of Z t) base).joint_links p absent_joint ≡ joint_at T.keys e
  unfolding world_of
  link =
      ap (λ (b : ℕ). get_or (island_at (decode Z (extents T) T) b).joint_links p absent_joint) (sym A.home) ∙ link_at Z (extents T) T G.loose.loose e A.place_lt joint-linked

  leaves : f (world_of Z t) ≡ pick (eqb to base) (world_of Z t) (pick (eqb to top) (joint_removed base p (world_of Z t)) (joint_moved base to p (world_of Z t)))
  unfolding joint_leaves
  leaves = rw (link, q1, q2, sym r)

  pub joint-stays : to ≡ base → JointLeft Z base goals t t e
  joint-stays h =
      record {
        moves = moves-as (λ w. w) f (sym (leaves ∙ rw (eq-eqb to base h))) (moves-none G.loose);
        stays = stays-refl _;
        contacts = contacts-refl;
        left = left-none (joints_in Z T) base p;
      }

  pub joint-drops : {t' : List ℕ} → to ≡ top → JointGone Z e t t' → JointLeft Z base goals t t' e
  joint-drops {t'} h D =
      let d : to ≢ base = λ x. not_none (sym x ∙ h) in
      record {
        moves = moves-as (joint_removed base p) f (sym (leaves ∙ rw (ne_eqb to base d, eq-eqb to top h))) (subst (λ (b : ℕ). Moves Z (joint_removed b p) t t') A.home D.moves);
        stays = D.stays;
        contacts = D.contacts;
        left = subst (λ (b : ℕ). EntryLeft (joints_in Z T) (joints_in Z (tables Z t')) b p) A.home D.left;
      }

  pub joint-ready : to ≢ base → to ≢ top → JointGoes Z to t e
  joint-ready d h =
      let n1 = node_at Z T base (handle s1 g1) in
      let n2 = node_at Z T base (handle s2 g2) in
      let k : to ≢ top → (to < (extents T).islands) × OpenAt Z T to =
      rw r
      (goal-cases goals n1 n2 (λ x. x ≢ top → (x < (extents T).islands) × OpenAt Z T x)
      (λ a x. (G.lt n1 (node-lt base goals (handle s1 g1) G a), G.opens n1 (node-lt base goals (handle s1 g1) G a)))
      (λ a x. (G.lt n2 (node-lt base goals (handle s2 g2) G a), G.opens n2 (node-lt base goals (handle s2 g2) G a)))
      (λ x. absurd (x refl))) in
      record {
        loose = G.loose;
        place_lt = A.place_lt;
        linked = joint-linked;
        to_lt = (k h).0;
        to_open = (k h).1;
        away = λ x. d (x ∙ A.home);
      }

  pub joint-leaves : {t' : List ℕ} → to ≢ base → to ≢ top → JointMoved Z to t t' e → JointLeft Z base goals t t' e
  joint-leaves {t'} d h D =
      record {
        moves =
            moves-as (joint_moved base to p) f (sym (leaves ∙ rw (ne_eqb to base d, ne_eqb to top h)))
            (subst (λ (b : ℕ). Moves Z (joint_moved b to p) t t') A.home D.moves);
        stays = D.stays;
        contacts = D.contacts;
        left = subst (λ (b : ℕ). EntryLeft (joints_in Z T) (joints_in Z (tables Z t')) b p) A.home D.left;
      }

-- ---- the walk
pub record JointsGo (Z : Sizes) (base : ℕ) (goals t0 t : List ℕ) (p e : ℕ) : Type 0 where
  pub went : Moves Z (λ w. world_of Z t) t0 t
  pub rest : joints_leave (node_at Z (tables Z t0) base) (goes goals) base p (world_of Z t) ≡ joints_leave (node_at Z (tables Z t0) base) (goes goals) base ((joints_in Z (tables Z t0)).count base) (world_of Z t0)
  pub stays : Stays (tables Z t0) (tables Z t)
  pub contacts : ContactsStay (tables Z t0) (tables Z t)
  pub here : 0 < p → At (extents (tables Z t)).joints (joints_in Z (tables Z t)) base (p - 1) e

module _ {Z : Sizes} {t0 : List ℕ} (base : ℕ) (goals : List ℕ) (G : Goals Z base goals t0) where
  pub joints-start : (c e : ℕ) → c ≡ (joints_in Z (tables Z t0)).count base → e ≡ (joints_in Z (tables Z t0)).last base → JointsGo Z base goals t0 t0 c e
  joints-start c e q r =
      record {
        went = moves-as (λ w. w) (λ w. world_of Z t0) refl (moves-none G.loose);
        rest = ap (λ (k : ℕ). joints_leave (node_at Z (tables Z t0) base) (goes goals) base k (world_of Z t0)) q;
        stays = stays-refl _;
        contacts = contacts-refl;
        here = walk_start G.loose.loose.joints_wf.rules base e c G.base_lt q r;
      }

  one : (node : Handle → ℕ) (g : ℕ → ℕ) (b p : ℕ) (w : World) → 0 < p → joints_leave node g b p w ≡ joints_leave node g b (p - 1) (joint_leaves node g b (p - 1) w)
  unfolding joints_leave joint_leaves
  one node g b zero w h = absurd (omega arith)
  one node g b (suc p) w h = let q : suc p - 1 ≡ p = omega arith in rw q

  module _ {t : List ℕ} {p e : ℕ} (I : JointsGo Z base goals t0 t p e) (pp : 0 < p) where
    base-in : base < (extents (tables Z t)).islands
    base-in = let a = G.base_lt in let b = I.went.larger.islands in omega arith

    pub joint-at : JointIn Z base e t
    joint-at = record { place_lt = (I.here pp).lt; home = (I.here pp).home_is }

    nodes : node_at Z (tables Z t) base ≡ node_at Z (tables Z t0) base
    nodes = fun_ext (λ (h : Handle). node_stays Z (tables Z t0) (tables Z t) base h (stays-bodies I.stays))

    pub joints-step : {t' : List ℕ} (next : ℕ) → next ≡ (joints_in Z (tables Z t)).prev e → JointLeft Z base goals t t' e → JointsGo Z base goals t0 t' (p - 1) next
    joints-step {t'} next q D =
        let S = joints_in Z (tables Z t) in
        let a = (I.here pp).place_is in
        let x : (extents (tables Z t')).joints ≡ (extents (tables Z t)).joints = ap (λ (x : List ℕ). get_or x 3 0) D.stays.head in
        let y : (extents (tables Z t')).islands ≡ (extents (tables Z t)).islands = ap (λ (x : List ℕ). get_or x 1 0) D.stays.head in
        let R' : Rules (extents (tables Z t)).joints (extents (tables Z t)).islands (joints_in Z (tables Z t')) = rw (x, y) at D.moves.sound.loose.joints_wf.rules in
        record {
          went = way (joint_leaves (node_at Z (tables Z t) base) (goes goals) base (S.place e)) I.went D.moves;
          rest =
              ap (joints_leave (node_at Z (tables Z t0) base) (goes goals) base (p - 1))
              (D.moves.after
              ∙ ap (λ (n : Handle → ℕ). joint_leaves n (goes goals) base (S.place e) (world_of Z t)) nodes
              ∙ ap (λ (k : ℕ). joint_leaves (node_at Z (tables Z t0) base) (goes goals) base k (world_of Z t)) a)
              ∙ sym (one (node_at Z (tables Z t0) base) (goes goals) base p (world_of Z t) pp) ∙ I.rest;
          stays = stays_then I.stays D.stays;
          contacts = contacts-then I.contacts D.contacts;
          here = λ h.
              subst (λ (n : ℕ). At n (joints_in Z (tables Z t')) base (p - 1 - 1) next) (sym x)
              (subst (At (extents (tables Z t)).joints (joints_in Z (tables Z t')) base (p - 1 - 1)) (sym q)
              (walk-on I.went.sound.loose.joints_wf.rules R' base e (p - 1) base-in (I.here pp) D.left h));
        }

  pub joints-end : {t : List ℕ} {p e : ℕ} → JointsGo Z base goals t0 t p e → p ≡ 0 → JointsLeft Z base goals t0 t
  unfolding joints_leave
  joints-end {t} I h =
      record {
        moves =
            moves-as (λ w. world_of Z t) (joints_leave (node_at Z (tables Z t0) base) (goes goals) base ((joints_in Z (tables Z t0)).count base))
            (sym (ap (λ (k : ℕ). joints_leave (node_at Z (tables Z t0) base) (goes goals) base k (world_of Z t)) h) ∙ I.rest)
            I.went;
        stays = I.stays;
      }
