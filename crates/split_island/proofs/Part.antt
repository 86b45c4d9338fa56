-- The parts of a split together are the definition's.
use mathlib.Core.Path.{◌≡◌, refl, sym, ◌∙◌, ap, subst, fun_ext}
use mathlib.Core.Logic.{◌≢◌, ⊎_elim}
use mathlib.Core.Bool.{Bool}
use mathlib.Core.List.{List}
use Prim.Native.Nat.{ℕ, zero, suc, ◌+◌, ◌-◌, ◌*◌, ◌≤◌, ◌<◌}
use native.Mathlib.Omega.{arith}
use lib.ListN.{length, get_or, length-map}
use borrow.Author.Tests.{eq-eqb, ne_eqb, lt-ltb, le-ltb}
use Rattle.list_in_table.specs.Rules.{list_of}
use Rattle.list_in_table.proofs.Laws.{either}
use Rattle.list_in_table.proofs.Same.{below}
use Rattle.list_in_table.proofs.Order.{length-list}
use Rattle.list_in_table.proofs.Pigeon.{count-le}
use Rattle.def_kinds.specs.declared.Sizes.{Sizes}
use Rattle.def_state.specs.Plain.{top}
use Rattle.def_state.specs.World.{Handle, absent_contact, absent_joint, Island, World, island_at}
use Rattle.def_state.specs.Connected.{label, tally, components, weight, most, first, keep_label}
use Rattle.def_state.specs.Split.{node_of, links_of, labels_of, leads, new_islands, new_numbers, goal, link_goal, contacts_leave, joints_leave, bodies_leave, parted}
use Rattle.table_meaning.specs.Layout.{Tables, tables, extents, members_in, contacts_in, joints_in}
use Rattle.table_meaning.specs.Decode.{world_of, flag, contact_at, joint_at}
use Rattle.table_meaning.specs.Sound.{Sound}
use Rattle.core_laws.specs.Drops.{Stays}
use Rattle.core_laws.specs.Lives.{Lives}
use Rattle.core_laws.specs.Loose.{BodiesStay}
use Rattle.core_laws.proofs.Loose.{moves-as, moves-then, moved-steps}
use Rattle.core_laws.proofs.Names.{island-at}
use Rattle.core_laws.proofs.Stays.{stays_then}
use Rattle.split_forest.specs.Groups.{Inside}
use Rattle.split_forest.proofs.Labels.{length_label, label-le, label-own, label-lt}
use Rattle.split_move.specs.Shift.{node_at}
use Rattle.split_move.proofs.Node.{node-is, node_stays}
use Rattle.split_walk.specs.Walk.{goes, Goals, KeepStays, ContactsLeft, JointsLeft, BodiesLeft}
use Rattle.split_walk.proofs.Back.{stays-bodies, goals-stay}
use Rattle.split_walk.proofs.Goal.{node-lt, goal-first, goal-second, goal-neither}
use Rattle.split_island.specs.Assign.{Labels, goal_at, AssignReady, Assigning}
use Rattle.split_island.specs.Part.{parting, PartReady, Parts}
use Rattle.split_island.proofs.New.{number_at, leads-yes, tally-lt, tally-all}

-- ---- the labels
first-lt : (w : ℕ → ℕ) (n : ℕ) → 0 < n → first w n < n
unfolding first
first-lt w zero h = absurd (omega arith)
first-lt w (suc n) h =
    below (most w n) (w n) (λ l. rw (lt-ltb (most w n) (w n) l) (omega arith))
    (λ l.
    rw (le-ltb (most w n) (w n) l)
    (either n 0 (λ e. (let a : first w n ≡ 0 = rw e (first-none w) in omega arith)) (λ d. (let a = first-lt w n (omega arith) in omega arith))))
  where
    first-none : (w : ℕ → ℕ) → first w 0 ≡ 0
    first-none w = refl

labels-of : (ls : List (ℕ × ℕ)) (n keep : ℕ) (L : List ℕ) → L ≡ label ls n → Inside ls n → keep ≡ keep_label L → 0 < n → Labels L keep
unfolding keep_label
labels-of ls n keep L e k q h =
    let l : length L ≡ n = ap length e ∙ length_label ls n in
    let f = first (weight L) (length L) in
    let fl : f < n = (let a = first-lt (weight L) (length L) (omega arith) in omega arith) in
    let small : (p : ℕ) → p < n → get_or L p 0 < n = λ p pl. subst (λ (x : List ℕ). get_or x p 0 < n) (sym e) (label-lt ls n k p pl) in
    let own : (p : ℕ) → p < n → get_or L (get_or L p 0) 0 ≡ get_or L p 0 = λ p pl. rw e (label-own ls n k p pl) in
    record {
      le = λ p pl. rw e (label-le ls n p (omega arith));
      own = λ p pl. own p (omega arith);
      keep_lt = (let a = small f fl in omega arith);
      keep_own = ap (λ (p : ℕ). get_or L p 0) q ∙ own f fl ∙ sym q;
    }

-- ---- the same walk by other goals
contacts-same : (node : Handle → ℕ) (g g' : ℕ → ℕ) (b : ℕ) → ((h1 h2 : Handle) → link_goal g (node h1) (node h2) ≡ link_goal g' (node h1) (node h2)) → (p : ℕ) (w : World)
    → contacts_leave node g b p w ≡ contacts_leave node g' b p w
unfolding contacts_leave
contacts-same node g g' b h zero w = refl
contacts-same node g g' b h (suc p) w =
    let l = get_or (island_at w b).contact_links p absent_contact in
    rw (h l.body1 l.body2) (contacts-same node g g' b h p _)

joints-same : (node : Handle → ℕ) (g g' : ℕ → ℕ) (b : ℕ) → ((h1 h2 : Handle) → link_goal g (node h1) (node h2) ≡ link_goal g' (node h1) (node h2)) → (p : ℕ) (w : World)
    → joints_leave node g b p w ≡ joints_leave node g' b p w
unfolding joints_leave
joints-same node g g' b h zero w = refl
joints-same node g g' b h (suc p) w =
    let l = get_or (island_at w b).joint_links p absent_joint in
    rw (h l.body1 l.body2) (joints-same node g g' b h p _)

bodies-same : (g g' : ℕ → ℕ) (b p : ℕ) → ((q : ℕ) → q < p → g q ≡ g' q) → (w : World) → bodies_leave g b p w ≡ bodies_leave g' b p w
unfolding bodies_leave
bodies-same g g' b zero h w = refl
bodies-same g g' b (suc p) h w = rw (h p (omega arith)) (bodies-same g g' b p (λ q l. h q (omega arith)) _)

-- there is a label for each body
pub labels-count : {Z : Sizes} {t L : List ℕ} (i : ℕ) → Sound Z t → Lives Z t i → L ≡ labels_of (world_of Z t) i → length L ≡ (members_in Z (tables Z t)).count i
unfolding labels_of world_of
labels-count {Z} {t} {L} i S A e =
    let T = tables Z t in
    ap length e ∙ length_label (links_of (world_of Z t) i) (length (island_at (world_of Z t) i).bodies)
    ∙ ap (λ (a : Island). length a.bodies) (island-at Z (extents T) T i A.in_use) ∙ length-list S.good.members_wf.rules i A.in_use

-- ---- the parts
module _ {Z : Sizes} {base keep asleep : ℕ} {L goals0 t0 : List ℕ} (R : PartReady Z base keep L goals0 t0) (aw : asleep ≡ get_or (tables Z t0).rows (3 * base + 2) 0) where
  abbrev w0 : World
  w0 = world_of Z t0

  abbrev T0 : Tables
  T0 = tables Z t0

  island-words : (island_at (world_of Z t0) base).sleeping ≡ flag asleep
  unfolding world_of
  island-words = ap (λ (a : Island). a.sleeping) (island-at Z (extents T0) T0 base R.lives.in_use) ∙ ap flag (sym aw)

  bodies-long : length (island_at (world_of Z t0) base).bodies ≡ (members_in Z T0).count base
  unfolding world_of
  bodies-long = ap (λ (a : Island). length a.bodies) (island-at Z (extents T0) T0 base R.lives.in_use) ∙ length-list R.sound.good.members_wf.rules base R.lives.in_use

  labels_long : length L ≡ (members_in Z T0).count base
  labels_long = labels-count base R.sound R.lives R.labels_are

  labels-fine : Labels L keep
  unfolding labels_of
  labels-fine =
      let a = R.lives.some in
      let b = labels_long in
      let c = bodies-long in
      let e : length L ≡ length (island_at w0 base).bodies = omega arith in
      labels-of (links_of w0 base) (length (island_at w0 base).bodies) keep L R.labels_are (subst (Inside (links_of w0 base)) e R.inside) R.keep_is (omega arith)

  pub assign-ready : AssignReady Z base keep asleep L goals0 t0
  assign-ready =
      record {
        sound = R.sound;
        lives = R.lives;
        labels = labels-fine;
        labels_long = labels_long;
        goals_long = R.goals_long;
        asleep_le = rw aw (⊎_elim (λ x. x.sleeping_flag) (λ x. (let e = x.not_sleeping in omega arith)) (R.sound.good.island base R.lives.in_use));
      }

  module _ {t1 goals : List ℕ} (A : Assigning Z base keep asleep L t0 t1 goals (length L)) where
    pub goals-first : Goals Z base goals t1
    goals-first =
        let l = A.goals_long in
        record {
          loose = A.went.sound;
          base_lt = (let a = R.lives.in_use in let b = A.went.larger.islands in omega arith);
          long = l ∙ labels_long ∙ sym (A.stays.count base R.lives.in_use);
          lt = λ n h. A.lt n (omega arith);
          opens = λ n h. A.opens n (omega arith);
        }

    -- ---- the goals are the definition's
    abbrev k : ℕ
    k = components L - 1

    abbrev at : ℕ → ℕ
    at n = goal L keep base (new_numbers (components L - 1) (flag asleep) (world_of Z t0)) (get_or L n 0)

    goal_is : (n : ℕ) → n < length L → get_or goals n 0 ≡ at n
    unfolding goal goal_at
    goal_is n h =
        let a = get_or L n 0 in
        let F = labels-fine in
        A.goals_are n h
        ∙ either a keep (λ e. rw (eq-eqb a keep e))
        (λ d.
        let al : a < length L = (let x = F.le n h in omega arith) in
        let y = tally-lt L keep a (length L) al (leads-yes L keep a d (F.own n h)) in
        let q = tally-all L keep F.keep_lt F.keep_own in
        rw (ne_eqb a keep d) (sym (number_at (components L - 1) (flag asleep) w0 (tally (leads L keep) a) (omega arith))))

    node-small : (h : Handle) → node_of w0 base h ≢ top → node_of w0 base h < length L
    node-small h d =
        let e = node-is R.sound base R.lives.in_use h in
        let q = node_stays Z T0 (tables Z t1) base h A.stays in
        let g = A.goals_long in
        let n = node-lt base goals h goals-first (λ x. d (e ∙ sym q ∙ x)) in
        omega arith

    goals-same : (h1 h2 : Handle) → link_goal (goes goals) (node_of w0 base h1) (node_of w0 base h2) ≡ link_goal at (node_of w0 base h1) (node_of w0 base h2)
    goals-same h1 h2 =
        let n1 = node_of w0 base h1 in
        let n2 = node_of w0 base h2 in
        either n1 top
        (λ e.
        either n2 top (λ f. sym (goal-neither (goes goals) n1 n2 e f) ∙ goal-neither at n1 n2 e f)
        (λ f. sym (goal-second (goes goals) n1 n2 e f) ∙ goal_is n2 (node-small h2 f) ∙ goal-second at n1 n2 e f))
        (λ d. sym (goal-first (goes goals) n1 n2 d) ∙ goal_is n1 (node-small h1 d) ∙ goal-first at n1 n2 d)

    contacts_long : (contacts_in Z (tables Z t1)).count base ≡ length (island_at w0 base).contact_links
    unfolding world_of
    contacts_long =
        let bl = goals-first.base_lt in
        let S = contacts_in Z (tables Z t1) in
        sym (length-list A.went.sound.loose.contacts_wf.rules base bl) ∙ sym (length-map (list_of S base) (contact_at (tables Z t1).touches))
        ∙ sym (ap (λ (a : Island). length a.contact_links) (island-at Z (extents (tables Z t1)) (tables Z t1) base bl))
        ∙ ap (λ (a : Island). length a.contact_links) A.base_same

    joints_long : (joints_in Z (tables Z t1)).count base ≡ length (island_at w0 base).joint_links
    unfolding world_of
    joints_long =
        let bl = goals-first.base_lt in
        let S = joints_in Z (tables Z t1) in
        sym (length-list A.went.sound.loose.joints_wf.rules base bl) ∙ sym (length-map (list_of S base) (joint_at (tables Z t1).keys))
        ∙ sym (ap (λ (a : Island). length a.joint_links) (island-at Z (extents (tables Z t1)) (tables Z t1) base bl))
        ∙ ap (λ (a : Island). length a.joint_links) A.base_same

    -- the definition, by the words' goals
    parted-is : bodies_leave (goes goals) base ((members_in Z T0).count base)
        (joints_leave (node_of w0 base) (goes goals) base (length (island_at w0 base).joint_links)
        (contacts_leave (node_of w0 base) (goes goals) base (length (island_at w0 base).contact_links) (new_islands (tally (leads L keep) (length L)) (flag asleep) w0)))
        ≡ parted base w0
    unfolding parted
    parted-is =
        let F = labels-fine in
        let K : keep_label (labels_of w0 base) ≡ keep = ap keep_label (sym R.labels_are) ∙ sym R.keep_is in
        let q = tally-all L keep F.keep_lt F.keep_own in
        let b = labels_long in
        bodies-same (goes goals) at base ((members_in Z T0).count base) (λ n h. goal_is n (omega arith)) _
        ∙ ap (bodies_leave at base ((members_in Z T0).count base))
        (joints-same (node_of w0 base) (goes goals) at base goals-same (length (island_at w0 base).joint_links) _
        ∙ ap (joints_leave (node_of w0 base) at base (length (island_at w0 base).joint_links))
        (contacts-same (node_of w0 base) (goes goals) at base goals-same (length (island_at w0 base).contact_links) _
        ∙ ap (λ (j : ℕ). contacts_leave (node_of w0 base) at base (length (island_at w0 base).contact_links) (new_islands j (flag asleep) w0)) q))
        ∙ ap (λ (m : ℕ). whole L keep (flag asleep) m) (sym bodies-long)
        ∙ ap (λ (z : Bool). whole L keep z (length (island_at w0 base).bodies)) (sym island-words)
        ∙ ap (λ (x : ℕ). whole L x (island_at w0 base).sleeping (length (island_at w0 base).bodies)) (sym K)
        ∙ ap (λ (x : List ℕ). whole x (keep_label (labels_of w0 base)) (island_at w0 base).sleeping (length (island_at w0 base).bodies)) R.labels_are
      where
        whole : List ℕ → ℕ → Bool → ℕ → World
        whole x kp z m =
            let g : ℕ → ℕ = λ n. goal x kp base (new_numbers (components x - 1) z w0) (get_or x n 0) in
            bodies_leave g base m
            (joints_leave (node_of w0 base) g base (length (island_at w0 base).joint_links)
            (contacts_leave (node_of w0 base) g base (length (island_at w0 base).contact_links) (new_islands (components x - 1) z w0)))

    node-same : (t : List ℕ) → BodiesStay Z T0 (tables Z t) → node_at Z (tables Z t) base ≡ node_of w0 base
    node-same t S = fun_ext (λ (h : Handle). node_stays Z T0 (tables Z t) base h S ∙ sym (node-is R.sound base R.lives.in_use h))

    module _ {t2 : List ℕ} (C : ContactsLeft Z base goals t1 t2) where
      pub goals-second : Goals Z base goals t2
      goals-second = goals-stay base goals C.stays C.moves.sound goals-first

      module _ {t3 : List ℕ} (J : JointsLeft Z base goals t2 t3) where
        both : Stays (tables Z t1) (tables Z t3)
        both = stays_then C.stays J.stays

        goals-third : Goals Z base goals t3
        goals-third = goals-stay base goals J.stays J.moves.sound goals-second

        pub kept-ready : KeepStays Z base keep goals t3
        unfolding goal_at
        kept-ready =
            let F = labels-fine in
            let g = A.goals_long in
            let B = both in
            let e : (extents (tables Z t3)).islands ≡ (extents (tables Z t1)).islands = ap (λ (x : List ℕ). get_or x 1 0) B.head in
            record {
              goals_are = goals-third;
              keep_lt = (let a = F.keep_lt in omega arith);
              keep_stays = A.goals_are keep F.keep_lt ∙ rw (eq-eqb (get_or L keep 0) keep F.keep_own);
              gets = λ i il f c.
                  (let x =
                  A.gets i (omega arith) (sym (ap (λ (x : List ℕ). get_or x (0 + 4 * i) 0) B.freed) ∙ f)
                  (sym (ap (λ (x : List ℕ). get_or x (4 * Z.slots + 2 * i) 0) B.members) ∙ c) in
                  let l = x.place_lt in
                  record { place = x.place; place_lt = omega arith; goal_is = x.goal_is });
            }

        pub parts : {t4 : List ℕ} → BodiesLeft Z base goals t3 t4 → Parts Z base t0 t4
        unfolding parting
        parts {t4} B =
            let S1 = A.stays in
            let b : (members_in Z (tables Z t3)).count base ≡ (members_in Z T0).count base =
            ap (λ (x : List ℕ). get_or x (4 * Z.slots + 2 * base) 0) both.members ∙ S1.count base R.lives.in_use in
            let n1 = node-same t1 S1 in
            let n2 : node_at Z (tables Z t2) base ≡ node_of w0 base =
            fun_ext (λ (h : Handle). node_stays Z (tables Z t1) (tables Z t2) base h (stays-bodies C.stays) ∙ node_stays Z T0 (tables Z t1) base h S1 ∙ sym (node-is R.sound base R.lives.in_use h)) in
            let f1 : World → World = λ w. new_islands (tally (leads L keep) (length L)) (flag asleep) w in
            let f2 : World → World = contacts_leave (node_at Z (tables Z t1) base) (goes goals) base ((contacts_in Z (tables Z t1)).count base) in
            let f3 : World → World = joints_leave (node_at Z (tables Z t2) base) (goes goals) base ((joints_in Z (tables Z t2)).count base) in
            let f4 : World → World = bodies_leave (goes goals) base ((members_in Z (tables Z t3)).count base) in
            let M = moves-then (λ w. f3 (f2 (f1 w))) f4 (moves-then (λ w. f2 (f1 w)) f3 (moves-then f1 f2 A.went C.moves) J.moves) B.moves in
            let jc : (joints_in Z (tables Z t2)).count base ≡ length (island_at w0 base).joint_links = ap (λ (x : List ℕ). get_or x (4 * Z.joints + 2 * base) 0) C.joints.joints ∙ joints_long in
            let e2 : f2 (f1 w0) ≡ contacts_leave (node_of w0 base) (goes goals) base (length (island_at w0 base).contact_links) (f1 w0) =
            ap (λ (n : Handle → ℕ). contacts_leave n (goes goals) base ((contacts_in Z (tables Z t1)).count base) (f1 w0)) n1
            ∙ ap (λ (c : ℕ). contacts_leave (node_of w0 base) (goes goals) base c (f1 w0)) contacts_long in
            let e3 : f3 (f2 (f1 w0)) ≡ joints_leave (node_of w0 base) (goes goals) base (length (island_at w0 base).joint_links) (contacts_leave (node_of w0 base) (goes goals) base (length (island_at w0 base).contact_links) (f1 w0)) =
            ap f3 e2
            ∙ ap (λ (n : Handle → ℕ). joints_leave n (goes goals) base ((joints_in Z (tables Z t2)).count base) (contacts_leave (node_of w0 base) (goes goals) base (length (island_at w0 base).contact_links) (f1 w0))) n2
            ∙ ap (λ (c : ℕ). joints_leave (node_of w0 base) (goes goals) base c (contacts_leave (node_of w0 base) (goes goals) base (length (island_at w0 base).contact_links) (f1 w0))) jc in
            let e4 : f4 (f3 (f2 (f1 w0))) ≡ parted base w0 =
            ap f4 e3
            ∙ ap (λ (c : ℕ). bodies_leave (goes goals) base c (joints_leave (node_of w0 base) (goes goals) base (length (island_at w0 base).joint_links) (contacts_leave (node_of w0 base) (goes goals) base (length (island_at w0 base).contact_links) (f1 w0)))) b
            ∙ parted-is in
            let P = moves-as (λ w. f4 (f3 (f2 (f1 w)))) (parted base) e4 M in
            let bl : base < (extents (tables Z t4)).islands = (let x = R.lives.in_use in let y = P.larger.islands in omega arith) in
            record {
              steps = moved-steps (parted base) P B.peopled;
              lives = record { in_use = bl; some = λ z. (let x = B.base_some in omega arith) };
            }

-- ---- the scratch
module _ {Z : Sizes} {t : List ℕ} (i : ℕ) (S : Sound Z t) (A : Lives Z t i) where
  -- an island has no more bodies than there are slots
  pub few-bodies : (members_in Z (tables Z t)).count i ≤ Z.slots
  few-bodies = let a = count-le S.good.members_wf.rules i A.in_use in let b = S.good.slots_le in omega arith
