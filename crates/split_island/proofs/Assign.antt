-- The goals of the places, one after the other.
use mathlib.Core.Path.{◌≡◌, refl, sym, ◌∙◌, ap, subst}
use mathlib.Core.Logic.{◌≢◌}
use mathlib.Core.Bool.{Bool, true, false}
use mathlib.Core.List.{List}
use Prim.Native.Nat.{ℕ, suc, ◌+◌, ◌≤◌, ◌<◌}
use native.Mathlib.Omega.{arith}
use native.Mathlib.Numerals.{add-one}
use lib.ListN.{length, get_or, set, length-set}
use lib.Seq.{get_or-set_same, get_or-set_other}
use lib.Dec.{eqb}
use borrow.Author.Tests.{eq-eqb, ne_eqb}
use Rattle.list_in_table.specs.Rules.{none}
use Rattle.def_kinds.specs.Choice.{pick}
use Rattle.list_in_table.proofs.Laws.{either}
use Rattle.list_in_table.proofs.Pigeon.{count-le}
use Rattle.def_kinds.specs.declared.Sizes.{Sizes}
use Rattle.def_state.specs.World.{World, island_at}
use Rattle.def_state.specs.Membership.{new_number}
use Rattle.def_state.specs.Connected.{tally}
use Rattle.def_state.specs.Split.{leads, new_islands}
use Rattle.table_meaning.specs.Layout.{Tables, tables, extents, members_in, freed_in}
use Rattle.table_meaning.specs.Decode.{world_of, flag}
use Rattle.table_meaning.proofs.Unique.{islands-is}
use Rattle.core_laws.specs.Loose.{OpenAt, BodiesStay}
use Rattle.core_laws.proofs.Loose.{sound-loose, peopled, lives-open, moves-none, moves-as, moves-then}
use Rattle.split_move.specs.Shift.{reserved, NumberTaken}
use Rattle.split_island.specs.Assign.{goal_at, AssignReady, Assigning}
use Rattle.split_island.proofs.New.{one_more, reserved-same, leads-yes, leads-kept, leads-no, tally-yes, tally-no}
use Rattle.split_island.proofs.Room.{room, taken-has}

bodies-then : {Z : Sizes} {S T U : Tables} → (extents S).islands ≤ (extents T).islands → BodiesStay Z S T → BodiesStay Z T U → BodiesStay Z S U
bodies-then l A B =
    let q = A.slots_in_use in
    record {
      slots_in_use = B.slots_in_use ∙ A.slots_in_use;
      slots = B.slots ∙ A.slots;
      home = λ s h. B.home s (omega arith) ∙ A.home s h;
      place = λ s h. B.place s (omega arith) ∙ A.place s h;
      count = λ i h. B.count i (omega arith) ∙ A.count i h;
      body_list = λ i h. B.body_list i (omega arith) ∙ A.body_list i h;
    }

module _ {Z : Sizes} {base keep asleep : ℕ} {L goals0 t0 : List ℕ} (A : AssignReady Z base keep asleep L goals0 t0) where
  abbrev w0 : World
  w0 = world_of Z t0

  abbrev z : Bool
  z = flag asleep

  abbrev value : ℕ → ℕ
  value q = goal_at L keep base (flag asleep) (world_of Z t0) q

  -- there are fewer bodies than numbers of 32 bits
  pub labels-small : length L ≤ none
  labels-small =
      let R = A.sound.good.members_wf.rules in
      let a = count-le R base A.lives.in_use in
      let b = R.n_small in
      let c = A.labels_long in
      omega arith

  base-is-open : OpenAt Z (tables Z t0) base
  base-is-open = lives-open Z (tables Z t0) base A.lives.some ((sound-loose A.sound).loose.island base A.lives.in_use)

  pub assign-start : Assigning Z base keep asleep L t0 t0 goals0 0
  unfolding new_islands tally
  assign-start =
      record {
        went = moves-as (λ w. w) (λ w. new_islands 0 z w) refl (moves-none (sound-loose A.sound));
        goals_long = A.goals_long;
        p_le = omega arith;
        goals_are = λ q h. absurd (omega arith);
        stays = record { slots_in_use = refl; slots = refl; home = λ s h. refl; place = λ s h. refl; count = λ i h. refl; body_list = λ i h. refl };
        base_same = refl;
        base_open = base-is-open;
        lt = λ q h. absurd (omega arith);
        opens = λ q h. absurd (omega arith);
        gets = λ i l f c. absurd (let a = peopled A.sound.good i l f in omega arith);
      }

  module _ {t goals : List ℕ} {p : ℕ} (I : Assigning Z base keep asleep L t0 t goals p) (pl : p < length L) where
    gp : p < length goals
    gp = let a = I.goals_long in omega arith

    put_same : (v : ℕ) → get_or (set goals p v) p 0 ≡ v
    put_same v = get_or-set_same goals p v 0 gp

    put_other : (v q : ℕ) → q < p → get_or (set goals p v) q 0 ≡ get_or goals q 0
    put_other v q h = get_or-set_other goals p q v 0 (omega arith)

    abbrev label : ℕ
    label = get_or L p 0

    -- ---- no number is taken: the goal v is one that is open
    module _ (v : ℕ) (no : leads L keep p ≡ false) (is : v ≡ value p) (vl : v < (extents (tables Z t)).islands) (vo : OpenAt Z (tables Z t) v) where
      assign-old : Assigning Z base keep asleep L t0 t (set goals p v) (p + 1)
      assign-old =
          let e : tally (leads L keep) p ≡ tally (leads L keep) (p + 1) = sym (ap (tally (leads L keep)) (add-one p) ∙ tally-no L keep p no) in
          record {
            went = moves-as (λ w. new_islands (tally (leads L keep) p) z w) (λ w. new_islands (tally (leads L keep) (p + 1)) z w) (ap (λ (k : ℕ). new_islands k z w0) e) I.went;
            goals_long = length-set goals p v ∙ I.goals_long;
            p_le = omega arith;
            goals_are = λ q h. either q p (λ x. ap (λ (k : ℕ). get_or (set goals p v) k 0) x ∙ put_same v ∙ is ∙ ap value (sym x)) (λ x. put_other v q (omega arith) ∙ I.goals_are q (omega arith));
            stays = I.stays;
            base_same = I.base_same;
            base_open = I.base_open;
            lt = λ q h.
                either q p (λ x. subst (λ (k : ℕ). k < (extents (tables Z t)).islands) (sym (ap (λ (k : ℕ). get_or (set goals p v) k 0) x ∙ put_same v)) vl)
                (λ x. subst (λ (k : ℕ). k < (extents (tables Z t)).islands) (sym (put_other v q (omega arith))) (I.lt q (omega arith)));
            opens = λ q h.
                either q p (λ x. subst (OpenAt Z (tables Z t)) (sym (ap (λ (k : ℕ). get_or (set goals p v) k 0) x ∙ put_same v)) vo)
                (λ x. subst (OpenAt Z (tables Z t)) (sym (put_other v q (omega arith))) (I.opens q (omega arith)));
            gets = λ i l f c.
                (let g = I.gets i l f c in
                let h = g.place_lt in
                record { place = g.place; place_lt = omega arith; goal_is = put_other v g.place h ∙ g.goal_is });
          }

    -- a place whose component was met before
    pub assign-again : label < p → Assigning Z base keep asleep L t0 t (set goals p (get_or goals label 0)) (p + 1)
    unfolding goal_at
    assign-again h =
        assign-old (get_or goals label 0) (leads-no L keep p (omega arith))
        (I.goals_are label h ∙ ap (λ (k : ℕ). pick (eqb k keep) base (new_number (new_islands (tally (leads L keep) k) z w0))) (A.labels.own p pl))
        (I.lt label h)
        (I.opens label h)

    -- the first place of the kept component
    pub assign-kept : p ≡ keep → p ≤ label → Assigning Z base keep asleep L t0 t (set goals p base) (p + 1)
    unfolding goal_at
    assign-kept e h =
        let q : label ≡ keep = (let a = A.labels.le p pl in omega arith) in
        assign-old base (leads-kept L keep p e) (rw (eq-eqb label keep q)) (let a = A.lives.in_use in let b = I.went.larger.islands in omega arith) I.base_open

    -- ---- the first place of another
    module _ (d : p ≢ keep) (h : p ≤ label) where
      own : label ≡ p
      own = let a = A.labels.le p pl in omega arith

      yes : leads L keep p ≡ true
      yes = leads-yes L keep p d own

      keep-goal : keep < p → get_or goals keep 0 ≡ base
      unfolding goal_at
      keep-goal l = I.goals_are keep l ∙ rw (eq-eqb (get_or L keep 0) keep A.labels.keep_own)

      base-count : (members_in Z (tables Z t)).count base ≡ length L
      base-count = I.stays.count base A.lives.in_use ∙ sym A.labels_long

      pub assign-room : (freed_in Z (tables Z t)).count 0 ≡ 0 → ((extents (tables Z t)).islands < Z.islands) × ((extents (tables Z t)).islands < none)
      assign-room none_free =
          let c = base-count in
          let k = A.labels.keep_lt in
          let g = I.goals_long in
          room Z (extents (tables Z t)) (tables Z t) I.went.sound.loose base keep p goals none_free
          (let a = A.lives.in_use in let b = I.went.larger.islands in omega arith)
          (omega arith)
          (omega arith)
          d
          (omega arith)
          keep-goal
          (λ i l f e. (let x = I.gets i l f e in taken-has p i x.place goals (omega arith) x.place_lt x.goal_is))

      pub assign-new : {t' : List ℕ} (r : ℕ) → NumberTaken Z asleep r t t' → Assigning Z base keep asleep L t0 t' (set goals p r) (p + 1)
      unfolding goal_at
      assign-new {t'} r N =
          let T = tables Z t in
          let T' = tables Z t' in
          let e : tally (leads L keep) (p + 1) ≡ suc (tally (leads L keep) p) = ap (tally (leads L keep)) (add-one p) ∙ tally-yes L keep p yes in
          let k = tally (leads L keep) p in
          let lg = N.moves.larger.islands in
          let bl : base < (extents T).islands = (let a = A.lives.in_use in let b = I.went.larger.islands in omega arith) in
          let is : r ≡ value p =
          N.number ∙ ap new_number I.went.after
          ∙ rw (ne_eqb label keep (λ x. d (sym own ∙ x))) (ap (λ (j : ℕ). new_number (new_islands (tally (leads L keep) j) z w0)) (sym own)) in
          record {
            went =
                moves-as (λ w. reserved z (new_islands k z w)) (λ w. new_islands (tally (leads L keep) (p + 1)) z w)
                (sym (ap (λ (j : ℕ). new_islands j z w0) e ∙ one_more k z w0))
                (moves-then (λ w. new_islands k z w) (reserved z) I.went N.moves);
            goals_long = length-set goals p r ∙ I.goals_long;
            p_le = omega arith;
            goals_are = λ q x. either q p (λ y. ap (λ (j : ℕ). get_or (set goals p r) j 0) y ∙ put_same r ∙ is ∙ ap value (sym y)) (λ y. put_other r q (omega arith) ∙ I.goals_are q (omega arith));
            stays = bodies-then I.went.larger.islands I.stays N.stays;
            base_same =
                ap (λ (w : World). island_at w base) N.moves.after
                ∙ reserved-same z (world_of Z t) base (let a = islands-is Z t in omega arith) (λ x. N.new base bl I.base_open.not_freed (x ∙ sym N.number))
                ∙ I.base_same;
            base_open = N.still_open base bl I.base_open;
            lt = λ q x.
                either q p (λ y. subst (λ (j : ℕ). j < (extents T').islands) (sym (ap (λ (j : ℕ). get_or (set goals p r) j 0) y ∙ put_same r)) N.lt)
                (λ y. subst (λ (j : ℕ). j < (extents T').islands) (sym (put_other r q (omega arith))) (let u = I.lt q (omega arith) in omega arith));
            opens = λ q x.
                either q p (λ y. subst (OpenAt Z T') (sym (ap (λ (j : ℕ). get_or (set goals p r) j 0) y ∙ put_same r)) N.opens)
                (λ y. subst (OpenAt Z T') (sym (put_other r q (omega arith))) (N.still_open (get_or goals q 0) (I.lt q (omega arith)) (I.opens q (omega arith))));
            gets = λ i l f c.
                either i r (λ y. record { place = p; place_lt = omega arith; goal_is = put_same r ∙ sym y })
                (λ y.
                let o = N.was_open i l f y in
                let g = I.gets i o.0 o.1 (sym (N.stays.count i o.0) ∙ c) in
                let u = g.place_lt in
                record { place = g.place; place_lt = omega arith; goal_is = put_other r g.place u ∙ g.goal_is });
          }
