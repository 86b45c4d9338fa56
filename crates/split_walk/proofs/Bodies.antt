-- The bodies leave; every island that is not free has a body then.
use mathlib.Core.Path.{◌≡◌, refl, sym, ◌∙◌, ap, subst}
use mathlib.Core.Logic.{◌≢◌}
use mathlib.Core.List.{List}
use Prim.Native.Nat.{ℕ, zero, suc, ◌+◌, ◌-◌, ◌*◌, ◌≤◌, ◌<◌}
use native.Mathlib.Omega.{arith}
use lib.ListN.{length, get_or}
use borrow.Author.Tests.{eq-eqb, ne_eqb}
use Rattle.list_in_table.specs.Rules.{none, View, Rules}
use Rattle.list_in_table.proofs.Laws.{either}
use Rattle.list_in_table.proofs.Order.{At}
use Rattle.def_kinds.specs.declared.Sizes.{Sizes}
use Rattle.def_state.specs.World.{World}
use Rattle.def_state.specs.Split.{body_moved, bodies_leave}
use Rattle.table_meaning.specs.Layout.{tables, extents, members_in, freed_in}
use Rattle.table_meaning.specs.Decode.{world_of}
use Rattle.core_laws.specs.Loose.{Moves, EntryLeft}
use Rattle.core_laws.proofs.Loose.{moves-as, moves-none}
use Rattle.split_move.specs.Shift.{BodyMoved, BodyGoes}
use Rattle.split_walk.specs.Walk.{goes, body_leaves, Goals, KeepStays, BodiesLeft}
use Rattle.split_walk.proofs.Back.{walk-on, walk_start, left-none, way}

pub record BodiesGo (Z : Sizes) (base keep : ℕ) (goals t0 t : List ℕ) (p s : ℕ) : Type 0 where
  pub went : Moves Z (λ w. world_of Z t) t0 t
  pub rest : bodies_leave (goes goals) base p (world_of Z t) ≡ bodies_leave (goes goals) base ((members_in Z (tables Z t0)).count base) (world_of Z t0)
  pub head : (tables Z t).head ≡ (tables Z t0).head
  pub rows : (tables Z t).rows ≡ (tables Z t0).rows
  pub freed : (tables Z t).freed ≡ (tables Z t0).freed
  pub here : 0 < p → At (extents (tables Z t)).slots (members_in Z (tables Z t)) base (p - 1) s
  pub p_le : p ≤ length goals
  pub some : p ≤ (members_in Z (tables Z t)).count base
  pub kept : p ≤ keep → p < (members_in Z (tables Z t)).count base
  pub passed : (n : ℕ) → p ≤ n → n < length goals → get_or goals n 0 ≢ base → 0 < (members_in Z (tables Z t)).count (get_or goals n 0)
  pub more : (j : ℕ) → j < (extents (tables Z t0)).islands → j ≢ base → (members_in Z (tables Z t0)).count j ≤ (members_in Z (tables Z t)).count j

module _ {Z : Sizes} {t0 : List ℕ} (base keep : ℕ) (goals : List ℕ) (K : KeepStays Z base keep goals t0) where
  abbrev G : Goals Z base goals t0
  G = K.goals_are

  pub bodies-start : (c s : ℕ) → c ≡ (members_in Z (tables Z t0)).count base → s ≡ (members_in Z (tables Z t0)).last base → BodiesGo Z base keep goals t0 t0 c s
  bodies-start c s q r =
      let l = G.long in
      let k = K.keep_lt in
      record {
        went = moves-as (λ w. w) (λ w. world_of Z t0) refl (moves-none G.loose);
        rest = ap (λ (k : ℕ). bodies_leave (goes goals) base k (world_of Z t0)) q;
        head = refl;
        rows = refl;
        freed = refl;
        here = walk_start G.loose.loose.members_wf.rules base s c G.base_lt q r;
        p_le = omega arith;
        some = omega arith;
        kept = λ h. absurd (omega arith);
        passed = λ n a b d. absurd (omega arith);
        more = λ j jl d. omega arith;
      }

  one : (g : ℕ → ℕ) (b p : ℕ) (w : World) → 0 < p → bodies_leave g b p w ≡ bodies_leave g b (p - 1) (body_leaves g b (p - 1) w)
  unfolding bodies_leave body_leaves
  one g b zero w h = absurd (omega arith)
  one g b (suc p) w h = let q : suc p - 1 ≡ p = omega arith in rw q

  leaves-not : (g : ℕ → ℕ) (p : ℕ) (w : World) → g p ≡ base → body_leaves g base p w ≡ w
  unfolding body_leaves
  leaves-not g p w e = rw (eq-eqb (g p) base e)

  leaves-so : (g : ℕ → ℕ) (p : ℕ) (w : World) → g p ≢ base → body_leaves g base p w ≡ body_moved base (g p) p w
  unfolding body_leaves
  leaves-so g p w d = rw (ne_eqb (g p) base d)

  module _ {t : List ℕ} {p s : ℕ} (I : BodiesGo Z base keep goals t0 t p s) (pp : 0 < p) where
    abbrev S : View
    S = members_in Z (tables Z t)

    islands-same : (extents (tables Z t)).islands ≡ (extents (tables Z t0)).islands
    islands-same = ap (λ (x : List ℕ). get_or x 1 0) I.head

    base-in : base < (extents (tables Z t)).islands
    base-in = let a = G.base_lt in let b = islands-same in omega arith

    pub body-lt : s < (extents (tables Z t)).slots
    body-lt = (I.here pp).lt

    pub goal-lt : p - 1 < length goals
    goal-lt = let a = I.p_le in omega arith

    -- it stays
    pub bodies-pass : (next : ℕ) → next ≡ S.prev s → get_or goals (p - 1) 0 ≡ base → BodiesGo Z base keep goals t0 t (p - 1) next
    bodies-pass next q h =
        let a = I.some in
        let b = I.p_le in
        let pa = (I.here pp).place_is in
        record {
          went = I.went;
          rest =
              ap (bodies_leave (goes goals) base (p - 1)) (sym (leaves-not (goes goals) (p - 1) (world_of Z t) h))
              ∙ sym (one (goes goals) base p (world_of Z t) pp) ∙ I.rest;
          head = I.head;
          rows = I.rows;
          freed = I.freed;
          here = λ l.
              subst (At (extents (tables Z t)).slots S base (p - 1 - 1)) (sym q)
              (walk-on I.went.sound.loose.members_wf.rules I.went.sound.loose.members_wf.rules base s (p - 1) base-in (I.here pp) (left-none S base (S.place s)) l);
          p_le = omega arith;
          some = omega arith;
          kept = λ k. omega arith;
          passed = λ n x y d. either n (p - 1) (λ e. absurd (d (ap (λ (k : ℕ). get_or goals k 0) e ∙ h))) (λ e. I.passed n (omega arith) y d);
          more = I.more;
        }

    -- it goes
    pub body-ready : get_or goals (p - 1) 0 ≢ base → BodyGoes Z (get_or goals (p - 1) 0) t s
    body-ready d =
        let o = G.opens (p - 1) goal-lt in
        record {
          loose = I.went.sound;
          slot_lt = body-lt;
          listed = λ h. (let a = (I.here pp).home_is in let b = base-in in let m = I.went.sound.loose.members_wf.rules.m_small in omega arith);
          to_lt = (let a = G.lt (p - 1) goal-lt in let b = islands-same in omega arith);
          to_open =
              record {
                sleeping_flag = rw I.rows o.sleeping_flag;
                not_freed = ap (λ (x : List ℕ). get_or x (0 + 4 * get_or goals (p - 1) 0) 0) I.freed ∙ o.not_freed;
              };
          away = λ e. d (e ∙ (I.here pp).home_is);
        }

    pub bodies-step : {t' : List ℕ} (next : ℕ) → next ≡ S.prev s → get_or goals (p - 1) 0 ≢ base → BodyMoved Z (get_or goals (p - 1) 0) t t' s → BodiesGo Z base keep goals t0 t' (p - 1) next
    bodies-step {t'} next q d D =
        let to = get_or goals (p - 1) 0 in
        let S' = members_in Z (tables Z t') in
        let hb = (I.here pp).home_is in
        let pa = (I.here pp).place_is in
        let x : (extents (tables Z t')).slots ≡ (extents (tables Z t)).slots = ap (λ (x : List ℕ). get_or x 0 0) D.head in
        let y : (extents (tables Z t')).islands ≡ (extents (tables Z t)).islands = ap (λ (x : List ℕ). get_or x 1 0) D.head in
        let R' : Rules (extents (tables Z t)).slots (extents (tables Z t)).islands S' = rw (x, y) at D.moves.sound.loose.members_wf.rules in
        let fewer : S'.count base + 1 ≡ S.count base = rw hb at D.fewer in
        let left : EntryLeft S S' base (S.place s) = rw hb at D.left in
        let same : (j : ℕ) → j < (extents (tables Z t)).islands → j ≢ base → j ≢ to → S'.count j ≡ S.count j = λ j jl e f. D.other j jl (λ z. e (z ∙ hb)) f in
        let moved : Moves Z (body_moved base to (p - 1)) t t' = subst (λ (k : ℕ). Moves Z (body_moved base to k) t t') pa (subst (λ (b : ℕ). Moves Z (body_moved b to (S.place s)) t t') hb D.moves) in
        let a = I.some in
        let b = I.p_le in
        let gl : (n : ℕ) → n < length goals → get_or goals n 0 < (extents (tables Z t)).islands = λ n h. (let u = G.lt n h in let v = islands-same in omega arith) in
        record {
          went = way (body_moved base to (p - 1)) I.went moved;
          rest =
              ap (bodies_leave (goes goals) base (p - 1)) (moved.after ∙ sym (leaves-so (goes goals) (p - 1) (world_of Z t) d))
              ∙ sym (one (goes goals) base p (world_of Z t) pp) ∙ I.rest;
          head = D.head ∙ I.head;
          rows = D.rows ∙ I.rows;
          freed = D.freed ∙ I.freed;
          here = λ h.
              subst (λ (n : ℕ). At n S' base (p - 1 - 1) next) (sym x)
              (subst (At (extents (tables Z t)).slots S' base (p - 1 - 1)) (sym q)
              (walk-on I.went.sound.loose.members_wf.rules R' base s (p - 1) base-in (I.here pp) left h));
          p_le = omega arith;
          some = omega arith;
          kept = λ k.
              let e : p - 1 ≢ keep = λ z. d (ap (λ (n : ℕ). get_or goals n 0) z ∙ K.keep_stays) in
              let u = I.kept (omega arith) in
              omega arith;
          passed = λ n u v e.
              either (get_or goals n 0) to (λ z. subst (λ (k : ℕ). 0 < S'.count k) (sym z) (let m = D.more in omega arith))
              (λ z.
              let c = same (get_or goals n 0) (gl n v) e z in
              either n (p - 1) (λ f. absurd (z (ap (λ (k : ℕ). get_or goals k 0) f))) (λ f. (let i = I.passed n (omega arith) v e in omega arith)));
          more = λ j jl e.
              let i = I.more j jl e in
              let u = islands-same in
              either j to (λ z. subst (λ (k : ℕ). (members_in Z (tables Z t0)).count k ≤ S'.count k) (sym z) (let m = D.more in let i2 : (members_in Z (tables Z t0)).count to ≤ S.count to = subst (λ (k : ℕ). (members_in Z (tables Z t0)).count k ≤ S.count k) z i in omega arith))
              (λ z. (let c = same j (omega arith) e z in omega arith));
        }

  pub bodies-end : {t : List ℕ} {p s : ℕ} → BodiesGo Z base keep goals t0 t p s → p ≡ 0 → BodiesLeft Z base goals t0 t
  unfolding bodies_leave
  bodies-end {t} {p} I h =
      let S = members_in Z (tables Z t) in
      let e : (extents (tables Z t)).islands ≡ (extents (tables Z t0)).islands = ap (λ (x : List ℕ). get_or x 1 0) I.head in
      record {
        moves =
            moves-as (λ w. world_of Z t) (bodies_leave (goes goals) base ((members_in Z (tables Z t0)).count base))
            (sym (ap (λ (k : ℕ). bodies_leave (goes goals) base k (world_of Z t)) h) ∙ I.rest)
            I.went;
        peopled = λ i il f.
            let f0 : (freed_in Z (tables Z t0)).home i ≡ none = sym (ap (λ (x : List ℕ). get_or x (0 + 4 * i) 0) I.freed) ∙ f in
            either i base (λ q. subst (λ (k : ℕ). 0 < S.count k) (sym q) (let a = I.kept (omega arith) in omega arith))
            (λ d.
            either ((members_in Z (tables Z t0)).count i) 0
            (λ z.
            let g = K.gets i (omega arith) f0 z in
            subst (λ (k : ℕ). 0 < S.count k) g.goal_is (I.passed g.place (omega arith) g.place_lt (λ x. d (sym g.goal_is ∙ x))))
            (λ z. (let a = I.more i (omega arith) d in omega arith)));
        base_some = (let a = I.kept (omega arith) in omega arith);
      }
