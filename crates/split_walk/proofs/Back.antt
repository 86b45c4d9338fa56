-- A walk goes back by the links to the one before, while what it has passed leaves; tables that stay.
use mathlib.Core.Path.{◌≡◌, refl, sym, ◌∙◌, ap, subst}
use mathlib.Core.Logic.{⊎_elim}
use mathlib.Core.List.{List}
use Prim.Native.Nat.{ℕ, ◌+◌, ◌-◌, ◌*◌, ◌<◌}
use native.Mathlib.Omega.{arith}
use lib.ListN.{get_or}
use Rattle.list_in_table.specs.Rules.{View, Rules, First, After, list_of}
use Rattle.list_in_table.proofs.Laws.{held_in, full}
use Rattle.list_in_table.proofs.Order.{At, list_at, list-of}
use Rattle.def_kinds.specs.declared.Sizes.{Sizes}
use Rattle.def_state.specs.World.{World}
use Rattle.table_meaning.specs.Layout.{Tables, tables, extents}
use Rattle.table_meaning.specs.Decode.{world_of}
use Rattle.table_meaning.specs.Does.{SameBehind}
use Rattle.table_meaning.specs.Larger.{Larger}
use Rattle.table_meaning.proofs.Frame.{larger-then, kept_then}
use Rattle.core_laws.specs.Drops.{Stays}
use Rattle.core_laws.specs.Loose.{Loosely, Moves, EntryLeft, BodiesStay}
use Rattle.split_walk.specs.Walk.{Goals}

-- ---- one back
module _ {n m : ℕ} {S S' : View} (R : Rules n m S) (R' : Rules n m S') (i e p : ℕ) (il : i < m) (A : At n S i p e) (L : EntryLeft S S' i (S.place e)) (pp : 0 < p) where
  prev-after : After n m S e
  prev-after = ⊎_elim (λ (f : First n m S e). absurd (let a = f.at_zero in let b = A.place_is in omega arith)) (λ (x : After n m S e). x) (held_in R e i A.lt il A.home_is).back

  pub walk-on : At n S' i (p - 1) (S.prev e)
  walk-on =
      let B = prev-after in
      let k = S.prev e in
      let hk : S.home k ≡ i = B.prev_home ∙ A.home_is in
      let a = B.prev_place in
      let b = A.place_is in
      let pk : S.place k ≡ p - 1 = omega arith in
      let c = L.few in
      let H = held_in R e i A.lt il A.home_is in
      let d : S.place e < S.count i = rw A.home_is at H.place_lt in
      let q : get_or (list_of S' i) (p - 1) 0 ≡ k = ap (λ (j : ℕ). get_or (list_of S' i) j 0) (sym pk) ∙ L.below (S.place k) (omega arith) ∙ list-of R i il k B.prev_lt hk in
      subst (At n S' i (p - 1)) q (list_at R' i il (p - 1) (omega arith))

-- the last
pub walk_start : {n m : ℕ} {S : View} (R : Rules n m S) (i e c : ℕ) → i < m → c ≡ S.count i → e ≡ S.last i → 0 < c → At n S i (c - 1) e
walk_start {n} {m} {S} R i e c il q r h =
    let F = full R i il (omega arith) in
    let a = F.last_place in
    subst (At n S i (c - 1)) (sym r) (record { lt = F.last_lt; home_is = F.last_home; place_is = omega arith })

pub left-none : (S : View) (i p : ℕ) → EntryLeft S S i p
left-none S i p = record { below = λ q l. refl; few = omega arith }

-- ---- tables that links are no part of
pub stays-bodies : {Z : Sizes} {T U : Tables} → Stays T U → BodiesStay Z T U
stays-bodies {Z} {T} {U} A =
    record {
      slots_in_use = ap (λ (x : List ℕ). get_or x 0 0) A.head;
      slots = A.slots;
      home = λ s h. ap (λ (x : List ℕ). get_or x (0 + 4 * s) 0) A.members;
      place = λ s h. ap (λ (x : List ℕ). get_or x (0 + 4 * s + 1) 0) A.members;
      count = λ i h. ap (λ (x : List ℕ). get_or x (4 * Z.slots + 2 * i) 0) A.members;
      body_list = λ i h. rw A.members;
    }

pub goals-stay : {Z : Sizes} {t t' : List ℕ} (base : ℕ) (goals : List ℕ) → Stays (tables Z t) (tables Z t') → Loosely Z t' → Goals Z base goals t → Goals Z base goals t'
goals-stay {Z} {t} {t'} base goals A S G =
    let e : (extents (tables Z t')).islands ≡ (extents (tables Z t)).islands = ap (λ (x : List ℕ). get_or x 1 0) A.head in
    record {
      loose = S;
      base_lt = (let a = G.base_lt in omega arith);
      long = G.long ∙ sym ((stays-bodies {Z = Z} A).count base G.base_lt);
      lt = λ n h. (let a = G.lt n h in omega arith);
      opens = λ n h.
          let o = G.opens n h in
          record {
            sleeping_flag = rw A.rows o.sleeping_flag;
            not_freed = ap (λ (x : List ℕ). get_or x (0 + 4 * get_or goals n 0) 0) A.freed ∙ o.not_freed;
          };
    }

-- the tables came to t, whatever on the way
pub way : {Z : Sizes} {t0 t t' : List ℕ} (f : World → World) → Moves Z (λ w. world_of Z t) t0 t → Moves Z f t t' → Moves Z (λ w. world_of Z t') t0 t'
way {Z} {t0} {t} {t'} f A B = record { sound = B.sound; after = refl; frame = then-kept; larger = then-larger }
  where
    then-larger : Larger (extents (tables Z t0)) (extents (tables Z t'))
    then-larger = larger-then A.larger B.larger

    then-kept : SameBehind Z (extents (tables Z t')) (tables Z t0) (tables Z t')
    then-kept = kept_then B.larger A.frame B.frame
