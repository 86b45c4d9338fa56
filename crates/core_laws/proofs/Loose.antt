-- From well formed tables to loose ones, and back; steps on loose tables.
use mathlib.Core.Path.{◌≡◌, refl, sym, ◌∙◌, ap, subst}
use mathlib.Core.Logic.{◌⊎◌, inl, inr, ◌≢◌, ⊎_elim}
use mathlib.Core.List.{List}
use Prim.Native.Nat.{ℕ, ◌+◌, ◌-◌, ◌*◌, ◌<◌}
use native.Mathlib.Omega.{arith}
use lib.ListN.{length, get_or, set}
use lib.Seq.{get_or-take, get_or-set_other}
use Rattle.list_in_table.specs.Rules.{none, list_of, swap_remove}
use Rattle.list_in_table.specs.Table.{view, Wf}
use Rattle.list_in_table.proofs.Laws.{held}
use Rattle.list_in_table.proofs.Order.{length-list}
use Rattle.def_kinds.specs.declared.Sizes.{Sizes}
use Rattle.def_state.specs.World.{World, done}
use Rattle.table_meaning.specs.Layout.{Tables, tables, total, Extents, extents, members_in, contacts_in, joints_in, freed_in}
use Rattle.table_meaning.specs.Decode.{decode, world_of}
use Rattle.table_meaning.specs.Rule.{Live, Freed}
use Rattle.table_meaning.specs.Sound.{IslandAt, Good, Sound}
use Rattle.table_meaning.specs.Does.{SameBehind}
use Rattle.table_meaning.specs.Larger.{Larger}
use Rattle.table_meaning.proofs.Chains.{Taken}
use Rattle.table_meaning.proofs.Frame.{larger-refl, larger-then, kept_refl, kept_then, world-at, kept_at}
use Rattle.core_laws.specs.Steps.{Steps}
use Rattle.core_laws.specs.Loose.{Open, OpenAt, LooseAt, Loose, Loosely, Peopled, Moves, EntryLeft}

module _ (Z : Sizes) (T : Tables) (i : ℕ) where
  abbrev FreedAt : Type 0
  FreedAt =
      Freed ((members_in Z T).count i) ((contacts_in Z T).count i) ((joints_in Z T).count i) (get_or T.rows (3 * i) 0) (get_or T.rows (3 * i + 1) 0) (get_or T.rows (3 * i + 2) 0)
      ((freed_in Z T).home i)

  pub loosen : IslandAt Z T i → LooseAt Z T i
  loosen r =
      ⊎_elim (λ (x : Live ((members_in Z T).count i) (get_or T.rows (3 * i + 2) 0) ((freed_in Z T).home i)). inl (record { sleeping_flag = x.sleeping_flag; not_freed = x.not_freed }))
      (λ (x : FreedAt). inr x) r

  pub tighten : ((freed_in Z T).home i ≡ none → 0 < (members_in Z T).count i) → LooseAt Z T i → IslandAt Z T i
  tighten h r =
      ⊎_elim (λ (x : OpenAt Z T i). inl (record { some = h x.not_freed; sleeping_flag = x.sleeping_flag; not_freed = x.not_freed })) (λ (x : FreedAt). inr x) r

  -- an island that is not free is open
  pub open_at : (freed_in Z T).home i ≡ none → LooseAt Z T i → OpenAt Z T i
  open_at h r = ⊎_elim (λ (x : OpenAt Z T i). x) (λ (x : FreedAt). absurd (let a = x.in_stack in omega arith)) r

  pub lives-open : (members_in Z T).count i ≢ 0 → LooseAt Z T i → OpenAt Z T i
  lives-open h r = ⊎_elim (λ (x : OpenAt Z T i). x) (λ (x : FreedAt). absurd (h x.no_body)) r

-- the rule at equal words
pub loose-rule : {b b' c c' j j' r r' d d' z z' f f' : ℕ} → b ≡ b' → c ≡ c' → j ≡ j' → r ≡ r' → d ≡ d' → z ≡ z' → f ≡ f' → Open z' f' ⊎ Freed b' c' j' r' d' z' f'
    → Open z f ⊎ Freed b c j r d z f
loose-rule p q r s t u v x = rw (p, q, r, s, t, u, v) x

module _ {Z : Sizes} {X : Extents} {T : Tables} where
  pub good-loose : Good Z X T → Loose Z X T
  good-loose G =
      record {
        enough = G.enough;
        slots_le = G.slots_le;
        islands_le = G.islands_le;
        edges_le = G.edges_le;
        joints_le = G.joints_le;
        journal_le = G.journal_le;
        members_wf = G.members_wf;
        freed_wf = G.freed_wf;
        contacts_wf = G.contacts_wf;
        joints_wf = G.joints_wf;
        spare_wf = G.spare_wf;
        scan_wf = G.scan_wf;
        slot = G.slot;
        island = λ i l. loosen Z T i (G.island i l);
        seen = G.seen;
        edge = G.edge;
        joint = G.joint;
        distinct = G.distinct;
        head = G.head;
      }

  pub peopled : Good Z X T → Peopled Z X T
  peopled G i l h =
      ⊎_elim (λ (x : Live ((members_in Z T).count i) (get_or T.rows (3 * i + 2) 0) ((freed_in Z T).home i)). x.some)
      (λ (x : FreedAt Z T i). absurd (let a = x.in_stack in omega arith)) (G.island i l)

  pub loose-good : Loose Z X T → Peopled Z X T → Good Z X T
  loose-good G P =
      record {
        enough = G.enough;
        slots_le = G.slots_le;
        islands_le = G.islands_le;
        edges_le = G.edges_le;
        joints_le = G.joints_le;
        journal_le = G.journal_le;
        members_wf = G.members_wf;
        freed_wf = G.freed_wf;
        contacts_wf = G.contacts_wf;
        joints_wf = G.joints_wf;
        spare_wf = G.spare_wf;
        scan_wf = G.scan_wf;
        slot = G.slot;
        island = λ i l. tighten Z T i (P i l) (G.island i l);
        seen = G.seen;
        edge = G.edge;
        joint = G.joint;
        distinct = G.distinct;
        head = G.head;
      }

pub sound-loose : {Z : Sizes} {t : List ℕ} → Sound Z t → Loosely Z t
sound-loose S = record { long = S.long; loose = good-loose S.good }

pub loose-sound : {Z : Sizes} {t : List ℕ} → Loosely Z t → Peopled Z (extents (tables Z t)) (tables Z t) → Sound Z t
loose-sound S P = record { long = S.long; good = loose-good S.loose P }

-- ---- steps on loose tables
loosely-at : (Z : Sizes) (X : Extents) (t : List ℕ) (W : Tables) (e : tables Z t ≡ W) (a : extents W ≡ X) → length t ≡ total Z → Loose Z X W → Loosely Z t
loosely-at Z X t W e a l G = record { long = l; loose = subst (λ (V1 : Tables). Loose Z (extents V1) V1) (sym e) (subst (λ (Y : Extents). Loose Z Y W) (sym a) G) }

-- the tables of t' are W, with the extents Y
pub moves-at : {Z : Sizes} {t : List ℕ} (t' : List ℕ) (f : World → World) (Y : Extents) (W : Tables) → tables Z t' ≡ W → extents W ≡ Y → length t' ≡ total Z → Loose Z Y W
    → decode Z Y W ≡ f (decode Z (extents (tables Z t)) (tables Z t)) → SameBehind Z Y (tables Z t) W → Larger (extents (tables Z t)) Y → Moves Z f t t'
unfolding world_of
moves-at {Z} {t} t' f Y W e a l G d k h =
    record { sound = loosely-at Z Y t' W e a l G; after = world-at Z Y t' W e a ∙ d; frame = kept_at Z Y t' W e a (tables Z t) k; larger = rw (ap extents e ∙ a) h }

pub moves-none : {Z : Sizes} {t : List ℕ} → Loosely Z t → Moves Z (λ w. w) t t
moves-none {Z} {t} S = record { sound = S; after = refl; frame = kept_refl; larger = larger-refl (extents (tables Z t)) }

pub moves-then : {Z : Sizes} {t t1 t2 : List ℕ} (f g : World → World) → Moves Z f t t1 → Moves Z g t1 t2 → Moves Z (λ w. g (f w)) t t2
moves-then f g D E =
    record { sound = E.sound; after = E.after ∙ ap g D.after; frame = kept_then E.larger D.frame E.frame; larger = larger-then D.larger E.larger }

pub moves-as : {Z : Sizes} {t u : List ℕ} (f g : World → World) → f (world_of Z t) ≡ g (world_of Z t) → Moves Z f t u → Moves Z g t u
moves-as f g e D = record { sound = D.sound; after = D.after ∙ e; frame = D.frame; larger = D.larger }

-- where every island that is not free has a body, it was a step
pub moved-steps : {Z : Sizes} {t u : List ℕ} (f : World → World) → Moves Z f t u → Peopled Z (extents (tables Z u)) (tables Z u) → Steps Z (λ w. done (f w)) t u
moved-steps f D P = record { does = record { sound = loose-sound D.sound P; answer = refl; after = D.after; frame = D.frame }; larger = D.larger }

-- ---- swap removal leaves what stands before the place
swap-below : (xs : List ℕ) (p q : ℕ) → q < p → p < length xs → get_or (swap_remove xs p) q 0 ≡ get_or xs q 0
unfolding swap_remove
swap-below xs p q l h =
    get_or-take (length xs - 1) (set xs p (get_or xs (length xs - 1) 0)) q 0 (omega arith) ∙ get_or-set_other xs p q (get_or xs (length xs - 1) 0) 0 (omega arith)

pub left-taken : (N n m e : ℕ) (x y : List ℕ) → Wf x 0 (4 * N) n m → e < n → (view x 0 (4 * N)).home e ≢ none → Taken N n m e x y
    → EntryLeft (view x 0 (4 * N)) (view y 0 (4 * N)) ((view x 0 (4 * N)).home e) ((view x 0 (4 * N)).place e)
left-taken N n m e x y w el eh D =
    let S = view x 0 (4 * N) in
    let H = held w.rules e el eh in
    let a = H.place_lt in
    let b = length-list w.rules (S.home e) H.home_lt in
    record {
      below = λ q l. ap (λ (xs : List ℕ). get_or xs q 0) D.list_e ∙ swap-below (list_of S (S.home e)) (S.place e) q l (omega arith);
      few = (let c = D.count_i in omega arith);
    }
