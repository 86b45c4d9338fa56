-- The last joint link of an island goes, its words are blank and its place of the key table is free; then all of them.
use mathlib.Core.Path.{◌≡◌, refl, sym, ◌∙◌, ap}
use mathlib.Core.List.{List, [], ◌∷◌, ◌++◌, map, map-append, append_assoc, append-nil, reverse, reverse-append}
use Prim.Native.Nat.{ℕ, ◌+◌, ◌-◌, ◌*◌, ◌<◌}
use native.Mathlib.Omega.{arith}
use lib.ListN.{length, set, take, length-map}
use lib.Seq.{set-get_or, get_or-set_same}
use Rattle.list_in_table.specs.Rules.{list_of}
use Rattle.list_in_table.specs.Word.{writes}
use Rattle.list_in_table.specs.Table.{removed, pushed, PushReady}
use Rattle.list_in_table.proofs.Laws.{full}
use Rattle.list_in_table.proofs.Order.{length-list}
use Rattle.list_in_buffer.specs.Part.{Put}
use Rattle.def_kinds.specs.declared.Sizes.{Sizes}
use Rattle.def_kinds.specs.Answers.{Done}
use Rattle.def_state.specs.Plain.{drop_last, last_of}
use Rattle.def_state.specs.World.{JointLink, absent_joint, Island, absent_island, World, done, island_at}
use Rattle.def_state.specs.Fields.{places_set, island_set, joints_set}
use Rattle.def_state.specs.Membership.{places_of}
use Rattle.def_state.specs.Links.{joint_removed}
use Rattle.table_meaning.specs.Layout.{tables, joints_at, joints_span, keys_at, keys_span, spare_at, spare_span, extents, joints_in, elem_words}
use Rattle.table_meaning.specs.Decode.{joint_at, world_of}
use Rattle.table_meaning.specs.Sound.{Sound}
use Rattle.table_meaning.proofs.Unique.{islands-is}
use Rattle.table_meaning.proofs.Frame.{larger-refl, larger-then}
use Rattle.core_laws.specs.Steps.{Steps, drop_joint, drop_joints}
use Rattle.core_laws.specs.Drops.{JointDropped, JointsCleared}
use Rattle.core_laws.specs.Linking.{joint_remove}
use Rattle.core_laws.proofs.Good.{world_is}
use Rattle.core_laws.proofs.Then.{refused, does-as, does-then}
use Rattle.core_laws.proofs.At.{steps-as}
use Rattle.core_laws.proofs.Loose.{sound-loose}
use Rattle.core_laws.proofs.Names.{island-at}
use Rattle.core_laws.proofs.LastOut.{snoc, set-again, LastIn, last-in, no-values}
use Rattle.core_laws.proofs.TakeJoint.{spare-ready, joint-gone}
use Rattle.core_laws.proofs.Stays.{stays-refl, stays_then}

-- the last link is one that is taken
drop-last : (i l : ℕ) (w : World) → l ≡ length (island_at w i).joint_links - 1 → joint_remove i l w ≡ drop_joint i w
unfolding joint_remove joint_removed drop_joint
drop-last i l w e =
    let ls = (island_at w i).joint_links in
    let v = places_set w w.joint_places (w.free_places ++ ((last_of absent_joint ls).place ∷ [])) in
    rw e (ap (λ (ks : List JointLink). done (island_set v i (joints_set (island_at w i) (take (length ls - 1) ks)))) (set-get_or ls (length ls - 1) absent_joint))

-- the links in the state are those of the list
links-are : (Z : Sizes) (t : List ℕ) (i : ℕ) → i < (extents (tables Z t)).islands → (island_at (world_of Z t) i).joint_links ≡ map (joint_at (tables Z t).keys) (list_of (joints_in Z (tables Z t)) i)
unfolding world_of
links-are Z t i il = ap (λ (a : Island). a.joint_links) (island-at Z (extents (tables Z t)) (tables Z t) i il)

links-long : {Z : Sizes} {t : List ℕ} (i : ℕ) → Sound Z t → i < (extents (tables Z t)).islands → length (island_at (world_of Z t) i).joint_links ≡ (joints_in Z (tables Z t)).count i
links-long {Z} {t} i S il =
    let T = tables Z t in
    ap length (links-are Z t i il) ∙ length-map (list_of (joints_in Z T) i) (joint_at T.keys) ∙ length-list S.good.joints_wf.rules i il

-- what the stores ask
pub joint-last : {Z : Sizes} {t : List ℕ} (i p : ℕ) → Sound Z t → i < (extents (tables Z t)).islands → 0 < (joints_in Z (tables Z t)).count i → p ≡ (joints_in Z (tables Z t)).last i
    → LastIn Z.joints (extents (tables Z t)).joints i p (tables Z t).joints
joint-last {Z} {t} i p S il c q = let T = tables Z t in last-in Z.joints (extents T).joints (extents T).islands T.joints S.good.joints_wf i p il c q

pub place_ready : {Z : Sizes} {t t1 t2 t3 y1 y2 y3 : List ℕ} (i p : ℕ) → Sound Z t → i < (extents (tables Z t)).islands → 0 < (joints_in Z (tables Z t)).count i → p ≡ (joints_in Z (tables Z t)).last i
    → Put (joints_at Z) (joints_span Z) t t1 y1 → Put (keys_at Z) (keys_span Z) t1 t2 y2 → Put (keys_at Z) (keys_span Z) t2 t3 y3 → PushReady (tables Z t3).spare 0 (4 * Z.joints) 0 p
place_ready i p S il c q A B C = let L = joint-last i p S il c q in spare-ready p (sound-loose S) L.elem_lt L.held A B C

pub joint-dropped : {Z : Sizes} {t t1 t2 t3 t4 : List ℕ} (i p : ℕ) → Sound Z t → i < (extents (tables Z t)).islands → 0 < (joints_in Z (tables Z t)).count i → p ≡ (joints_in Z (tables Z t)).last i
    → Put (joints_at Z) (joints_span Z) t t1 (removed (tables Z t).joints 0 (4 * Z.joints) p)
    → Put (keys_at Z) (keys_span Z) t1 t2 (writes (tables Z t1).keys (elem_words (8 * p)))
    → Put (keys_at Z) (keys_span Z) t2 t3 (writes (tables Z t2).keys (elem_words (8 * p + 4)))
    → Put (spare_at Z) (spare_span Z) t3 t4 (pushed (tables Z t3).spare 0 (4 * Z.joints) 0 p) → JointDropped Z i t t4
joint-dropped {Z} {t} i p S il c q A B C D =
    let E = joints_in Z (tables Z t) in
    let L = joint-last i p S il c q in
    let J = (joint-gone p (sound-loose S) L.elem_lt L.held A B C D).taken S in
    let n = links-long i S il in
    let e : E.place p + 1 ≡ E.count i = rw q (full S.good.joints_wf.rules i il (omega arith)).last_place in
    record {
      steps =
          steps-as (joint_remove (E.home p) (E.place p)) (drop_joint i)
          (ap (λ (k : ℕ). joint_remove k (E.place p) (world_of Z t)) L.home_is ∙ drop-last i (E.place p) (world_of Z t) (omega arith))
          J.steps;
      fewer = rw L.home_is at J.fewer;
      stays = J.stays;
      contacts = J.contacts;
    }

-- ---- one, then the rest
-- the places come free from the last to the first
places-rest : (xs : List ℕ) (ls : List JointLink) → 0 < length ls
    → (xs ++ ((last_of absent_joint ls).place ∷ [])) ++ reverse (map (λ (l : JointLink). l.place) (drop_last ls)) ≡ xs ++ reverse (map (λ (l : JointLink). l.place) ls)
places-rest xs ls h =
    let g : JointLink → ℕ = λ l. l.place in
    let z = last_of absent_joint ls in
    append_assoc xs (z.place ∷ []) (reverse (map g (drop_last ls)))
    ∙ ap (λ (ys : List ℕ). xs ++ ys)
    (sym (ap (λ (ys : List JointLink). reverse (map g ys)) (snoc absent_joint ls h) ∙ ap reverse (map-append g (drop_last ls) (z ∷ [])) ∙ reverse-append (map g (drop_last ls)) (z.place ∷ [])))

joints-rest : (i : ℕ) (w : World) → i < length w.islands → 0 < length (island_at w i).joint_links → drop_joints i (drop_joint i w).after ≡ drop_joints i w
unfolding drop_joints drop_joint island_set
joints-rest i w il h =
    let a = island_at w i in
    let b = joints_set a (drop_last a.joint_links) in
    let v = w.free_places ++ ((last_of absent_joint a.joint_links).place ∷ []) in
    ap done
    (world_is refl (set-again w.islands i b absent_island (λ x. joints_set x [])) refl refl refl
    (ap (λ (x : Island). v ++ reverse (places_of x)) (get_or-set_same w.islands i b absent_island il) ∙ places-rest w.free_places a.joint_links h) refl refl refl refl refl)

pub joints-more : {Z : Sizes} {t t1 t2 : List ℕ} (i : ℕ) → Sound Z t → i < (extents (tables Z t)).islands → 0 < (joints_in Z (tables Z t)).count i → Steps Z (drop_joint i) t t1
    → Steps Z (drop_joints i) t1 t2 → Steps Z (drop_joints i) t t2
joints-more {Z} {t} i S il c A B =
    let T = tables Z t in
    let w = world_of Z t in
    let l : length w.islands ≡ (extents T).islands = islands-is Z t in
    let n = links-long i S il in
    record {
      does =
          does-as (λ w. drop_joints i (drop_joint i w).after) (drop_joints i) (joints-rest i w (omega arith) (omega arith))
          (does-then (drop_joint i) (drop_joints i) B.larger A.does B.does);
      larger = larger-then A.larger B.larger;
    }

pub joints-none : {Z : Sizes} {t : List ℕ} (i : ℕ) → Sound Z t → i < (extents (tables Z t)).islands → (joints_in Z (tables Z t)).count i ≡ 0 → Steps Z (drop_joints i) t t
unfolding drop_joints island_set
joints-none {Z} {t} i S il c =
    let T = tables Z t in
    let w = world_of Z t in
    let a = island_at w i in
    let e : a.joint_links ≡ [] = links-are Z t i il ∙ no-values S.good.joints_wf.rules i il c (joint_at T.keys) in
    record {
      does =
          refused (drop_joints i) Done S
          (ap done
          (world_is refl (ap (λ (ls : List JointLink). set w.islands i (joints_set a ls)) (sym e) ∙ set-get_or w.islands i absent_island) refl refl refl
          (ap (λ (ls : List JointLink). w.free_places ++ reverse (map (λ (l : JointLink). l.place) ls)) e ∙ append-nil w.free_places) refl refl refl refl refl));
      larger = larger-refl (extents T);
    }

-- ---- the loop
pub joints-cleared-none : {Z : Sizes} {t : List ℕ} (i : ℕ) → Sound Z t → i < (extents (tables Z t)).islands → (joints_in Z (tables Z t)).count i ≡ 0 → JointsCleared Z i t t
joints-cleared-none {Z} {t} i S il c = record { steps = joints-none i S il c; none = c; stays = stays-refl (tables Z t); contacts = record { contacts = refl; touches = refl } }

pub joints-cleared-more : {Z : Sizes} {t t1 t2 : List ℕ} (i : ℕ) → Sound Z t → i < (extents (tables Z t)).islands → JointDropped Z i t t1 → JointsCleared Z i t1 t2 → JointsCleared Z i t t2
joints-cleared-more i S il A B =
    record {
      steps = joints-more i S il (let e = A.fewer in omega arith) A.steps B.steps;
      none = B.none;
      stays = stays_then A.stays B.stays;
      contacts = record { contacts = B.contacts.contacts ∙ A.contacts.contacts; touches = B.contacts.touches ∙ A.contacts.touches };
    }
