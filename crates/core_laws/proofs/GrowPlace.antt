-- One more place of the key table comes into use, free; there is a free place; how many links fit yet.
use mathlib.Core.Path.{◌≡◌, refl, sym, ◌∙◌, ap, subst}
use mathlib.Core.Logic.{inl, inr, ◌≢◌}
use mathlib.Core.List.{List, [], ◌∷◌, ◌++◌, map}
use Prim.Native.Nat.{ℕ, ◌+◌, ◌-◌, ◌*◌, ◌≤◌, ◌<◌}
use native.Mathlib.Omega.{arith}
use lib.ListN.{length, get_or, set}
use lib.Seq.{get_or-set_same, get_or-set_other}
use Rattle.list_in_table.specs.Rules.{none, list_of}
use Rattle.list_in_table.specs.Word.{writes}
use Rattle.list_in_table.specs.Table.{view, pushed, PushReady}
use Rattle.list_in_table.proofs.Laws.{either}
use Rattle.list_in_table.proofs.Order.{length-list, list_at}
use Rattle.list_in_table.proofs.Pigeon.{count-le}
use Rattle.list_in_buffer.specs.Part.{Put}
use Rattle.def_kinds.specs.declared.Sizes.{Sizes}
use Rattle.def_state.specs.World.{Key, Handle, World, done}
use Rattle.def_state.specs.Links.{joint_room, joint_pushed, new_place, take_place}
use Rattle.table_meaning.specs.Layout.{Tables, tables, total, head_at, head_span, joints_at, joints_span, keys_at, keys_span, spare_at, spare_span, head_put, joints_put, keys_put, spare_put, Extents, extents, joints_in, spare_in, elem_words}
use Rattle.table_meaning.specs.Decode.{flag, joint_at, island_in, decode, world_of}
use Rattle.table_meaning.specs.Sound.{JointAt, Good, Sound}
use Rattle.table_meaning.specs.Does.{SameBehind}
use Rattle.table_meaning.proofs.Puts.{Sized, sized, put-head, put-joints, put-keys, put-spare}
use Rattle.table_meaning.proofs.Tab.{tabulate-same}
use Rattle.table_meaning.proofs.Chains.{Grown, Added, elem-grown, elem-home, added, push_ready, chain-then, nil}
use Rattle.table_meaning.proofs.Unique.{places_is}
use Rattle.table_meaning.proofs.Frame.{larger-refl, kept_then, kept-head, kept-joints, kept-keys, kept-spare, extents-is}
use Rattle.core_laws.specs.Steps.{Steps}
use Rattle.core_laws.specs.Linking.{place_readied, place_ready, joint_push}
use Rattle.core_laws.specs.Places.{one_place, grow_place}
use Rattle.core_laws.proofs.Good.{island-is, world_is, island-rule, head-rule}
use Rattle.core_laws.proofs.At.{steps-at, steps-none, steps-as}
use Rattle.core_laws.proofs.LastOut.{map_same}
use Rattle.core_laws.proofs.GrowIsland.{empty-yes, empty-no}
use Rattle.core_laws.proofs.PlaceWords.{eight, outside, other-link, other-rule, other_keys, word-0, word-1, word-2, word-3, word-4, word-5, word-6, word-7}

abbrev with_place : Extents → Extents
with_place X = record { slots = X.slots; islands = X.islands; edges = X.edges; joints = X.joints + 1; journal = X.journal }

module _ (Z : Sizes) (X : Extents) (T : Tables) (G : Good Z X T) (K : Sized Z T) (l : X.joints < Z.joints) (ms : X.joints < none) where
  abbrev n : ℕ
  n = X.joints

  abbrev U : List ℕ
  U = eight T.keys n none none none none none none none none

  abbrev J : List ℕ
  J = writes T.joints (elem_words (4 * n))

  abbrev Q1 : List ℕ
  Q1 = writes T.spare (elem_words (4 * n))

  abbrev Q : List ℕ
  Q = pushed Q1 0 (4 * Z.joints) 0 n

  abbrev H : List ℕ
  H = set T.head 3 (n + 1)

  abbrev T' : Tables
  T' = head_put (spare_put (joints_put (keys_put T U) J) Q) H

  head-o : (j : ℕ) → j ≢ 3 → get_or H j 0 ≡ get_or T.head j 0
  head-o j d = get_or-set_other T.head 3 j (n + 1) 0 d

  after : extents T ≡ X → extents T' ≡ with_place X
  after e =
      let k = K.head_length in
      extents-is (head-o 0 (omega arith) ∙ ap (λ (x : Extents). x.slots) e) (head-o 1 (omega arith) ∙ ap (λ (x : Extents). x.islands) e)
      (head-o 2 (omega arith) ∙ ap (λ (x : Extents). x.edges) e)
      (get_or-set_same T.head 3 (n + 1) 0 (omega arith)) (head-o 4 (omega arith) ∙ ap (λ (x : Extents). x.journal) e)

  CJ : Grown Z.joints n X.islands (n + 1) X.islands T.joints J
  CJ = elem-grown Z.joints n X.islands T.joints G.joints_wf l ms

  no-home : (view J 0 (4 * Z.joints)).home n ≡ none
  no-home = elem-home Z.joints n X.islands T.joints G.joints_wf l ms

  CS : Grown Z.joints n 1 (n + 1) 1 T.spare Q1
  CS = elem-grown Z.joints n 1 T.spare G.spare_wf l ms

  not_free : (view Q1 0 (4 * Z.joints)).home n ≡ none
  not_free = elem-home Z.joints n 1 T.spare G.spare_wf l ms

  new-ready : PushReady Q1 0 (4 * Z.joints) 0 n
  new-ready = push_ready Z.joints CS.wf 0 n (omega arith) (omega arith) not_free

  A : Added Z.joints (n + 1) 1 0 n Q1 Q
  A = added Z.joints (n + 1) 1 Q1 CS.wf 0 n (omega arith) (omega arith) not_free

  inside : 8 * n + 7 < length T.keys
  inside = let k = K.keys_length in omega arith

  grow-good : Good Z (with_place X) T'
  grow-good =
      record {
        enough = G.enough;
        slots_le = G.slots_le;
        islands_le = G.islands_le;
        edges_le = G.edges_le;
        joints_le = omega arith;
        journal_le = G.journal_le;
        members_wf = G.members_wf;
        freed_wf = G.freed_wf;
        contacts_wf = G.contacts_wf;
        joints_wf = CJ.wf;
        spare_wf = A.wf;
        scan_wf = G.scan_wf;
        slot = G.slot;
        island = λ i h. island-rule refl refl (CJ.agrees.count i h) refl refl refl refl (G.island i h);
        seen = G.seen;
        edge = G.edge;
        joint = λ k h.
            either k n
            (λ s.
            subst (JointAt Z T') (sym s)
            (inl
            (record {
              not_linked = no-home;
              in_stack = A.view_is.home_e;
              no_kind = word-0 T.keys n none none none none none none none none inside;
              no_a = word-1 T.keys n none none none none none none none none inside;
              no_b = word-2 T.keys n none none none none none none none none inside;
              no_c = word-3 T.keys n none none none none none none none none inside;
              no_slot1 = word-4 T.keys n none none none none none none none none inside;
              no_generation1 = word-5 T.keys n none none none none none none none none inside;
              no_slot2 = word-6 T.keys n none none none none none none none none inside;
              no_generation2 = word-7 T.keys n none none none none none none none none inside;
            })))
            (λ d.
            let m : k < n = omega arith in
            other-rule T.keys n none none none none none none none none k d (CJ.agrees.home k m) (A.view_is.home_o k h d ∙ CS.agrees.home k m) (G.joint k m));
        distinct = λ p q a b c d s.
            (let e : p ≢ n = λ z. c (ap (joints_in Z T').home z ∙ no-home) in
            let f : q ≢ n = λ z. d (ap (joints_in Z T').home z ∙ no-home) in
            let pl : p < n = omega arith in
            let ql : q < n = omega arith in
            G.distinct p q pl ql (λ z. c (CJ.agrees.home p pl ∙ z)) (λ z. d (CJ.agrees.home q ql ∙ z)) (other_keys T.keys n none none none none none none none none p q e f s));
        head = head-rule (head-o 5 (omega arith)) (head-o 6 (omega arith)) (head-o 8 (omega arith)) refl G.head;
      }

  -- the links of an island are those of places in use before
  links : (i : ℕ) → i < X.islands → map (joint_at U) (list_of (view J 0 (4 * Z.joints)) i) ≡ map (joint_at T.keys) (list_of (joints_in Z T) i)
  links i il =
      let R = G.joints_wf.rules in
      ap (map (joint_at U)) (CJ.lists i il)
      ∙ map_same (joint_at U) (joint_at T.keys) (list_of (joints_in Z T) i)
      (λ p h.
      let x = (list_at R i il p (rw (length-list R i il) at h)).lt in
      other-link T.keys n none none none none none none none none (get_or (list_of (joints_in Z T) i) p 0) (omega arith))

  grow-world : decode Z (with_place X) T' ≡ one_place (decode Z X T)
  unfolding one_place
  grow-world =
      world_is refl (tabulate-same X.islands (island_in Z T') (island_in Z T) (λ i h. island-is refl refl (links i h) refl refl refl)) refl refl refl
      (A.list_i ∙ ap (λ (x : List ℕ). x ++ (n ∷ [])) (CS.lists 0 (omega arith)))
      refl
      (rw (head-o 5 (omega arith), head-o 6 (omega arith)))
      (head-o 7 (omega arith))
      (ap flag (head-o 8 (omega arith)))
      refl

  grow-kept : SameBehind Z (with_place X) T T'
  grow-kept =
      let L = larger-refl (with_place X) in
      kept_then L (kept-keys (λ j h. outside T.keys n none none none none none none none none j (inr (omega arith))))
      (kept_then L (kept-joints CJ.kept) (kept_then L (kept-spare (chain-then (omega arith) (omega arith) CS.kept A.kept)) kept-head))

-- ---- the steps
module _ {Z : Sizes} {t t1 t2 t3 t4 : List ℕ} (p : ℕ) (S : Sound Z t) (q : p ≡ (extents (tables Z t)).joints) (l : p < Z.joints) (ms : p < none)
    (A : Put (keys_at Z) (keys_span Z) t t1 (writes (tables Z t).keys (elem_words (8 * p))))
    (B : Put (keys_at Z) (keys_span Z) t1 t2 (writes (tables Z t1).keys (elem_words (8 * p + 4))))
    (C : Put (joints_at Z) (joints_span Z) t2 t3 (writes (tables Z t2).joints (elem_words (4 * p))))
    (D : Put (spare_at Z) (spare_span Z) t3 t4 (writes (tables Z t3).spare (elem_words (4 * p)))) where
  abbrev T : Tables
  T = tables Z t

  abbrev W : Tables
  W = spare_put (joints_put (keys_put T (eight T.keys p none none none none none none none none)) (writes T.joints (elem_words (4 * p)))) (writes T.spare (elem_words (4 * p)))

  h3 : length t3 ≡ total Z
  h3 = C.same_length ∙ B.same_length ∙ A.same_length ∙ S.long

  words : tables Z t4 ≡ W
  words =
      let h1 : length t1 ≡ total Z = A.same_length ∙ S.long in
      let h2 : length t2 ≡ total Z = B.same_length ∙ h1 in
      let e1 = put-keys Z t t1 _ S.long A in
      let e2 = put-keys Z t1 t2 _ h1 B ∙ ap (λ (V1 : Tables). keys_put V1 (writes V1.keys (elem_words (8 * p + 4)))) e1 in
      let e3 = put-joints Z t2 t3 _ h2 C ∙ ap (λ (V1 : Tables). joints_put V1 (writes V1.joints (elem_words (4 * p)))) e2 in
      put-spare Z t3 t4 _ h3 D ∙ ap (λ (V1 : Tables). spare_put V1 (writes V1.spare (elem_words (4 * p)))) e3

  pub place-push_ready : PushReady (tables Z t4).spare 0 (4 * Z.joints) 0 p
  place-push_ready =
      rw (ap (λ (V1 : Tables). V1.spare) words, q) (new-ready Z (extents T) T S.good (sized Z t S.long) (omega arith) (omega arith))

  pub place-grown : {t5 t6 : List ℕ} → Put (spare_at Z) (spare_span Z) t4 t5 (pushed (tables Z t4).spare 0 (4 * Z.joints) 0 p)
      → Put (head_at Z) (head_span Z) t5 t6 (set (tables Z t5).head 3 (p + 1)) → Steps Z grow_place t t6
  unfolding grow_place
  place-grown {t5} {t6} E F =
      let X = extents T in
      let G = S.good in
      let K = sized Z t S.long in
      let h4 : length t4 ≡ total Z = D.same_length ∙ h3 in
      let h5 : length t5 ≡ total Z = E.same_length ∙ h4 in
      let lm : X.joints < Z.joints = omega arith in
      let mm : X.joints < none = omega arith in
      let e5 = put-spare Z t4 t5 _ h4 E ∙ ap (λ (V1 : Tables). spare_put V1 (pushed V1.spare 0 (4 * Z.joints) 0 p)) words in
      let e6 = put-head Z t5 t6 _ h5 F ∙ ap (λ (V1 : Tables). head_put V1 (set V1.head 3 (p + 1))) e5 in
      let e : tables Z t6 ≡ T' Z X T G K lm mm = rw q at e6 in
      steps-at t6 one_place (with_place X) (T' Z X T G K lm mm) e (after Z X T G K lm mm refl) (F.same_length ∙ h5) (grow-good Z X T G K lm mm) (grow-world Z X T G K lm mm)
      (grow-kept Z X T G K lm mm)
      (record { slots = omega arith; islands = omega arith; edges = omega arith; joints = omega arith; journal = omega arith })

-- ---- there is a free place
pub spare-count : {Z : Sizes} {t : List ℕ} → Sound Z t → length (world_of Z t).free_places ≡ (spare_in Z (tables Z t)).count 0
unfolding world_of
spare-count S = length-list S.good.spare_wf.rules 0 (omega arith)

-- there are no more free places than places
pub spare-le : {Z : Sizes} {t : List ℕ} → Sound Z t → (spare_in Z (tables Z t)).count 0 ≤ (extents (tables Z t)).joints
spare-le S = count-le S.good.spare_wf.rules 0 (omega arith)

pub place-now : {Z : Sizes} {t : List ℕ} → Sound Z t → (spare_in Z (tables Z t)).count 0 ≢ 0 → Steps Z place_ready t t
unfolding place_ready place_readied
place-now {Z} {t} S d =
    steps-none place_readied S (let c = spare-count S in rw (empty-no (world_of Z t).free_places (omega arith)))

pub place-made : {Z : Sizes} {t t' : List ℕ} → (spare_in Z (tables Z t)).count 0 ≡ 0 → Sound Z t → Steps Z grow_place t t' → Steps Z place_ready t t'
unfolding place_ready place_readied grow_place one_place
place-made {Z} {t} z S D =
    let c = spare-count S in
    steps-as grow_place place_ready (rw (nil (world_of Z t).free_places (omega arith))) D

-- ---- how many links fit yet, in words
pub joint-room : {Z : Sizes} {t : List ℕ} → Sound Z t → joint_room Z (world_of Z t) ≡ Z.joints - (extents (tables Z t)).joints + (spare_in Z (tables Z t)).count 0
unfolding joint_room
joint-room {Z} {t} S = rw (places_is Z t, spare-count S)

-- what ready_place asks, where there is room
pub room-place : {Z : Sizes} {t : List ℕ} → Sound Z t → joint_room Z (world_of Z t) ≢ 0 → Z.joints ≤ none → (spare_in Z (tables Z t)).count 0 ≡ 0
    → ((extents (tables Z t)).joints < Z.joints) × ((extents (tables Z t)).joints < none)
room-place {Z} {t} S d h z = let e = joint-room S in (omega arith, omega arith)

-- after place_ready there is a free place
pub place-free : {Z : Sizes} {t t' : List ℕ} → Steps Z place_ready t t' → 0 < (spare_in Z (tables Z t')).count 0
unfolding place_ready place_readied
place-free {Z} {t} {t'} D =
    let w = world_of Z t in
    let c = spare-count D.does.sound in
    let e : length (world_of Z t').free_places ≡ length (place_readied w).free_places = ap (λ (v : World). length v.free_places) D.does.after in
    either (length w.free_places) 0
    (λ z. let f : length (place_readied w).free_places ≡ 1 = rw (nil w.free_places z) in omega arith)
    (λ d. let f : length (place_readied w).free_places ≡ length w.free_places = rw (empty-no w.free_places d) in omega arith)

-- and nothing else changed
pub record PlaceReady (Z : Sizes) (t t' : List ℕ) : Type 0 where
  pub some : 0 < (spare_in Z (tables Z t')).count 0
  pub bodies : (world_of Z t').bodies ≡ (world_of Z t).bodies
  pub islands : (world_of Z t').islands ≡ (world_of Z t).islands

readied-same : (w : World) → ((place_readied w).bodies ≡ w.bodies) × ((place_readied w).islands ≡ w.islands)
unfolding place_readied
readied-same w =
    either (length w.free_places) 0 (λ z. rw (empty-yes w.free_places z) (refl, refl)) (λ d. rw (empty-no w.free_places d) (refl, refl))

pub place-is-ready : {Z : Sizes} {t t' : List ℕ} → Steps Z place_ready t t' → PlaceReady Z t t'
unfolding place_ready
place-is-ready {Z} {t} {t'} D =
    let w = world_of Z t in
    let e : world_of Z t' ≡ place_readied w = D.does.after in
    record {
      some = place-free D;
      bodies = ap (λ (v : World). v.bodies) e ∙ (readied-same w).0;
      islands = ap (λ (v : World). v.islands) e ∙ (readied-same w).1;
    }

-- a place made ready, then taken, is the place that link_joint takes
pub ready-push : (i : ℕ) (q : Key) (h1 h2 : Handle) (w : World)
    → joint_push i q h1 h2 (place_readied w) ≡ done (joint_pushed i (record { place = new_place w; key = q; body1 = h1; body2 = h2 }) (take_place w))
unfolding joint_push place_readied new_place take_place
ready-push i q h1 h2 w =
    either (length w.free_places) 0 (λ z. rw (nil w.free_places z)) (λ d. rw (empty-no w.free_places d))
