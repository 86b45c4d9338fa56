-- A joint link goes, by swap removal: its words are blank and its place of the key table is free.
use mathlib.Core.Path.{◌≡◌, refl, sym, ◌∙◌, ap, subst}
use mathlib.Core.Logic.{inl, inr, ◌≢◌, ⊎_elim}
use mathlib.Core.List.{List, [], ◌∷◌, ◌++◌, map}
use Prim.Native.Nat.{ℕ, ◌+◌, ◌*◌, ◌<◌}
use native.Mathlib.Omega.{arith}
use lib.ListN.{length}
use Rattle.list_in_table.specs.Rules.{none, View, Held, list_of}
use Rattle.list_in_table.specs.Word.{writes}
use Rattle.list_in_table.specs.Table.{removed, pushed, PushReady, RemoveReady}
use Rattle.list_in_table.proofs.Laws.{either, held}
use Rattle.list_in_table.proofs.Order.{length-list}
use Rattle.list_in_buffer.specs.Part.{Put}
use Rattle.def_kinds.specs.declared.Sizes.{Sizes}
use Rattle.def_state.specs.Plain.{swap_remove}
use Rattle.def_state.specs.World.{JointLink, absent_joint, Island}
use Rattle.def_state.specs.Fields.{island_set, joints_set}
use Rattle.def_state.specs.Links.{joint_removed}
use Rattle.table_meaning.specs.Layout.{Tables, tables, total, joints_at, joints_span, keys_at, keys_span, spare_at, spare_span, joints_put, keys_put, spare_put, Extents, extents, joints_in, spare_in, elem_words}
use Rattle.table_meaning.specs.Decode.{joint_at, island_in, decode}
use Rattle.table_meaning.specs.Sound.{JointAt, Distinct}
use Rattle.table_meaning.specs.Does.{SameBehind}
use Rattle.table_meaning.proofs.Puts.{Sized, sized, put-joints, put-keys, put-spare}
use Rattle.table_meaning.proofs.Tab.{tabulate-set}
use Rattle.table_meaning.proofs.Chains.{Added, Taken, added, taken, push_ready, remove_ready}
use Rattle.table_meaning.proofs.Frame.{larger-refl, kept_then, kept-joints, kept-keys, kept-spare}
use Rattle.core_laws.specs.Drops.{Stays, ContactsStay}
use Rattle.core_laws.specs.Linking.{joint_remove}
use Rattle.core_laws.specs.Loose.{OpenAt, LooseAt, Loose, Loosely, Peopled, EntryLeft, JointGone}
use Rattle.core_laws.proofs.Good.{island-is, world_is}
use Rattle.core_laws.proofs.Loose.{loose-rule, peopled, moves-at, moved-steps, left-taken}
use Rattle.core_laws.proofs.Names.{island-at}
use Rattle.core_laws.proofs.LastOut.{still}
use Rattle.core_laws.proofs.OneContact.{map-swap}
use Rattle.core_laws.proofs.JointKeys.{link_at}
use Rattle.core_laws.proofs.PlaceWords.{eight, outside, other-link, other-rule, other_keys, word-0, word-1, word-2, word-3, word-4, word-5, word-6, word-7}

module _ (Z : Sizes) (X : Extents) (T : Tables) (G : Loose Z X T) (K : Sized Z T) (p : ℕ) (pl : p < X.joints) (hn : (joints_in Z T).home p ≢ none) where
  abbrev S : View
  S = joints_in Z T

  abbrev i : ℕ
  i = S.home p

  abbrev J : List ℕ
  J = removed T.joints 0 (4 * Z.joints) p

  abbrev U : List ℕ
  U = eight T.keys p none none none none none none none none

  abbrev Q : List ℕ
  Q = pushed T.spare 0 (4 * Z.joints) 0 p

  abbrev T' : Tables
  T' = spare_put (keys_put (joints_put T J) U) Q

  hp : Held X.joints X.islands S p
  hp = held G.joints_wf.rules p pl hn

  il : i < X.islands
  il = hp.home_lt

  P : Taken Z.joints X.joints X.islands p T.joints J
  P = taken Z.joints X.joints X.islands T.joints G.joints_wf p pl hn

  not_free : (spare_in Z T).home p ≡ none
  not_free = ⊎_elim (λ u. absurd (hn u.not_linked)) (λ k. k.not_spare) (G.joint p pl)

  free-ready : PushReady T.spare 0 (4 * Z.joints) 0 p
  free-ready = push_ready Z.joints G.spare_wf 0 p (omega arith) pl not_free

  A : Added Z.joints X.joints 1 0 p T.spare Q
  A = added Z.joints X.joints 1 T.spare G.spare_wf 0 p (omega arith) pl not_free

  inside : 8 * p + 7 < length T.keys
  inside = let k = K.keys_length in let l = G.joints_le in omega arith

  take-distinct : Distinct (joints_in Z T').home U X.joints
  take-distinct a b al bl ha hb s =
      let da : a ≢ p = λ r. ha (ap (joints_in Z T').home r ∙ P.home_e) in
      let db : b ≢ p = λ r. hb (ap (joints_in Z T').home r ∙ P.home_e) in
      G.distinct a b al bl (λ z. ha (P.home_o a al da ∙ z)) (λ z. hb (P.home_o b bl db ∙ z)) (other_keys T.keys p none none none none none none none none a b da db s)

  take-loose : Loose Z X T'
  take-loose =
      record {
        enough = G.enough;
        slots_le = G.slots_le;
        islands_le = G.islands_le;
        edges_le = G.edges_le;
        joints_le = G.joints_le;
        journal_le = G.journal_le;
        members_wf = G.members_wf;
        freed_wf = G.freed_wf;
        contacts_wf = G.contacts_wf;
        joints_wf = P.wf;
        spare_wf = A.wf;
        scan_wf = G.scan_wf;
        slot = G.slot;
        island = λ j h.
            either j i
            (λ s. subst (LooseAt Z T') (sym s) (⊎_elim (λ (o : OpenAt Z T i). inl o) (λ f. absurd (let z = f.no_joint in let y = hp.place_lt in omega arith)) (G.island i il)))
            (λ d. loose-rule refl refl (P.count_o j h d) refl refl refl refl (G.island j h));
        seen = G.seen;
        edge = G.edge;
        joint = λ k h.
            either k p
            (λ s.
            subst (JointAt Z T') (sym s)
            (inl
            (record {
              not_linked = P.home_e;
              in_stack = A.view_is.home_e;
              no_kind = word-0 T.keys p none none none none none none none none inside;
              no_a = word-1 T.keys p none none none none none none none none inside;
              no_b = word-2 T.keys p none none none none none none none none inside;
              no_c = word-3 T.keys p none none none none none none none none inside;
              no_slot1 = word-4 T.keys p none none none none none none none none inside;
              no_generation1 = word-5 T.keys p none none none none none none none none inside;
              no_slot2 = word-6 T.keys p none none none none none none none none inside;
              no_generation2 = word-7 T.keys p none none none none none none none none inside;
            })))
            (λ d. other-rule T.keys p none none none none none none none none k d (P.home_o k h d) (A.view_is.home_o k h d) (G.joint k h));
        distinct = take-distinct;
        head = G.head;
      }

  abbrev f : ℕ → JointLink
  f = joint_at U

  abbrev g : ℕ → JointLink
  g = joint_at T.keys

  same : (j : ℕ) → j < X.islands → map f (list_of (joints_in Z T') j) ≡ map g (list_of (joints_in Z T') j)
  same = still P.wf.rules p P.home_e f g (λ k d. other-link T.keys p none none none none none none none none k d)

  size : length (list_of S i) ≡ S.count i
  size = length-list G.joints_wf.rules i il

  take-world : decode Z X T' ≡ joint_removed i (S.place p) (decode Z X T)
  unfolding joint_removed island_set
  take-world =
      let h = hp.place_lt in
      let s = size in
      world_is refl
      (tabulate-set X.islands i (island_in Z T') (island_in Z T) _
      (island-is refl refl (same i il ∙ ap (map g) P.list_e ∙ map-swap g absent_joint (list_of S i) (S.place p) (omega arith)) refl refl refl
      ∙ ap (λ (a : Island). joints_set a (swap_remove absent_joint a.joint_links (S.place p))) (sym (island-at Z X T i il)))
      (λ j jl d. island-is refl refl (same j jl ∙ ap (map g) (P.list_o j jl d)) refl refl refl))
      refl refl refl (A.list_i ∙ ap (λ (l : JointLink). list_of (spare_in Z T) 0 ++ (l.place ∷ [])) (sym (link_at Z X T G p pl hn))) refl refl refl refl refl

  take-kept : SameBehind Z X T T'
  take-kept =
      kept_then (larger-refl X) (kept-joints P.kept)
      (kept_then (larger-refl X) (kept-keys (λ j h. outside T.keys p none none none none none none none none j (inr (omega arith)))) (kept-spare A.kept))

-- ---- the step
module _ {Z : Sizes} {t : List ℕ} (p : ℕ) (S : Loosely Z t) (pl : p < (extents (tables Z t)).joints) (hn : (joints_in Z (tables Z t)).home p ≢ none) where
  -- what the stores ask
  pub take-ready : RemoveReady (tables Z t).joints 0 (4 * Z.joints) p
  take-ready = remove_ready Z.joints S.loose.joints_wf p pl hn

  pub spare-ready : {t1 t2 t3 y1 y2 y3 : List ℕ} → Put (joints_at Z) (joints_span Z) t t1 y1 → Put (keys_at Z) (keys_span Z) t1 t2 y2 → Put (keys_at Z) (keys_span Z) t2 t3 y3
      → PushReady (tables Z t3).spare 0 (4 * Z.joints) 0 p
  spare-ready {t1} {t2} {t3} A B C =
      let T = tables Z t in
      let h1 : length t1 ≡ total Z = A.same_length ∙ S.long in
      let h2 : length t2 ≡ total Z = B.same_length ∙ h1 in
      let e : (tables Z t3).spare ≡ T.spare =
      ap (λ (W : Tables). W.spare) (put-keys Z t2 t3 _ h2 C) ∙ ap (λ (W : Tables). W.spare) (put-keys Z t1 t2 _ h1 B) ∙ ap (λ (W : Tables). W.spare) (put-joints Z t t1 _ S.long A) in
      rw e (free-ready Z (extents T) T S.loose (sized Z t S.long) p pl hn)

  module _ {t1 t2 t3 t4 : List ℕ} (A : Put (joints_at Z) (joints_span Z) t t1 (removed (tables Z t).joints 0 (4 * Z.joints) p))
      (B : Put (keys_at Z) (keys_span Z) t1 t2 (writes (tables Z t1).keys (elem_words (8 * p))))
      (C : Put (keys_at Z) (keys_span Z) t2 t3 (writes (tables Z t2).keys (elem_words (8 * p + 4))))
      (D : Put (spare_at Z) (spare_span Z) t3 t4 (pushed (tables Z t3).spare 0 (4 * Z.joints) 0 p)) where
    h3 : length t3 ≡ total Z
    h3 = C.same_length ∙ B.same_length ∙ A.same_length ∙ S.long

    out : tables Z t4 ≡ T' Z (extents (tables Z t)) (tables Z t) S.loose (sized Z t S.long) p pl hn
    out =
        let h1 : length t1 ≡ total Z = A.same_length ∙ S.long in
        let h2 : length t2 ≡ total Z = B.same_length ∙ h1 in
        let e1 = put-joints Z t t1 _ S.long A in
        let e2 = put-keys Z t1 t2 _ h1 B ∙ ap (λ (W : Tables). keys_put W (writes W.keys (elem_words (8 * p)))) e1 in
        let e3 = put-keys Z t2 t3 _ h2 C ∙ ap (λ (W : Tables). keys_put W (writes W.keys (elem_words (8 * p + 4)))) e2 in
        put-spare Z t3 t4 _ h3 D ∙ ap (λ (W : Tables). spare_put W (pushed W.spare 0 (4 * Z.joints) 0 p)) e3

    pub joint-gone : JointGone Z p t t4
    unfolding joint_remove
    joint-gone =
        let T = tables Z t in
        let X = extents T in
        let G = S.loose in
        let K = sized Z t S.long in
        let i = (joints_in Z T).home p in
        let r = out in
        let M =
        moves-at t4 (joint_removed i ((joints_in Z T).place p)) X _ r refl (D.same_length ∙ h3) (take-loose Z X T G K p pl hn) (take-world Z X T G K p pl hn)
        (take-kept Z X T G K p pl hn)
        (larger-refl X) in
        let stays : Stays T (tables Z t4) = subst (Stays T) (sym r) (record { head = refl; slots = refl; members = refl; rows = refl; freed = refl; journal = refl; scan = refl; fit = refl }) in
        let contacts : ContactsStay T (tables Z t4) = subst (ContactsStay T) (sym r) (record { contacts = refl; touches = refl }) in
        record {
          moves = M;
          taken = λ U.
              record {
                steps = moved-steps (joint_removed i ((joints_in Z T).place p)) M (subst (λ (W : Tables). Peopled Z (extents W) W) (sym r) (peopled U.good));
                fewer = subst (λ (W : Tables). (joints_in Z W).count i + 1 ≡ (joints_in Z T).count i) (sym r) (P Z X T G K p pl hn).count_i;
                stays = stays;
                contacts = contacts;
              };
          stays = stays;
          contacts = contacts;
          left =
              subst (λ (W : Tables). EntryLeft (joints_in Z T) (joints_in Z W) i ((joints_in Z T).place p)) (sym r)
              (left-taken Z.joints X.joints X.islands p T.joints (J Z X T G K p pl hn) G.joints_wf pl hn (P Z X T G K p pl hn));
        }
