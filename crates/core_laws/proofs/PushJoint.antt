-- The last freed place of the key table takes a link, the last joint link of a live island. Its key is new.
use mathlib.Core.Path.{◌≡◌, refl, sym, ◌∙◌, ap, subst}
use mathlib.Core.Logic.{inl, inr, ◌≢◌, ⊎_elim}
use mathlib.Core.List.{List, [], ◌∷◌, ◌++◌, map, map-append}
use Prim.Native.Nat.{ℕ, ◌+◌, ◌*◌, ◌<◌}
use native.Mathlib.Omega.{arith}
use lib.ListN.{length}
use Rattle.list_in_table.specs.Rules.{none, list_of}
use Rattle.list_in_table.specs.Word.{writes}
use Rattle.list_in_table.specs.Table.{view, removed, pushed, PushReady}
use Rattle.list_in_table.proofs.Laws.{either}
use Rattle.list_in_buffer.specs.Part.{Put}
use Rattle.def_kinds.specs.declared.Sizes.{Sizes}
use Rattle.def_state.specs.Plain.{top, drop_last, last_of}
use Rattle.def_state.specs.World.{JointLink, Island}
use Rattle.def_state.specs.Fields.{places_set, island_set, joints_set}
use Rattle.def_state.specs.Links.{joint_pushed}
use Rattle.table_meaning.specs.Layout.{Tables, tables, total, joints_at, joints_span, keys_at, keys_span, spare_at, spare_span, joints_put, keys_put, spare_put, Extents, extents, members_in, joints_in, spare_in}
use Rattle.table_meaning.specs.Decode.{key_of, joint_at, island_in, decode}
use Rattle.table_meaning.specs.Sound.{JointAt, IslandAt, SameKey, Distinct, Good, Sound}
use Rattle.table_meaning.specs.Does.{SameBehind}
use Rattle.table_meaning.proofs.Puts.{Sized, sized, put-joints, put-keys, put-spare}
use Rattle.table_meaning.proofs.Tab.{tabulate-set}
use Rattle.table_meaning.proofs.Chains.{Added, added, push_ready}
use Rattle.table_meaning.proofs.Frame.{larger-refl, kept_then, kept-joints, kept-keys, kept-spare}
use Rattle.core_laws.specs.Steps.{handle, Steps}
use Rattle.core_laws.specs.Linking.{joint_push}
use Rattle.core_laws.specs.Places.{KeyRule, LinkedAs, Unlinked}
use Rattle.core_laws.proofs.Good.{island-is, world_is, island-rule}
use Rattle.core_laws.proofs.At.{steps-at}
use Rattle.core_laws.proofs.Names.{island-at}
use Rattle.core_laws.proofs.LastOut.{drop-snoc, last_snoc, Popped, LastIn, last-in, popped, still}
use Rattle.core_laws.proofs.PlaceWords.{four_words, eight, outside, first, other, other-link, other-rule, other_keys, here-link, word-0, word-1, word-2, word-3}

module _ (Z : Sizes) (X : Extents) (T : Tables) (G : Good Z X T) (p : ℕ) (c0 : 0 < (spare_in Z T).count 0) (q : p ≡ (spare_in Z T).last 0) where
  abbrev Q : List ℕ
  Q = removed T.spare 0 (4 * Z.joints) p

  P : Popped Z.joints X.joints 1 0 p T.spare Q
  P = popped Z.joints X.joints 1 T.spare G.spare_wf 0 p (omega arith) c0 q

  L : LastIn Z.joints X.joints 0 p T.spare
  L = last-in Z.joints X.joints 1 T.spare G.spare_wf 0 p (omega arith) c0 q

  -- it is linked nowhere
  blank : (joints_in Z T).home p ≡ none
  blank = ⊎_elim (λ u. u.not_linked) (λ k. absurd (L.held k.not_spare)) (G.joint p L.elem_lt)

  rest : list_of (view Q 0 (4 * Z.joints)) 0 ≡ drop_last (list_of (spare_in Z T) 0)
  rest = sym (drop-snoc (list_of (view Q 0 (4 * Z.joints)) 0) p) ∙ ap drop_last (sym P.list_i)

  number : last_of top (list_of (spare_in Z T) 0) ≡ p
  number = ap (last_of top) P.list_i ∙ last_snoc top (list_of (view Q 0 (4 * Z.joints)) 0) p

  module _ (i : ℕ) (il : i < X.islands) where
    abbrev J : List ℕ
    J = pushed T.joints 0 (4 * Z.joints) i p

    A : Added Z.joints X.joints X.islands i p T.joints J
    A = added Z.joints X.joints X.islands T.joints G.joints_wf i p il L.elem_lt blank

    link-ready : PushReady T.joints 0 (4 * Z.joints) i p
    link-ready = push_ready Z.joints G.joints_wf i p il L.elem_lt blank

    module _ (K : Sized Z T) (live : 0 < (members_in Z T).count i) (kind a b c s1 g1 s2 g2 : ℕ) (r : KeyRule kind c) (new : (x : ℕ) → x < X.joints → LinkedAs Z T kind a b c x → ⊥) where
      abbrev U : List ℕ
      U = eight T.keys p kind a b c s1 g1 s2 g2

      abbrev T' : Tables
      T' = keys_put (joints_put (spare_put T Q) J) U

      inside : 8 * p + 7 < length T.keys
      inside = let k = K.keys_length in let l = L.room_lt in omega arith

      -- another linked place was linked before, so its key is another
      differs : (x : ℕ) → x < X.joints → x ≢ p → (joints_in Z T').home x ≢ none → SameKey U x p → ⊥
      differs x xl d h s =
          let first-x = first T.keys p kind a b c s1 g1 s2 g2 x d in
          let other-x = other T.keys p kind a b c s1 g1 s2 g2 x d in
          new x xl
          (record {
            linked = λ z. h (A.view_is.home_o x xl d ∙ z);
            key =
                record {
                  kind_is = sym first-x ∙ s.kind ∙ word-0 T.keys p kind a b c s1 g1 s2 g2 inside;
                  a_is = sym (other-x 1 (omega arith)) ∙ s.a ∙ word-1 T.keys p kind a b c s1 g1 s2 g2 inside;
                  b_is = sym (other-x 2 (omega arith)) ∙ s.b ∙ word-2 T.keys p kind a b c s1 g1 s2 g2 inside;
                  c_is = sym (other-x 3 (omega arith)) ∙ s.c ∙ word-3 T.keys p kind a b c s1 g1 s2 g2 inside;
                };
          })

      push-distinct : Distinct (joints_in Z T').home U X.joints
      push-distinct x y xl yl hx hy s =
          either x p
          (λ e.
          either y p (λ d. e ∙ sym d)
          (λ d.
          let u : SameKey U y x = record { kind = sym s.kind; a = sym s.a; b = sym s.b; c = sym s.c } in
          absurd (differs y yl d hy (rw e at u))))
          (λ e.
          either y p (λ d. absurd (differs x xl e hx (rw d at s)))
          (λ d.
          G.distinct x y xl yl (λ z. hx (A.view_is.home_o x xl e ∙ z)) (λ z. hy (A.view_is.home_o y yl d ∙ z)) (other_keys T.keys p kind a b c s1 g1 s2 g2 x y e d s)))

      push-good : Good Z X T'
      push-good =
          record {
            enough = G.enough;
            slots_le = G.slots_le;
            islands_le = G.islands_le;
            edges_le = G.edges_le;
            joints_le = G.joints_le;
            journal_le = G.journal_le;
            members_wf = G.members_wf;
            freed_wf = G.freed_wf;
            contacts_wf = G.contacts_wf;
            joints_wf = A.wf;
            spare_wf = P.wf;
            scan_wf = G.scan_wf;
            slot = G.slot;
            island = λ j h.
                either j i (λ s. subst (IslandAt Z T') (sym s) (⊎_elim inl (λ f. absurd (let z = f.no_body in omega arith)) (G.island i il)))
                (λ d. island-rule refl refl (A.view_is.count_o j h d) refl refl refl refl (G.island j h));
            seen = G.seen;
            edge = G.edge;
            joint = λ k h.
                either k p
                (λ s.
                subst (JointAt Z T') (sym s)
                (inr
                (record {
                  linked = (let e = A.view_is.home_e in let m = G.joints_wf.rules.m_small in omega arith);
                  not_spare = P.home_e;
                  key = rw (word-0 T.keys p kind a b c s1 g1 s2 g2 inside, word-3 T.keys p kind a b c s1 g1 s2 g2 inside) r;
                })))
                (λ d. other-rule T.keys p kind a b c s1 g1 s2 g2 k d (A.view_is.home_o k h d) (P.home_o k h d) (G.joint k h));
            distinct = push-distinct;
            head = G.head;
          }

      abbrev f : ℕ → JointLink
      f = joint_at U

      abbrev g : ℕ → JointLink
      g = joint_at T.keys

      same : (j : ℕ) → j < X.islands → map f (list_of (joints_in Z T) j) ≡ map g (list_of (joints_in Z T) j)
      same = still G.joints_wf.rules p blank f g (λ k d. other-link T.keys p kind a b c s1 g1 s2 g2 k d)

      abbrev l : ℕ → JointLink
      l k = record { place = k; key = key_of kind a b c; body1 = handle s1 g1; body2 = handle s2 g2 }

      push-world : decode Z X T'
          ≡ joint_pushed i (l (last_of top (list_of (spare_in Z T) 0))) (places_set (decode Z X T) X.joints (drop_last (list_of (spare_in Z T) 0)))
      unfolding joint_pushed island_set
      push-world =
          let xs = list_of (joints_in Z T) i in
          world_is refl
          (tabulate-set X.islands i (island_in Z T') (island_in Z T) _
          (island-is refl refl
          (ap (map f) A.list_i ∙ map-append f xs (p ∷ []) ∙ ap (λ (ls : List JointLink). ls ++ (f p ∷ [])) (same i il)
          ∙ ap (λ (x : JointLink). map g xs ++ (x ∷ [])) (here-link T.keys p kind a b c s1 g1 s2 g2 inside ∙ ap l (sym number)))
          refl refl refl
          ∙ ap (λ (x : Island). joints_set x (x.joint_links ++ (l (last_of top (list_of (spare_in Z T) 0)) ∷ []))) (sym (island-at Z X T i il)))
          (λ j jl d. island-is refl refl (ap (map f) (A.list_o j jl d) ∙ same j jl) refl refl refl))
          refl refl refl rest refl refl refl refl refl

      push_kept : SameBehind Z X T T'
      push_kept =
          kept_then (larger-refl X) (kept-spare P.kept)
          (kept_then (larger-refl X) (kept-joints A.kept) (kept-keys (λ j h. (let e = L.elem_lt in outside T.keys p kind a b c s1 g1 s2 g2 j (inr (omega arith))))))

-- ---- the step
module _ {Z : Sizes} {t : List ℕ} (p : ℕ) (S : Sound Z t) (n : 0 < (spare_in Z (tables Z t)).count 0) (q : p ≡ (spare_in Z (tables Z t)).last 0) where
  -- what the stores ask
  pub spare-last : LastIn Z.joints (extents (tables Z t)).joints 0 p (tables Z t).spare
  spare-last = L Z (extents (tables Z t)) (tables Z t) S.good p n q

  pub push-joint-ready : {t1 ys : List ℕ} (i : ℕ) → i < (extents (tables Z t)).islands → Put (spare_at Z) (spare_span Z) t t1 ys → PushReady (tables Z t1).joints 0 (4 * Z.joints) i p
  push-joint-ready {t1} i il A =
      rw (ap (λ (W : Tables). W.joints) (put-spare Z t t1 _ S.long A)) (link-ready Z (extents (tables Z t)) (tables Z t) S.good p n q i il)

  pub joint-is-pushed : {t1 t2 t3 t4 : List ℕ} (i kind a b c s1 g1 s2 g2 : ℕ) → i < (extents (tables Z t)).islands → 0 < (members_in Z (tables Z t)).count i → KeyRule kind c
      → Unlinked Z (tables Z t) kind a b c
      → Put (spare_at Z) (spare_span Z) t t1 (removed (tables Z t).spare 0 (4 * Z.joints) p)
      → Put (joints_at Z) (joints_span Z) t1 t2 (pushed (tables Z t1).joints 0 (4 * Z.joints) i p)
      → Put (keys_at Z) (keys_span Z) t2 t3 (writes (tables Z t2).keys (four_words (8 * p) kind a b c))
      → Put (keys_at Z) (keys_span Z) t3 t4 (writes (tables Z t3).keys (four_words (8 * p + 4) s1 g1 s2 g2))
      → Steps Z (joint_push i (key_of kind a b c) (handle s1 g1) (handle s2 g2)) t t4
  unfolding joint_push
  joint-is-pushed {t1} {t2} {t3} {t4} i kind a b c s1 g1 s2 g2 il live r new A B C D =
      let T = tables Z t in
      let X = extents T in
      let G = S.good in
      let K = sized Z t S.long in
      let h1 : length t1 ≡ total Z = A.same_length ∙ S.long in
      let h2 : length t2 ≡ total Z = B.same_length ∙ h1 in
      let h3 : length t3 ≡ total Z = C.same_length ∙ h2 in
      let e1 = put-spare Z t t1 _ S.long A in
      let e2 = put-joints Z t1 t2 _ h1 B ∙ ap (λ (W : Tables). joints_put W (pushed W.joints 0 (4 * Z.joints) i p)) e1 in
      let e3 = put-keys Z t2 t3 _ h2 C ∙ ap (λ (W : Tables). keys_put W (writes W.keys (four_words (8 * p) kind a b c))) e2 in
      let e4 = put-keys Z t3 t4 _ h3 D ∙ ap (λ (W : Tables). keys_put W (writes W.keys (four_words (8 * p + 4) s1 g1 s2 g2))) e3 in
      steps-at t4
      (λ w.
      joint_pushed i (record { place = last_of top w.free_places; key = key_of kind a b c; body1 = handle s1 g1; body2 = handle s2 g2 })
      (places_set w w.joint_places (drop_last w.free_places)))
      X _ e4 refl (D.same_length ∙ h3)
      (push-good Z X T G p n q i il K live kind a b c s1 g1 s2 g2 r new)
      (push-world Z X T G p n q i il K live kind a b c s1 g1 s2 g2 r new)
      (push_kept Z X T G p n q i il K live kind a b c s1 g1 s2 g2 r new)
      (larger-refl X)
