-- A joint link goes to another island; its place of the key table stays its own.
use mathlib.Core.Path.{◌≡◌, refl, sym, ◌∙◌, ap, subst}
use mathlib.Core.Logic.{inl, inr, ◌≢◌, ⊎_elim}
use mathlib.Core.List.{List, [], ◌∷◌, ◌++◌, map, map-append}
use Prim.Native.Nat.{ℕ, ◌+◌, ◌*◌, ◌<◌}
use native.Mathlib.Omega.{arith}
use lib.ListN.{length, get_or}
use lib.Seq.{get_or-set_other}
use Rattle.list_in_table.specs.Rules.{none, View, Held, list_of}
use Rattle.list_in_table.specs.Table.{removed, pushed, PushReady, RemoveReady}
use Rattle.list_in_table.proofs.Laws.{either, held}
use Rattle.list_in_table.proofs.Order.{length-list}
use Rattle.list_in_buffer.specs.Part.{Put}
use Rattle.def_kinds.specs.declared.Sizes.{Sizes}
use Rattle.def_state.specs.Plain.{swap_remove}
use Rattle.def_state.specs.World.{JointLink, absent_joint, Island, absent_island, World, island_at}
use Rattle.def_state.specs.Fields.{island_set, joints_set}
use Rattle.def_state.specs.Links.{joint_pushed}
use Rattle.def_state.specs.Split.{joint_moved}
use Rattle.table_meaning.specs.Layout.{Tables, tables, total, joints_at, joints_span, joints_put, Extents, extents, joints_in, spare_in}
use Rattle.table_meaning.specs.Decode.{joint_at, island_in, decode}
use Rattle.table_meaning.specs.Rule.{JointRule, Keyed}
use Rattle.table_meaning.specs.Sound.{JointAt}
use Rattle.table_meaning.proofs.Puts.{put-joints}
use Rattle.table_meaning.proofs.Chains.{remove_ready}
use Rattle.table_meaning.proofs.Tab.{tabulate-two}
use Rattle.table_meaning.proofs.Frame.{larger-refl, kept-joints}
use Rattle.core_laws.specs.Drops.{Stays, ContactsStay}
use Rattle.core_laws.specs.Loose.{OpenAt, LooseAt, Loose, EntryLeft}
use Rattle.core_laws.proofs.Good.{island-is, world_is}
use Rattle.core_laws.proofs.Loose.{loose-rule, moves-at}
use Rattle.core_laws.proofs.Names.{island-at}
use Rattle.core_laws.proofs.JointKeys.{link_at}
use Rattle.core_laws.proofs.OneContact.{map-swap}
use Rattle.split_move.specs.Shift.{JointGoes, JointMoved}
use Rattle.split_move.proofs.Shift.{Shifted, shifted, shift-ready}

joint-rule : {h h' s k a b c s1 g1 s2 g2 : ℕ} → h ≡ h' → JointRule h' s k a b c s1 g1 s2 g2 → JointRule h s k a b c s1 g1 s2 g2
joint-rule p x = rw p x

module _ (Z : Sizes) (X : Extents) (T : Tables) (G : Loose Z X T) (p to : ℕ) (pl : p < X.joints) (ph : (joints_in Z T).home p ≢ none) (tl : to < X.islands) (o : OpenAt Z T to)
    (away : to ≢ (joints_in Z T).home p) where
  abbrev S : View
  S = joints_in Z T

  abbrev b : ℕ
  b = S.home p

  abbrev J : List ℕ
  J = pushed (removed T.joints 0 (4 * Z.joints) p) 0 (4 * Z.joints) to p

  abbrev T' : Tables
  T' = joints_put T J

  H : Held X.joints X.islands S p
  H = held G.joints_wf.rules p pl ph

  bl : b < X.islands
  bl = H.home_lt

  pub go-ready : PushReady (removed T.joints 0 (4 * Z.joints) p) 0 (4 * Z.joints) to p
  go-ready = shift-ready Z.joints X.joints X.islands to p T.joints G.joints_wf pl ph tl away bl

  D : Shifted Z.joints X.joints X.islands to p T.joints J
  D = shifted Z.joints X.joints X.islands to p T.joints G.joints_wf pl ph tl away bl

  base_open : OpenAt Z T b
  base_open = ⊎_elim (λ (x : OpenAt Z T b). x) (λ x. absurd (let l = H.place_lt in let c = x.no_joint in omega arith)) (G.island b bl)

  linked-now : (joints_in Z T').home p ≢ none
  linked-now q = let c = D.home_e in let m = G.joints_wf.rules.m_small in omega arith

  was-linked : (x : ℕ) → x < X.joints → (joints_in Z T').home x ≢ none → S.home x ≢ none
  was-linked x l h = either x p (λ q. subst (λ (y : ℕ). S.home y ≢ none) (sym q) ph) (λ d e. h (D.home_o x l d ∙ e))

  go-loose : Loose Z X T'
  go-loose =
      record {
        enough = G.enough;
        slots_le = G.slots_le;
        islands_le = G.islands_le;
        edges_le = G.edges_le;
        joints_le = G.joints_le;
        journal_le = G.journal_le;
        members_wf = G.members_wf;
        freed_wf = G.freed_wf;
        contacts_wf = G.contacts_wf;
        joints_wf = D.wf;
        spare_wf = G.spare_wf;
        scan_wf = G.scan_wf;
        slot = G.slot;
        island = λ j h.
            either j b (λ s. subst (LooseAt Z T') (sym s) (inl base_open))
            (λ d.
            either j to (λ s. subst (LooseAt Z T') (sym s) (inl o)) (λ d2. loose-rule refl refl (D.count_o j h d d2) refl refl refl refl (G.island j h)));
        seen = G.seen;
        edge = G.edge;
        joint = λ k h.
            either k p
            (λ s.
            subst (JointAt Z T') (sym s)
            (⊎_elim (λ u. absurd (ph u.not_linked))
            (λ (x : Keyed (S.home p) ((spare_in Z T).home p) (get_or T.keys (8 * p) 0) (get_or T.keys (8 * p + 3) 0)).
            inr (record { linked = linked-now; not_spare = x.not_spare; key = x.key }))
            (G.joint p pl)))
            (λ d. joint-rule (D.home_o k h d) (G.joint k h));
        distinct = λ x y a c d e k. G.distinct x y a c (was-linked x a d) (was-linked y c e) k;
        head = G.head;
      }

  abbrev g : ℕ → JointLink
  g = joint_at T.keys

  abbrev w : World
  w = decode Z X T

  size : length (list_of S b) ≡ S.count b
  size = length-list G.joints_wf.rules b bl

  abbrev v : World
  v = island_set w b (joints_set (island_at w b) (swap_remove absent_joint (island_at w b).joint_links (S.place p)))

  at-to : island_at v to ≡ island_in Z T to
  unfolding island_set
  at-to = get_or-set_other w.islands b to _ absent_island away ∙ island-at Z X T to tl

  go-world : decode Z X T' ≡ joint_moved b to (S.place p) w
  unfolding joint_moved joint_pushed island_set
  go-world =
      let h = H.place_lt in
      let s = size in
      world_is refl
      (tabulate-two X.islands b to (island_in Z T') (island_in Z T) _ _
      (island-is refl refl (ap (map g) D.list_b ∙ map-swap g absent_joint (list_of S b) (S.place p) (omega arith)) refl refl refl
      ∙ ap (λ (a : Island). joints_set a (swap_remove absent_joint a.joint_links (S.place p))) (sym (island-at Z X T b bl)))
      (island-is refl refl (ap (map g) D.list_t ∙ map-append g (list_of S to) (p ∷ [])) refl refl refl
      ∙ ap (λ (l : JointLink). joints_set (island_in Z T to) ((island_in Z T to).joint_links ++ (l ∷ []))) (sym (link_at Z X T G p pl ph))
      ∙ ap (λ (a : Island). joints_set a (a.joint_links ++ (get_or (island_at w b).joint_links (S.place p) absent_joint ∷ []))) (sym at-to))
      (λ j jl d1 d2. island-is refl refl (ap (map g) (D.list_o j jl d1 d2)) refl refl refl))
      refl refl refl refl refl refl refl refl refl

-- ---- the step
pub joint-goes-first : {Z : Sizes} {t : List ℕ} (to p : ℕ) → JointGoes Z to t p → RemoveReady (tables Z t).joints 0 (4 * Z.joints) p
joint-goes-first {Z} to p R = remove_ready Z.joints R.loose.loose.joints_wf p R.place_lt R.linked

pub joint-goes-then : {Z : Sizes} {t t1 : List ℕ} (to p : ℕ) → JointGoes Z to t p → Put (joints_at Z) (joints_span Z) t t1 (removed (tables Z t).joints 0 (4 * Z.joints) p)
    → PushReady (tables Z t1).joints 0 (4 * Z.joints) to p
joint-goes-then {Z} {t} {t1} to p R A =
    let q : (tables Z t1).joints ≡ removed (tables Z t).joints 0 (4 * Z.joints) p = ap (λ (W : Tables). W.joints) (put-joints Z t t1 _ R.loose.long A) in
    rw q (go-ready Z (extents (tables Z t)) (tables Z t) R.loose.loose p to R.place_lt R.linked R.to_lt R.to_open R.away)

pub joint-went : {Z : Sizes} {t t1 t2 : List ℕ} (to p : ℕ) → JointGoes Z to t p → Put (joints_at Z) (joints_span Z) t t1 (removed (tables Z t).joints 0 (4 * Z.joints) p)
    → Put (joints_at Z) (joints_span Z) t1 t2 (pushed (tables Z t1).joints 0 (4 * Z.joints) to p) → JointMoved Z to t t2 p
joint-went {Z} {t} {t1} {t2} to p R A B =
    let T = tables Z t in
    let X = extents T in
    let G = R.loose.loose in
    let h1 : length t1 ≡ total Z = A.same_length ∙ R.loose.long in
    let r : tables Z t2 ≡ T' Z X T G p to R.place_lt R.linked R.to_lt R.to_open R.away =
    put-joints Z t1 t2 _ h1 B ∙ ap (λ (W : Tables). joints_put W (pushed W.joints 0 (4 * Z.joints) to p)) (put-joints Z t t1 _ R.loose.long A) in
    let E = D Z X T G p to R.place_lt R.linked R.to_lt R.to_open R.away in
    record {
      moves =
          moves-at t2 (joint_moved ((joints_in Z T).home p) to ((joints_in Z T).place p)) X _ r refl (B.same_length ∙ h1)
          (go-loose Z X T G p to R.place_lt R.linked R.to_lt R.to_open R.away)
          (go-world Z X T G p to R.place_lt R.linked R.to_lt R.to_open R.away)
          (kept-joints E.kept)
          (larger-refl X);
      stays = subst (Stays T) (sym r) (record { head = refl; slots = refl; members = refl; rows = refl; freed = refl; journal = refl; scan = refl; fit = refl });
      contacts = subst (ContactsStay T) (sym r) (record { contacts = refl; touches = refl });
      left = subst (λ (W : Tables). EntryLeft (joints_in Z T) (joints_in Z W) ((joints_in Z T).home p) ((joints_in Z T).place p)) (sym r) E.left;
    }
