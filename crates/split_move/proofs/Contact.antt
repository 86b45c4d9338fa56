-- A contact link goes to another island.
use mathlib.Core.Path.{◌≡◌, refl, sym, ◌∙◌, ap, subst}
use mathlib.Core.Logic.{inl, inr, ◌≢◌, ⊎_elim}
use mathlib.Core.List.{List, [], ◌∷◌, ◌++◌, map, map-append}
use Prim.Native.Nat.{ℕ, ◌*◌, ◌<◌}
use native.Mathlib.Omega.{arith}
use lib.ListN.{length, get_or}
use lib.Seq.{get_or-set_other}
use Rattle.list_in_table.specs.Rules.{none, View, Held, list_of}
use Rattle.list_in_table.specs.Table.{removed, pushed, PushReady, RemoveReady}
use Rattle.list_in_table.proofs.Laws.{either, held}
use Rattle.list_in_table.proofs.Order.{length-list}
use Rattle.list_in_buffer.specs.Part.{Put}
use Rattle.def_kinds.specs.declared.Sizes.{Sizes}
use Rattle.def_state.specs.Plain.{swap_remove}
use Rattle.def_state.specs.World.{ContactLink, absent_contact, Island, absent_island, World, island_at}
use Rattle.def_state.specs.Fields.{island_set, contacts_set}
use Rattle.def_state.specs.Links.{contact_pushed, contact_removed}
use Rattle.table_meaning.specs.Layout.{Tables, tables, total, contacts_at, contacts_span, contacts_put, Extents, extents, contacts_in}
use Rattle.table_meaning.specs.Decode.{contact_at, island_in, decode}
use Rattle.table_meaning.proofs.Puts.{put-contacts}
use Rattle.table_meaning.proofs.Chains.{remove_ready}
use Rattle.table_meaning.proofs.Tab.{tabulate-two}
use Rattle.table_meaning.proofs.Frame.{larger-refl, kept-contacts}
use Rattle.core_laws.specs.Drops.{Stays, JointsStay}
use Rattle.core_laws.specs.Loose.{OpenAt, LooseAt, Loose, EntryLeft}
use Rattle.core_laws.proofs.Good.{island-is, world_is}
use Rattle.core_laws.proofs.Loose.{loose-rule, moves-at}
use Rattle.core_laws.proofs.Names.{island-at}
use Rattle.core_laws.proofs.Touching.{link-held}
use Rattle.core_laws.proofs.OneContact.{edge-rule, map-swap}
use Rattle.split_move.specs.Shift.{contact_moved, ContactGoes, ContactMoved}
use Rattle.split_move.proofs.Shift.{Shifted, shifted, shift-ready}

module _ (Z : Sizes) (X : Extents) (T : Tables) (G : Loose Z X T) (e to : ℕ) (el : e < X.edges) (eh : (contacts_in Z T).home e ≢ none) (tl : to < X.islands) (o : OpenAt Z T to)
    (away : to ≢ (contacts_in Z T).home e) where
  abbrev S : View
  S = contacts_in Z T

  abbrev b : ℕ
  b = S.home e

  abbrev C : List ℕ
  C = pushed (removed T.contacts 0 (4 * Z.edges) e) 0 (4 * Z.edges) to e

  abbrev T' : Tables
  T' = contacts_put T C

  H : Held X.edges X.islands S e
  H = held G.contacts_wf.rules e el eh

  bl : b < X.islands
  bl = H.home_lt

  pub go-ready : PushReady (removed T.contacts 0 (4 * Z.edges) e) 0 (4 * Z.edges) to e
  go-ready = shift-ready Z.edges X.edges X.islands to e T.contacts G.contacts_wf el eh tl away bl

  D : Shifted Z.edges X.edges X.islands to e T.contacts C
  D = shifted Z.edges X.edges X.islands to e T.contacts G.contacts_wf el eh tl away bl

  base_open : OpenAt Z T b
  base_open = ⊎_elim (λ (x : OpenAt Z T b). x) (λ x. absurd (let l = H.place_lt in let c = x.no_contact in omega arith)) (G.island b bl)

  go-loose : Loose Z X T'
  go-loose =
      record {
        enough = G.enough;
        slots_le = G.slots_le;
        islands_le = G.islands_le;
        edges_le = G.edges_le;
        joints_le = G.joints_le;
        journal_le = G.journal_le;
        members_wf = G.members_wf;
        freed_wf = G.freed_wf;
        contacts_wf = D.wf;
        joints_wf = G.joints_wf;
        spare_wf = G.spare_wf;
        scan_wf = G.scan_wf;
        slot = G.slot;
        island = λ j h.
            either j b (λ s. subst (LooseAt Z T') (sym s) (inl base_open))
            (λ d.
            either j to (λ s. subst (LooseAt Z T') (sym s) (inl o)) (λ d2. loose-rule refl (D.count_o j h d d2) refl refl refl refl refl (G.island j h)));
        seen = G.seen;
        edge = λ k h.
            either k e (λ s. inr (λ q. (let a : (contacts_in Z T').home e ≡ none = rw s at q in let c = D.home_e in let m = G.contacts_wf.rules.m_small in omega arith)))
            (λ d. edge-rule (D.home_o k h d) refl refl refl refl (G.edge k h));
        joint = G.joint;
        distinct = G.distinct;
        head = G.head;
      }

  abbrev g : ℕ → ContactLink
  g = contact_at T.touches

  abbrev w : World
  w = decode Z X T

  size : length (list_of S b) ≡ S.count b
  size = length-list G.contacts_wf.rules b bl

  link-e : get_or (island_at w b).contact_links (S.place e) absent_contact ≡ g e
  link-e = link-held Z X T G e el eh

  abbrev v : World
  v = contact_removed b (S.place e) w

  at-to : island_at v to ≡ island_in Z T to
  unfolding contact_removed island_set
  at-to = get_or-set_other w.islands b to _ absent_island away ∙ island-at Z X T to tl

  go-world : decode Z X T' ≡ contact_moved b to (S.place e) w
  unfolding contact_moved contact_pushed contact_removed island_set
  go-world =
      let h = H.place_lt in
      let s = size in
      world_is refl
      (tabulate-two X.islands b to (island_in Z T') (island_in Z T) _ _
      (island-is refl (ap (map g) D.list_b ∙ map-swap g absent_contact (list_of S b) (S.place e) (omega arith)) refl refl refl refl
      ∙ ap (λ (a : Island). contacts_set a (swap_remove absent_contact a.contact_links (S.place e))) (sym (island-at Z X T b bl)))
      (island-is refl (ap (map g) D.list_t ∙ map-append g (list_of S to) (e ∷ [])) refl refl refl refl
      ∙ ap (λ (l : ContactLink). contacts_set (island_in Z T to) ((island_in Z T to).contact_links ++ (l ∷ []))) (sym link-e)
      ∙ ap (λ (a : Island). contacts_set a (a.contact_links ++ (get_or (island_at w b).contact_links (S.place e) absent_contact ∷ []))) (sym at-to))
      (λ j jl d1 d2. island-is refl (ap (map g) (D.list_o j jl d1 d2)) refl refl refl refl))
      refl refl refl refl refl refl refl refl refl

-- ---- the step
pub contact-goes-first : {Z : Sizes} {t : List ℕ} (to e : ℕ) → ContactGoes Z to t e → RemoveReady (tables Z t).contacts 0 (4 * Z.edges) e
contact-goes-first {Z} to e R = remove_ready Z.edges R.loose.loose.contacts_wf e R.edge_lt R.linked

pub contact-goes-then : {Z : Sizes} {t t1 : List ℕ} (to e : ℕ) → ContactGoes Z to t e → Put (contacts_at Z) (contacts_span Z) t t1 (removed (tables Z t).contacts 0 (4 * Z.edges) e)
    → PushReady (tables Z t1).contacts 0 (4 * Z.edges) to e
contact-goes-then {Z} {t} {t1} to e R A =
    let q : (tables Z t1).contacts ≡ removed (tables Z t).contacts 0 (4 * Z.edges) e = ap (λ (W : Tables). W.contacts) (put-contacts Z t t1 _ R.loose.long A) in
    rw q (go-ready Z (extents (tables Z t)) (tables Z t) R.loose.loose e to R.edge_lt R.linked R.to_lt R.to_open R.away)

pub contact-went : {Z : Sizes} {t t1 t2 : List ℕ} (to e : ℕ) → ContactGoes Z to t e → Put (contacts_at Z) (contacts_span Z) t t1 (removed (tables Z t).contacts 0 (4 * Z.edges) e)
    → Put (contacts_at Z) (contacts_span Z) t1 t2 (pushed (tables Z t1).contacts 0 (4 * Z.edges) to e) → ContactMoved Z to t t2 e
contact-went {Z} {t} {t1} {t2} to e R A B =
    let T = tables Z t in
    let X = extents T in
    let G = R.loose.loose in
    let h1 : length t1 ≡ total Z = A.same_length ∙ R.loose.long in
    let r : tables Z t2 ≡ T' Z X T G e to R.edge_lt R.linked R.to_lt R.to_open R.away =
    put-contacts Z t1 t2 _ h1 B ∙ ap (λ (W : Tables). contacts_put W (pushed W.contacts 0 (4 * Z.edges) to e)) (put-contacts Z t t1 _ R.loose.long A) in
    let E = D Z X T G e to R.edge_lt R.linked R.to_lt R.to_open R.away in
    record {
      moves =
          moves-at t2 (contact_moved ((contacts_in Z T).home e) to ((contacts_in Z T).place e)) X _ r refl (B.same_length ∙ h1)
          (go-loose Z X T G e to R.edge_lt R.linked R.to_lt R.to_open R.away)
          (go-world Z X T G e to R.edge_lt R.linked R.to_lt R.to_open R.away)
          (kept-contacts E.kept)
          (larger-refl X);
      stays = subst (Stays T) (sym r) (record { head = refl; slots = refl; members = refl; rows = refl; freed = refl; journal = refl; scan = refl; fit = refl });
      joints = subst (JointsStay T) (sym r) (record { joints = refl; keys = refl; spare = refl });
      left = subst (λ (W : Tables). EntryLeft (contacts_in Z T) (contacts_in Z W) ((contacts_in Z T).home e) ((contacts_in Z T).place e)) (sym r) E.left;
    }
