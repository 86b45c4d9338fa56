-- A body goes to another island.
use mathlib.Core.Path.{◌≡◌, refl, sym, ◌∙◌, ap, subst}
use mathlib.Core.Logic.{inl, inr, ◌≢◌, ⊎_elim}
use mathlib.Core.List.{List, [], ◌∷◌, ◌++◌}
use Prim.Native.Nat.{ℕ, ◌+◌, ◌*◌, ◌<◌}
use native.Mathlib.Omega.{arith}
use lib.ListN.{length, get_or}
use lib.Seq.{get_or-set_other}
use Rattle.list_in_table.specs.Rules.{none, View, Held, list_of, swap_remove as taken_out}
use Rattle.list_in_table.specs.Table.{removed, pushed, PushReady, RemoveReady}
use Rattle.list_in_table.proofs.Laws.{either, held}
use Rattle.list_in_table.proofs.Order.{list-of}
use Rattle.list_in_buffer.specs.Part.{Put}
use Rattle.def_kinds.specs.declared.Sizes.{Sizes}
use Rattle.def_state.specs.Plain.{swap_remove}
use Rattle.def_state.specs.World.{Island, absent_island, World, island_at}
use Rattle.def_state.specs.Fields.{island_set, members_set}
use Rattle.def_state.specs.Split.{body_moved}
use Rattle.table_meaning.specs.Layout.{Tables, tables, total, members_at, members_span, members_put, Extents, extents, members_in}
use Rattle.table_meaning.specs.Decode.{island_in, decode}
use Rattle.table_meaning.specs.Sound.{SlotAt}
use Rattle.table_meaning.proofs.Puts.{put-members}
use Rattle.table_meaning.proofs.Chains.{remove_ready}
use Rattle.table_meaning.proofs.Tab.{tabulate-two}
use Rattle.table_meaning.proofs.Frame.{larger-refl, kept-members}
use Rattle.core_laws.specs.Loose.{OpenAt, LooseAt, Loose, EntryLeft}
use Rattle.core_laws.proofs.Good.{island-is, world_is, slot-rule}
use Rattle.core_laws.proofs.Loose.{loose-rule, lives-open, moves-at}
use Rattle.core_laws.proofs.Names.{island-at}
use Rattle.split_move.specs.Shift.{BodyGoes, BodyMoved}
use Rattle.split_move.proofs.Shift.{Shifted, shifted, shift-ready}

module _ (Z : Sizes) (X : Extents) (T : Tables) (G : Loose Z X T) (s to : ℕ) (sl : s < X.slots) (sh : (members_in Z T).home s ≢ none) (tl : to < X.islands) (o : OpenAt Z T to)
    (away : to ≢ (members_in Z T).home s) where
  abbrev S : View
  S = members_in Z T

  abbrev b : ℕ
  b = S.home s

  abbrev M : List ℕ
  M = pushed (removed T.members 0 (4 * Z.slots) s) 0 (4 * Z.slots) to s

  abbrev T' : Tables
  T' = members_put T M

  H : Held X.slots X.islands S s
  H = held G.members_wf.rules s sl sh

  bl : b < X.islands
  bl = H.home_lt

  pub go-ready : PushReady (removed T.members 0 (4 * Z.slots) s) 0 (4 * Z.slots) to s
  go-ready = shift-ready Z.slots X.slots X.islands to s T.members G.members_wf sl sh tl away bl

  D : Shifted Z.slots X.slots X.islands to s T.members M
  D = shifted Z.slots X.slots X.islands to s T.members G.members_wf sl sh tl away bl

  base_open : OpenAt Z T b
  base_open = lives-open Z T b (let l = H.place_lt in omega arith) (G.island b bl)

  go-loose : Loose Z X T'
  go-loose =
      record {
        enough = G.enough;
        slots_le = G.slots_le;
        islands_le = G.islands_le;
        edges_le = G.edges_le;
        joints_le = G.joints_le;
        journal_le = G.journal_le;
        members_wf = D.wf;
        freed_wf = G.freed_wf;
        contacts_wf = G.contacts_wf;
        joints_wf = G.joints_wf;
        spare_wf = G.spare_wf;
        scan_wf = G.scan_wf;
        slot = λ k h.
            either k s (λ q. subst (SlotAt Z T') (sym q) (⊎_elim (λ v. absurd (sh v.no_member)) (λ f. inr f) (G.slot s sl)))
            (λ d. slot-rule refl refl refl refl (D.home_o k h d) (G.slot k h));
        island = λ j h.
            either j b (λ q. subst (LooseAt Z T') (sym q) (inl base_open))
            (λ d.
            either j to (λ q. subst (LooseAt Z T') (sym q) (inl o)) (λ d2. loose-rule (D.count_o j h d d2) refl refl refl refl refl refl (G.island j h)));
        seen = G.seen;
        edge = G.edge;
        joint = G.joint;
        distinct = G.distinct;
        head = G.head;
      }

  abbrev w : World
  w = decode Z X T

  abbrev v : World
  v = island_set w b (members_set (island_at w b) (swap_remove 0 (island_at w b).bodies (S.place s)))

  at-to : island_at v to ≡ island_in Z T to
  unfolding island_set
  at-to = get_or-set_other w.islands b to _ absent_island away ∙ island-at Z X T to tl

  slot-s : get_or (island_at w b).bodies (S.place s) 0 ≡ s
  slot-s = ap (λ (a : Island). get_or a.bodies (S.place s) 0) (island-at Z X T b bl) ∙ list-of G.members_wf.rules b bl s sl refl

  swap-same : (xs : List ℕ) (p : ℕ) → taken_out xs p ≡ swap_remove 0 xs p
  unfolding taken_out
  swap-same xs p = refl

  go-world : decode Z X T' ≡ body_moved b to (S.place s) w
  unfolding body_moved island_set
  go-world =
      world_is refl
      (tabulate-two X.islands b to (island_in Z T') (island_in Z T) _ _
      (island-is (D.list_b ∙ swap-same (list_of S b) (S.place s)) refl refl refl refl refl
      ∙ ap (λ (a : Island). members_set a (swap_remove 0 a.bodies (S.place s))) (sym (island-at Z X T b bl)))
      (island-is D.list_t refl refl refl refl refl
      ∙ ap (λ (k : ℕ). members_set (island_in Z T to) ((island_in Z T to).bodies ++ (k ∷ []))) (sym slot-s)
      ∙ ap (λ (a : Island). members_set a (a.bodies ++ (get_or (island_at w b).bodies (S.place s) 0 ∷ []))) (sym at-to))
      (λ j jl d1 d2. island-is (D.list_o j jl d1 d2) refl refl refl refl refl))
      refl refl refl refl refl refl refl refl refl

-- ---- the step
pub body-goes-first : {Z : Sizes} {t : List ℕ} (to s : ℕ) → BodyGoes Z to t s → RemoveReady (tables Z t).members 0 (4 * Z.slots) s
body-goes-first {Z} to s R = remove_ready Z.slots R.loose.loose.members_wf s R.slot_lt R.listed

pub body-goes-then : {Z : Sizes} {t t1 : List ℕ} (to s : ℕ) → BodyGoes Z to t s → Put (members_at Z) (members_span Z) t t1 (removed (tables Z t).members 0 (4 * Z.slots) s)
    → PushReady (tables Z t1).members 0 (4 * Z.slots) to s
body-goes-then {Z} {t} {t1} to s R A =
    let q : (tables Z t1).members ≡ removed (tables Z t).members 0 (4 * Z.slots) s = ap (λ (W : Tables). W.members) (put-members Z t t1 _ R.loose.long A) in
    rw q (go-ready Z (extents (tables Z t)) (tables Z t) R.loose.loose s to R.slot_lt R.listed R.to_lt R.to_open R.away)

pub body-went : {Z : Sizes} {t t1 t2 : List ℕ} (to s : ℕ) → BodyGoes Z to t s → Put (members_at Z) (members_span Z) t t1 (removed (tables Z t).members 0 (4 * Z.slots) s)
    → Put (members_at Z) (members_span Z) t1 t2 (pushed (tables Z t1).members 0 (4 * Z.slots) to s) → BodyMoved Z to t t2 s
body-went {Z} {t} {t1} {t2} to s R A B =
    let T = tables Z t in
    let X = extents T in
    let G = R.loose.loose in
    let h1 : length t1 ≡ total Z = A.same_length ∙ R.loose.long in
    let W = T' Z X T G s to R.slot_lt R.listed R.to_lt R.to_open R.away in
    let r : tables Z t2 ≡ W =
    put-members Z t1 t2 _ h1 B ∙ ap (λ (W : Tables). members_put W (pushed W.members 0 (4 * Z.slots) to s)) (put-members Z t t1 _ R.loose.long A) in
    let E = D Z X T G s to R.slot_lt R.listed R.to_lt R.to_open R.away in
    let b = (members_in Z T).home s in
    record {
      moves =
          moves-at t2 (body_moved b to ((members_in Z T).place s)) X _ r refl (B.same_length ∙ h1)
          (go-loose Z X T G s to R.slot_lt R.listed R.to_lt R.to_open R.away)
          (go-world Z X T G s to R.slot_lt R.listed R.to_lt R.to_open R.away)
          (kept-members E.kept)
          (larger-refl X);
      head = ap (λ (V1 : Tables). V1.head) r;
      rows = ap (λ (V1 : Tables). V1.rows) r;
      freed = ap (λ (V1 : Tables). V1.freed) r;
      left = subst (λ (V1 : Tables). EntryLeft (members_in Z T) (members_in Z V1) b ((members_in Z T).place s)) (sym r) E.left;
      fewer = subst (λ (V1 : Tables). (members_in Z V1).count b + 1 ≡ (members_in Z T).count b) (sym r) E.count_b;
      more = subst (λ (V1 : Tables). (members_in Z V1).count to ≡ (members_in Z T).count to + 1) (sym r) E.count_t;
      other = λ j jl d1 d2. subst (λ (V1 : Tables). (members_in Z V1).count j ≡ (members_in Z T).count j) (sym r) (E.count_o j jl d1 d2);
    }
