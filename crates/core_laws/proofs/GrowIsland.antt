-- One more island number comes into use, freed.
use mathlib.Core.Path.{◌≡◌, refl, sym, ◌∙◌, ap, subst}
use mathlib.Core.Logic.{inl, inr, ◌≢◌, ⊎_elim}
use mathlib.Core.Bool.{true, false}
use mathlib.Core.List.{List, [], ◌∷◌, ◌++◌, map}
use Prim.Native.Nat.{ℕ, zero, suc, ◌+◌, ◌*◌, ◌≤◌, ◌<◌}
use native.Mathlib.Omega.{arith}
use lib.Dec.{eqb}
use borrow.Author.Tests.{eq-eqb, ne_eqb}
use lib.ListN.{length, get_or, set, length-append, get_or-append}
use lib.Seq.{get_or-set_same, get_or-set_other, get_or-append_seam}
use Rattle.list_in_table.specs.Rules.{none, Full, list_of}
use Rattle.list_in_table.specs.Word.{writes}
use Rattle.list_in_table.specs.Table.{view, pushed, PushReady}
use Rattle.def_kinds.specs.Choice.{pick}
use Rattle.list_in_table.proofs.Laws.{either, full, held_in}
use Rattle.list_in_table.proofs.Order.{length-list, list_at}
use Rattle.list_in_table.proofs.Pigeon.{pigeon}
use Rattle.list_in_buffer.specs.Part.{Put}
use Rattle.def_kinds.specs.declared.Sizes.{Sizes}
use Rattle.def_state.specs.Plain.{empty, has}
use Rattle.def_state.specs.World.{Body, absent_body, Island, absent_island, World, done, body_of, island_of, island_below}
use Rattle.table_meaning.specs.Layout.{Tables, tables, total, head_at, head_span, members_at, members_span, contacts_at, contacts_span, joints_at, joints_span, rows_at, rows_span, scan_at, scan_span, fit_at, fit_span, freed_at, freed_span, head_put, contacts_put, joints_put, rows_put, scan_put, fit_put, freed_put, Extents, extents, members_in, freed_in, scan_in, elem_words, list_words}
use Rattle.table_meaning.specs.Decode.{flag, body_at, tabulate, observed_at, island_in, decode, world_of}
use Rattle.table_meaning.specs.Rule.{ScanRule, EdgeRule, JointRule}
use Rattle.table_meaning.specs.Sound.{SeenAt, Sound}
use Rattle.table_meaning.specs.Does.{SameBehind}
use Rattle.table_meaning.proofs.Puts.{Sized, sized, put-head, put-members, put-contacts, put-joints, put-rows, put-scan, put_fit, put-freed}
use Rattle.table_meaning.proofs.Tab.{length-tabulate, tabulate-same}
use Rattle.table_meaning.proofs.Chains.{Grown, Added, elem-grown, elem-home, list-grown, list_count, list-new, added, push_ready, chain-then}
use Rattle.table_meaning.proofs.Unique.{slots-is}
use Rattle.table_meaning.proofs.Frame.{larger-refl, kept_then, kept-head, kept-members, kept-contacts, kept-joints, kept-rows, kept-scan, kept-fit, kept-freed, extents-is}
use Rattle.core_laws.specs.Steps.{Steps, row_words, island_blanked, one_island, grow_island, readied, ready}
use Rattle.core_laws.specs.Loose.{LooseAt, Loose, Loosely, Peopled, BodiesStay, NumbersStay, IslandMore, MadeReady}
use Rattle.core_laws.proofs.Good.{island-is, world_is, slot-rule, head-rule}
use Rattle.core_laws.proofs.At.{steps-none, steps-as}
use Rattle.core_laws.proofs.Loose.{loose-rule, sound-loose, peopled, moves-at, moves-as, moves-none, moved-steps}
use Rattle.core_laws.proofs.Names.{home_is}
use Rattle.core_laws.proofs.LastOut.{map_same}
use Rattle.core_laws.proofs.Put.{body-word}
use Rattle.core_laws.proofs.Isle.{Aside, row-aside, row-0, row-1, row-2, Same, same-island}

-- ---- the blank words, one after the other
pub blanked : (Z : Sizes) {t t1 t2 t3 t4 t5 t6 t7 : List ℕ} (m : ℕ) → length t ≡ total Z
    → Put (members_at Z) (members_span Z) t t1 (writes (tables Z t).members (list_words (4 * Z.slots + 2 * m)))
    → Put (contacts_at Z) (contacts_span Z) t1 t2 (writes (tables Z t1).contacts (list_words (4 * Z.edges + 2 * m)))
    → Put (joints_at Z) (joints_span Z) t2 t3 (writes (tables Z t2).joints (list_words (4 * Z.joints + 2 * m)))
    → Put (rows_at Z) (rows_span Z) t3 t4 (writes (tables Z t3).rows (row_words (3 * m) 0 0 0))
    → Put (scan_at Z) (scan_span Z) t4 t5 (writes (tables Z t4).scan (elem_words (4 * m)))
    → Put (fit_at Z) (fit_span Z) t5 t6 (set (tables Z t5).fit m 0)
    → Put (freed_at Z) (freed_span Z) t6 t7 (writes (tables Z t6).freed (elem_words (4 * m)))
    → (length t7 ≡ length t) × (tables Z t7 ≡ island_blanked Z (tables Z t) m)
blanked Z {t} {t1} {t2} {t3} {t4} {t5} {t6} {t7} m l A B C D E F H =
    let h1 : length t1 ≡ total Z = A.same_length ∙ l in
    let h2 : length t2 ≡ total Z = B.same_length ∙ h1 in
    let h3 : length t3 ≡ total Z = C.same_length ∙ h2 in
    let h4 : length t4 ≡ total Z = D.same_length ∙ h3 in
    let h5 : length t5 ≡ total Z = E.same_length ∙ h4 in
    let h6 : length t6 ≡ total Z = F.same_length ∙ h5 in
    let e1 = put-members Z t t1 _ l A in
    let e2 = put-contacts Z t1 t2 _ h1 B ∙ ap (λ (W : Tables). contacts_put W (writes W.contacts (list_words (4 * Z.edges + 2 * m)))) e1 in
    let e3 = put-joints Z t2 t3 _ h2 C ∙ ap (λ (W : Tables). joints_put W (writes W.joints (list_words (4 * Z.joints + 2 * m)))) e2 in
    let e4 = put-rows Z t3 t4 _ h3 D ∙ ap (λ (W : Tables). rows_put W (writes W.rows (row_words (3 * m) 0 0 0))) e3 in
    let e5 = put-scan Z t4 t5 _ h4 E ∙ ap (λ (W : Tables). scan_put W (writes W.scan (elem_words (4 * m)))) e4 in
    let e6 = put_fit Z t5 t6 _ h5 F ∙ ap (λ (W : Tables). fit_put W (set W.fit m 0)) e5 in
    let e7 = put-freed Z t6 t7 _ h6 H ∙ ap (λ (W : Tables). freed_put W (writes W.freed (elem_words (4 * m)))) e6 in
    (H.same_length ∙ h6 ∙ sym l, e7)

-- ---- rules at equal words, and a list of equal values
scan-rule : {h h' f f' : ℕ} → h ≡ h' → f ≡ f' → ScanRule h' f' → ScanRule h f
scan-rule p q x = rw (p, q) x

edge-rule : {h h' a b c d : ℕ} → h ≡ h' → EdgeRule h' a b c d → EdgeRule h a b c d
edge-rule p x = rw p x

joint-rule : {h h' s k a b c s1 g1 s2 g2 : ℕ} → h ≡ h' → JointRule h' s k a b c s1 g1 s2 g2 → JointRule h s k a b c s1 g1 s2 g2
joint-rule p x = rw p x

abbrev pub with_island : Extents → Extents
with_island X = record { slots = X.slots; islands = X.islands + 1; edges = X.edges; joints = X.joints; journal = X.journal }

module _ (Z : Sizes) (X : Extents) (T : Tables) (G : Loose Z X T) (K : Sized Z T) (l : X.islands < Z.islands) (ms : X.islands < none) where
  abbrev m : ℕ
  m = X.islands

  abbrev T1 : Tables
  T1 = island_blanked Z T m

  abbrev F : List ℕ
  F = pushed T1.freed 0 (4 * Z.islands) 0 m

  abbrev H : List ℕ
  H = set T.head 1 (m + 1)

  abbrev T' : Tables
  T' = head_put (freed_put T1 F) H

  head-o : (j : ℕ) → j ≢ 1 → get_or H j 0 ≡ get_or T.head j 0
  head-o j d = get_or-set_other T.head 1 j (m + 1) 0 d

  after : extents T ≡ X → extents T' ≡ with_island X
  after e =
      let k = K.head_length in
      extents-is (head-o 0 (omega arith) ∙ ap (λ (x : Extents). x.slots) e) (get_or-set_same T.head 1 (m + 1) 0 (omega arith))
      (head-o 2 (omega arith) ∙ ap (λ (x : Extents). x.edges) e)
      (head-o 3 (omega arith) ∙ ap (λ (x : Extents). x.joints) e) (head-o 4 (omega arith) ∙ ap (λ (x : Extents). x.journal) e)

  -- the six tables that the number comes into
  CM : Grown Z.slots X.slots m X.slots (m + 1) T.members T1.members
  CM = list-grown Z.slots X.slots m Z.islands T.members G.members_wf l ms K.members_length

  CC : Grown Z.edges X.edges m X.edges (m + 1) T.contacts T1.contacts
  CC = list-grown Z.edges X.edges m Z.islands T.contacts G.contacts_wf l ms K.contacts_length

  CJ : Grown Z.joints X.joints m X.joints (m + 1) T.joints T1.joints
  CJ = list-grown Z.joints X.joints m Z.islands T.joints G.joints_wf l ms K.joints_length

  CS : Grown Z.islands m 1 (m + 1) 1 T.scan T1.scan
  CS = elem-grown Z.islands m 1 T.scan G.scan_wf l ms

  CF : Grown Z.islands m 1 (m + 1) 1 T.freed T1.freed
  CF = elem-grown Z.islands m 1 T.freed G.freed_wf l ms

  free-home : (view T1.freed 0 (4 * Z.islands)).home m ≡ none
  free-home = elem-home Z.islands m 1 T.freed G.freed_wf l ms

  pub new-ready : PushReady T1.freed 0 (4 * Z.islands) 0 m
  new-ready = push_ready Z.islands CF.wf 0 m (omega arith) (omega arith) free-home

  AF : Added Z.islands (m + 1) 1 0 m T1.freed F
  AF = added Z.islands (m + 1) 1 T1.freed CF.wf 0 m (omega arith) (omega arith) free-home

  row_o : (j : ℕ) → Aside m j → get_or T1.rows j 0 ≡ get_or T.rows j 0
  row_o = row-aside T.rows m 0 0 0

  inside : 3 * m + 2 < length T.rows
  inside = let q = K.rows_length in omega arith

  fit-o : (j : ℕ) → j ≢ m → get_or T1.fit j 0 ≡ get_or T.fit j 0
  fit-o j d = get_or-set_other T.fit m j 0 0 d

  fit-m : get_or T1.fit m 0 ≡ 0
  fit-m = let q = K.fit_length in get_or-set_same T.fit m 0 0 (omega arith)

  old : (i : ℕ) → i < m → Same Z T T' i
  old i h =
      record {
        bodies = CM.lists i h;
        contacts = CC.lists i h;
        joints = CJ.lists i h;
        body_count = CM.agrees.count i h;
        contact_count = CC.agrees.count i h;
        joint_count = CJ.agrees.count i h;
        removals = row_o (3 * i) (inl (omega arith));
        denied = row_o (3 * i + 1) (inl (omega arith));
        sleeping = row_o (3 * i + 2) (inl (omega arith));
        freed = AF.view_is.home_o i (omega arith) (omega arith) ∙ CF.agrees.home i h;
      }

  grow-loose : Loose Z (with_island X) T'
  grow-loose =
      record {
        enough = G.enough;
        slots_le = G.slots_le;
        islands_le = omega arith;
        edges_le = G.edges_le;
        joints_le = G.joints_le;
        journal_le = G.journal_le;
        members_wf = CM.wf;
        freed_wf = AF.wf;
        contacts_wf = CC.wf;
        joints_wf = CJ.wf;
        spare_wf = G.spare_wf;
        scan_wf = CS.wf;
        slot = λ s h. slot-rule refl refl refl refl (CM.agrees.home s h) (G.slot s h);
        island = λ i h.
            either i m
            (λ q.
            subst (LooseAt Z T') (sym q)
            (inr
            (record {
              no_body = list_count Z.slots X.slots m Z.islands T.members G.members_wf l ms K.members_length;
              no_contact = list_count Z.edges X.edges m Z.islands T.contacts G.contacts_wf l ms K.contacts_length;
              no_joint = list_count Z.joints X.joints m Z.islands T.joints G.joints_wf l ms K.joints_length;
              no_removals = row-0 T.rows m 0 0 0 inside;
              no_denial = row-1 T.rows m 0 0 0 inside;
              not_sleeping = row-2 T.rows m 0 0 0 inside;
              in_stack = AF.view_is.home_e;
            })))
            (λ d.
            let o = old i (omega arith) in
            loose-rule o.body_count o.contact_count o.joint_count o.removals o.denied o.sleeping o.freed (G.island i (omega arith)));
        seen = λ i h.
            either i m
            (λ q.
            subst (SeenAt Z T') (sym q) (inl (record { not_listed = elem-home Z.islands m 1 T.scan G.scan_wf l ms; no_fit = fit-m })))
            (λ d. scan-rule (CS.agrees.home i (omega arith)) (fit-o i d) (G.seen i (omega arith)));
        edge = λ e h. edge-rule (CC.agrees.home e h) (G.edge e h);
        joint = λ p h. joint-rule (CJ.agrees.home p h) (G.joint p h);
        distinct = λ p q a b c d k.
            G.distinct p q a b (λ e. c (CJ.agrees.home p a ∙ e)) (λ e. d (CJ.agrees.home q b ∙ e)) k;
        head = head-rule (head-o 5 (omega arith)) (head-o 6 (omega arith)) (head-o 8 (omega arith)) (CS.agrees.count 0 (omega arith)) G.head;
      }

  grow-world : decode Z (with_island X) T' ≡ one_island (decode Z X T)
  unfolding tabulate one_island
  grow-world =
      let e : m + 1 ≡ suc m = omega arith in
      let new : island_in Z T' m ≡ absent_island =
      island-is (list-new Z.slots X.slots m Z.islands T.members G.members_wf l ms K.members_length)
      (rw (list-new Z.edges X.edges m Z.islands T.contacts G.contacts_wf l ms K.contacts_length))
      (rw (list-new Z.joints X.joints m Z.islands T.joints G.joints_wf l ms K.joints_length))
      (row-0 T.rows m 0 0 0 inside) (row-1 T.rows m 0 0 0 inside) (ap flag (row-2 T.rows m 0 0 0 inside)) in
      world_is refl
      (ap (λ (k : ℕ). tabulate k (island_in Z T')) e
      ∙ ap (λ (x : Island). tabulate m (island_in Z T') ++ (x ∷ [])) new
      ∙ ap (λ (x : List Island). x ++ (absent_island ∷ [])) (tabulate-same m (island_in Z T') (island_in Z T) (λ i h. same-island (old i h) refl refl)))
      (AF.list_i ∙ ap (λ (x : List ℕ). x ++ (m ∷ [])) (CF.lists 0 (omega arith))
      ∙ ap (λ (k : ℕ). list_of (freed_in Z T) 0 ++ (k ∷ [])) (sym (length-tabulate m (island_in Z T))))
      refl refl refl refl
      (rw (head-o 5 (omega arith), head-o 6 (omega arith)))
      (head-o 7 (omega arith))
      (ap flag (head-o 8 (omega arith)))
      (ap (map (observed_at T1.fit)) (CS.lists 0 (omega arith))
      ∙ map_same (observed_at T1.fit) (observed_at T.fit) (list_of (scan_in Z T) 0)
      (λ p h.
      let R = G.scan_wf.rules in
      let i = (list_at R 0 (omega arith) p (rw (length-list R 0 (omega arith)) at h)).lt in
      rw (fit-o (get_or (list_of (scan_in Z T) 0) p 0) (omega arith))))

  grow-kept : SameBehind Z (with_island X) T T'
  grow-kept =
      let L = larger-refl (with_island X) in
      kept_then L (kept-members CM.kept)
      (kept_then L (kept-contacts CC.kept)
      (kept_then L (kept-joints CJ.kept)
      (kept_then L (kept-rows (λ j h. row_o j (inr (omega arith))))
      (kept_then L (kept-scan CS.kept)
      (kept_then L (kept-fit (λ j h. fit-o j (omega arith)))
      (kept_then L (kept-freed (chain-then (omega arith) (omega arith) CF.kept AF.kept)) kept-head))))))

  -- where all had a body, all that are not free still have one: the new number is free
  grow-peopled : Peopled Z X T → Peopled Z (with_island X) T'
  grow-peopled P i h f =
      either i m (λ q. absurd (let a = AF.view_is.home_e in let b : (freed_in Z T').home m ≡ none = rw q at f in omega arith))
      (λ d.
      let o = old i (omega arith) in
      let a = P i (omega arith) (sym o.freed ∙ f) in
      let b = o.body_count in
      omega arith)

  grow-numbers : extents T ≡ X → NumbersStay Z T T'
  grow-numbers e =
      let q : (extents T).islands ≡ m = ap (λ (x : Extents). x.islands) e in
      let u : (extents T').islands ≡ m + 1 = ap (λ (x : Extents). x.islands) (after e) in
      record {
        freed = λ j h. (old j (omega arith)).freed;
        sleeping = λ j h. (old j (omega arith)).sleeping;
        new = λ j h f.
            either j m (λ d. absurd (let a = AF.view_is.home_e in let b : (freed_in Z T').home m ≡ none = rw d at f in omega arith)) (λ d. omega arith);
      }

-- ---- the steps
pub island-ready : {Z : Sizes} {t : List ℕ} (t1 : List ℕ) (m : ℕ) → Loosely Z t → m ≡ (extents (tables Z t)).islands → m < Z.islands → m < none
    → tables Z t1 ≡ island_blanked Z (tables Z t) m → PushReady (tables Z t1).freed 0 (4 * Z.islands) 0 m
island-ready {Z} {t} t1 m S q l ms e =
    let T = tables Z t in
    let X = extents T in
    let f : (tables Z t1).freed ≡ (island_blanked Z T m).freed = ap (λ (W : Tables). W.freed) e in
    rw (f, q) (new-ready Z X T S.loose (sized Z t S.long) (omega arith) (omega arith))

module _ {Z : Sizes} {t t1 t2 t3 : List ℕ} (m : ℕ) (S : Loosely Z t) (q : m ≡ (extents (tables Z t)).islands) (l : m < Z.islands) (ms : m < none) (g : length t1 ≡ length t)
    (e1 : tables Z t1 ≡ island_blanked Z (tables Z t) m)
    (P : Put (freed_at Z) (freed_span Z) t1 t2 (pushed (tables Z t1).freed 0 (4 * Z.islands) 0 m))
    (Q : Put (head_at Z) (head_span Z) t2 t3 (set (tables Z t2).head 1 (m + 1))) where
  T0 : Tables
  T0 = tables Z t

  K0 : Sized Z (tables Z t)
  K0 = sized Z t S.long

  lm : (extents (tables Z t)).islands < Z.islands
  lm = omega arith

  mm : (extents (tables Z t)).islands < none
  mm = omega arith

  h2 : length t2 ≡ total Z
  h2 = P.same_length ∙ g ∙ S.long

  grown-out : tables Z t3 ≡ T' Z (extents (tables Z t)) (tables Z t) S.loose K0 lm mm
  grown-out =
      let h1 : length t1 ≡ total Z = g ∙ S.long in
      let e2 = put-freed Z t1 t2 _ h1 P ∙ ap (λ (W : Tables). freed_put W (pushed W.freed 0 (4 * Z.islands) 0 m)) e1 in
      let e3 = put-head Z t2 t3 _ h2 Q ∙ ap (λ (W : Tables). head_put W (set W.head 1 (m + 1))) e2 in
      rw q at e3

  pub island-grown : IslandMore Z t t3
  unfolding grow_island
  island-grown =
      let T = tables Z t in
      let X = extents T in
      let G = S.loose in
      let M =
      moves-at t3 one_island (with_island X) (T' Z X T G K0 lm mm) grown-out (after Z X T G K0 lm mm refl) (Q.same_length ∙ h2) (grow-loose Z X T G K0 lm mm) (grow-world Z X T G K0 lm mm)
      (grow-kept Z X T G K0 lm mm)
      (record { slots = omega arith; islands = omega arith; edges = omega arith; joints = omega arith; journal = omega arith }) in
      let A = CM Z X T G K0 lm mm in
      record {
        moves = M;
        steps = λ U.
            moved-steps one_island M
            (subst (λ (W : Tables). Peopled Z (extents W) W) (sym grown-out)
            (subst (λ (Y : Extents). Peopled Z Y (T' Z X T G K0 lm mm)) (sym (after Z X T G K0 lm mm refl)) (grow-peopled Z X T G K0 lm mm (peopled U.good))));
        stays =
            subst (BodiesStay Z T) (sym grown-out)
            (record {
              slots_in_use = head-o Z X T G K0 lm mm 0 (omega arith);
              slots = refl;
              home = A.agrees.home;
              place = A.agrees.place;
              count = A.agrees.count;
              body_list = A.lists;
            });
        numbers = subst (NumbersStay Z T) (sym grown-out) (grow-numbers Z X T G K0 lm mm refl);
      }

-- ---- there is a free number
pub empty-yes : {A : Type 0} (xs : List A) → length xs ≡ 0 → empty xs ≡ true
empty-yes [] h = refl
empty-yes (x ∷ xs) h = absurd (omega arith)

pub empty-no : {A : Type 0} (xs : List A) → length xs ≢ 0 → empty xs ≡ false
empty-no [] h = absurd (h refl)
empty-no (x ∷ xs) h = refl

pub free-count : {Z : Sizes} {t : List ℕ} → Loosely Z t → length (world_of Z t).free_islands ≡ (freed_in Z (tables Z t)).count 0
unfolding world_of
free-count S = length-list S.loose.freed_wf.rules 0 (omega arith)

bodies_stay : {Z : Sizes} {T : Tables} → BodiesStay Z T T
bodies_stay = record { slots_in_use = refl; slots = refl; home = λ s h. refl; place = λ s h. refl; count = λ i h. refl; body_list = λ i h. refl }

numbers_stay : {Z : Sizes} {T : Tables} → NumbersStay Z T T
numbers_stay = record { freed = λ j h. refl; sleeping = λ j h. refl; new = λ j h f. h }

pub ready-now : {Z : Sizes} {t : List ℕ} → Loosely Z t → (freed_in Z (tables Z t)).count 0 ≢ 0 → MadeReady Z t t
unfolding ready readied
ready-now {Z} {t} S d =
    let e : readied (world_of Z t) ≡ world_of Z t = (let c = free-count S in rw (empty-no (world_of Z t).free_islands (omega arith))) in
    record { moves = moves-as (λ w. w) readied (sym e) (moves-none S); steps = λ U. steps-none readied U e; stays = bodies_stay; numbers = numbers_stay }

pub ready-grown : {Z : Sizes} {t t' : List ℕ} → (freed_in Z (tables Z t)).count 0 ≡ 0 → Loosely Z t → IslandMore Z t t' → MadeReady Z t t'
unfolding ready readied grow_island
ready-grown {Z} {t} z S D =
    let e : readied (world_of Z t) ≡ one_island (world_of Z t) = (let c = free-count S in rw (empty-yes (world_of Z t).free_islands (omega arith))) in
    record { moves = moves-as one_island readied (sym e) D.moves; steps = λ U. steps-as grow_island ready (ap done (sym e)) (D.steps U); stays = D.stays; numbers = D.numbers }

-- where no number is free and a body in use is in no island, a number is left: every island in use has a body, and these differ
pub room-left : {Z : Sizes} {t : List ℕ} (s : ℕ) → Sound Z t → (freed_in Z (tables Z t)).count 0 ≡ 0 → s < (extents (tables Z t)).slots → (members_in Z (tables Z t)).home s ≡ none
    → ((extents (tables Z t)).islands < Z.islands) × ((extents (tables Z t)).islands < none)
room-left {Z} {t} s S z sl sb =
    let T = tables Z t in
    let X = extents T in
    let G = S.good in
    let B = members_in Z T in
    let R = G.members_wf.rules in
    let k = X.islands in
    let ms = R.m_small in
    let f : ℕ → ℕ = λ i. pick (eqb i k) s (B.last i) in
    let fe : (i : ℕ) → i ≡ k → f i ≡ s = λ i q. rw (eq-eqb i k q) in
    let fo : (i : ℕ) → i < k → f i ≡ B.last i = λ i q. (let d : i ≢ k = omega arith in rw (ne_eqb i k d)) in
    let fl : (i : ℕ) → i < k → Full X.slots k B i = λ i q. full R i q (let x = all_live i q in omega arith) in
    let b : (i : ℕ) → i < k + 1 → f i < X.slots = λ i q. either i k (λ e. rw (fe i e) sl) (λ d. rw (fo i (omega arith)) (fl i (omega arith)).last_lt) in
    let home : (i : ℕ) → i < k → B.home (f i) ≡ i = λ i q. ap B.home (fo i q) ∙ (fl i q).last_home in
    let homek : (i : ℕ) → i ≡ k → B.home (f i) ≡ none = λ i q. ap B.home (fe i q) ∙ sb in
    let d : (i j : ℕ) → i < k + 1 → j < k + 1 → f i ≡ f j → i ≡ j =
    λ i j p q e.
    let hs : B.home (f i) ≡ B.home (f j) = ap B.home e in
    either i k
    (λ u. either j k (λ v. u ∙ sym v) (λ v. absurd (let x = homek i u in let y = home j (omega arith) in omega arith)))
    (λ u.
    either j k (λ v. absurd (let x = home i (omega arith) in let y = homek j v in omega arith))
    (λ v. sym (home i (omega arith)) ∙ hs ∙ home j (omega arith))) in
    let r = pigeon X.slots (k + 1) f b d in
    let en = G.enough in
    let sz = G.slots_le in
    let ns = R.n_small in
    (omega arith, omega arith)
  where
    -- an island in use is not free, so it is live
    all_live : (i : ℕ) → i < (extents (tables Z t)).islands → 0 < (members_in Z (tables Z t)).count i
    all_live i l =
        ⊎_elim (λ x. x.some)
        (λ x.
        absurd
        (let F = freed_in Z (tables Z t) in
        let h = (held_in S.good.freed_wf.rules i 0 l (omega arith) x.in_stack).place_lt in
        let e : F.count (F.home i) ≡ F.count 0 = ap F.count x.in_stack in
        omega arith))
        (S.good.island i l)

-- ---- what is so after it
below-append : (is js : List Island) (s k : ℕ) → k ≤ length is → island_below (is ++ js) s k ≡ island_below is s k
unfolding island_below
below-append is js s zero h = refl
below-append is js s (suc k) h = rw (get_or-append is js absent_island k (omega arith), below-append is js s k (omega arith))

island-one : (w : World) (s : ℕ) → island_of (one_island w) s ≡ island_of w s
unfolding island_of one_island island_below has
island-one w s =
    let is = w.islands in
    let e : length (is ++ (absent_island ∷ [])) ≡ suc (length is) = length-append is (absent_island ∷ []) ∙ omega arith in
    rw (e, get_or-append_seam is absent_island [] absent_island) (below-append is (absent_island ∷ []) s (length is) (omega arith))

-- the step by its two cases
readied-or : (P : World → Type 0) (w : World) → (length w.free_islands ≡ 0 → P (one_island w)) → (length w.free_islands ≢ 0 → P w) → P (readied w)
unfolding readied
readied-or P w a b = either (length w.free_islands) 0 (λ e. rw (empty-yes w.free_islands e) (a e)) (λ d. rw (empty-no w.free_islands d) (b d))

pub record Readied (Z : Sizes) (t t' : List ℕ) : Type 0 where
  pub some : 0 < (freed_in Z (tables Z t')).count 0
  pub slots : (extents (tables Z t')).slots ≡ (extents (tables Z t)).slots
  pub body : (s : ℕ) → body_of (world_of Z t') s ≡ body_of (world_of Z t) s
  pub island : (s : ℕ) → island_of (world_of Z t') s ≡ island_of (world_of Z t) s
  -- the same of the words
  pub body_word : (s : ℕ) → s < (extents (tables Z t)).slots → body_at (tables Z t').slots s ≡ body_at (tables Z t).slots s
  pub home_at : (s : ℕ) → s < (extents (tables Z t)).slots → (members_in Z (tables Z t')).home s ≡ (members_in Z (tables Z t)).home s

pub ready-free : {Z : Sizes} {t t' : List ℕ} → Sound Z t → Steps Z ready t t' → Readied Z t t'
unfolding ready one_island
ready-free {Z} {t} {t'} S D =
    let w = world_of Z t in
    let e : world_of Z t' ≡ readied w = D.does.after in
    let bs : (world_of Z t').bodies ≡ w.bodies = ap (λ (v : World). v.bodies) e ∙ readied-or (λ v. v.bodies ≡ w.bodies) w (λ z. refl) (λ d. refl) in
    let is : (s : ℕ) → island_of (world_of Z t') s ≡ island_of w s =
    λ s. ap (λ (v : World). island_of v s) e ∙ readied-or (λ v. island_of v s ≡ island_of w s) w (λ z. island-one w s) (λ d. refl) in
    let n : 0 < length (world_of Z t').free_islands =
    rw (ap (λ (v : World). length v.free_islands) e)
    (readied-or (λ v. 0 < length v.free_islands) w (λ z. rw (length-append w.free_islands (length w.islands ∷ [])) (omega arith)) (λ d. omega arith)) in
    let ss : (extents (tables Z t')).slots ≡ (extents (tables Z t)).slots = sym (slots-is Z t') ∙ ap length bs ∙ slots-is Z t in
    let bo : (s : ℕ) → body_of (world_of Z t') s ≡ body_of w s = λ s. ap (λ (x : List Body). get_or x s absent_body) bs in
    record {
      some = (let c = free-count (sound-loose D.does.sound) in omega arith);
      slots = ss;
      body = bo;
      island = is;
      body_word = λ s h. sym (body-word Z t' s (omega arith)) ∙ bo s ∙ body-word Z t s h;
      home_at = λ s h. sym (home_is Z t' s 0 D.does.sound (omega arith)) ∙ is s ∙ home_is Z t s 0 S h;
    }
