-- A body leaves its island, which is freed where it was the last one; the pending split of an island is forgotten.
use mathlib.Core.Path.{◌≡◌, refl, sym, ◌∙◌, ap}
use mathlib.Core.Logic.{◌⊎◌, inl, inr, ◌≢◌, ⊎_elim}
use mathlib.Core.Option.{Option, none as nothing}
use mathlib.Core.List.{List, [], ◌∷◌, ◌++◌}
use Prim.Native.Nat.{ℕ, ◌+◌, ◌*◌, ◌<◌, ◌≤◌, min}
use native.Mathlib.Omega.{arith}
use borrow.Author.Tests.{eq-eqb, ne_eqb}
use lib.ListN.{length, get_or, set}
use lib.Seq.{get_or-set_same, get_or-set_other}
use Rattle.list_in_table.specs.Rules.{none, View, Held, list_of, swap_remove as taken_out}
use Rattle.list_in_table.specs.Word.{writes, miss, hit}
use Rattle.list_in_table.specs.Table.{view, Wf, pushed, removed, PushReady, RemoveReady}
use Rattle.def_kinds.specs.Choice.{pick}
use Rattle.list_in_table.proofs.Laws.{either, held}
use Rattle.list_in_table.proofs.Order.{length-list}
use Rattle.list_in_buffer.specs.Part.{Put}
use Rattle.def_kinds.specs.declared.Sizes.{Sizes}
use Rattle.def_state.specs.Plain.{place_of, swap_remove, more}
use Rattle.def_state.specs.World.{Island, absent_island, done, island_at}
use Rattle.def_state.specs.Fields.{free_set, split_set, island_set}
use Rattle.def_state.specs.Membership.{waits, clear_pending_split_of, without}
use Rattle.table_meaning.specs.Layout.{Tables, tables, total, head_at, head_span, members_at, members_span, rows_at, rows_span, freed_at, freed_span, head_put, rows_put, freed_put, Extents, extents, members_in, contacts_in, joints_in, freed_in}
use Rattle.table_meaning.specs.Decode.{flag, pending, decode, world_of}
use Rattle.table_meaning.specs.Rule.{Live}
use Rattle.table_meaning.specs.Sound.{Good, Sound}
use Rattle.table_meaning.specs.Does.{ChainKept, SameBehind}
use Rattle.table_meaning.proofs.Puts.{Sized, sized, put-head, put-members, put-rows, put-freed}
use Rattle.table_meaning.proofs.Chains.{Added, Taken, added, taken, push_ready, remove_ready, chain-refl, nil}
use Rattle.table_meaning.proofs.Frame.{larger-refl, kept-head, extents-is}
use Rattle.core_laws.specs.Steps.{Steps, row_words, leave, leave_last, clear_pending}
use Rattle.core_laws.specs.Leaves.{Unpended}
use Rattle.core_laws.proofs.Good.{island-is, world_is}
use Rattle.core_laws.proofs.At.{steps-at, steps-none, steps-as}
use Rattle.core_laws.proofs.Names.{island-at, place-of}
use Rattle.core_laws.proofs.Isle.{Aside, set-aside, row-aside, row-0, row-1, row-2, Change, changed, change-good, change-world, change-kept}

-- ---- a body that is in an island
module _ (Z : Sizes) (X : Extents) (T : Tables) (G : Good Z X T) (s i : ℕ) (sl : s < X.slots) (hi : (members_in Z T).home s ≡ i) (d : i ≢ none) where
  abbrev S : View
  S = members_in Z T

  abbrev M : List ℕ
  M = removed T.members 0 (4 * Z.slots) s

  hn : S.home s ≢ none
  hn e = d (sym hi ∙ e)

  hs : Held X.slots X.islands S s
  hs = held G.members_wf.rules s sl hn

  il : i < X.islands
  il = rw hi at hs.home_lt

  ready : RemoveReady T.members 0 (4 * Z.slots) s
  ready = remove_ready Z.slots G.members_wf s sl hn

  -- its slot is filled, its island live
  filled : get_or T.slots (5 * s) 0 ≢ none
  filled g = ⊎_elim (λ x. hn x.no_member) (λ x. (let a = x.generation_lt in omega arith)) (G.slot s sl)

  live : Live (S.count i) (get_or T.rows (3 * i + 2) 0) ((freed_in Z T).home i)
  live =
      let p : S.place s < S.count i = rw hi at hs.place_lt in
      ⊎_elim (λ x. x) (λ x. absurd (let c = x.no_body in omega arith)) (G.island i il)

  Q : Taken Z.slots X.slots X.islands s T.members M
  Q = taken Z.slots X.slots X.islands T.members G.members_wf s sl hn

  count_i : (view M 0 (4 * Z.slots)).count i + 1 ≡ S.count i
  count_i = rw hi at Q.count_i

  out-change : (R F : List ℕ) → ((j : ℕ) → Aside i j → get_or R j 0 ≡ get_or T.rows j 0) → Wf F 0 (4 * Z.islands) X.islands 1
      → ChainKept Z.islands X.islands 1 T.freed F → ((k : ℕ) → k < X.islands → k ≢ i → (view F 0 (4 * Z.islands)).home k ≡ (freed_in Z T).home k) → Change Z X T s i M R F
  out-change R F ro fw fk fo =
      record {
        members_wf = Q.wf;
        members_kept = Q.kept;
        home_o = Q.home_o;
        count_o = λ k l n. Q.count_o k l (λ e. n (e ∙ hi));
        list_o = λ k l n. Q.list_o k l (λ e. n (e ∙ hi));
        row_o = ro;
        freed_wf = fw;
        freed_kept = fk;
        freed_o = fo;
      }

  -- ---- others stay
  module _ (K : Sized Z T) (c : 1 < S.count i) where
    abbrev r : ℕ
    r = get_or T.rows (3 * i) 0

    abbrev R : List ℕ
    R = set T.rows (3 * i) (more r)

    row_o : (j : ℕ) → j ≢ 3 * i → get_or R j 0 ≡ get_or T.rows j 0
    row_o j n = get_or-set_other T.rows (3 * i) j (more r) 0 n

    some-change : Change Z X T s i M R T.freed
    some-change =
        out-change R T.freed (set-aside T.rows i (3 * i) (more r) (omega arith) (omega arith)) G.freed_wf chain-refl (λ k l n. refl)

    some_good : Good Z X (changed Z X T s i M R T.freed)
    some_good =
        change-good Z X T s i M R T.freed some-change G filled
        (inl (record { some = (let e = count_i in omega arith); sleeping_flag = rw (row_o (3 * i + 2) (omega arith)) live.sleeping_flag; not_freed = live.not_freed }))

    some-world : decode Z X (changed Z X T s i M R T.freed)
        ≡ island_set (decode Z X T) i (without (island_at (decode Z X T) i) (swap_remove 0 (island_at (decode Z X T) i).bodies (place_of (island_at (decode Z X T) i).bodies s)))
    unfolding island_set taken_out
    some-world =
        let p : place_of (list_of S i) s ≡ S.place s = rw hi at (place-of Z X T G s sl (rw hi il)) in
        let b : list_of (view M 0 (4 * Z.slots)) i ≡ swap_remove 0 (list_of S i) (S.place s) = rw hi at Q.list_e in
        let l = K.rows_length in
        let h = il in
        let g = G.islands_le in
        change-world Z X T s i M R T.freed some-change _ (list_of (freed_in Z T) 0)
        (island-is (b ∙ ap (swap_remove 0 (list_of S i)) (sym p)) refl refl (get_or-set_same T.rows (3 * i) (more r) 0 (omega arith)) (row_o (3 * i + 1) (omega arith))
        (ap flag (row_o (3 * i + 2) (omega arith)))
        ∙ ap (λ (a : Island). without a (swap_remove 0 a.bodies (place_of a.bodies s))) (sym (island-at Z X T i il)))
        refl

    some-kept : SameBehind Z X T (changed Z X T s i M R T.freed)
    some-kept = change-kept Z X T s i M R T.freed some-change il

  -- ---- it was the last, and no link is left
  module _ (K : Sized Z T) (c : S.count i ≡ 1) (cc : (contacts_in Z T).count i ≡ 0) (cj : (joints_in Z T).count i ≡ 0) where
    abbrev R0 : List ℕ
    R0 = writes T.rows (row_words (3 * i) 0 0 0)

    abbrev F : List ℕ
    F = pushed T.freed 0 (4 * Z.islands) 0 i

    A : Added Z.islands X.islands 1 0 i T.freed F
    A = added Z.islands X.islands 1 T.freed G.freed_wf 0 i (omega arith) il live.not_freed

    last-change : Change Z X T s i M R0 F
    last-change = out-change R0 F (row-aside T.rows i 0 0 0) A.wf A.kept A.view_is.home_o

    inside : 3 * i + 2 < length T.rows
    inside = let a = il in let b = K.rows_length in let g = G.islands_le in omega arith

    r0 : get_or R0 (3 * i) 0 ≡ 0
    r0 = row-0 T.rows i 0 0 0 inside

    r1 : get_or R0 (3 * i + 1) 0 ≡ 0
    r1 = row-1 T.rows i 0 0 0 inside

    r2 : get_or R0 (3 * i + 2) 0 ≡ 0
    r2 = row-2 T.rows i 0 0 0 inside

    no_body : (view M 0 (4 * Z.slots)).count i ≡ 0
    no_body = let e = count_i in omega arith

    last-good : Good Z X (changed Z X T s i M R0 F)
    last-good =
        change-good Z X T s i M R0 F last-change G filled
        (inr (record { no_body = no_body; no_contact = cc; no_joint = cj; no_removals = r0; no_denial = r1; not_sleeping = r2; in_stack = A.view_is.home_e }))

    last-world : decode Z X (changed Z X T s i M R0 F) ≡ free_set (island_set (decode Z X T) i absent_island) ((decode Z X T).free_islands ++ (i ∷ []))
    unfolding island_set
    last-world =
        change-world Z X T s i M R0 F last-change absent_island (list_of (freed_in Z T) 0 ++ (i ∷ []))
        (island-is (nil _ (length-list Q.wf.rules i il ∙ no_body)) (rw (nil (list_of (contacts_in Z T) i) (length-list G.contacts_wf.rules i il ∙ cc)))
        (rw (nil (list_of (joints_in Z T) i) (length-list G.joints_wf.rules i il ∙ cj)))
        r0 r1 (ap flag r2))
        A.list_i

    last-kept : SameBehind Z X T (changed Z X T s i M R0 F)
    last-kept = change-kept Z X T s i M R0 F last-change il

-- ---- the steps
module _ {Z : Sizes} {t : List ℕ} (s i : ℕ) (S : Sound Z t) (sl : s < (extents (tables Z t)).slots) (hi : (members_in Z (tables Z t)).home s ≡ i) (d : i ≢ none) where
  pub home_lt : i < (extents (tables Z t)).islands
  home_lt = il Z (extents (tables Z t)) (tables Z t) S.good s i sl hi d

  pub leave-ready : RemoveReady (tables Z t).members 0 (4 * Z.slots) s
  leave-ready = ready Z (extents (tables Z t)) (tables Z t) S.good s i sl hi d

  -- after the puts into members and rows, whatever was put
  pub free-ready : {t1 t2 ys zs : List ℕ} → Put (members_at Z) (members_span Z) t t1 ys → Put (rows_at Z) (rows_span Z) t1 t2 zs → PushReady (tables Z t2).freed 0 (4 * Z.islands) 0 i
  free-ready {t1} {t2} P Q =
      let e : (tables Z t2).freed ≡ (tables Z t).freed =
      ap (λ (W : Tables). W.freed) (put-rows Z t1 t2 _ (P.same_length ∙ S.long) Q) ∙ ap (λ (W : Tables). W.freed) (put-members Z t t1 _ S.long P) in
      rw e (push_ready Z.islands S.good.freed_wf 0 i (omega arith) home_lt (live Z (extents (tables Z t)) (tables Z t) S.good s i sl hi d).not_freed)

  pub left-some : {t1 t2 : List ℕ} → 1 < (members_in Z (tables Z t)).count i → Put (members_at Z) (members_span Z) t t1 (removed (tables Z t).members 0 (4 * Z.slots) s)
      → Put (rows_at Z) (rows_span Z) t1 t2 (set (tables Z t1).rows (3 * i) (more (get_or (tables Z t1).rows (3 * i) 0))) → Steps Z (leave s i) t t2
  unfolding leave
  left-some {t1} {t2} c P Q =
      let T = tables Z t in
      let X = extents T in
      let G = S.good in
      let K = sized Z t S.long in
      let h1 : length t1 ≡ total Z = P.same_length ∙ S.long in
      let e1 = put-members Z t t1 _ S.long P in
      let e2 = put-rows Z t1 t2 _ h1 Q ∙ ap (λ (W : Tables). rows_put W (set W.rows (3 * i) (more (get_or W.rows (3 * i) 0)))) e1 in
      steps-at t2 (λ w. island_set w i (without (island_at w i) (swap_remove 0 (island_at w i).bodies (place_of (island_at w i).bodies s)))) X _ e2 refl (Q.same_length ∙ h1)
      (some_good Z X T G s i sl hi d K c)
      (some-world Z X T G s i sl hi d K c)
      (some-kept Z X T G s i sl hi d K c)
      (larger-refl X)

  pub left-last : {t1 t2 t3 : List ℕ} → (members_in Z (tables Z t)).count i ≡ 1 → (contacts_in Z (tables Z t)).count i ≡ 0 → (joints_in Z (tables Z t)).count i ≡ 0
      → Put (members_at Z) (members_span Z) t t1 (removed (tables Z t).members 0 (4 * Z.slots) s)
      → Put (rows_at Z) (rows_span Z) t1 t2 (writes (tables Z t1).rows (row_words (3 * i) 0 0 0))
      → Put (freed_at Z) (freed_span Z) t2 t3 (pushed (tables Z t2).freed 0 (4 * Z.islands) 0 i) → Steps Z (leave_last i) t t3
  unfolding leave_last
  left-last {t1} {t2} {t3} c cc cj P Q R =
      let T = tables Z t in
      let X = extents T in
      let G = S.good in
      let K = sized Z t S.long in
      let h1 : length t1 ≡ total Z = P.same_length ∙ S.long in
      let h2 : length t2 ≡ total Z = Q.same_length ∙ h1 in
      let e1 = put-members Z t t1 _ S.long P in
      let e2 = put-rows Z t1 t2 _ h1 Q ∙ ap (λ (W : Tables). rows_put W (writes W.rows (row_words (3 * i) 0 0 0))) e1 in
      let e3 = put-freed Z t2 t3 _ h2 R ∙ ap (λ (W : Tables). freed_put W (pushed W.freed 0 (4 * Z.islands) 0 i)) e2 in
      steps-at t3 (λ w. free_set (island_set w i absent_island) (w.free_islands ++ (i ∷ []))) X _ e3 refl (R.same_length ∙ h2) (last-good Z X T G s i sl hi d K c cc cj)
      (last-world Z X T G s i sl hi d K c cc cj)
      (last-kept Z X T G s i sl hi d K c cc cj)
      (larger-refl X)

-- ---- the pending split
pending-yes : (f n i : ℕ) → f ≡ 1 → n ≡ i → pick (waits (pending f n) i) nothing (pending f n) ≡ nothing
pending-yes f n i p q = rw (eq-eqb f 1 p, eq-eqb n i q)

pending-no : (f n i : ℕ) → (f ≡ 1 → n ≢ i) → pick (waits (pending f n) i) nothing (pending f n) ≡ pending f n
pending-no f n i d = either f 1 (λ p. rw (eq-eqb f 1 p, ne_eqb n i (d p))) (λ p. rw (ne_eqb f 1 p))

-- the head's words of it become f and n
module _ (Z : Sizes) (X : Extents) (T : Tables) (G : Good Z X T) (K : Sized Z T) (f n : ℕ) where
  abbrev H : List ℕ
  H = writes T.head ((5, f) ∷ (5 + 1, n) ∷ [])

  head-o : (j : ℕ) → j ≢ 5 → j ≢ 6 → get_or H j 0 ≡ get_or T.head j 0
  head-o j a b = miss T.head ((5, f) ∷ (5 + 1, n) ∷ []) j (omega arith)

  w5 : get_or H 5 0 ≡ f
  w5 = let l = K.head_length in hit T.head [] 5 f ((5 + 1, n) ∷ []) (omega arith) (omega arith)

  w6 : get_or H 6 0 ≡ n
  w6 = let l = K.head_length in hit T.head ((5, f) ∷ []) 6 n [] (omega arith) (omega arith)

  pub clear-extents : extents (head_put T H) ≡ extents T
  clear-extents =
      extents-is (head-o 0 (omega arith) (omega arith)) (head-o 1 (omega arith) (omega arith)) (head-o 2 (omega arith) (omega arith)) (head-o 3 (omega arith) (omega arith))
      (head-o 4 (omega arith) (omega arith))

  set-good : ((f ≡ 0) × (n ≡ 0)) ⊎ (f ≡ 1) → Good Z X (head_put T H)
  set-good r =
      record {
        enough = G.enough;
        slots_le = G.slots_le;
        islands_le = G.islands_le;
        edges_le = G.edges_le;
        joints_le = G.joints_le;
        journal_le = G.journal_le;
        members_wf = G.members_wf;
        freed_wf = G.freed_wf;
        contacts_wf = G.contacts_wf;
        joints_wf = G.joints_wf;
        spare_wf = G.spare_wf;
        scan_wf = G.scan_wf;
        slot = G.slot;
        island = G.island;
        seen = G.seen;
        edge = G.edge;
        joint = G.joint;
        distinct = G.distinct;
        head = record { split = ⊎_elim (λ x. inl (w5 ∙ x.0, w6 ∙ x.1)) (λ x. inr (w5 ∙ x)) r; scan = rw (head-o 8 (omega arith) (omega arith)) G.head.scan };
      }

  set-world : decode Z X (head_put T H) ≡ split_set (decode Z X T) (pending f n)
  set-world =
      world_is refl refl refl refl refl refl refl (rw (w5, w6)) (head-o 7 (omega arith) (omega arith)) (ap flag (head-o 8 (omega arith) (omega arith))) refl

pub pending-put : {Z : Sizes} {t t1 : List ℕ} (f n : ℕ) → Sound Z t → ((f ≡ 0) × (n ≡ 0)) ⊎ (f ≡ 1) → Put (head_at Z) (head_span Z) t t1 (writes (tables Z t).head ((5, f) ∷ (5 + 1, n) ∷ []))
    → Steps Z (λ w. done (split_set w (pending f n))) t t1
pending-put {Z} {t} {t1} f n S r P =
    let T = tables Z t in
    let X = extents T in
    let K = sized Z t S.long in
    steps-at t1 (λ w. split_set w (pending f n)) X _ (put-head Z t t1 _ S.long P) (clear-extents Z X T S.good K f n) (P.same_length ∙ S.long) (set-good Z X T S.good K f n r)
    (set-world Z X T S.good K f n)
    kept-head
    (larger-refl X)

pub pending-cleared : {Z : Sizes} {t t1 : List ℕ} (i : ℕ) → Sound Z t → get_or (tables Z t).head 5 0 ≡ 1 → get_or (tables Z t).head 6 0 ≡ i
    → Put (head_at Z) (head_span Z) t t1 (writes (tables Z t).head ((5, 0) ∷ (5 + 1, 0) ∷ [])) → Steps Z (clear_pending i) t t1
unfolding clear_pending clear_pending_split_of world_of
pending-cleared {Z} {t} i S p q P =
    steps-as (λ w. done (split_set w (pending 0 0))) (clear_pending i) (ap (λ (x : Option ℕ). done (split_set (world_of Z t) x)) (sym (pending-yes _ _ i p q))) (pending-put 0 0 S (inl (refl, refl)) P)

pub pending-kept : {Z : Sizes} {t : List ℕ} (i : ℕ) → Sound Z t → (get_or (tables Z t).head 5 0 ≡ 1 → get_or (tables Z t).head 6 0 ≢ i) → Steps Z (clear_pending i) t t
unfolding clear_pending clear_pending_split_of world_of
pending-kept {Z} {t} i S d = steps-none (clear_pending_split_of i) S (ap (split_set (world_of Z t)) (pending-no _ _ i d))

pub unpended : {Z : Sizes} {t t1 : List ℕ} (i : ℕ) → Sound Z t → get_or (tables Z t).head 5 0 ≡ 1 → get_or (tables Z t).head 6 0 ≡ i
    → Put (head_at Z) (head_span Z) t t1 (writes (tables Z t).head ((5, 0) ∷ (5 + 1, 0) ∷ [])) → Unpended Z i t t1
unpended {Z} {t} {t1} i S p q P =
    let T = tables Z t in
    let e = put-head Z t t1 _ S.long P in
    let h : (tables Z t1).head ≡ writes T.head ((5, 0) ∷ (5 + 1, 0) ∷ []) = ap (λ (W : Tables). W.head) e in
    record {
      steps = pending-cleared i S p q P;
      extents_same = ap extents e ∙ clear-extents Z (extents T) T S.good (sized Z t S.long) 0 0;
      rest = e ∙ ap (λ (x : List ℕ). head_put T x) (sym h);
    }

pub not-pending : {Z : Sizes} {t : List ℕ} (i : ℕ) → Sound Z t → (get_or (tables Z t).head 5 0 ≡ 1 → get_or (tables Z t).head 6 0 ≢ i) → Unpended Z i t t
not-pending i S d = record { steps = pending-kept i S d; extents_same = refl; rest = refl }

-- a count and one more, as `saturating_add` gives it
pub one-more : (c : ℕ) → c ≤ 4294967295 → min (c + 1) 4294967295 ≡ more c
unfolding more
one-more c l = either c 4294967295 (λ e. rw (eq-eqb c 4294967295 e) (omega arith)) (λ d. rw (ne_eqb c 4294967295 d) (omega arith))
