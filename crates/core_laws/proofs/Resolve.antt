-- The journal's entries are counted one after the other, and the journal is then empty.
use mathlib.Core.Path.{◌≡◌, refl, sym, ◌∙◌, ap, subst}
use mathlib.Core.Logic.{◌⊎◌, inr, ◌≢◌, ⊎_elim}
use mathlib.Core.List.{List, [], ◌∷◌}
use Prim.Native.Nat.{ℕ, suc, ◌+◌, ◌*◌, ◌≤◌, ◌<◌}
use native.Mathlib.Omega.{arith}
use lib.ListN.{length, get_or, set}
use lib.Seq.{get_or-set_same, get_or-set_other}
use Rattle.list_in_table.specs.Rules.{none}
use Rattle.list_in_table.proofs.Laws.{either}
use Rattle.list_in_buffer.specs.Part.{Put}
use Rattle.def_kinds.specs.declared.Sizes.{Sizes}
use lib.ListN.{drop}
use lib.Seq.{drop-cons}
use borrow.Author.Tests.{eq-eqb, ne_eqb}
use native.Mathlib.Numerals.{add-one}
use Rattle.def_kinds.specs.Choice.{pick}
use Rattle.def_kinds.specs.Answers.{Done, Nothing}
use Rattle.def_state.specs.Plain.{top, empty, more}
use Rattle.def_state.specs.World.{Removal, World, Step, done, gives, island_at, body_island}
use Rattle.def_state.specs.Fields.{journal_set, island_set, count_set}
use Rattle.def_state.specs.Resolver.{counted, count_all, resolve_removals}
use Rattle.table_meaning.specs.Layout.{Tables, tables, head_at, head_span, rows_at, rows_span, head_put, rows_put, Extents, extents, members_in}
use Rattle.table_meaning.specs.Decode.{flag, removal_at, tabulate, decode, world_of}
use Rattle.table_meaning.specs.Sound.{Good, Sound}
use Rattle.table_meaning.specs.Does.{SameBehind, Does}
use Rattle.table_meaning.proofs.Puts.{Sized, sized, put-head, put-rows}
use Rattle.table_meaning.proofs.Tab.{get_d_tabulate}
use Rattle.table_meaning.proofs.Unique.{journal_is}
use Rattle.table_meaning.proofs.Frame.{larger-refl, kept_then, kept-rows, kept-head, sound-at, world-at, kept_at, extents-is}
use Rattle.core_laws.specs.Steps.{handle}
use Rattle.core_laws.specs.Resolving.{entry_of, counting, RowsOnly, Counted}
use Rattle.core_laws.proofs.Good.{world_is, island-is, head-rule}
use Rattle.core_laws.proofs.At.{steps-none, steps-as}
use Rattle.core_laws.proofs.Isle.{Aside, set-aside}
use Rattle.core_laws.proofs.Row.{row-steps}

rows_refl : {Z : Sizes} {t : List ℕ} → RowsOnly Z t t
rows_refl = record { same = refl; kept = λ j h. refl }

-- an entry whose handles are not members of one island counts nothing
pub counted_none : {Z : Sizes} {t : List ℕ} (a b c d : ℕ) → Sound Z t
    → (body_island (world_of Z t) (handle a b) ≡ none) ⊎ (body_island (world_of Z t) (handle a b) ≢ body_island (world_of Z t) (handle c d)) → Counted Z (entry_of a b c d) t t
unfolding counting counted
counted_none {Z} {t} a b c d S o =
    let w = world_of Z t in
    record {
      steps =
          steps-none (counted (entry_of a b c d)) S
          (⊎_elim (λ (e : body_island w (handle a b) ≡ none). rw (eq-eqb (body_island w (handle a b)) top e))
          (λ (e : body_island w (handle a b) ≢ body_island w (handle c d)).
          either (body_island w (handle a b)) top (λ q. rw (eq-eqb (body_island w (handle a b)) top q))
          (λ q. rw (ne_eqb (body_island w (handle a b)) top q, ne_eqb (body_island w (handle a b)) (body_island w (handle c d)) e)))
          o);
      only = rows_refl;
    }

-- else the count of that island rises
pub counted-some : {Z : Sizes} {t t' : List ℕ} (a b c d i : ℕ) → Sound Z t → i ≡ body_island (world_of Z t) (handle a b) → i ≡ body_island (world_of Z t) (handle c d) → i ≢ none
    → i < (extents (tables Z t)).islands → (members_in Z (tables Z t)).count i ≢ 0 → Put (rows_at Z) (rows_span Z) t t' (set (tables Z t).rows (3 * i) (more (get_or (tables Z t).rows (3 * i) 0)))
    → Counted Z (entry_of a b c d) t t'
unfolding counting counted
counted-some {Z} {t} {t'} a b c d i S p q n il some P =
    let T = tables Z t in
    let X = extents T in
    let K = sized Z t S.long in
    let x = T.rows in
    let v = more (get_or x (3 * i) 0) in
    let R = set x (3 * i) v in
    let w = world_of Z t in
    let lx : 3 * i < length x = (let k = K.rows_length in let g = S.good.islands_le in omega arith) in
    let o : (j : ℕ) → Aside i j → get_or R j 0 ≡ get_or x j 0 = set-aside x i (3 * i) v (omega arith) (omega arith) in
    let o1 : get_or R (3 * i + 1) 0 ≡ get_or x (3 * i + 1) 0 = get_or-set_other x (3 * i) (3 * i + 1) v 0 (omega arith) in
    let o2 : get_or R (3 * i + 2) 0 ≡ get_or x (3 * i + 2) 0 = get_or-set_other x (3 * i) (3 * i + 2) v 0 (omega arith) in
    let z : get_or x (3 * i + 2) 0 ≤ 1 = ⊎_elim (λ f. f.sleeping_flag) (λ f. (let e = f.not_sleeping in omega arith)) (S.good.island i il) in
    record {
      steps =
          steps-as (λ w. done (island_set w i (count_set (island_at w i) (more (island_at w i).constraint_remove_count)))) (λ w. done (counted (entry_of a b c d) w))
          (let d1 : body_island w (handle a b) ≢ top = λ e. n (p ∙ e) in
          let e1 : body_island w (handle a b) ≡ body_island w (handle c d) = sym p ∙ q in
          sym
          (ap done
          (rw (ne_eqb (body_island w (handle a b)) top d1, eq-eqb (body_island w (handle a b)) (body_island w (handle c d)) e1)
          (ap (λ (k : ℕ). island_set w k (count_set (island_at w k) (more (island_at w k).constraint_remove_count))) (sym p)))))
          (row-steps i R (λ a. count_set a (more a.constraint_remove_count)) S il some o (rw o2 z)
          (island-is refl refl refl (get_or-set_same x (3 * i) v 0 lx) o1 (ap flag o2))
          P);
      only = record { same = put-rows Z t t' R S.long P ∙ ap (rows_put T) (sym (ap (λ (W : Tables). W.rows) (put-rows Z t t' R S.long P))); kept = λ j h. ap (λ (y : List ℕ). get_or y j 0) (ap (λ (W : Tables). W.rows) (put-rows Z t t' R S.long P)) ∙ o j (inr (omega arith)) };
    }

-- ---- the loop: what is left to count, counted from here, is all of it counted from the start
rows_then : {Z : Sizes} {t t1 t2 : List ℕ} → RowsOnly Z t t1 → RowsOnly Z t1 t2 → RowsOnly Z t t2
rows_then {Z} {t} {t1} {t2} A B =
    record {
      same = B.same ∙ ap (λ (W : Tables). rows_put W (tables Z t2).rows) A.same;
      kept = λ j h. B.kept j (rw (ap (λ (W : Tables). (extents W).islands) A.same) h) ∙ A.kept j h;
    }

pub record Counts (Z : Sizes) (t₀ t : List ℕ) (k : ℕ) : Type 0 where
  pub sound : Sound Z t
  pub only : RowsOnly Z t₀ t
  pub rest : count_all (drop k (world_of Z t₀).removal_journal) (world_of Z t) ≡ count_all (world_of Z t₀).removal_journal (world_of Z t₀)

pub counts_start : {Z : Sizes} {t : List ℕ} → Sound Z t → Counts Z t t 0
counts_start S = record { sound = S; only = rows_refl; rest = refl }

-- the entry k of the journal
entry-is : (Z : Sizes) (t : List ℕ) (k : ℕ) (d : Removal) → k < (extents (tables Z t)).journal → get_or (world_of Z t).removal_journal k d ≡ removal_at (tables Z t).journal k
unfolding world_of
entry-is Z t k d l = get_d_tabulate (extents (tables Z t)).journal (removal_at (tables Z t).journal) d k l

-- the words of an entry are as they were when the loop began
pub entry-words : {Z : Sizes} {t₀ t : List ℕ} {k : ℕ} → Counts Z t₀ t k → (tables Z t).journal ≡ (tables Z t₀).journal
entry-words C = ap (λ (W : Tables). W.journal) C.only.same

abbrev pub entry_at : List ℕ → ℕ → Removal
entry_at x k = entry_of (get_or x (4 * k) 0) (get_or x (4 * k + 1) 0) (get_or x (4 * k + 2) 0) (get_or x (4 * k + 2 + 1) 0)

pub counts_step : {Z : Sizes} {t₀ t t' : List ℕ} (k : ℕ) → k < (extents (tables Z t₀)).journal → Counts Z t₀ t k → Counted Z (entry_at (tables Z t).journal k) t t' → Counts Z t₀ t' (k + 1)
unfolding counting count_all
counts_step {Z} {t₀} {t} {t'} k l C D =
    let J = (world_of Z t₀).removal_journal in
    let r = entry_at (tables Z t).journal k in
    let e : get_or J k r ≡ r =
    entry-is Z t₀ k r l ∙ ap (λ (x : List ℕ). removal_at x k) (sym (entry-words C)) in
    let c : drop k J ≡ r ∷ drop (k + 1) J =
    drop-cons J k r (let q = journal_is Z t₀ in omega arith) ∙ ap (λ (x : Removal). x ∷ drop (suc k) J) e ∙ ap (λ (j : ℕ). r ∷ drop j J) (sym (add-one k)) in
    record {
      sound = D.steps.does.sound;
      only = rows_then C.only D.only;
      rest = ap (count_all (drop (k + 1) J)) D.steps.does.after ∙ ap (λ (x : List Removal). count_all x (world_of Z t)) (sym c) ∙ C.rest;
    }

-- ---- the end: no entry is left, and the journal's length becomes 0
drop_all : (xs : List Removal) → drop (length xs) xs ≡ []
drop_all [] = refl
drop_all (x ∷ xs) = drop_all xs

abbrev no_journal : Extents → Extents
no_journal X = record { slots = X.slots; islands = X.islands; edges = X.edges; joints = X.joints; journal = 0 }

module _ (Z : Sizes) (X : Extents) (T : Tables) (G : Good Z X T) (K : Sized Z T) where
  abbrev H : List ℕ
  H = set T.head 4 0

  head-o : (j : ℕ) → j ≢ 4 → get_or H j 0 ≡ get_or T.head j 0
  head-o j d = get_or-set_other T.head 4 j 0 0 d

  empty-good : Good Z (no_journal X) (head_put T H)
  empty-good =
      record {
        enough = G.enough;
        slots_le = G.slots_le;
        islands_le = G.islands_le;
        edges_le = G.edges_le;
        joints_le = G.joints_le;
        journal_le = omega arith;
        members_wf = G.members_wf;
        freed_wf = G.freed_wf;
        contacts_wf = G.contacts_wf;
        joints_wf = G.joints_wf;
        spare_wf = G.spare_wf;
        scan_wf = G.scan_wf;
        slot = G.slot;
        island = G.island;
        seen = G.seen;
        edge = G.edge;
        joint = G.joint;
        distinct = G.distinct;
        head = head-rule (head-o 5 (omega arith)) (head-o 6 (omega arith)) (head-o 8 (omega arith)) refl G.head;
      }

  empty-world : decode Z (no_journal X) (head_put T H) ≡ journal_set (decode Z X T) []
  unfolding tabulate
  empty-world =
      world_is refl refl refl refl refl refl refl (rw (head-o 5 (omega arith), head-o 6 (omega arith))) (head-o 7 (omega arith)) (ap flag (head-o 8 (omega arith))) refl

  empty-after : extents T ≡ X → extents (head_put T H) ≡ no_journal X
  empty-after e =
      let k = K.head_length in
      extents-is (head-o 0 (omega arith) ∙ ap (λ (x : Extents). x.slots) e) (head-o 1 (omega arith) ∙ ap (λ (x : Extents). x.islands) e)
      (head-o 2 (omega arith) ∙ ap (λ (x : Extents). x.edges) e) (head-o 3 (omega arith) ∙ ap (λ (x : Extents). x.joints) e)
      (get_or-set_same T.head 4 0 0 (omega arith))

pub resolve-none : (Z : Sizes) (t : List ℕ) → (extents (tables Z t)).journal ≡ 0 → resolve_removals (world_of Z t) ≡ gives Nothing (world_of Z t)
unfolding resolve_removals
resolve-none Z t e = go (world_of Z t).removal_journal refl (journal_is Z t ∙ e)
  where
    go : (J : List Removal) → (world_of Z t).removal_journal ≡ J → length J ≡ 0
        → pick (empty J) (gives Nothing (world_of Z t)) (done (journal_set (count_all J (world_of Z t)) [])) ≡ gives Nothing (world_of Z t)
    go [] q l = refl
    go (x ∷ J) q l = absurd (omega arith)

some-entry : (J : List Removal) (w : World) → length J ≢ 0 → pick (empty J) (gives Nothing w) (done (journal_set (count_all J w) [])) ≡ done (journal_set (count_all J w) [])
some-entry [] w d = absurd (d refl)
some-entry (x ∷ J) w d = refl

pub resolved : {Z : Sizes} {t₀ t t' : List ℕ} (k : ℕ) → k ≡ (extents (tables Z t₀)).journal → k ≢ 0 → Counts Z t₀ t k → Put (head_at Z) (head_span Z) t t' (set (tables Z t).head 4 0)
    → Does Z resolve_removals t₀ Done t'
unfolding resolve_removals count_all
resolved {Z} {t₀} {t} {t'} k q n C P =
    let T0 = tables Z t₀ in
    let T = tables Z t in
    let X = extents T in
    let S = C.sound in
    let G = S.good in
    let K = sized Z t S.long in
    let J = (world_of Z t₀).removal_journal in
    let w = world_of Z t₀ in
    let e = put-head Z t t' _ S.long P in
    let a = empty-after Z X T G K refl in
    let d : length J ≢ 0 = λ z. n (q ∙ sym (journal_is Z t₀) ∙ z) in
    let f : resolve_removals w ≡ done (journal_set (count_all J w) []) = some-entry J w d in
    let g : world_of Z t ≡ count_all J w = ap (λ (x : List Removal). count_all x (world_of Z t)) (sym (ap (λ (j : ℕ). drop j J) (q ∙ sym (journal_is Z t₀)) ∙ drop_all J)) ∙ C.rest in
    let m : SameBehind Z (no_journal X) T0 T =
    subst (λ (W : Tables). SameBehind Z (no_journal X) T0 W) (sym C.only.same)
    (kept-rows (λ j h. C.only.kept j (rw (sym (ap (λ (W : Tables). (extents W).islands) C.only.same)) h))) in
    record {
      sound = sound-at Z (no_journal X) t' _ e a (P.same_length ∙ S.long) (empty-good Z X T G K);
      answer = sym (ap (λ (x : Step). x.answer) f);
      after =
          world-at Z (no_journal X) t' _ e a ∙ empty-world Z X T G K ∙ ap (λ (v : World). journal_set v []) (sym (world-at Z X t T refl refl) ∙ g)
          ∙ sym (ap (λ (x : Step). x.after) f);
      frame = kept_at Z (no_journal X) t' _ e a T0 (kept_then (larger-refl (no_journal X)) m kept-head);
    }
