-- The last freed number becomes an island of one body; with a free number made ready before, that is ensure.
use mathlib.Core.Path.{◌≡◌, refl, sym, ◌∙◌, ap}
use mathlib.Core.Logic.{inl, ◌≢◌, ⊎_elim}
use mathlib.Core.Bool.{Bool, true, false, ◌&&◌, false≢true}
use mathlib.Core.List.{List, [], ◌∷◌, ◌++◌}
use Prim.Native.Nat.{ℕ, zero, suc, ◌+◌, ◌-◌, ◌*◌, ◌≤◌, ◌<◌}
use native.Mathlib.Omega.{arith}
use lib.Dec.{eqb}
use borrow.Author.Tests.{eq-eqb, ne_eqb, eqb-true}
use lib.ListN.{length, get_or, set}
use lib.Seq.{get_or-set_same, get_or-set_other, take-set-le}
use Rattle.list_in_table.specs.Rules.{none, View, Full, Rules, list_of, swap_remove as taken_out}
use Rattle.list_in_table.specs.Table.{view, Wf, pushed, removed, PushReady, RemoveReady}
use Rattle.list_in_table.proofs.Laws.{either, full}
use Rattle.list_in_table.proofs.Order.{length-list, list-of}
use Rattle.list_in_buffer.specs.Part.{Put}
use Rattle.def_kinds.specs.Choice.{pick}
use Rattle.def_kinds.specs.declared.Sizes.{Sizes}
use Rattle.def_kinds.specs.Answers.{Done, Nothing}
use Rattle.def_state.specs.Plain.{top, drop_last, last_of}
use Rattle.def_state.specs.World.{Handle, Body, World, done, body_of, named, island_of}
use Rattle.def_state.specs.Fields.{islands_set, free_set, island_set}
use Rattle.def_state.specs.Chain.{chainable}
use Rattle.def_state.specs.Membership.{new_number, alloc_island, may_join, singleton, joined, ensure}
use Rattle.table_meaning.specs.Layout.{Tables, tables, total, members_at, members_span, rows_at, rows_span, freed_at, freed_span, members_put, rows_put, Extents, extents, members_in, contacts_in, joints_in, freed_in}
use Rattle.table_meaning.specs.Decode.{flag, decode, world_of}
use Rattle.table_meaning.specs.Rule.{Freed}
use Rattle.table_meaning.specs.Sound.{Good, Sound}
use Rattle.table_meaning.specs.Does.{SameBehind, Does}
use Rattle.table_meaning.proofs.Puts.{Sized, sized, put-members, put-rows, put-freed}
use Rattle.table_meaning.proofs.Chains.{Added, Taken, added, taken, push_ready, remove_ready, nil}
use Rattle.table_meaning.proofs.Frame.{larger-refl}
use Rattle.core_laws.specs.Steps.{handle, Steps, one_island, readied, ready, found}
use Rattle.core_laws.specs.Loose.{OpenAt, Loose}
use Rattle.core_laws.proofs.Good.{island-is}
use Rattle.core_laws.proofs.Then.{refused, does-as, does-then}
use Rattle.core_laws.proofs.At.{steps-at}
use Rattle.core_laws.proofs.Loose.{good-loose}
use Rattle.core_laws.proofs.Names.{Named, named_is, home_is}
use Rattle.core_laws.proofs.Put.{body-word}
use Rattle.core_laws.proofs.Isle.{set-aside, Change, changed, change-good, change-world, change-kept}
use Rattle.core_laws.proofs.GrowIsland.{empty-no, ready-free}

-- an element inside a list is there whatever stands for none
inside : {A : Type 0} (xs : List A) (d e : A) (k : ℕ) → k < length xs → get_or xs k d ≡ get_or xs k e
inside [] d e k h = absurd (omega arith)
inside (x ∷ xs) d e zero h = refl
inside (x ∷ xs) d e (suc k) h = inside xs d e k (omega arith)

-- ---- the last freed number
module _ (Z : Sizes) (X : Extents) (T : Tables) (G : Loose Z X T) (i : ℕ) (c : 0 < (freed_in Z T).count 0) (q : i ≡ (freed_in Z T).last 0) where
  abbrev E : View
  E = freed_in Z T

  abbrev F : List ℕ
  F = removed T.freed 0 (4 * Z.islands) i

  abbrev xs : List ℕ
  xs = list_of E 0

  RF : Rules X.islands 1 E
  RF = G.freed_wf.rules

  end : Full X.islands 1 E 0
  end = full RF 0 (omega arith) (omega arith)

  pub il : i < X.islands
  il = rw q end.last_lt

  pub home-0 : E.home i ≡ 0
  home-0 = rw q end.last_home

  place-i : E.place i ≡ length xs - 1
  place-i = let a : E.place i + 1 ≡ E.count 0 = rw q end.last_place in let b = length-list RF 0 (omega arith) in omega arith

  pub held : E.home i ≢ none
  held e = let h = home-0 in omega arith

  pub take-ready : RemoveReady T.freed 0 (4 * Z.islands) i
  take-ready = remove_ready Z.islands G.freed_wf i il held

  pub freed : Freed ((members_in Z T).count i) ((contacts_in Z T).count i) ((joints_in Z T).count i) (get_or T.rows (3 * i) 0) (get_or T.rows (3 * i + 1) 0) (get_or T.rows (3 * i + 2) 0) (E.home i)
  freed = ⊎_elim (λ (x : OpenAt Z T i). absurd (held x.not_freed)) (λ x. x) (G.island i il)

  pub Q : Taken Z.islands X.islands 1 i T.freed F
  Q = taken Z.islands X.islands 1 T.freed G.freed_wf i il held

  pub rest : list_of (view F 0 (4 * Z.islands)) 0 ≡ drop_last xs
  unfolding taken_out
  rest =
      let e : list_of (view F 0 (4 * Z.islands)) 0 ≡ taken_out xs (E.place i) = rw home-0 at Q.list_e in
      let p = place-i in
      e ∙ take-set-le (length xs - 1) xs (E.place i) _ (omega arith)

  pub number : i ≡ last_of top xs
  number =
      let l = length-list RF 0 (omega arith) in
      let p = place-i in
      sym (list-of RF 0 (omega arith) i il home-0) ∙ ap (λ (k : ℕ). get_or xs k 0) p ∙ inside xs 0 top (length xs - 1) (omega arith)

  -- ---- becomes an island of the body in slot s
  module _ (U : Good Z X T) (K : Sized Z T) (s z : ℕ) (sl : s < X.slots) (sb : (members_in Z T).home s ≡ none) (sg : get_or T.slots (5 * s) 0 ≢ none) (zl : z ≤ 1) where
    abbrev M : List ℕ
    M = pushed T.members 0 (4 * Z.slots) i s

    abbrev R : List ℕ
    R = set T.rows (3 * i + 2) z

    A : Added Z.slots X.slots X.islands i s T.members M
    A = added Z.slots X.slots X.islands T.members G.members_wf i s il sl sb

    row_o : (j : ℕ) → j ≢ 3 * i + 2 → get_or R j 0 ≡ get_or T.rows j 0
    row_o j d = get_or-set_other T.rows (3 * i + 2) j z 0 d

    row-z : get_or R (3 * i + 2) 0 ≡ z
    row-z = let a = il in let b = K.rows_length in let g = G.islands_le in get_or-set_same T.rows (3 * i + 2) z 0 (omega arith)

    found-change : Change Z X T s i M R F
    found-change =
        record {
          members_wf = A.wf;
          members_kept = A.kept;
          home_o = A.view_is.home_o;
          count_o = A.view_is.count_o;
          list_o = A.list_o;
          row_o = set-aside T.rows i (3 * i + 2) z (omega arith) (omega arith);
          freed_wf = Q.wf;
          freed_kept = Q.kept;
          freed_o = Q.home_o;
        }

    found-good : Good Z X (changed Z X T s i M R F)
    found-good =
        change-good Z X T s i M R F found-change U sg
        (inl (record { some = (let e = A.view_is.count_i in omega arith); sleeping_flag = rw row-z zl; not_freed = Q.home_e }))

    found-world : decode Z X (changed Z X T s i M R F) ≡ island_set (free_set (decode Z X T) (drop_last xs)) (last_of top xs) (singleton s (flag z))
    unfolding island_set
    found-world =
        let w = decode Z X T in
        let no : (N n : ℕ) (x : List ℕ) → Wf x 0 (4 * N) n X.islands → (view x 0 (4 * N)).count i ≡ 0 → list_of (view x 0 (4 * N)) i ≡ [] =
        λ N n x u e. nil (list_of (view x 0 (4 * N)) i) (length-list u.rules i il ∙ e) in
        change-world Z X T s i M R F found-change (singleton s (flag z)) (drop_last xs)
        (island-is (A.list_i ∙ ap (λ (b : List ℕ). b ++ (s ∷ [])) (no Z.slots X.slots T.members G.members_wf freed.no_body))
        (rw (no Z.edges X.edges T.contacts G.contacts_wf freed.no_contact))
        (rw (no Z.joints X.joints T.joints G.joints_wf freed.no_joint))
        (row_o (3 * i) (omega arith) ∙ freed.no_removals)
        (row_o (3 * i + 1) (omega arith) ∙ freed.no_denial)
        (ap flag row-z))
        rest
        ∙ ap (λ (k : ℕ). islands_set (free_set w (drop_last xs)) (set w.islands k (singleton s (flag z)))) number

    found-kept : SameBehind Z X T (changed Z X T s i M R F)
    found-kept = change-kept Z X T s i M R F found-change il

-- ---- the step
module _ {Z : Sizes} {t : List ℕ} (i : ℕ) (S : Sound Z t) (c : 0 < (freed_in Z (tables Z t)).count 0) (q : i ≡ (freed_in Z (tables Z t)).last 0) where
  pub found_lt : i < (extents (tables Z t)).islands
  found_lt = il Z (extents (tables Z t)) (tables Z t) (good-loose S.good) i c q

  pub found-fits : i < Z.islands
  found-fits = let a = found_lt in let b = S.good.islands_le in omega arith

  pub found-remove_ready : RemoveReady (tables Z t).freed 0 (4 * Z.islands) i
  found-remove_ready = take-ready Z (extents (tables Z t)) (tables Z t) (good-loose S.good) i c q

  pub found-push_ready : {t1 ys : List ℕ} (s : ℕ) → s < (extents (tables Z t)).slots → (members_in Z (tables Z t)).home s ≡ none → Put (freed_at Z) (freed_span Z) t t1 ys
      → PushReady (tables Z t1).members 0 (4 * Z.slots) i s
  found-push_ready {t1} s sl sb P =
      rw (ap (λ (W : Tables). W.members) (put-freed Z t t1 _ S.long P)) (push_ready Z.slots S.good.members_wf i s found_lt sl sb)

pub founded : {Z : Sizes} {t t1 t2 t3 : List ℕ} (s i z : ℕ) → Sound Z t → s < (extents (tables Z t)).slots → (members_in Z (tables Z t)).home s ≡ none
    → get_or (tables Z t).slots (5 * s) 0 ≢ none → 0 < (freed_in Z (tables Z t)).count 0 → i ≡ (freed_in Z (tables Z t)).last 0 → z ≤ 1
    → Put (freed_at Z) (freed_span Z) t t1 (removed (tables Z t).freed 0 (4 * Z.islands) i)
    → Put (members_at Z) (members_span Z) t1 t2 (pushed (tables Z t1).members 0 (4 * Z.slots) i s)
    → Put (rows_at Z) (rows_span Z) t2 t3 (set (tables Z t2).rows (3 * i + 2) z) → Steps Z (found s (flag z)) t t3
unfolding found
founded {Z} {t} {t1} {t2} {t3} s i z S sl sb sg c q zl P1 P2 P3 =
    let T = tables Z t in
    let X = extents T in
    let G = good-loose S.good in
    let U = S.good in
    let K = sized Z t S.long in
    let h1 : length t1 ≡ total Z = P1.same_length ∙ S.long in
    let h2 : length t2 ≡ total Z = P2.same_length ∙ h1 in
    let e1 = put-freed Z t t1 _ S.long P1 in
    let e2 = put-members Z t1 t2 _ h1 P2 ∙ ap (λ (W : Tables). members_put W (pushed W.members 0 (4 * Z.slots) i s)) e1 in
    let e3 = put-rows Z t2 t3 _ h2 P3 ∙ ap (λ (W : Tables). rows_put W (set W.rows (3 * i + 2) z)) e2 in
    steps-at t3 (λ w. island_set (free_set w (drop_last w.free_islands)) (last_of top w.free_islands) (singleton s (flag z))) X _ e3 refl (P3.same_length ∙ h2)
    (found-good Z X T G i c q U K s z sl sb sg zl)
    (found-world Z X T G i c q U K s z sl sb sg zl)
    (found-kept Z X T G i c q U K s z sl sb sg zl)
    (larger-refl X)

-- ---- who may join, in the words of the tables
pub record Joins (Z : Sizes) (t : List ℕ) (s g : ℕ) : Type 0 where
  pub name : Named Z (extents (tables Z t)) (tables Z t) (handle s g)
  pub not_fixed : get_or (tables Z t).slots (5 * s + 2) 0 ≢ 1
  pub is_enabled : get_or (tables Z t).slots (5 * s + 3) 0 ≡ 1
  pub no_member : (members_in Z (tables Z t)).home s ≡ none

module _ {Z : Sizes} {t : List ℕ} (s g : ℕ) (S : Sound Z t) where
  pub join-no : named (world_of Z t) (handle s g) ≡ false → may_join (world_of Z t) (handle s g) ≡ false
  unfolding may_join
  join-no e = rw e

  module _ (e : named (world_of Z t) (handle s g) ≡ true) where
    l : s < (extents (tables Z t)).slots
    l = (named_is Z t s g e).slot_lt

    pub join-fixed : get_or (tables Z t).slots (5 * s + 2) 0 ≡ 1 → may_join (world_of Z t) (handle s g) ≡ false
    unfolding may_join
    join-fixed f = rw (e, body-word Z t s l, eq-eqb (get_or (tables Z t).slots (5 * s + 2) 0) 1 f)

    pub join-disabled : get_or (tables Z t).slots (5 * s + 2) 0 ≢ 1 → get_or (tables Z t).slots (5 * s + 3) 0 ≢ 1 → may_join (world_of Z t) (handle s g) ≡ false
    unfolding may_join
    join-disabled f d = simp (e, body-word Z t s l, ne_eqb _ 1 f, ne_eqb _ 1 d)

    pub join-home : get_or (tables Z t).slots (5 * s + 2) 0 ≢ 1 → get_or (tables Z t).slots (5 * s + 3) 0 ≡ 1 → may_join (world_of Z t) (handle s g) ≡ eqb ((members_in Z (tables Z t)).home s) none
    unfolding may_join
    join-home f d = simp (e, body-word Z t s l, ne_eqb _ 1 f, eq-eqb _ 1 d, home_is Z t s g S l)

  pub joins : may_join (world_of Z t) (handle s g) ≡ true → Joins Z t s g
  joins h = go (named (world_of Z t) (handle s g)) refl
    where
      go : (b : Bool) → named (world_of Z t) (handle s g) ≡ b → Joins Z t s g
      go false e = absurd (false≢true (sym (join-no e) ∙ h))
      go true e =
          either (get_or (tables Z t).slots (5 * s + 2) 0) 1 (λ f. absurd (false≢true (sym (join-fixed e f) ∙ h)))
          (λ f.
          either (get_or (tables Z t).slots (5 * s + 3) 0) 1
          (λ d. record { name = named_is Z t s g e; not_fixed = f; is_enabled = d; no_member = eqb-true _ _ (sym (join-home e f d) ∙ h) })
          (λ d. absurd (false≢true (sym (join-disabled e f d) ∙ h))))

-- ---- whom ensure takes: whom a chain links, where it is in no island
picks : (a b c d : Bool) → pick a (pick b false (pick c d false)) false ≡ (pick a (pick b false c) false && d)
picks true true c d = refl
picks true false true d = refl
picks true false false d = refl
picks false b c d = refl

join-chainable : (w : World) (h : Handle) → may_join w h ≡ (chainable w h && eqb (island_of w h.slot) top)
unfolding may_join chainable
join-chainable w h = picks (named w h) (body_of w h.slot).fixed (body_of w h.slot).enabled (eqb (island_of w h.slot) top)

pub chainable-named : (w : World) (h : Handle) → chainable w h ≡ true → named w h ≡ true
unfolding chainable
chainable-named w h = go (named w h)
  where
    go : (a : Bool) → pick a (pick (body_of w h.slot).fixed false (body_of w h.slot).enabled) false ≡ true → a ≡ true
    go true e = refl
    go false e = e

module _ {Z : Sizes} {t : List ℕ} (s g : ℕ) (S : Sound Z t) where
  pub join_yes : chainable (world_of Z t) (handle s g) ≡ true → may_join (world_of Z t) (handle s g) ≡ eqb ((members_in Z (tables Z t)).home s) none
  join_yes e =
      let l = (named_is Z t s g (chainable-named _ _ e)).slot_lt in
      join-chainable (world_of Z t) (handle s g) ∙ rw e (ap (λ (i : ℕ). eqb i none) (home_is Z t s g S l))

  pub join_not : chainable (world_of Z t) (handle s g) ≡ false → may_join (world_of Z t) (handle s g) ≡ false
  join_not e = join-chainable (world_of Z t) (handle s g) ∙ rw e refl

-- ---- ensure
joined-found : (w : World) (s : ℕ) → found s (body_of w s).sleeping (readied w) ≡ done (joined w s)
unfolding found readied joined alloc_island new_number one_island island_set
joined-found w s =
    either (length w.free_islands) 0 (λ e. rw (nil w.free_islands e)) (λ d. rw (empty-no w.free_islands d))

pub ensure-no : {Z : Sizes} {t : List ℕ} (s g : ℕ) → Sound Z t → may_join (world_of Z t) (handle s g) ≡ false → Does Z (ensure (handle s g)) t Nothing t
unfolding ensure
ensure-no s g S e = refused (ensure (handle s g)) Nothing S (rw e)

-- after ready, what founded asks of a body that may join
pub record Waits (Z : Sizes) (t : List ℕ) (s : ℕ) : Type 0 where
  pub slot_lt : s < (extents (tables Z t)).slots
  pub no_member : (members_in Z (tables Z t)).home s ≡ none
  pub not_vacant : get_or (tables Z t).slots (5 * s) 0 ≢ none
  pub number : 0 < (freed_in Z (tables Z t)).count 0
  pub sleeping_flag : get_or (tables Z t).slots (5 * s + 4) 0 ≤ 1

pub ready-waits : {Z : Sizes} {t t1 : List ℕ} (s g : ℕ) → Sound Z t → may_join (world_of Z t) (handle s g) ≡ true → Steps Z ready t t1 → Waits Z t1 s
ready-waits {Z} {t} {t1} s g S e A =
    let J = joins s g S e in
    let B = ready-free S A in
    let l = J.name.slot_lt in
    let l1 : s < (extents (tables Z t1)).slots = rw B.slots l in
    let v : get_or (tables Z t1).slots (5 * s) 0 ≢ none =
    λ x. J.name.not_absent (sym J.name.generation_is ∙ sym (ap (λ (b : Body). b.generation) (B.body_word s l)) ∙ x) in
    record {
      slot_lt = l1;
      no_member = B.home_at s l ∙ J.no_member;
      not_vacant = v;
      number = B.some;
      sleeping_flag = ⊎_elim (λ x. absurd (v x.no_generation)) (λ x. x.sleeping_flag) (A.does.sound.good.slot s l1);
    }

pub ensured : {Z : Sizes} {t t1 t2 : List ℕ} (s g : ℕ) → Sound Z t → may_join (world_of Z t) (handle s g) ≡ true → Steps Z ready t t1
    → Steps Z (found s (flag (get_or (tables Z t1).slots (5 * s + 4) 0))) t1 t2 → Does Z (ensure (handle s g)) t Done t2
unfolding ensure ready
ensured {Z} {t} {t1} s g S e A B =
    let w = world_of Z t in
    let z = flag (get_or (tables Z t1).slots (5 * s + 4) 0) in
    let l = (joins s g S e).name.slot_lt in
    let p : z ≡ (body_of w s).sleeping = ap (λ (b : Body). b.sleeping) ((ready-free S A).body_word s l ∙ sym (body-word Z t s l)) in
    does-as _ (ensure (handle s g)) (ap (λ (b : Bool). found s b (readied w)) p ∙ joined-found w s ∙ rw e) (does-then ready (found s z) B.larger A.does B.does)
