-- One more edge comes into use, not linked: the tracked length grows.
use mathlib.Core.Path.{◌≡◌, refl, sym, ◌∙◌, ap, subst}
use mathlib.Core.Logic.{◌≢◌, inl}
use mathlib.Core.List.{List, map}
use Prim.Native.Nat.{ℕ, ◌+◌, ◌*◌, ◌≤◌, ◌<◌}
use native.Mathlib.Omega.{arith}
use lib.Dec.{ltb}
use borrow.Author.Tests.{lt-ltb, le-ltb}
use lib.ListN.{length, get_or, set}
use lib.Seq.{get_or-set_same, get_or-set_other}
use Rattle.list_in_table.specs.Rules.{none, list_of}
use Rattle.list_in_table.specs.Word.{writes, miss}
use Rattle.def_kinds.specs.Choice.{pick}
use Rattle.list_in_table.proofs.Laws.{either}
use Rattle.list_in_table.proofs.Same.{below}
use Rattle.list_in_table.proofs.Order.{length-list, list_at}
use Rattle.list_in_buffer.specs.Part.{Put}
use Rattle.def_kinds.specs.declared.Sizes.{Sizes}
use Rattle.def_state.specs.World.{World, done}
use Rattle.def_state.specs.Fields.{tracked_set}
use Rattle.def_state.specs.Links.{track}
use Rattle.table_meaning.specs.Layout.{Tables, tables, total, head_at, head_span, contacts_at, contacts_span, touches_at, touches_span, head_put, contacts_put, touches_put, Extents, extents, contacts_in, elem_words}
use Rattle.table_meaning.specs.Decode.{flag, contact_at, island_in, decode, world_of}
use Rattle.table_meaning.specs.Sound.{EdgeAt, Good, Sound}
use Rattle.table_meaning.specs.Does.{SameBehind}
use Rattle.table_meaning.proofs.Puts.{Sized, sized, put-head, put-contacts, put-touches}
use Rattle.table_meaning.proofs.Tab.{tabulate-same}
use Rattle.table_meaning.proofs.Chains.{Grown, elem-grown, elem-home}
use Rattle.table_meaning.proofs.Unique.{tracked-is}
use Rattle.table_meaning.proofs.Frame.{larger-refl, larger-then, kept_then, kept-head, kept-contacts, kept-touches, extents-is}
use Rattle.core_laws.specs.Steps.{Steps}
use Rattle.core_laws.specs.Linking.{tracking}
use Rattle.core_laws.proofs.Good.{island-is, world_is, island-rule, head-rule}
use Rattle.core_laws.proofs.Then.{does-as, does-then}
use Rattle.core_laws.proofs.At.{steps-at, steps-none, steps-as}
use Rattle.core_laws.proofs.LastOut.{map_same, blanked}
use Rattle.core_laws.proofs.OneContact.{edge-rule, contact-is}

abbrev one_edge : Extents → Extents
one_edge X = record { slots = X.slots; islands = X.islands; edges = X.edges + 1; joints = X.joints; journal = X.journal }

module _ (Z : Sizes) (X : Extents) (T : Tables) (G : Good Z X T) (K : Sized Z T) (l : X.edges < Z.edges) (ns : X.edges < none) where
  abbrev n : ℕ
  n = X.edges

  abbrev U : List ℕ
  U = writes T.touches (elem_words (4 * n))

  abbrev L : List ℕ
  L = writes T.contacts (elem_words (4 * n))

  abbrev H : List ℕ
  H = set T.head 2 (n + 1)

  abbrev T' : Tables
  T' = head_put (contacts_put (touches_put T U) L) H

  head-o : (j : ℕ) → j ≢ 2 → get_or H j 0 ≡ get_or T.head j 0
  head-o j d = get_or-set_other T.head 2 j (n + 1) 0 d

  head-2 : get_or H 2 0 ≡ n + 1
  head-2 = let k = K.head_length in get_or-set_same T.head 2 (n + 1) 0 (omega arith)

  after : extents T ≡ X → extents T' ≡ one_edge X
  after e =
      extents-is (head-o 0 (omega arith) ∙ ap (λ (x : Extents). x.slots) e) (head-o 1 (omega arith) ∙ ap (λ (x : Extents). x.islands) e) head-2
      (head-o 3 (omega arith) ∙ ap (λ (x : Extents). x.joints) e) (head-o 4 (omega arith) ∙ ap (λ (x : Extents). x.journal) e)

  C : Grown Z.edges n X.islands (n + 1) X.islands T.contacts L
  C = elem-grown Z.edges n X.islands T.contacts G.contacts_wf l ns

  old : (j : ℕ) → j < 4 * n → get_or U j 0 ≡ get_or T.touches j 0
  old j h = miss T.touches (elem_words (4 * n)) j (omega arith)

  blank : (j : ℕ) → 4 * n ≤ j → j < 4 * n + 4 → get_or U j 0 ≡ none
  blank j a b = blanked T.touches (4 * n) j (let k = K.touches_length in omega arith) a b

  grow-good : Good Z (one_edge X) T'
  grow-good =
      record {
        enough = G.enough;
        slots_le = G.slots_le;
        islands_le = G.islands_le;
        edges_le = omega arith;
        joints_le = G.joints_le;
        journal_le = G.journal_le;
        members_wf = G.members_wf;
        freed_wf = G.freed_wf;
        contacts_wf = C.wf;
        joints_wf = G.joints_wf;
        spare_wf = G.spare_wf;
        scan_wf = G.scan_wf;
        slot = G.slot;
        island = λ i h. island-rule refl (C.agrees.count i h) refl refl refl refl refl (G.island i h);
        seen = G.seen;
        edge = λ k kl.
            either k n
            (λ q.
            subst (EdgeAt Z T') (sym q)
            (inl
            (record {
              not_linked = elem-home Z.edges n X.islands T.contacts G.contacts_wf l ns;
              no_slot1 = blank (4 * n) (omega arith) (omega arith);
              no_generation1 = blank (4 * n + 1) (omega arith) (omega arith);
              no_slot2 = blank (4 * n + 2) (omega arith) (omega arith);
              no_generation2 = blank (4 * n + 3) (omega arith) (omega arith);
            })))
            (λ d.
            edge-rule (C.agrees.home k (omega arith)) (old (4 * k) (omega arith)) (old (4 * k + 1) (omega arith)) (old (4 * k + 2) (omega arith)) (old (4 * k + 3) (omega arith))
            (G.edge k (omega arith)));
        joint = G.joint;
        distinct = G.distinct;
        head = head-rule (head-o 5 (omega arith)) (head-o 6 (omega arith)) (head-o 8 (omega arith)) refl G.head;
      }

  links : (i : ℕ) → i < X.islands → map (contact_at U) (list_of (contacts_in Z T') i) ≡ map (contact_at T.touches) (list_of (contacts_in Z T) i)
  links i h =
      let R = G.contacts_wf.rules in
      let xs = list_of (contacts_in Z T) i in
      ap (map (contact_at U)) (C.lists i h)
      ∙ map_same (contact_at U) (contact_at T.touches) xs
      (λ p pl.
      let k = get_or xs p 0 in
      let a : k < n = (list_at R i h p (rw (length-list R i h) at pl)).lt in
      contact-is (old (4 * k) (omega arith)) (old (4 * k + 1) (omega arith)) (old (4 * k + 2) (omega arith)) (old (4 * k + 2 + 1) (omega arith)))

  grow-world : decode Z (one_edge X) T' ≡ tracked_set (decode Z X T) (n + 1)
  grow-world =
      world_is refl (tabulate-same X.islands (island_in Z T') (island_in Z T) (λ i h. island-is refl (links i h) refl refl refl refl)) refl refl refl refl refl
      (rw (head-o 5 (omega arith), head-o 6 (omega arith)))
      (head-o 7 (omega arith))
      (ap flag (head-o 8 (omega arith)))
      refl

  grow-kept : SameBehind Z (one_edge X) T T'
  grow-kept =
      kept_then (larger-refl (one_edge X)) (kept-touches (λ j h. miss T.touches (elem_words (4 * n)) j (omega arith)))
      (kept_then (larger-refl (one_edge X)) (kept-contacts C.kept) kept-head)

-- ---- the larger of two numbers
larger-yes : (x k : ℕ) → x ≤ k → pick (ltb x k) k x ≡ k
larger-yes x k h = below x k (λ l. rw (lt-ltb x k l)) (λ l. rw (le-ltb x k l) (omega arith))

larger-no : (x k : ℕ) → k ≤ x → pick (ltb x k) k x ≡ x
larger-no x k h = rw (le-ltb x k h)

track-yes : (k : ℕ) (w : World) → w.tracked ≤ k → track k w ≡ tracked_set w k
unfolding track
track-yes k w h = ap (tracked_set w) (larger-yes w.tracked k h)

track-no : (k : ℕ) (w : World) → k ≤ w.tracked → track k w ≡ w
unfolding track
track-no k w h = ap (tracked_set w) (larger-no w.tracked k h)

-- ---- the steps
pub edge-grown : {Z : Sizes} {t t1 t2 t3 : List ℕ} (e : ℕ) → Sound Z t → e ≡ (extents (tables Z t)).edges → e < Z.edges → e < none
    → Put (touches_at Z) (touches_span Z) t t1 (writes (tables Z t).touches (elem_words (4 * e)))
    → Put (contacts_at Z) (contacts_span Z) t1 t2 (writes (tables Z t1).contacts (elem_words (4 * e)))
    → Put (head_at Z) (head_span Z) t2 t3 (set (tables Z t2).head 2 (e + 1)) → Steps Z (tracking (e + 1)) t t3
unfolding tracking
edge-grown {Z} {t} {t1} {t2} {t3} n S q l ns P Q R =
    let T = tables Z t in
    let X = extents T in
    let G = S.good in
    let K = sized Z t S.long in
    let h1 : length t1 ≡ total Z = P.same_length ∙ S.long in
    let h2 : length t2 ≡ total Z = Q.same_length ∙ h1 in
    let ln : X.edges < Z.edges = omega arith in
    let nn : X.edges < none = omega arith in
    let e1 = put-touches Z t t1 _ S.long P in
    let e2 = put-contacts Z t1 t2 _ h1 Q ∙ ap (λ (W : Tables). contacts_put W (writes W.contacts (elem_words (4 * n)))) e1 in
    let e3 = put-head Z t2 t3 _ h2 R ∙ ap (λ (W : Tables). head_put W (set W.head 2 (n + 1))) e2 in
    let e : tables Z t3 ≡ T' Z X T G K ln nn = rw q at e3 in
    steps-at t3 (track (n + 1)) (one_edge X) _ e (after Z X T G K ln nn refl) (R.same_length ∙ h2) (grow-good Z X T G K ln nn)
    (grow-world Z X T G K ln nn ∙ ap (λ (k : ℕ). tracked_set (decode Z X T) (k + 1)) (sym q) ∙ sym (track-yes (n + 1) (decode Z X T) (omega arith)))
    (grow-kept Z X T G K ln nn)
    (record { slots = omega arith; islands = omega arith; edges = omega arith; joints = omega arith; journal = omega arith })

-- as many as are tracked, or fewer
pub edges-enough : {Z : Sizes} {t : List ℕ} (k : ℕ) → Sound Z t → k ≤ (extents (tables Z t)).edges → Steps Z (tracking k) t t
unfolding tracking
edges-enough {Z} {t} k S h = steps-none (track k) S (track-no k (world_of Z t) (let e = tracked-is Z t in omega arith))

-- the same after a step that tracks no more than before
pub edges-as_were : {Z : Sizes} {t t1 : List ℕ} (n k : ℕ) → n ≤ (extents (tables Z t)).edges → k ≤ (extents (tables Z t)).edges → Steps Z (tracking n) t t1 → Steps Z (tracking k) t t1
unfolding tracking
edges-as_were {Z} {t} {t1} n k hn hk A =
    let e = tracked-is Z t in
    steps-as (λ w. done (track n w)) (λ w. done (track k w)) (ap done (track-no n (world_of Z t) (omega arith) ∙ sym (track-no k (world_of Z t) (omega arith)))) A

-- how many are tracked after it
pub edges-after : {Z : Sizes} {t t1 : List ℕ} (k : ℕ) → Steps Z (tracking k) t t1 → (extents (tables Z t)).edges ≤ k → (extents (tables Z t1)).edges ≡ k
unfolding tracking
edges-after {Z} {t} {t1} k A h =
    sym (tracked-is Z t1) ∙ ap (λ (w : World). w.tracked) (A.does.after ∙ track-yes k (world_of Z t) (let e = tracked-is Z t in omega arith))

pub edges-least : {Z : Sizes} {t t1 : List ℕ} (k : ℕ) → Steps Z (tracking k) t t1 → k ≤ (extents (tables Z t1)).edges
edges-least {Z} {t} {t1} k A =
    below (extents (tables Z t)).edges k (λ l. (let e = edges-after k A (omega arith) in omega arith)) (λ l. (let e = A.larger.edges in omega arith))

-- one after the other
track-track : (k : ℕ) (w : World) → w.tracked ≤ k → track (k + 1) (track k w) ≡ track (k + 1) w
track-track k w h = rw (track-yes k w h, track-yes (k + 1) w (omega arith)) (track-yes (k + 1) (tracked_set w k) (omega arith))

pub edges-then : {Z : Sizes} {t t1 t2 : List ℕ} (k : ℕ) → (extents (tables Z t)).edges ≤ k → Steps Z (tracking k) t t1 → Steps Z (tracking (k + 1)) t1 t2 → Steps Z (tracking (k + 1)) t t2
unfolding tracking
edges-then {Z} {t} {t1} {t2} k h A B =
    let e : track (k + 1) (track k (world_of Z t)) ≡ track (k + 1) (world_of Z t) = track-track k (world_of Z t) (let q = tracked-is Z t in omega arith) in
    record {
      does = does-as _ (tracking (k + 1)) (rw e) (does-then (tracking k) (tracking (k + 1)) B.larger A.does B.does);
      larger = larger-then A.larger B.larger;
    }
