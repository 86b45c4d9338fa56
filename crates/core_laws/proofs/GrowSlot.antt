-- One more slot comes into use, vacant.
use mathlib.Core.Path.{◌≡◌, refl, sym, ◌∙◌, ap, subst}
use mathlib.Core.Logic.{inl, ◌≢◌}
use mathlib.Core.List.{List, [], ◌∷◌, ◌++◌}
use Prim.Native.Nat.{ℕ, zero, suc, ◌+◌, ◌-◌, ◌*◌, ◌≤◌, ◌<◌}
use native.Mathlib.Omega.{arith}
use lib.ListN.{length, get_or, set}
use lib.Seq.{get_or-set_same, get_or-set_other}
use Rattle.list_in_table.specs.Rules.{none}
use Rattle.list_in_table.specs.Word.{writes, miss, hit}
use Rattle.list_in_table.proofs.Laws.{either}
use Rattle.list_in_buffer.specs.Part.{Put}
use Rattle.def_kinds.specs.declared.Sizes.{Sizes}
use Rattle.def_kinds.specs.Answers.{Done}
use lib.ListN.{replicate, length-replicate, length-append}
use Rattle.def_state.specs.World.{Body, absent_body, World}
use Rattle.def_state.specs.Fields.{bodies_set}
use Rattle.def_state.specs.Bodies.{grown}
use Rattle.table_meaning.specs.Layout.{Tables, tables, total, head_at, head_span, slots_at, slots_span, members_at, members_span, head_put, slots_put, members_put, Extents, extents, elem_words}
use Rattle.table_meaning.specs.Decode.{flag, body_at, tabulate, island_in, decode, world_of}
use Rattle.table_meaning.specs.Sound.{SlotAt, Good, Sound}
use Rattle.table_meaning.specs.Does.{SameBehind, Does}
use Rattle.table_meaning.proofs.Puts.{Sized, sized, put-head, put-slots, put-members}
use Rattle.table_meaning.proofs.Tab.{tabulate-same}
use Rattle.table_meaning.proofs.Chains.{Grown, elem-grown, elem-home}
use Rattle.table_meaning.proofs.Unique.{slots-is}
use Rattle.table_meaning.proofs.Frame.{larger-refl, larger-then, kept_refl, kept_then, kept-head, kept-slots, kept-members, sound-at, world-at, kept_at, extents-is}
use Rattle.core_laws.specs.Steps.{slot_words, grow, Grew}
use Rattle.core_laws.proofs.Good.{body_is, island-is, world_is, slot-rule, island-rule, head-rule}

abbrev pub one_slot : Extents → Extents
one_slot X = record { slots = X.slots + 1; islands = X.islands; edges = X.edges; joints = X.joints; journal = X.journal }

module _ (Z : Sizes) (X : Extents) (T : Tables) (G : Good Z X T) (K : Sized Z T) (l : X.slots < Z.slots) (ns : X.slots < none) where
  abbrev n : ℕ
  n = X.slots

  abbrev ws : List (ℕ × ℕ)
  ws = slot_words (5 * n) none 0 0 0 0

  abbrev B : List ℕ
  B = writes T.slots ws

  abbrev L : List ℕ
  L = writes T.members (elem_words (4 * n))

  abbrev H : List ℕ
  H = set T.head 0 (n + 1)

  abbrev T' : Tables
  T' = head_put (members_put (slots_put T B) L) H

  head-o : (j : ℕ) → j ≢ 0 → get_or H j 0 ≡ get_or T.head j 0
  head-o j d = get_or-set_other T.head 0 j (n + 1) 0 d

  head-0 : get_or H 0 0 ≡ n + 1
  head-0 = let k = K.head_length in get_or-set_same T.head 0 (n + 1) 0 (omega arith)

  after : extents T ≡ X → extents T' ≡ one_slot X
  after e =
      extents-is head-0 (head-o 1 (omega arith) ∙ ap (λ (x : Extents). x.islands) e) (head-o 2 (omega arith) ∙ ap (λ (x : Extents). x.edges) e)
      (head-o 3 (omega arith) ∙ ap (λ (x : Extents). x.joints) e) (head-o 4 (omega arith) ∙ ap (λ (x : Extents). x.journal) e)

  C : Grown Z.slots n X.islands (n + 1) X.islands T.members L
  C = elem-grown Z.slots n X.islands T.members G.members_wf l ns

  old : (j : ℕ) → j < 5 * n → get_or B j 0 ≡ get_or T.slots j 0
  old j h = miss T.slots ws j (omega arith)

  room : 5 * n + 4 < length T.slots
  room = let q = K.slots_length in omega arith

  w0 : get_or B (5 * n) 0 ≡ none
  w0 = let q = room in hit T.slots [] (5 * n) none ((5 * n + 1, 0) ∷ (5 * n + 2, 0) ∷ (5 * n + 3, 0) ∷ (5 * n + 4, 0) ∷ []) (omega arith) (omega arith)

  w1 : get_or B (5 * n + 1) 0 ≡ 0
  w1 = let q = room in hit T.slots ((5 * n, none) ∷ []) (5 * n + 1) 0 ((5 * n + 2, 0) ∷ (5 * n + 3, 0) ∷ (5 * n + 4, 0) ∷ []) (omega arith) (omega arith)

  w2 : get_or B (5 * n + 2) 0 ≡ 0
  w2 = let q = room in hit T.slots ((5 * n, none) ∷ (5 * n + 1, 0) ∷ []) (5 * n + 2) 0 ((5 * n + 3, 0) ∷ (5 * n + 4, 0) ∷ []) (omega arith) (omega arith)

  w3 : get_or B (5 * n + 3) 0 ≡ 0
  w3 = let q = room in hit T.slots ((5 * n, none) ∷ (5 * n + 1, 0) ∷ (5 * n + 2, 0) ∷ []) (5 * n + 3) 0 ((5 * n + 4, 0) ∷ []) (omega arith) (omega arith)

  w4 : get_or B (5 * n + 4) 0 ≡ 0
  w4 = let q = room in hit T.slots ((5 * n, none) ∷ (5 * n + 1, 0) ∷ (5 * n + 2, 0) ∷ (5 * n + 3, 0) ∷ []) (5 * n + 4) 0 [] (omega arith) (omega arith)

  grow-good : Good Z (one_slot X) T'
  grow-good =
      record {
        enough = G.enough;
        slots_le = omega arith;
        islands_le = G.islands_le;
        edges_le = G.edges_le;
        joints_le = G.joints_le;
        journal_le = G.journal_le;
        members_wf = C.wf;
        freed_wf = G.freed_wf;
        contacts_wf = G.contacts_wf;
        joints_wf = G.joints_wf;
        spare_wf = G.spare_wf;
        scan_wf = G.scan_wf;
        slot = λ k kl.
            either k n
            (λ q.
            subst (SlotAt Z T') (sym q)
            (inl
            (record {
              no_generation = w0;
              not_fixed = w2;
              not_enabled = w3;
              not_sleeping = w4;
              no_member = elem-home Z.slots n X.islands T.members G.members_wf l ns;
            })))
            (λ d.
            slot-rule (old (5 * k) (omega arith)) (old (5 * k + 2) (omega arith)) (old (5 * k + 3) (omega arith)) (old (5 * k + 4) (omega arith))
            (C.agrees.home k (omega arith)) (G.slot k (omega arith)));
        island = λ i h. island-rule (C.agrees.count i h) refl refl refl refl refl refl (G.island i h);
        seen = G.seen;
        edge = G.edge;
        joint = G.joint;
        distinct = G.distinct;
        head = head-rule (head-o 5 (omega arith)) (head-o 6 (omega arith)) (head-o 8 (omega arith)) refl G.head;
      }

  grow-world : decode Z (one_slot X) T' ≡ bodies_set (decode Z X T) ((decode Z X T).bodies ++ (absent_body ∷ []))
  unfolding tabulate
  grow-world =
      let e : n + 1 ≡ suc n = omega arith in
      world_is
      (ap (λ (k : ℕ). tabulate k (body_at B)) e
      ∙ rw (
        tabulate-same n (body_at B) (body_at T.slots)
            (λ k h.
            body_is (old (5 * k) (omega arith)) (old (5 * k + 1) (omega arith)) (ap flag (old (5 * k + 2) (omega arith))) (ap flag (old (5 * k + 3) (omega arith)))
            (ap flag (old (5 * k + 4) (omega arith)))),
        w0,
        w1,
        w2,
        w3,
        w4,
      ))
      (tabulate-same X.islands (island_in Z T') (island_in Z T) (λ i h. island-is (C.lists i h) refl refl refl refl refl))
      refl refl refl refl refl
      (rw (head-o 5 (omega arith), head-o 6 (omega arith)))
      (head-o 7 (omega arith))
      (ap flag (head-o 8 (omega arith)))
      refl

  grow-kept : SameBehind Z (one_slot X) T T'
  grow-kept =
      kept_then (larger-refl (one_slot X)) (kept-slots (λ j h. miss T.slots ws j (omega arith)))
      (kept_then (larger-refl (one_slot X)) (kept-members C.kept) kept-head)

-- ---- the steps
join-nil : {A : Type 0} (xs : List A) → xs ++ [] ≡ xs
join-nil [] = refl
join-nil (x ∷ xs) = ap (λ ys. x ∷ ys) (join-nil xs)

join-join : {A : Type 0} (xs ys zs : List A) → (xs ++ ys) ++ zs ≡ xs ++ (ys ++ zs)
join-join [] ys zs = refl
join-join (x ∷ xs) ys zs = ap (λ l. x ∷ l) (join-join xs ys zs)

more-last : (k : ℕ) → replicate k absent_body ++ (absent_body ∷ []) ≡ replicate (suc k) absent_body
more-last zero = refl
more-last (suc k) = ap (λ (ys : List Body). absent_body ∷ ys) (more-last k)

pub grown-none : (k : ℕ) (w : World) → k ≤ length w.bodies → grown k w ≡ w
unfolding grown
grown-none k w h = let e : k - length w.bodies ≡ 0 = omega arith in rw (e, join-nil w.bodies)

one_more : (w : World) (k : ℕ) → k ≡ length w.bodies → grown (k + 1) w ≡ bodies_set w (w.bodies ++ (absent_body ∷ []))
unfolding grown
one_more w k h = let e : k + 1 - length w.bodies ≡ 1 = omega arith in rw e

size-grown : (k : ℕ) (w : World) → length w.bodies ≤ k → length (grown k w).bodies ≡ k
unfolding grown
size-grown k w h =
    let a = length-append w.bodies (replicate (k - length w.bodies) absent_body) in
    let b = length-replicate (k - length w.bodies) absent_body in
    omega arith

grown-grown : (k : ℕ) (w : World) → length w.bodies ≤ k → grown (k + 1) (grown k w) ≡ grown (k + 1) w
unfolding grown
grown-grown k w h =
    let c = k - length w.bodies in
    let e : k + 1 - length w.bodies ≡ suc c = omega arith in
    one_more (grown k w) k (sym (size-grown k w h))
    ∙ world_is (join-join w.bodies (replicate c absent_body) (absent_body ∷ []) ∙ ap (λ (x : List Body). w.bodies ++ x) (more-last c ∙ ap (λ (x : ℕ). replicate x absent_body) (sym e))) refl refl refl refl refl
    refl refl refl refl refl

pub grow-none : {Z : Sizes} {t : List ℕ} (k : ℕ) → Sound Z t → k ≤ (extents (tables Z t)).slots → Does Z (grow k) t Done t
unfolding grow
grow-none {Z} {t} k S h =
    record { sound = S; answer = refl; after = sym (grown-none k (world_of Z t) (let e = slots-is Z t in omega arith)); frame = kept_refl }

pub grow-one : {Z : Sizes} {t t1 t2 t3 : List ℕ} (n : ℕ) → Sound Z t → n ≡ (extents (tables Z t)).slots → n < Z.slots → n < none
    → Put (slots_at Z) (slots_span Z) t t1 (writes (tables Z t).slots (slot_words (5 * n) none 0 0 0 0))
    → Put (members_at Z) (members_span Z) t1 t2 (writes (tables Z t1).members (elem_words (4 * n)))
    → Put (head_at Z) (head_span Z) t2 t3 (set (tables Z t2).head 0 (n + 1)) → Grew Z (n + 1) t t3
unfolding grow
grow-one {Z} {t} {t1} {t2} {t3} n S q l ns P Q R =
    let T = tables Z t in
    let X = extents T in
    let G = S.good in
    let K = sized Z t S.long in
    let h1 : length t1 ≡ total Z = P.same_length ∙ S.long in
    let h2 : length t2 ≡ total Z = Q.same_length ∙ h1 in
    let ln : X.slots < Z.slots = omega arith in
    let nn : X.slots < none = omega arith in
    let e1 = put-slots Z t t1 _ S.long P in
    let e2 = put-members Z t1 t2 _ h1 Q ∙ ap (λ (W : Tables). members_put W (writes W.members (elem_words (4 * n)))) e1 in
    let e3 = put-head Z t2 t3 _ h2 R ∙ ap (λ (W : Tables). head_put W (set W.head 0 (n + 1))) e2 in
    let e : tables Z t3 ≡ T' Z X T G K ln nn = rw q at e3 in
    let a : extents (T' Z X T G K ln nn) ≡ one_slot X = after Z X T G K ln nn refl in
    let b : extents (tables Z t3) ≡ one_slot X = ap extents e ∙ a in
    record {
      does =
          record {
            sound = sound-at Z (one_slot X) t3 _ e a (R.same_length ∙ h2) (grow-good Z X T G K ln nn);
            answer = refl;
            after =
                world-at Z (one_slot X) t3 _ e a ∙ grow-world Z X T G K ln nn
                ∙ ap (λ (w : World). bodies_set w (w.bodies ++ (absent_body ∷ []))) (sym (world-at Z X t T refl refl))
                ∙ sym (one_more (world_of Z t) n (q ∙ sym (slots-is Z t)));
            frame = kept_at Z (one_slot X) t3 _ e a T (grow-kept Z X T G K ln nn);
          };
      slots = ap (λ (x : Extents). x.slots) b ∙ ap (λ (x : ℕ). x + 1) (sym q);
      larger = rw b (record { slots = omega arith; islands = omega arith; edges = omega arith; joints = omega arith; journal = omega arith });
    }

pub grow-then : {Z : Sizes} {t t1 t2 : List ℕ} (k : ℕ) → (extents (tables Z t)).slots ≤ k → Grew Z k t t1 → Grew Z (k + 1) t1 t2 → Grew Z (k + 1) t t2
unfolding grow
grow-then {Z} {t} {t1} {t2} k h A B =
    record {
      does =
          record {
            sound = B.does.sound;
            answer = refl;
            after = B.does.after ∙ ap (grown (k + 1)) A.does.after ∙ grown-grown k (world_of Z t) (let e = slots-is Z t in omega arith);
            frame = kept_then B.larger A.does.frame B.does.frame;
          };
      slots = B.slots;
      larger = larger-then A.larger B.larger;
    }
