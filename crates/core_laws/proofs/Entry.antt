-- One more entry of the journal.
use mathlib.Core.Path.{◌≡◌, refl, ◌∙◌, ap}
use mathlib.Core.Logic.{◌≢◌}
use mathlib.Core.List.{List, [], ◌∷◌, ◌++◌}
use Prim.Native.Nat.{ℕ, suc, ◌+◌, ◌*◌, ◌<◌}
use native.Mathlib.Omega.{arith}
use lib.ListN.{length, get_or, set}
use lib.Seq.{get_or-set_same, get_or-set_other}
use Rattle.list_in_table.specs.Word.{writes, miss, hit}
use Rattle.list_in_buffer.specs.Part.{Put}
use Rattle.def_kinds.specs.declared.Sizes.{Sizes}
use Rattle.def_state.specs.World.{Removal}
use Rattle.def_state.specs.Fields.{journal_set}
use Rattle.table_meaning.specs.Layout.{Tables, tables, total, head_at, head_span, journal_at, journal_span, head_put, journal_put, Extents, extents}
use Rattle.table_meaning.specs.Decode.{flag, removal_at, tabulate, decode}
use Rattle.table_meaning.specs.Sound.{Good, Sound}
use Rattle.table_meaning.specs.Does.{SameBehind}
use Rattle.table_meaning.proofs.Puts.{Sized, sized, put-head, put-journal}
use Rattle.table_meaning.proofs.Tab.{tabulate-same}
use Rattle.table_meaning.proofs.Frame.{larger-refl, kept_then, kept-head, kept-journal, extents-is}
use Rattle.core_laws.specs.Steps.{handle, Steps}
use Rattle.core_laws.specs.Linking.{journalled}
use Rattle.core_laws.proofs.Good.{world_is, head-rule}
use Rattle.core_laws.proofs.At.{steps-at}
use Rattle.core_laws.proofs.OneContact.{touch_words}

removal-is : {a a' b b' c c' d d' : ℕ} → a ≡ a' → b ≡ b' → c ≡ c' → d ≡ d'
    → ◌≡◌ {A = Removal} (record { body1 = record { slot = a; generation = b }; body2 = record { slot = c; generation = d } })
    (record { body1 = record { slot = a'; generation = b' }; body2 = record { slot = c'; generation = d' } })
removal-is p q r s = rw (p, q, r, s)

abbrev one_entry : Extents → Extents
one_entry X = record { slots = X.slots; islands = X.islands; edges = X.edges; joints = X.joints; journal = X.journal + 1 }

abbrev removal : (a b c d : ℕ) → Removal
removal a b c d = record { body1 = handle a b; body2 = handle c d }

module _ (Z : Sizes) (X : Extents) (T : Tables) (G : Good Z X T) (K : Sized Z T) (h : X.journal < Z.journal) (a b c d : ℕ) where
  abbrev l : ℕ
  l = X.journal

  abbrev J : List ℕ
  J = writes T.journal (touch_words (4 * l) a b c d)

  abbrev H : List ℕ
  H = set T.head 4 (l + 1)

  abbrev T' : Tables
  T' = head_put (journal_put T J) H

  head-o : (j : ℕ) → j ≢ 4 → get_or H j 0 ≡ get_or T.head j 0
  head-o j n = get_or-set_other T.head 4 j (l + 1) 0 n

  head-4 : get_or H 4 0 ≡ l + 1
  head-4 = let k = K.head_length in get_or-set_same T.head 4 (l + 1) 0 (omega arith)

  after : extents T ≡ X → extents T' ≡ one_entry X
  after e =
      extents-is (head-o 0 (omega arith) ∙ ap (λ (x : Extents). x.slots) e) (head-o 1 (omega arith) ∙ ap (λ (x : Extents). x.islands) e)
      (head-o 2 (omega arith) ∙ ap (λ (x : Extents). x.edges) e) (head-o 3 (omega arith) ∙ ap (λ (x : Extents). x.joints) e) head-4

  entry-good : Good Z (one_entry X) T'
  entry-good =
      record {
        enough = G.enough;
        slots_le = G.slots_le;
        islands_le = G.islands_le;
        edges_le = G.edges_le;
        joints_le = G.joints_le;
        journal_le = omega arith;
        members_wf = G.members_wf;
        freed_wf = G.freed_wf;
        contacts_wf = G.contacts_wf;
        joints_wf = G.joints_wf;
        spare_wf = G.spare_wf;
        scan_wf = G.scan_wf;
        slot = G.slot;
        island = G.island;
        seen = G.seen;
        edge = G.edge;
        joint = G.joint;
        distinct = G.distinct;
        head = head-rule (head-o 5 (omega arith)) (head-o 6 (omega arith)) (head-o 8 (omega arith)) refl G.head;
      }

  old : (j : ℕ) → j < 4 * l → get_or J j 0 ≡ get_or T.journal j 0
  old j n = miss T.journal (touch_words (4 * l) a b c d) j (omega arith)

  room : 4 * l + 3 < length T.journal
  room = let k = K.journal_length in omega arith

  new : removal_at J l ≡ removal a b c d
  new =
      let j = 4 * l in
      let q : j + 2 + 1 ≡ j + 3 = omega arith in
      let r = room in
      removal-is (hit T.journal [] j a ((j + 1, b) ∷ (j + 2, c) ∷ (j + 3, d) ∷ []) (omega arith) (omega arith))
      (hit T.journal ((j, a) ∷ []) (j + 1) b ((j + 2, c) ∷ (j + 3, d) ∷ []) (omega arith) (omega arith))
      (hit T.journal ((j, a) ∷ (j + 1, b) ∷ []) (j + 2) c ((j + 3, d) ∷ []) (omega arith) (omega arith))
      (ap (λ (k : ℕ). get_or J k 0) q ∙ hit T.journal ((j, a) ∷ (j + 1, b) ∷ (j + 2, c) ∷ []) (j + 3) d [] (omega arith) (omega arith))

  entries : tabulate (l + 1) (removal_at J) ≡ tabulate l (removal_at T.journal) ++ (removal a b c d ∷ [])
  unfolding tabulate
  entries =
      let e : l + 1 ≡ suc l = omega arith in
      ap (λ (k : ℕ). tabulate k (removal_at J)) e
      ∙ rw (
        tabulate-same l (removal_at J) (removal_at T.journal)
            (λ k n. removal-is (old (4 * k) (omega arith)) (old (4 * k + 1) (omega arith)) (old (4 * k + 2) (omega arith)) (old (4 * k + 2 + 1) (omega arith))),
        new,
      )

  entry-world : decode Z (one_entry X) T' ≡ journal_set (decode Z X T) ((decode Z X T).removal_journal ++ (removal a b c d ∷ []))
  entry-world =
      world_is refl refl refl refl refl refl entries (rw (head-o 5 (omega arith), head-o 6 (omega arith))) (head-o 7 (omega arith)) (ap flag (head-o 8 (omega arith))) refl

  entry_kept : SameBehind Z (one_entry X) T T'
  entry_kept = kept_then (larger-refl (one_entry X)) (kept-journal (λ j n. miss T.journal (touch_words (4 * l) a b c d) j (omega arith))) kept-head

pub entered : {Z : Sizes} {t t1 t2 : List ℕ} (l a b c d : ℕ) → Sound Z t → l ≡ (extents (tables Z t)).journal → l < Z.journal
    → Put (journal_at Z) (journal_span Z) t t1 (writes (tables Z t).journal (touch_words (4 * l) a b c d)) → Put (head_at Z) (head_span Z) t1 t2 (set (tables Z t1).head 4 (l + 1))
    → Steps Z (journalled (handle a b) (handle c d)) t t2
unfolding journalled
entered {Z} {t} {t1} {t2} l a b c d S q h P Q =
    let T = tables Z t in
    let X = extents T in
    let G = S.good in
    let K = sized Z t S.long in
    let h1 : length t1 ≡ total Z = P.same_length ∙ S.long in
    let hx : X.journal < Z.journal = omega arith in
    let e2 = put-head Z t1 t2 _ h1 Q ∙ ap (λ (W : Tables). head_put W (set W.head 4 (l + 1))) (put-journal Z t t1 _ S.long P) in
    let e : tables Z t2 ≡ T' Z X T G K hx a b c d = rw q at e2 in
    steps-at t2 (λ w. journal_set w (w.removal_journal ++ (removal a b c d ∷ []))) (one_entry X) _ e (after Z X T G K hx a b c d refl) (Q.same_length ∙ h1) (entry-good Z X T G K hx a b c d)
    (entry-world Z X T G K hx a b c d)
    (entry_kept Z X T G K hx a b c d)
    (record { slots = omega arith; islands = omega arith; edges = omega arith; joints = omega arith; journal = omega arith })
