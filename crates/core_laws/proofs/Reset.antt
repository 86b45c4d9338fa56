-- Nothing in use: sound, whatever else the words are.
use mathlib.Core.Path.{◌≡◌, refl, ◌∙◌, ap, subst}
use mathlib.Core.Logic.{inl}
use mathlib.Core.List.{List, [], ◌∷◌, map}
use Prim.Native.Nat.{ℕ, ◌+◌, ◌*◌, ◌≤◌}
use native.Mathlib.Omega.{arith}
use lib.ListN.{length, get_or}
use Rattle.list_in_table.specs.Rules.{list_of}
use Rattle.list_in_table.specs.Word.{writes, miss, hit, length_writes}
use Rattle.list_in_table.specs.Table.{view, Wf}
use Rattle.list_in_buffer.specs.Part.{Put}
use Rattle.def_kinds.specs.declared.Sizes.{Sizes}
use Rattle.def_kinds.specs.Answers.{Done}
use Rattle.def_state.specs.World.{empty_world}
use Rattle.table_meaning.specs.Layout.{Tables, tables, total, head_at, head_span, freed_at, freed_span, spare_at, spare_span, scan_at, scan_span, head_put, freed_put, spare_put, scan_put, list_words, Extents, extents}
use Rattle.table_meaning.specs.Decode.{flag, tabulate, observed_at, decode}
use Rattle.table_meaning.specs.Sound.{Good}
use Rattle.table_meaning.specs.Does.{SameBehind, Emptied}
use Rattle.table_meaning.proofs.Puts.{Sized, sized, put-head, put-freed, put-spare, put-scan}
use Rattle.table_meaning.proofs.Chains.{Grown, list-grown, list_count, list-new}
use Rattle.table_meaning.proofs.Frame.{larger-refl, kept_then, kept-head, kept-freed, kept-spare, kept-scan, sound-at, world-at, kept_at, extents-is}
use Rattle.core_laws.proofs.Good.{world_is}

-- no element and no list in use
wf-none : (N : ℕ) (x : List ℕ) → 4 * N ≤ length x → Wf x 0 (4 * N) 0 0
wf-none N x h =
    record {
      elems_below = omega arith;
      lists_below = omega arith;
      rules = record { n_small = omega arith; m_small = omega arith; elem = λ e l. absurd (omega arith); list = λ i l. absurd (omega arith) };
    }

-- one list, of no element
module _ (N : ℕ) (x : List ℕ) (lx : length x ≡ 4 * N + 2) where
  abbrev y : List ℕ
  y = writes x (list_words (4 * N))

  same : 4 * N + 2 * 0 ≡ 4 * N
  same = omega arith

  w0 : Wf x 0 (4 * N) 0 0
  w0 = wf-none N x (omega arith)

  one : Grown N 0 0 0 1 x y
  one = subst (λ (a : ℕ). Grown N 0 0 0 1 x (writes x (list_words a))) same (list-grown N 0 0 1 x w0 (omega arith) (omega arith) (omega arith))

  no_count : (view y 0 (4 * N)).count 0 ≡ 0
  no_count = subst (λ (a : ℕ). (view (writes x (list_words a)) 0 (4 * N)).count 0 ≡ 0) same (list_count N 0 0 1 x w0 (omega arith) (omega arith) (omega arith))

  no-list : list_of (view y 0 (4 * N)) 0 ≡ []
  no-list = subst (λ (a : ℕ). list_of (view (writes x (list_words a)) 0 (4 * N)) 0 ≡ []) same (list-new N 0 0 1 x w0 (omega arith) (omega arith) (omega arith))

abbrev nothing : Extents
nothing = record { slots = 0; islands = 0; edges = 0; joints = 0; journal = 0 }

abbrev pub head_words : List (ℕ × ℕ)
head_words = (0, 0) ∷ (0 + 1, 0) ∷ (0 + 2, 0) ∷ (0 + 3, 0) ∷ (0 + 4, 0) ∷ []

abbrev pub tail_words : List (ℕ × ℕ)
tail_words = (5, 0) ∷ (5 + 1, 0) ∷ (5 + 2, 0) ∷ (5 + 3, 0) ∷ []

module _ (Z : Sizes) (T : Tables) (K : Sized Z T) (nm : Z.slots ≤ Z.islands) where
  abbrev H : List ℕ
  H = writes (writes T.head head_words) tail_words

  abbrev F : List ℕ
  F = y Z.islands T.freed K.freed_length

  abbrev P : List ℕ
  P = y Z.joints T.spare K.spare_length

  abbrev S : List ℕ
  S = y Z.islands T.scan K.scan_length

  abbrev T' : Tables
  T' = scan_put (spare_put (freed_put (head_put T H) F) P) S

  h0 : get_or H 0 0 ≡ 0
  h0 = let k = K.head_length in miss (writes T.head head_words) tail_words 0 (omega arith) ∙ hit T.head [] 0 0 ((0 + 1, 0) ∷ (0 + 2, 0) ∷ (0 + 3, 0) ∷ (0 + 4, 0) ∷ []) (omega arith) (omega arith)

  h1 : get_or H 1 0 ≡ 0
  h1 = let k = K.head_length in miss (writes T.head head_words) tail_words 1 (omega arith) ∙ hit T.head ((0, 0) ∷ []) (0 + 1) 0 ((0 + 2, 0) ∷ (0 + 3, 0) ∷ (0 + 4, 0) ∷ []) (omega arith) (omega arith)

  h2 : get_or H 2 0 ≡ 0
  h2 = let k = K.head_length in miss (writes T.head head_words) tail_words 2 (omega arith) ∙ hit T.head ((0, 0) ∷ (0 + 1, 0) ∷ []) (0 + 2) 0 ((0 + 3, 0) ∷ (0 + 4, 0) ∷ []) (omega arith) (omega arith)

  h3 : get_or H 3 0 ≡ 0
  h3 = let k = K.head_length in miss (writes T.head head_words) tail_words 3 (omega arith) ∙ hit T.head ((0, 0) ∷ (0 + 1, 0) ∷ (0 + 2, 0) ∷ []) (0 + 3) 0 ((0 + 4, 0) ∷ []) (omega arith) (omega arith)

  h4 : get_or H 4 0 ≡ 0
  h4 = let k = K.head_length in miss (writes T.head head_words) tail_words 4 (omega arith) ∙ hit T.head ((0, 0) ∷ (0 + 1, 0) ∷ (0 + 2, 0) ∷ (0 + 3, 0) ∷ []) (0 + 4) 0 [] (omega arith) (omega arith)

  long : 9 ≤ length (writes T.head head_words)
  long = let k = K.head_length in let l = length_writes T.head head_words in omega arith

  h5 : get_or H 5 0 ≡ 0
  h5 = let l = long in hit (writes T.head head_words) [] 5 0 ((5 + 1, 0) ∷ (5 + 2, 0) ∷ (5 + 3, 0) ∷ []) (omega arith) (omega arith)

  h6 : get_or H 6 0 ≡ 0
  h6 = let l = long in hit (writes T.head head_words) ((5, 0) ∷ []) (5 + 1) 0 ((5 + 2, 0) ∷ (5 + 3, 0) ∷ []) (omega arith) (omega arith)

  h7 : get_or H 7 0 ≡ 0
  h7 = let l = long in hit (writes T.head head_words) ((5, 0) ∷ (5 + 1, 0) ∷ []) (5 + 2) 0 ((5 + 3, 0) ∷ []) (omega arith) (omega arith)

  h8 : get_or H 8 0 ≡ 0
  h8 = let l = long in hit (writes T.head head_words) ((5, 0) ∷ (5 + 1, 0) ∷ (5 + 2, 0) ∷ []) (5 + 3) 0 [] (omega arith) (omega arith)

  after : extents T' ≡ nothing
  after = extents-is h0 h1 h2 h3 h4

  good : Good Z nothing T'
  good =
      record {
        enough = nm;
        slots_le = omega arith;
        islands_le = omega arith;
        edges_le = omega arith;
        joints_le = omega arith;
        journal_le = omega arith;
        members_wf = wf-none Z.slots T.members (let k = K.members_length in omega arith);
        freed_wf = (one Z.islands T.freed K.freed_length).wf;
        contacts_wf = wf-none Z.edges T.contacts (let k = K.contacts_length in omega arith);
        joints_wf = wf-none Z.joints T.joints (let k = K.joints_length in omega arith);
        spare_wf = (one Z.joints T.spare K.spare_length).wf;
        scan_wf = (one Z.islands T.scan K.scan_length).wf;
        slot = λ s h. absurd (omega arith);
        island = λ i h. absurd (omega arith);
        seen = λ i h. absurd (omega arith);
        edge = λ e h. absurd (omega arith);
        joint = λ p h. absurd (omega arith);
        distinct = λ p q h. absurd (omega arith);
        head = record { split = inl (h5, h6); scan = inl (h8, no_count Z.islands T.scan K.scan_length) };
      }

  empty-world : decode Z nothing T' ≡ empty_world
  unfolding tabulate
  empty-world =
      world_is refl refl (no-list Z.islands T.freed K.freed_length) refl refl (no-list Z.joints T.spare K.spare_length) refl (rw h5) h7 (ap flag h8)
      (ap (map (observed_at T.fit)) (no-list Z.islands T.scan K.scan_length))

  kept : SameBehind Z nothing T T'
  kept =
      kept_then (larger-refl nothing) kept-head
      (kept_then (larger-refl nothing) (kept-freed (one Z.islands T.freed K.freed_length).kept)
      (kept_then (larger-refl nothing) (kept-spare (one Z.joints T.spare K.spare_length).kept) (kept-scan (one Z.islands T.scan K.scan_length).kept)))

pub emptied : {Z : Sizes} {t t1 t2 t3 t4 t5 : List ℕ} → length t ≡ total Z → Z.slots ≤ Z.islands → Put (head_at Z) (head_span Z) t t1 (writes (tables Z t).head head_words)
    → Put (head_at Z) (head_span Z) t1 t2 (writes (tables Z t1).head tail_words) → Put (freed_at Z) (freed_span Z) t2 t3 (writes (tables Z t2).freed (list_words (4 * Z.islands)))
    → Put (spare_at Z) (spare_span Z) t3 t4 (writes (tables Z t3).spare (list_words (4 * Z.joints))) → Put (scan_at Z) (scan_span Z) t4 t5 (writes (tables Z t4).scan (list_words (4 * Z.islands)))
    → Emptied Z t Done t5
emptied {Z} {t} {t1} {t2} {t3} {t4} {t5} l nm A B C D E =
    let T = tables Z t in
    let K = sized Z t l in
    let l1 : length t1 ≡ total Z = A.same_length ∙ l in
    let l2 : length t2 ≡ total Z = B.same_length ∙ l1 in
    let l3 : length t3 ≡ total Z = C.same_length ∙ l2 in
    let l4 : length t4 ≡ total Z = D.same_length ∙ l3 in
    let e1 = put-head Z t t1 _ l A in
    let e2 = put-head Z t1 t2 _ l1 B ∙ ap (λ (W : Tables). head_put W (writes W.head tail_words)) e1 in
    let e3 = put-freed Z t2 t3 _ l2 C ∙ ap (λ (W : Tables). freed_put W (writes W.freed (list_words (4 * Z.islands)))) e2 in
    let e4 = put-spare Z t3 t4 _ l3 D ∙ ap (λ (W : Tables). spare_put W (writes W.spare (list_words (4 * Z.joints)))) e3 in
    let e : tables Z t5 ≡ T' Z T K nm = put-scan Z t4 t5 _ l4 E ∙ ap (λ (W : Tables). scan_put W (writes W.scan (list_words (4 * Z.islands)))) e4 in
    let a = after Z T K nm in
    record {
      right = l;
      zero = refl;
      sound = sound-at Z nothing t5 _ e a (E.same_length ∙ l4) (good Z T K nm);
      after = world-at Z nothing t5 _ e a ∙ empty-world Z T K nm;
      frame = kept_at Z nothing t5 _ e a T (kept Z T K nm);
    }
