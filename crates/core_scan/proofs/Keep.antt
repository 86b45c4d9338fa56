-- The scan's stamp and whether it is open are written; begin.
use mathlib.Core.Path.{◌≡◌, refl, sym, ◌∙◌, ap}
use mathlib.Core.Logic.{◌⊎◌, inl, inr}
use mathlib.Core.Bool.{Bool, true, false}
use mathlib.Core.List.{List, [], ◌∷◌}
use Prim.Native.Nat.{ℕ, ◌+◌, ◌%◌, ◌<◌}
use native.Mathlib.Omega.{arith}
use lib.ListN.{get_or}
use Rattle.list_in_table.specs.Word.{writes, miss, hit}
use Rattle.list_in_buffer.specs.Part.{Put}
use Rattle.def_kinds.specs.declared.Sizes.{Sizes}
use Rattle.def_kinds.specs.declared.Scan.{Scan}
use Rattle.def_kinds.specs.Answers.{Done}
use Rattle.def_state.specs.World.{World, done}
use Rattle.def_state.specs.Fields.{scan_set}
use Rattle.def_state.specs.Scan.{begin_sleep_scan}
use Rattle.table_meaning.specs.Layout.{Tables, tables, head_at, head_span, head_put, Extents, extents, scan_in}
use Rattle.table_meaning.specs.Decode.{bit_of, flag, decode, world_of}
use Rattle.table_meaning.specs.Sound.{Good}
use Rattle.table_meaning.specs.Does.{Does}
use Rattle.table_meaning.proofs.Puts.{Sized, sized, put-head}
use Rattle.table_meaning.proofs.Frame.{larger-refl, kept-head, extents-is}
use Rattle.core_laws.specs.Steps.{Steps}
use Rattle.core_laws.proofs.Good.{world_is}
use Rattle.core_laws.proofs.At.{steps-at}
use Rattle.core_laws.proofs.Then.{does-as, does-then}
use Rattle.core_scan.specs.Scanning.{forget, stamped, ScanIs, Fitting, Forgotten}
use Rattle.core_laws.proofs.Put.{bit_is as flag-bit}

closed-list : (o : Bool) (c : ℕ) → (o ≡ false → c ≡ 0) → ((bit_of o ≡ 0) × (c ≡ 0)) ⊎ (bit_of o ≡ 1)
closed-list true c h = inr refl
closed-list false c h = inl (refl, h refl)

module _ (Z : Sizes) (X : Extents) (T : Tables) (G : Good Z X T) (K : Sized Z T) (n : ℕ) (o : Bool) (h : o ≡ false → (scan_in Z T).count 0 ≡ 0) where
  abbrev H : List ℕ
  H = writes T.head ((7, n) ∷ (7 + 1, bit_of o) ∷ [])

  head-o : (j : ℕ) → j < 7 → get_or H j 0 ≡ get_or T.head j 0
  head-o j a = miss T.head ((7, n) ∷ (7 + 1, bit_of o) ∷ []) j (omega arith)

  w7 : get_or H 7 0 ≡ n
  w7 = let l = K.head_length in hit T.head [] 7 n ((7 + 1, bit_of o) ∷ []) (omega arith) (omega arith)

  w8 : get_or H 8 0 ≡ bit_of o
  w8 = let l = K.head_length in hit T.head ((7, n) ∷ []) 8 (bit_of o) [] (omega arith) (omega arith)

  keep-extents : extents (head_put T H) ≡ extents T
  keep-extents = extents-is (head-o 0 (omega arith)) (head-o 1 (omega arith)) (head-o 2 (omega arith)) (head-o 3 (omega arith)) (head-o 4 (omega arith))

  keep-good : Good Z X (head_put T H)
  keep-good =
      record {
        enough = G.enough;
        slots_le = G.slots_le;
        islands_le = G.islands_le;
        edges_le = G.edges_le;
        joints_le = G.joints_le;
        journal_le = G.journal_le;
        members_wf = G.members_wf;
        freed_wf = G.freed_wf;
        contacts_wf = G.contacts_wf;
        joints_wf = G.joints_wf;
        spare_wf = G.spare_wf;
        scan_wf = G.scan_wf;
        slot = G.slot;
        island = G.island;
        seen = G.seen;
        edge = G.edge;
        joint = G.joint;
        distinct = G.distinct;
        head =
            record {
              split = rw (head-o 5 (omega arith), head-o 6 (omega arith)) G.head.split;
              scan = rw w8 (closed-list o ((scan_in Z T).count 0) h);
            };
      }

  keep-world : decode Z X (head_put T H) ≡ scan_set (decode Z X T) n o (decode Z X T).sleep_scan_touched
  keep-world =
      world_is refl refl refl refl refl refl refl (rw (head-o 5 (omega arith), head-o 6 (omega arith))) w7 (ap flag w8 ∙ flag-bit o) refl

-- keep_scan
pub scan_kept : {Z : Sizes} {t t1 : List ℕ} (s : Scan) → Fitting Z t s → Put (head_at Z) (head_span Z) t t1 (writes (tables Z t).head ((7, s.stamp) ∷ (7 + 1, bit_of s.open) ∷ []))
    → Steps Z (stamped s.stamp s.open) t t1
unfolding stamped
scan_kept {Z} {t} {t1} s A P =
    let T = tables Z t in
    let X = extents T in
    let S = A.sound in
    let K = sized Z t S.long in
    let h : s.open ≡ false → (scan_in Z T).count 0 ≡ 0 = λ o. sym A.waiting ∙ A.closed o in
    steps-at t1 (λ w. scan_set w s.stamp s.open w.sleep_scan_touched) X _ (put-head Z t t1 _ S.long P) (keep-extents Z X T S.good K s.stamp s.open h) (P.same_length ∙ S.long)
    (keep-good Z X T S.good K s.stamp s.open h)
    (keep-world Z X T S.good K s.stamp s.open h)
    kept-head
    (larger-refl X)

-- begin_on: all is forgotten, and the stamp is the next
begun-is : (w : World) (n : ℕ) → n ≡ (w.sleep_scan_stamp + 1) % 4294967296 → stamped n true (forget w).after ≡ begin_sleep_scan w
unfolding stamped forget begin_sleep_scan
begun-is w n e = ap (λ (k : ℕ). done (scan_set w k true [])) e

stamp_is : (Z : Sizes) (t : List ℕ) → get_or (tables Z t).head 7 0 ≡ (world_of Z t).sleep_scan_stamp
unfolding world_of
stamp_is Z t = refl

pub begun : {Z : Sizes} {t t1 t2 : List ℕ} (s s' : Scan) → Forgotten Z t t1 → ScanIs Z t1 s → (s'.stamp ≡ (s.stamp + 1) % 4294967296) → (s'.open ≡ true)
    → Steps Z (stamped s'.stamp s'.open) t1 t2 → Does Z begin_sleep_scan t Done t2
begun {Z} {t} {t1} {t2} s s' A I p q B =
    let w = world_of Z t in
    let n : s'.stamp ≡ (w.sleep_scan_stamp + 1) % 4294967296 =
    p ∙ ap (λ (k : ℕ). (k + 1) % 4294967296) (I.stamp ∙ ap (λ (x : List ℕ). get_or x 7 0) A.head ∙ stamp_is Z t) in
    let D : Does Z (stamped s'.stamp true) t1 Done t2 = rw q at B.does in
    does-as (λ v. stamped s'.stamp true (forget v).after) begin_sleep_scan (begun-is w s'.stamp n)
    (does-then forget (stamped s'.stamp true) B.larger A.steps.does D)
