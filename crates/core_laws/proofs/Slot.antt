-- A slot in use gets new words.
use mathlib.Core.Path.{◌≡◌, refl, sym, ◌∙◌, ap, subst}
use mathlib.Core.Logic.{◌≢◌}
use mathlib.Core.List.{List, [], ◌∷◌}
use Prim.Native.Nat.{ℕ, ◌+◌, ◌*◌, ◌<◌}
use native.Mathlib.Omega.{arith}
use lib.ListN.{length, get_or, set}
use Rattle.list_in_table.specs.Word.{writes, miss, hit}
use Rattle.list_in_table.proofs.Laws.{either}
use Rattle.list_in_buffer.specs.Part.{Put}
use Rattle.def_kinds.specs.declared.Sizes.{Sizes}
use Rattle.def_state.specs.World.{World}
use Rattle.def_state.specs.Fields.{bodies_set}
use Rattle.table_meaning.specs.Layout.{Tables, tables, slots_at, slots_span, slots_put, Extents, extents, members_in}
use Rattle.table_meaning.specs.Decode.{flag, body_at, decode}
use Rattle.table_meaning.specs.Rule.{SlotRule}
use Rattle.table_meaning.specs.Sound.{SlotAt, Good, Sound}
use Rattle.table_meaning.specs.Does.{SameBehind}
use Rattle.table_meaning.proofs.Puts.{Sized, sized, put-slots}
use Rattle.table_meaning.proofs.Tab.{tabulate-set}
use Rattle.table_meaning.proofs.Frame.{kept-slots, sound-at, world-at, kept_at}
use Rattle.core_laws.specs.Steps.{slot_words, body_with, stand, Stood}
use Rattle.core_laws.proofs.Good.{body_is, world_is, slot-rule}

module _ (Z : Sizes) (X : Extents) (T : Tables) (G : Good Z X T) (K : Sized Z T) (s g l f e z : ℕ) (sl : s < X.slots) where
  abbrev a : ℕ
  a = 5 * s

  abbrev ws : List (ℕ × ℕ)
  ws = slot_words a g l f e z

  abbrev B : List ℕ
  B = writes T.slots ws

  abbrev T' : Tables
  T' = slots_put T B

  inside : a + 4 < length T.slots
  inside = let q = K.slots_length in let r = G.slots_le in omega arith

  w0 : get_or B a 0 ≡ g
  w0 = let q = inside in hit T.slots [] a g ((a + 1, l) ∷ (a + 2, f) ∷ (a + 3, e) ∷ (a + 4, z) ∷ []) (omega arith) (omega arith)

  w1 : get_or B (a + 1) 0 ≡ l
  w1 = let q = inside in hit T.slots ((a, g) ∷ []) (a + 1) l ((a + 2, f) ∷ (a + 3, e) ∷ (a + 4, z) ∷ []) (omega arith) (omega arith)

  w2 : get_or B (a + 2) 0 ≡ f
  w2 = let q = inside in hit T.slots ((a, g) ∷ (a + 1, l) ∷ []) (a + 2) f ((a + 3, e) ∷ (a + 4, z) ∷ []) (omega arith) (omega arith)

  w3 : get_or B (a + 3) 0 ≡ e
  w3 = let q = inside in hit T.slots ((a, g) ∷ (a + 1, l) ∷ (a + 2, f) ∷ []) (a + 3) e ((a + 4, z) ∷ []) (omega arith) (omega arith)

  w4 : get_or B (a + 4) 0 ≡ z
  w4 = let q = inside in hit T.slots ((a, g) ∷ (a + 1, l) ∷ (a + 2, f) ∷ (a + 3, e) ∷ []) (a + 4) z [] (omega arith) (omega arith)

  first : (k : ℕ) → k ≢ s → get_or B (5 * k) 0 ≡ get_or T.slots (5 * k) 0
  first k d = miss T.slots ws (5 * k) (omega arith)

  other : (k j : ℕ) → k ≢ s → j < 5 → get_or B (5 * k + j) 0 ≡ get_or T.slots (5 * k + j) 0
  other k j d h = miss T.slots ws (5 * k + j) (omega arith)

  slot-good : SlotRule g f e z ((members_in Z T).home s) → Good Z X T'
  slot-good r =
      record {
        enough = G.enough;
        slots_le = G.slots_le;
        islands_le = G.islands_le;
        edges_le = G.edges_le;
        joints_le = G.joints_le;
        journal_le = G.journal_le;
        members_wf = G.members_wf;
        freed_wf = G.freed_wf;
        contacts_wf = G.contacts_wf;
        joints_wf = G.joints_wf;
        spare_wf = G.spare_wf;
        scan_wf = G.scan_wf;
        slot = λ k kl.
            either k s (λ q. subst (SlotAt Z T') (sym q) (slot-rule w0 w2 w3 w4 refl r))
            (λ d. slot-rule (first k d) (other k 2 d (omega arith)) (other k 3 d (omega arith)) (other k 4 d (omega arith)) refl (G.slot k kl));
        island = G.island;
        seen = G.seen;
        edge = G.edge;
        joint = G.joint;
        distinct = G.distinct;
        head = G.head;
      }

  slot-world : decode Z X T' ≡ bodies_set (decode Z X T) (set (decode Z X T).bodies s (body_with g l f e z))
  slot-world =
      world_is
      (tabulate-set X.slots s (body_at B) (body_at T.slots) (body_with g l f e z) (body_is w0 w1 (ap flag w2) (ap flag w3) (ap flag w4))
      (λ k kl d.
      body_is (first k d) (other k 1 d (omega arith)) (ap flag (other k 2 d (omega arith))) (ap flag (other k 3 d (omega arith))) (ap flag (other k 4 d (omega arith)))))
      refl refl refl refl refl refl refl refl refl refl

  slot_kept : SameBehind Z X T T'
  slot_kept = kept-slots (λ j h. miss T.slots ws j (omega arith))

-- the step, on the buffer
pub stood : {Z : Sizes} {t t' : List ℕ} (s g l f e z : ℕ) → Sound Z t → s < (extents (tables Z t)).slots → SlotRule g f e z ((members_in Z (tables Z t)).home s)
    → Put (slots_at Z) (slots_span Z) t t' (writes (tables Z t).slots (slot_words (5 * s) g l f e z)) → Stood Z s g l f e z t t'
unfolding stand
stood {Z} {t} {t'} s g l f e z S sl r P =
    let T = tables Z t in
    let X = extents T in
    let G = S.good in
    let K = sized Z t S.long in
    let q = put-slots Z t t' _ S.long P in
    record {
      does =
          record {
            sound = sound-at Z X t' _ q refl (P.same_length ∙ S.long) (slot-good Z X T G K s g l f e z sl r);
            answer = refl;
            after =
                world-at Z X t' _ q refl ∙ slot-world Z X T G K s g l f e z sl
                ∙ ap (λ (w : World). bodies_set w (set w.bodies s (body_with g l f e z))) (sym (world-at Z X t T refl refl));
            frame = kept_at Z X t' _ q refl T (slot_kept Z X T G K s g l f e z sl);
          };
      extents_same = ap extents q;
    }
