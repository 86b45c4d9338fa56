-- The last observed island is forgotten, and its word is 0; then all of them.
use mathlib.Core.Path.{◌≡◌, refl, sym, ◌∙◌, ap, subst}
use mathlib.Core.Logic.{inl, inr, ◌≢◌, ⊎_elim}
use mathlib.Core.List.{List, []}
use Prim.Native.Nat.{ℕ, ◌+◌, ◌*◌, ◌<◌}
use native.Mathlib.Omega.{arith}
use lib.ListN.{get_or, set}
use lib.Seq.{get_or-set_same, get_or-set_other}
use Rattle.list_in_table.specs.Table.{view, removed}
use Rattle.list_in_table.proofs.Laws.{either}
use Rattle.list_in_buffer.specs.Part.{Put}
use Rattle.def_kinds.specs.declared.Sizes.{Sizes}
use Rattle.def_kinds.specs.Answers.{Done}
use Rattle.def_state.specs.Plain.{drop_last}
use Rattle.def_state.specs.World.{Observed, World, done}
use Rattle.def_state.specs.Fields.{scan_set}
use Rattle.table_meaning.specs.Layout.{Tables, tables, scan_at, scan_span, fit_at, fit_span, fit_put, Extents, extents, scan_in}
use Rattle.table_meaning.specs.Decode.{observed_at, world_of}
use Rattle.table_meaning.specs.Rule.{HeadRule}
use Rattle.table_meaning.specs.Sound.{Sound}
use Rattle.table_meaning.proofs.Puts.{sized, put-scan, put_fit}
use Rattle.table_meaning.proofs.Frame.{larger-refl, larger-then}
use Rattle.core_laws.proofs.Then.{refused, does-as, does-then}
use Rattle.core_laws.proofs.LastOut.{Popped, LastIn, last-in, popped, drop-snoc, values-i, no-values}
use Rattle.core_scan.specs.Scanning.{forget_last, forget, Forgot, Forgotten}
use Rattle.core_scan.proofs.Change.{Change, change-steps}

-- a list that is not empty is that of an open scan
pub open-scan : {p n o c : ℕ} (c' : ℕ) → HeadRule p n o c → c ≢ 0 → HeadRule p n o c'
open-scan c' H d = record { split = H.split; scan = ⊎_elim (λ x. absurd (d x.1)) (λ x. inr x) H.scan }

module _ {Z : Sizes} {t : List ℕ} (e : ℕ) (S : Sound Z t) (c : 0 < (scan_in Z (tables Z t)).count 0) (q : e ≡ (scan_in Z (tables Z t)).last 0) where
  abbrev T : Tables
  T = tables Z t

  abbrev X : Extents
  X = extents T

  abbrev C : List ℕ
  C = removed T.scan 0 (4 * Z.islands) e

  abbrev F : List ℕ
  F = set T.fit e 0

  -- what the stores ask
  pub scan-last : LastIn Z.islands X.islands 0 e T.scan
  scan-last = last-in Z.islands X.islands 1 T.scan S.good.scan_wf 0 e (omega arith) c q

  P : Popped Z.islands X.islands 1 0 e T.scan C
  P = popped Z.islands X.islands 1 T.scan S.good.scan_wf 0 e (omega arith) c q

  fit-o : (k : ℕ) → k ≢ e → get_or F k 0 ≡ get_or T.fit k 0
  fit-o k d = get_or-set_other T.fit e k 0 0 d

  forgets : Change Z X T C F
  forgets =
      record {
        wf = P.wf;
        seen =
            λ k l. either k e
            (λ s.
            inl
            (record {
              not_listed = ap (view C 0 (4 * Z.islands)).home s ∙ P.home_e;
              no_fit = ap (λ (j : ℕ). get_or F j 0) s ∙ get_or-set_same T.fit e 0 0 (let a = (sized Z t S.long).fit_length in let b = scan-last.room_lt in omega arith);
            }))
            (λ d. rw (P.home_o k l d, fit-o k d) (S.good.seen k l));
        head = open-scan ((view C 0 (4 * Z.islands)).count 0) S.good.head (omega arith);
        scan_kept = P.kept;
        fit_kept = λ j h. fit-o j (let a = scan-last.elem_lt in omega arith);
      }

  pub forgot : {t1 t2 : List ℕ} → Put (scan_at Z) (scan_span Z) t t1 C → Put (fit_at Z) (fit_span Z) t1 t2 (set (tables Z t1).fit e 0) → Forgot Z t t2
  unfolding forget_last
  forgot {t1} {t2} A B =
      let e1 = put-scan Z t t1 C S.long A in
      let e2 = put_fit Z t1 t2 _ (A.same_length ∙ S.long) B ∙ ap (λ (W : Tables). fit_put W (set W.fit e 0)) e1 in
      record {
        steps =
            change-steps t2 C F drop_last S (B.same_length ∙ A.same_length ∙ S.long) e2 forgets
            (sym (ap drop_last (values-i P (observed_at F) (observed_at T.fit) (λ k d. rw (fit-o k d)) (omega arith)) ∙ drop-snoc _ _));
        fewer = subst (λ (W : Tables). (scan_in Z W).count 0 + 1 ≡ (scan_in Z T).count 0) (sym e2) P.count_i;
        head = ap (λ (W : Tables). W.head) e2;
      }

-- ---- one, then the rest
forget-rest : (w : World) → forget (forget_last w).after ≡ forget w
unfolding forget forget_last
forget-rest w = refl

pub forgotten-more : {Z : Sizes} {t t1 t2 : List ℕ} → Forgot Z t t1 → Forgotten Z t1 t2 → Forgotten Z t t2
forgotten-more {Z} {t} A B =
    record {
      steps =
          record {
            does = does-as (λ w. forget (forget_last w).after) forget (forget-rest (world_of Z t)) (does-then forget_last forget B.steps.larger A.steps.does B.steps.does);
            larger = larger-then A.steps.larger B.steps.larger;
          };
      none_left = B.none_left;
      head = B.head ∙ A.head;
    }

-- nothing was observed
pub none-observed : {Z : Sizes} {t : List ℕ} → Sound Z t → (scan_in Z (tables Z t)).count 0 ≡ 0 → (world_of Z t).sleep_scan_touched ≡ []
unfolding world_of
none-observed {Z} {t} S c = no-values S.good.scan_wf.rules 0 (omega arith) c (observed_at (tables Z t).fit)

pub forgotten-none : {Z : Sizes} {t : List ℕ} → Sound Z t → (scan_in Z (tables Z t)).count 0 ≡ 0 → Forgotten Z t t
unfolding forget
forgotten-none {Z} {t} S c =
    let w = world_of Z t in
    record {
      steps =
          record {
            does = refused forget Done S (ap (λ (os : List Observed). done (scan_set w w.sleep_scan_stamp w.scanning os)) (sym (none-observed S c)));
            larger = larger-refl (extents (tables Z t));
          };
      none_left = c;
      head = refl;
    }
