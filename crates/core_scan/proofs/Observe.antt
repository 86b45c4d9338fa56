-- An island is observed: for the first time, or again.
use mathlib.Core.Path.{◌≡◌, refl, sym, ◌∙◌, ap, subst}
use mathlib.Core.Logic.{inr, ◌≢◌}
use mathlib.Core.Bool.{Bool, true, false, ◌&&◌}
use mathlib.Core.List.{List, [], ◌∷◌, ◌++◌, map, map-append}
use Prim.Native.Nat.{ℕ, ◌+◌, ◌*◌, ◌<◌}
use native.Mathlib.Omega.{arith}
use borrow.Author.Tests.{eq-eqb, ne_eqb}
use lib.ListN.{length, get_or, set}
use lib.Seq.{get_or-set_same, get_or-set_other}
use Rattle.list_in_table.specs.Rules.{none, Rules, list_of}
use Rattle.list_in_table.specs.Table.{view, pushed}
use Rattle.list_in_table.proofs.Laws.{either, held}
use Rattle.list_in_table.proofs.Order.{length-list, list_at, list-of}
use Rattle.list_in_table.proofs.Pigeon.{count-lt}
use Rattle.list_in_buffer.specs.Part.{Put}
use Rattle.def_kinds.specs.declared.Sizes.{Sizes}
use Rattle.def_kinds.specs.declared.Scan.{Scan}
use Rattle.def_kinds.specs.Answers.{Done, NoIsland, NoScan}
use Rattle.def_state.specs.World.{Observed, done, live}
use Rattle.def_state.specs.Fields.{scan_set}
use Rattle.def_state.specs.Scan.{observed, observe_body_for_sleep}
use Rattle.table_meaning.specs.Layout.{Tables, tables, scan_at, scan_span, fit_at, fit_span, scan_put, fit_put, Extents, extents, scan_in}
use Rattle.table_meaning.specs.Decode.{bit_of, flag, observed_at, world_of}
use Rattle.table_meaning.specs.Sound.{Sound}
use Rattle.table_meaning.specs.Does.{Does}
use Rattle.table_meaning.proofs.Puts.{sized, put-scan, put_fit}
use Rattle.table_meaning.proofs.Chains.{Added, added, chain-refl}
use Rattle.table_meaning.proofs.Frame.{larger-then}
use Rattle.core_laws.specs.Steps.{Steps}
use Rattle.core_laws.proofs.Then.{refused, does-as, does-then}
use Rattle.core_laws.proofs.At.{steps-none}
use Rattle.core_laws.proofs.LastOut.{still}
use Rattle.core_laws.proofs.Put.{bit_is as flag-bit, bit_le}
use Rattle.core_scan.specs.Scanning.{stamped, noting, ScanIs, Fitting, Unheard, Heard}
use Rattle.core_scan.proofs.Lists.{seen_as, and-true, and-false, observed-new, observed-old}
use Rattle.core_scan.proofs.Change.{Change, change-steps}

-- ---- the first observation
module _ {Z : Sizes} {t : List ℕ} (i : ℕ) (U : Unheard Z t i) where
  abbrev T : Tables
  T = tables Z t

  abbrev X : Extents
  X = extents T

  abbrev R : Rules X.islands 1 (scan_in Z T)
  R = U.sound.good.scan_wf.rules

  -- one more can wait
  pub waiting-lt : (scan_in Z T).count 0 < none
  waiting-lt = let a = count-lt R 0 i (omega arith) U.in_use U.unlisted in let b = R.n_small in omega arith

  A : Added Z.islands X.islands 1 0 i T.scan (pushed T.scan 0 (4 * Z.islands) 0 i)
  A = added Z.islands X.islands 1 T.scan U.sound.good.scan_wf 0 i (omega arith) U.in_use U.unlisted

  not_there : (p : ℕ) → p < length (list_of (scan_in Z T) 0) → get_or (list_of (scan_in Z T) 0) p 0 ≢ i
  not_there p l d =
      let a : (scan_in Z T).home (get_or (list_of (scan_in Z T) 0) p 0) ≡ 0 = (list_at R 0 (omega arith) p (rw (length-list R 0 (omega arith)) at l)).home_is in
      let b = U.unlisted in
      let c : (scan_in Z T).home i ≡ 0 = rw d at a in
      omega arith

  module _ (e : Bool) where
    abbrev C : List ℕ
    C = pushed T.scan 0 (4 * Z.islands) 0 i

    abbrev F : List ℕ
    F = set T.fit i (bit_of e)

    fit-i : get_or F i 0 ≡ bit_of e
    fit-i = get_or-set_same T.fit i (bit_of e) 0 (let a = (sized Z t U.sound.long).fit_length in let b = U.in_use in let c = U.sound.good.islands_le in omega arith)

    fit-o : (k : ℕ) → k ≢ i → get_or F k 0 ≡ get_or T.fit k 0
    fit-o k d = get_or-set_other T.fit i k (bit_of e) 0 d

    first-change : Change Z X T C F
    first-change =
        record {
          wf = A.wf;
          seen =
              λ k l. either k i
              (λ s.
              inr
              (record {
                listed = (let a = ap (view C 0 (4 * Z.islands)).home s ∙ A.view_is.home_e in omega arith);
                fit_flag = (let a = ap (λ (j : ℕ). get_or F j 0) s ∙ fit-i in let b = bit_le e in omega arith);
              }))
              (λ d. rw (A.view_is.home_o k l d, fit-o k d) (U.sound.good.seen k l));
          head = record { split = U.sound.good.head.split; scan = inr U.opened };
          scan_kept = A.kept;
          fit_kept = λ j h. fit-o j (let a = U.in_use in omega arith);
        }

    first-list : map (observed_at F) (list_of (view C 0 (4 * Z.islands)) 0) ≡ observed i e (map (observed_at T.fit) (list_of (scan_in Z T) 0))
    first-list =
        let L = list_of (scan_in Z T) 0 in
        ap (map (observed_at F)) A.list_i ∙ map-append (observed_at F) L (i ∷ [])
        ∙ ap (λ (os : List Observed). os ++ (observed_at F i ∷ [])) (still R i U.unlisted (observed_at F) (observed_at T.fit) (λ k d. rw (fit-o k d)) 0 (omega arith))
        ∙ ap (λ (b : Bool). map (observed_at T.fit) L ++ (seen_as i b ∷ [])) (ap flag fit-i ∙ flag-bit e)
        ∙ observed-new T.fit i e L not_there

    module _ {t1 t2 : List ℕ} (P : Put (scan_at Z) (scan_span Z) t t1 C) (Q : Put (fit_at Z) (fit_span Z) t1 t2 (set (tables Z t1).fit i (bit_of e))) where
      e2 : tables Z t2 ≡ fit_put (scan_put T C) F
      e2 = put_fit Z t1 t2 _ (P.same_length ∙ U.sound.long) Q ∙ ap (λ (W : Tables). fit_put W (set W.fit i (bit_of e))) (put-scan Z t t1 C U.sound.long P)

      noted : Steps Z (noting i e) t t2
      unfolding noting
      noted = change-steps t2 C F (observed i e) U.sound (Q.same_length ∙ P.same_length ∙ U.sound.long) e2 first-change first-list

      -- what keep_scan asks
      pub first-fitting : (s s' : Scan) → ScanIs Z t s → (s'.open ≡ s.open) → (s'.waiting ≡ s.waiting + 1) → Fitting Z t2 s'
      first-fitting s s' I o w =
          record {
            sound = noted.does.sound;
            waiting = w ∙ ap (λ (n : ℕ). n + 1) I.waiting ∙ sym (subst (λ (W : Tables). (scan_in Z W).count 0 ≡ (scan_in Z T).count 0 + 1) (sym e2) A.view_is.count_i);
            closed = λ c. absurd (let z : true ≡ false = sym (eq-eqb _ 1 U.opened) ∙ sym I.opened ∙ sym o ∙ c in shut z);
          }
        where
          shut : true ≡ false → ⊥
          shut z = let y : ◌≡◌ {A = ℕ} 1 0 = ap bit_of z in omega arith

      -- the scan is then kept as it was
      pub first-noted : {t3 : List ℕ} (s s' : Scan) → ScanIs Z t s → (s'.stamp ≡ s.stamp) → (s'.open ≡ s.open) → Steps Z (stamped s'.stamp s'.open) t2 t3 → Steps Z (noting i e) t t3
      unfolding noting stamped world_of
      first-noted s s' I p q K =
          record {
            does =
                does-as (λ v. stamped s'.stamp s'.open (noting i e v).after) (noting i e)
                (ap (λ (n : ℕ). done (scan_set (world_of Z t) n s'.open (observed i e (world_of Z t).sleep_scan_touched))) (p ∙ I.stamp)
                ∙ ap (λ (b : Bool). done (scan_set (world_of Z t) (world_of Z t).sleep_scan_stamp b (observed i e (world_of Z t).sleep_scan_touched))) (q ∙ I.opened))
                (does-then (noting i e) (stamped s'.stamp s'.open) K.larger noted.does K.does);
            larger = larger-then noted.larger K.larger;
          }

-- ---- a further one
module _ {Z : Sizes} {t : List ℕ} (i : ℕ) (H : Heard Z t i) where
  abbrev T2 : Tables
  T2 = tables Z t

  abbrev L2 : List ℕ
  L2 = list_of (scan_in Z T2) 0

  home-0 : (scan_in Z T2).home i ≡ 0
  home-0 = let h = (held H.sound.good.scan_wf.rules i H.in_use H.listed).home_lt in omega arith

  once : (p q : ℕ) → p < length L2 → q < length L2 → get_or L2 p 0 ≡ get_or L2 q 0 → p ≡ q
  once p q pl ql d =
      let R = H.sound.good.scan_wf.rules in
      let n = length-list R 0 (omega arith) in
      sym (list_at R 0 (omega arith) p (rw n at pl)).place_is ∙ ap (scan_in Z T2).place d ∙ (list_at R 0 (omega arith) q (rw n at ql)).place_is

  again-list : (F : List ℕ) (e : Bool) → flag (get_or F i 0) ≡ flag (get_or T2.fit i 0) && e → ((k : ℕ) → k ≢ i → get_or F k 0 ≡ get_or T2.fit k 0)
      → map (observed_at F) L2 ≡ observed i e (map (observed_at T2.fit) L2)
  again-list F e v o =
      let R = H.sound.good.scan_wf.rules in
      let z = home-0 in
      let h : (scan_in Z T2).place i < (scan_in Z T2).count 0 = rw z at (held R i H.in_use H.listed).place_lt in
      let n = length-list R 0 (omega arith) in
      let l : (scan_in Z T2).place i < length L2 = omega arith in
      observed-old T2.fit F i e v o L2 once ((scan_in Z T2).place i) l (list-of R 0 (omega arith) i H.in_use z)

  -- an eligible one changes nothing
  again-true : Steps Z (noting i true) t t
  unfolding noting world_of
  again-true =
      steps-none (λ w. scan_set w w.sleep_scan_stamp w.scanning (observed i true w.sleep_scan_touched)) H.sound
      (ap (scan_set (world_of Z t) (world_of Z t).sleep_scan_stamp (world_of Z t).scanning) (sym (again-list T2.fit true (and-true (flag (get_or T2.fit i 0))) (λ k d. refl))))

  -- one that is not sets its word to 0
  again-false : {t1 : List ℕ} → Put (fit_at Z) (fit_span Z) t t1 (set T2.fit i 0) → Steps Z (noting i false) t t1
  unfolding noting
  again-false {t1} P =
      let S = H.sound in
      let G = S.good in
      let F = set T2.fit i 0 in
      let v : get_or F i 0 ≡ 0 = get_or-set_same T2.fit i 0 0 (let a = (sized Z t S.long).fit_length in let b = H.in_use in let c = G.islands_le in omega arith) in
      let o : (k : ℕ) → k ≢ i → get_or F k 0 ≡ get_or T2.fit k 0 = λ k d. get_or-set_other T2.fit i k 0 0 d in
      change-steps t1 T2.scan F (observed i false) S (P.same_length ∙ S.long) (put_fit Z t t1 F S.long P)
      (record {
        wf = G.scan_wf;
        seen =
            λ k l. either k i
            (λ s.
            inr
            (record {
              listed = (let a = ap (scan_in Z T2).home s ∙ home-0 in omega arith);
              fit_flag = (let a = ap (λ (j : ℕ). get_or F j 0) s ∙ v in omega arith);
            }))
            (λ d. rw (o k d) (G.seen k l));
        head = G.head;
        scan_kept = chain-refl;
        fit_kept = λ j h. o j (let a = H.in_use in omega arith);
      })
      (again-list F false (ap flag v ∙ and-false (flag (get_or T2.fit i 0))) o)

  pub again-yes : (e : Bool) → e ≡ true → Steps Z (noting i e) t t
  again-yes e q = subst (λ (b : Bool). Steps Z (noting i b) t t) (sym q) again-true

  pub again-no : {t1 : List ℕ} (e : Bool) → e ≡ false → Put (fit_at Z) (fit_span Z) t t1 (set T2.fit i 0) → Steps Z (noting i e) t t1
  again-no {t1} e q P = subst (λ (b : Bool). Steps Z (noting i b) t t1) (sym q) (again-false P)

-- ---- observe_on
module _ {Z : Sizes} {t : List ℕ} (i : ℕ) (e : Bool) (S : Sound Z t) where
  pub observe-dead : live (world_of Z t) i ≡ false → Does Z (observe_body_for_sleep i e) t NoIsland t
  unfolding observe_body_for_sleep
  observe-dead d = refused (observe_body_for_sleep i e) NoIsland S (rw d)

  pub observe-shut : live (world_of Z t) i ≡ true → get_or (tables Z t).head 8 0 ≢ 1 → Does Z (observe_body_for_sleep i e) t NoScan t
  unfolding observe_body_for_sleep world_of
  observe-shut d o = refused (observe_body_for_sleep i e) NoScan S (rw (d, ne_eqb (get_or (tables Z t).head 8 0) 1 o))

  pub observe-noted : {t1 : List ℕ} → live (world_of Z t) i ≡ true → get_or (tables Z t).head 8 0 ≡ 1 → Steps Z (noting i e) t t1 → Does Z (observe_body_for_sleep i e) t Done t1
  unfolding observe_body_for_sleep noting world_of
  observe-noted d o K = does-as (noting i e) (observe_body_for_sleep i e) (rw (d, eq-eqb (get_or (tables Z t).head 8 0) 1 o)) K.does
