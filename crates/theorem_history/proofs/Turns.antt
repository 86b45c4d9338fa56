-- What a call does to the scan, the stamp and the denials.
use mathlib.Core.Path.{◌≡◌, refl, sym, ◌∙◌, ap, subst}
use mathlib.Core.Logic.{◌⊎◌, inl, inr, ◌≢◌, ⊎_elim}
use mathlib.Core.Bool.{Bool, true, false, ◌&&◌, not}
use mathlib.Core.Option.{Option, none, some}
use mathlib.Core.List.{List, []}
use Prim.Native.Nat.{ℕ, ◌+◌, ◌%◌, ◌≤◌, ◌<◌}
use native.Mathlib.Nat.{le_trans, le_refl, mod-le, mod-eq_of_lt}
use native.Mathlib.Omega.{arith}
use lib.ListN.{length}
use lib.Dec.{eqb, ltb}
use Rattle.def_kinds.specs.Choice.{pick}
use Rattle.list_in_table.proofs.Laws.{either}
use Rattle.def_kinds.specs.Number.{number}
use Rattle.def_kinds.specs.declared.Sizes.{Sizes}
use Rattle.def_kinds.specs.Answers.{Done}
use Rattle.def_state.specs.Plain.{top}
use Rattle.def_state.specs.World.{Observed, World, Step, island_at, live}
use Rattle.def_state.specs.Fields.{split_set, scan_set}
use Rattle.def_state.specs.Split.{split, split_island_now, run_split, run_pending_split}
use Rattle.def_state.specs.Scan.{begin_sleep_scan, observed, observe_body_for_sleep, Listing, sleepables, finish_sleep_scan}
use Rattle.def_state.specs.Calls.{Call, Reset, Put, Retire, Flags, Ensure, Remove, Contact, Uncontact, Renumber, Joint, Unjoint, Chain, Resolve, Split, Schedule, Run, Begin, Observe, Finish, Sleep, Wake, finished, perform}
use Rattle.theorem_history.specs.Ties.{is_done}
use Rattle.theorem_history.specs.Promises.{Sight, nothing, over, unfit, sight_of, sight, begun, Spares}
use Rattle.theorem_history.proofs.Basic.{ways}
use Rattle.theorem_history.proofs.Mild.{denied_at, Idle, Mild, idle_then, All, mild-refl, pending-mild, put-mild, flags-mild, ensure-mild, remove-mild, retire-mild, contact-mild, joint-mild, uncontact-mild, unjoint-mild, renumber-mild, resolve-mild, chain-mild, sleep-mild, wake-mild, schedule-mild, split-mild, split-denied}

-- what the scan list is after a call: os before, ps after
pub data Noted : Sight → List Observed → List Observed → Type 0 where
  kept : {os ps : List Observed} → ps ≡ os → Noted nothing os ps
  fit : {os ps : List Observed} (i : ℕ) → ps ≡ observed i true os → Noted nothing os ps
  seen : {os ps : List Observed} (i : ℕ) → ps ≡ observed i false os → Noted (unfit i) os ps
  gone : {os ps : List Observed} → ps ≡ [] → Noted over os ps

pub record Turned (c : Call) (s : Sight) (w v : World) : Type 0 where
  pub noted : Noted s w.sleep_scan_touched v.sleep_scan_touched
  -- no denial rises but that of an island that is split, and that to at most the stamp and 16
  pub spared : (i : ℕ) → Spares c i w → denied_at v i ≤ denied_at w i
  pub low : (i n : ℕ) → w.sleep_scan_stamp ≤ n → denied_at w i ≤ n + 16 → denied_at v i ≤ begun c n + 16
  -- the stamp is the number of scans begun, up to its wrap
  pub stamp_le : (n : ℕ) → w.sleep_scan_stamp ≤ n → v.sleep_scan_stamp ≤ begun c n
  pub stamp_is : (n : ℕ) → (n ≤ top → w.sleep_scan_stamp ≡ n) → begun c n ≤ top → v.sleep_scan_stamp ≡ begun c n

-- ---- calls that leave the scan alone

pick_same : {A : Type 0} (b : Bool) (x y : A) → y ≡ x → pick b y x ≡ x
pick_same true x y e = e
pick_same false x y e = refl

idle-noted : (w v : World) (b : Bool) (s : Sight) → s ≡ nothing → Idle w v → Noted (pick b s nothing) w.sleep_scan_touched v.sleep_scan_touched
idle-noted w v b s e i =
    subst (λ (x : Sight). Noted x w.sleep_scan_touched v.sleep_scan_touched) (sym (pick_same b nothing s e)) (kept i.touched)

module _ (c : Call) (b : Bool) (w v : World) (s : sight_of c ≡ nothing) (m : (n : ℕ) → begun c n ≡ n) where
  turned-idle : Idle w v → ((i : ℕ) → Spares c i w → denied_at v i ≤ denied_at w i) → ((i : ℕ) → (denied_at v i ≤ denied_at w i) ⊎ (denied_at v i ≤ w.sleep_scan_stamp + 16))
      → Turned c (pick b (sight_of c) nothing) w v
  turned-idle I p r =
      record {
        noted = idle-noted w v b (sight_of c) s I;
        spared = p;
        low = λ i n l k. subst (λ (x : ℕ). denied_at v i ≤ x + 16) (sym (m n)) (⊎_elim (λ a. le_trans a k) (λ a. le_trans a (raise l)) (r i));
        stamp_le = λ n l. (let e = I.stamp in let k = m n in chained-le e l k);
        stamp_is = λ n h l. I.stamp ∙ h (subst (λ (x : ℕ). x ≤ top) (m n) l) ∙ sym (m n);
      }
    where
      raise : {a b : ℕ} → a ≤ b → a + 16 ≤ b + 16
      raise l = omega arith

      chained-le : {a b n k : ℕ} → a ≡ b → b ≤ n → k ≡ n → a ≤ k
      chained-le x y z = omega arith

  turned-mild : Mild All w v → Turned c (pick b (sight_of c) nothing) w v
  turned-mild M = turned-idle M.idle (λ i p. M.denied i tt) (λ i. inl (M.denied i tt))

-- ---- a split, and a run

split-turned : (c : Call) (b : Bool) (i : ℕ) (w u v : World) → sight_of c ≡ nothing → ((n : ℕ) → begun c n ≡ n) → ((j : ℕ) → Spares c j w → j ≢ i) → Mild All w u → v ≡ split i u
    → Turned c (pick b (sight_of c) nothing) w v
split-turned c b i w u v s m p M e =
    subst (λ (x : World). Turned c (pick b (sight_of c) nothing) w x) (sym e)
    (turned-idle c b w (split i u) s m (idle_then M.idle (split-mild i u).idle)
    (λ j q. le_trans ((split-mild i u).denied j (p j q)) (M.denied j tt))
    (λ j.
    either j i
    (λ q. inr (subst (λ (k : ℕ). denied_at (split i u) k ≤ w.sleep_scan_stamp + 16) (sym q) (subst (λ (x : ℕ). denied_at (split i u) i ≤ x + 16) M.idle.stamp (split-denied i u))))
    (λ d. inl (le_trans ((split-mild i u).denied j d) (M.denied j tt)))))

split-call : (Z : Sizes) (i : ℕ) (w : World) → Turned (Split i) (sight Z (Split i) w) w (perform Z (Split i) w).after
unfolding perform split_island_now
split-call Z i w =
    ways (λ (s : Step). Turned (Split i) (pick (is_done s) (sight_of (Split i)) nothing) w s.after) (live w i)
    (λ q. split-turned (Split i) true i w w (split i w) refl (λ n. refl) (λ j d e. d (sym e) (accepted q)) (mild-refl w) refl)
    (λ q. turned-mild (Split i) false w w refl (λ n. refl) (mild-refl w))
  where
    accepted : live w i ≡ true → (split_island_now i w).answer ≡ Done
    accepted q = rw q

run_call : (Z : Sizes) (w : World) → Turned Run (sight Z Run w) w (perform Z Run w).after
unfolding perform run_pending_split
run_call Z w = go w.split_island refl
  where
    accepted : (i : ℕ) → w.split_island ≡ some i → (live (split_set w none) i && not (island_at (split_set w none) i).sleeping) ≡ true → (run_pending_split w).answer ≡ Done
    accepted i e q = ap (λ (o : Option ℕ). (run_split o (split_set w none)).answer) e ∙ rw q

    go : (o : Option ℕ) → w.split_island ≡ o → Turned Run (pick (is_done (run_split o (split_set w none))) nothing nothing) w (run_split o (split_set w none)).after
    go none e = turned-mild Run false w (split_set w none) refl (λ n. refl) (pending-mild w none)
    go (some i) e =
        ways (λ (s : Step). Turned Run (pick (is_done s) nothing nothing) w s.after) (live (split_set w none) i && not (island_at (split_set w none) i).sleeping)
        (λ q. split-turned Run true i w (split_set w none) (split i (split_set w none)) refl (λ n. refl) (λ j d f. d (e ∙ ap some (sym f)) (accepted i e q)) (pending-mild w none) refl)
        (λ q. turned-mild Run false w (split_set w none) refl (λ n. refl) (pending-mild w none))

-- ---- begin, observe, finish

begin-call : (Z : Sizes) (w : World) → Turned Begin (sight Z Begin w) w (perform Z Begin w).after
unfolding perform begin_sleep_scan
begin-call Z w =
    record {
      noted = gone refl;
      spared = λ i p. le_refl _;
      low = λ i n l k. le_trans k (longer n);
      stamp_le = λ n l. le_trans (mod-le (w.sleep_scan_stamp + 1) 4294967296) (more-le l);
      stamp_is = λ n h l. counted w.sleep_scan_stamp n (h (less l)) l;
    }
  where
    longer : (n : ℕ) → n + 16 ≤ n + 1 + 16
    longer n = omega arith

    more-le : {a b : ℕ} → a ≤ b → a + 1 ≤ b + 1
    more-le l = omega arith

    less : {n : ℕ} → n + 1 ≤ top → n ≤ top
    less l = omega arith

    counted : (s n : ℕ) → s ≡ n → n + 1 ≤ top → (s + 1) % 4294967296 ≡ n + 1
    counted s n e l = let k : s + 1 < 4294967296 = omega arith in mod-eq_of_lt k ∙ ap (λ (x : ℕ). x + 1) e

-- the scan alone is set, its stamp kept
noted-turned : (c : Call) (s : Sight) (w : World) (z : Bool) (os : List Observed) → ((n : ℕ) → begun c n ≡ n) → Noted s w.sleep_scan_touched os
    → Turned c s w (scan_set w w.sleep_scan_stamp z os)
noted-turned c s w z os m N =
    record {
      noted = N;
      spared = λ i p. le_refl _;
      low = λ i n l k. subst (λ (x : ℕ). denied_at w i ≤ x + 16) (sym (m n)) k;
      stamp_le = λ n l. subst (λ (x : ℕ). w.sleep_scan_stamp ≤ x) (sym (m n)) l;
      stamp_is = λ n h l. h (subst (λ (x : ℕ). x ≤ top) (m n) l) ∙ sym (m n);
    }

observe-call : (Z : Sizes) (i : ℕ) (e : Bool) (w : World) → Turned (Observe i e) (sight Z (Observe i e) w) w (perform Z (Observe i e) w).after
unfolding perform observe_body_for_sleep
observe-call Z i e w =
    ways (λ (s : Step). Turned (Observe i e) (pick (is_done s) (sight_of (Observe i e)) nothing) w s.after) (live w i)
    (λ q.
    ways (λ (s : Step). Turned (Observe i e) (pick (is_done s) (sight_of (Observe i e)) nothing) w s.after) w.scanning
    (λ q. noted-turned (Observe i e) (pick e nothing (unfit i)) w true (observed i e w.sleep_scan_touched) (λ n. refl) (either_way e))
    (λ q. refused))
    (λ q. refused)
  where
    either_way : (e : Bool) → Noted (pick e nothing (unfit i)) w.sleep_scan_touched (observed i e w.sleep_scan_touched)
    either_way true = fit i refl
    either_way false = seen i refl

    refused : Turned (Observe i e) nothing w w
    refused =
        record {
          noted = kept refl;
          spared = λ i p. le_refl _;
          low = λ i n l k. k;
          stamp_le = λ n l. l;
          stamp_is = λ n h l. h l;
        }

finish-call : (Z : Sizes) (room : ℕ) (w : World) → Turned (Finish room) (sight Z (Finish room) w) w (perform Z (Finish room) w).after
unfolding perform finished finish_sleep_scan
finish-call Z room w =
    ways (λ (s : Listing). Turned (Finish room) (pick (eqb (number s.answer) 0) over nothing) w s.after) (not w.scanning) (λ q. refused)
    (λ q.
    ways (λ (s : Listing). Turned (Finish room) (pick (eqb (number s.answer) 0) over nothing) w s.after) (ltb room (length (sleepables w w.sleep_scan_touched))) (λ q. refused)
    (λ q. noted-turned (Finish room) over w false [] (λ n. refl) (gone refl)))
  where
    refused : Turned (Finish room) nothing w w
    refused =
        record {
          noted = kept refl;
          spared = λ i p. le_refl _;
          low = λ i n l k. k;
          stamp_le = λ n l. l;
          stamp_is = λ n h l. h l;
        }

pub turned : (Z : Sizes) (c : Call) (w : World) → Turned c (sight Z c w) w (perform Z c w).after
unfolding perform
turned Z Reset w =
    record {
      noted = gone refl;
      spared = λ i p. zero-least _;
      low = λ i n l k. zero-least _;
      stamp_le = λ n l. le_refl 0;
      stamp_is = λ n h l. refl;
    }
  where
    zero-least : (n : ℕ) → 0 ≤ n
    zero-least n = omega arith
turned Z (Put h f e z) w = turned-mild (Put h f e z) (is_done (perform Z (Put h f e z) w)) w _ refl (λ n. refl) (put-mild Z h f e z w)
turned Z (Retire h) w = turned-mild (Retire h) (is_done (perform Z (Retire h) w)) w _ refl (λ n. refl) (retire-mild h w)
turned Z (Flags h f e z) w = turned-mild (Flags h f e z) (is_done (perform Z (Flags h f e z) w)) w _ refl (λ n. refl) (flags-mild h f e z w)
turned Z (Ensure h) w = turned-mild (Ensure h) (is_done (perform Z (Ensure h) w)) w _ refl (λ n. refl) (ensure-mild h w)
turned Z (Remove h) w = turned-mild (Remove h) (is_done (perform Z (Remove h) w)) w _ refl (λ n. refl) (remove-mild h w)
turned Z (Contact e h1 h2) w = turned-mild (Contact e h1 h2) (is_done (perform Z (Contact e h1 h2) w)) w _ refl (λ n. refl) (contact-mild Z e h1 h2 w)
turned Z (Uncontact e) w = turned-mild (Uncontact e) (is_done (perform Z (Uncontact e) w)) w _ refl (λ n. refl) (uncontact-mild Z e w)
turned Z (Renumber r k) w = turned-mild (Renumber r k) (is_done (perform Z (Renumber r k) w)) w _ refl (λ n. refl) (renumber-mild r k w)
turned Z (Joint q h1 h2) w = turned-mild (Joint q h1 h2) (is_done (perform Z (Joint q h1 h2) w)) w _ refl (λ n. refl) (joint-mild Z q h1 h2 w)
turned Z (Unjoint q) w = turned-mild (Unjoint q) (is_done (perform Z (Unjoint q) w)) w _ refl (λ n. refl) (unjoint-mild Z q w)
turned Z (Chain high low hs) w = turned-mild (Chain high low hs) (is_done (perform Z (Chain high low hs) w)) w _ refl (λ n. refl) (chain-mild Z high low hs w)
turned Z Resolve w = turned-mild Resolve (is_done (perform Z Resolve w)) w _ refl (λ n. refl) (resolve-mild w)
turned Z (Split i) w = split-call Z i w
turned Z (Schedule i) w = turned-mild (Schedule i) (is_done (perform Z (Schedule i) w)) w _ refl (λ n. refl) (schedule-mild i w)
turned Z Run w = run_call Z w
turned Z Begin w = begin-call Z w
turned Z (Observe i e) w = observe-call Z i e w
turned Z (Finish room) w = finish-call Z room w
turned Z (Sleep i) w = turned-mild (Sleep i) (is_done (perform Z (Sleep i) w)) w _ refl (λ n. refl) (sleep-mild i w)
turned Z (Wake i) w = turned-mild (Wake i) (is_done (perform Z (Wake i) w)) w _ refl (λ n. refl) (wake-mild i w)
