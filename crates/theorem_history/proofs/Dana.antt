-- Dana's promise: an island that was not split while 16 scans began may bid, and is split when it is scheduled and run.
use mathlib.Core.Path.{◌≡◌, refl, sym, ◌∙◌, ap, subst}
use mathlib.Core.Bool.{Bool, true, false, ◌&&◌, false≢true}
use mathlib.Core.Option.{Option, none, some}
use mathlib.Core.List.{List}
use Prim.Native.Nat.{ℕ, ◌+◌, ◌≤◌}
use native.Mathlib.Nat.{le_trans, le_refl}
use native.Mathlib.Omega.{arith}
use borrow.Author.Tests.{ne_eqb, le-ltb}
use Rattle.def_kinds.specs.declared.Sizes.{Sizes}
use Rattle.def_kinds.specs.Answers.{Answer, Done}
use Rattle.def_state.specs.Plain.{top}
use Rattle.def_state.specs.World.{World, Step, done, island_at, live}
use Rattle.def_state.specs.Fields.{split_set}
use Rattle.def_state.specs.Split.{denied, split, split_allowed, schedule_split, run_pending_split}
use Rattle.def_state.specs.Calls.{Schedule, Run, perform}
use Rattle.table_meaning.specs.Decode.{world_of}
use Rattle.table_meaning.specs.Does.{Called}
use Rattle.theorem_split.specs.Exact.{Exact}
use Rattle.theorem_history.specs.History.{History, reset, call}
use Rattle.theorem_history.specs.Promises.{begins, Unsplit, now, later, MayBid, BidSplits, SplitWithin16}
use Rattle.theorem_history.proofs.Sentences.{does, reset-empty, after, history-sound, exact-run}
use Rattle.theorem_history.proofs.Mild.{denied_at, split-count}
use Rattle.theorem_history.proofs.Turns.{turned}

-- ---- the stamp counts the scans begun, up to its wrap

pub stamp_le : {Z : Sizes} {t : List ℕ} (H : History Z t) → (world_of Z t).sleep_scan_stamp ≤ begins H
stamp_le {Z} (reset e) = subst (λ (w : World). w.sleep_scan_stamp ≤ 0) (sym (reset-empty e)) (le_refl 0)
stamp_le {Z} (call {t} {t'} H c r d) =
    subst (λ (w : World). w.sleep_scan_stamp ≤ begins (call H c r d)) (sym (after H c r d)) ((turned Z c (world_of Z t)).stamp_le (begins H) (stamp_le H))

pub stamp_is : {Z : Sizes} {t : List ℕ} (H : History Z t) → begins H ≤ top → (world_of Z t).sleep_scan_stamp ≡ begins H
stamp_is {Z} (reset e) l = ap (λ (w : World). w.sleep_scan_stamp) (reset-empty e)
stamp_is {Z} (call {t} {t'} H c r d) l =
    ap (λ (w : World). w.sleep_scan_stamp) (after H c r d) ∙ (turned Z c (world_of Z t)).stamp_is (begins H) (stamp_is H) l

-- ---- no denial is more than 16 above it

pub denied-le : {Z : Sizes} {t : List ℕ} (H : History Z t) (i : ℕ) → denied_at (world_of Z t) i ≤ begins H + 16
denied-le {Z} (reset e) i = subst (λ (w : World). denied_at w i ≤ 0 + 16) (sym (reset-empty e)) none-denied
  where
    none-denied : 0 ≤ 0 + 16
    none-denied = omega arith
denied-le {Z} (call {t} {t'} H c r d) i =
    subst (λ (w : World). denied_at w i ≤ begins (call H c r d) + 16) (sym (after H c r d))
    ((turned Z c (world_of Z t)).low i (begins H) (stamp_le H) (denied-le H i))

unsplit-le : {Z : Sizes} {t : List ℕ} {H : History Z t} {i : ℕ} {u : List ℕ} {K : History Z u} → Unsplit H i u K → denied_at (world_of Z u) i ≤ begins H + 16
unsplit-le {H = H} {i = i} now = denied-le H i
unsplit-le {Z} {H = H} {i = i} (later {u} {K = K} U c r d p) =
    subst (λ (w : World). denied_at w i ≤ begins H + 16) (sym (after K c r d)) (le_trans ((turned Z c (world_of Z u)).spared i p) (unsplit-le U))

pub may-bid : MayBid
unfolding split_allowed denied
may-bid Z t u H K i U l m lv k =
    let w = world_of Z u in
    let s = stamp_is K m in
    let a = unsplit-le U in
    rw (lv, ne_eqb (island_at w i).constraint_remove_count 0 k, le-ltb w.sleep_scan_stamp (denied_at w i) (enough (begins H) s a l))
  where
    enough : {s d k : ℕ} (n : ℕ) → s ≡ k → d ≤ n + 16 → n + 16 ≤ k → d ≤ s
    enough n x y z = omega arith

-- ---- scheduled and run, it is split

and_both : (a b : Bool) → (a && b) ≡ true → (a ≡ true) × (b ≡ true)
and_both true true e = (refl, refl)
and_both true false e = (refl, e)
and_both false b e = (e, absurd (false≢true e))

allowed-live : (i : ℕ) (w : World) → split_allowed i w ≡ true → live w i ≡ true
unfolding split_allowed
allowed-live i w e = (and_both (live w i) _ e).0

some_same : {a b : ℕ} → ◌≡◌ {A = Option ℕ} (some a) (some b) → a ≡ b
some_same {a} {b} e = ap numbered e
  where
    numbered : Option ℕ → ℕ
    numbered none = 0
    numbered (some n) = n

-- the run of a pending island that is live and awake
run-splits : (i : ℕ) (w : World) → live w i ≡ true → (island_at w i).sleeping ≡ false
    → run_pending_split (split_set w (some i)) ≡ done (split i (split_set (split_set w (some i)) none))
unfolding run_pending_split live
run-splits i w l z = rw (l, z)

module _ (Z : Sizes) (t u v : List ℕ) (H : History Z t) (i : ℕ) (a : split_allowed i (world_of Z t) ≡ true) (z : (island_at (world_of Z t) i).sleeping ≡ false) (r s : Answer)
    (d : Called Z (perform Z (Schedule i)) t r u)
    (k : Called Z (perform Z Run) u s v)
  where
    abbrev w : World
    w = world_of Z t

    scheduled : world_of Z u ≡ split_set (world_of Z t) (some i)
    unfolding perform schedule_split
    scheduled = after H (Schedule i) r d

    ran : perform Z Run (world_of Z u) ≡ done (split i (split_set (split_set (world_of Z t) (some i)) none))
    unfolding perform
    ran = ap run_pending_split scheduled ∙ run-splits i w (allowed-live i w a) z

    answered : s ≡ Done
    answered = (does Z (perform Z Run) u s v (history-sound (call H (Schedule i) r d)) k).answer ∙ ap (λ (x : Step). x.answer) ran

    splits-it : Exact i (world_of Z u) (world_of Z v)
    splits-it =
        let E = exact-run Z u s v k answered in
        subst (λ (n : ℕ). Exact n (world_of Z u) (world_of Z v)) (some_same (sym E.1 ∙ ap (λ (x : World). x.split_island) scheduled)) E.2

    count-gone : (island_at (world_of Z v) i).constraint_remove_count ≡ 0
    count-gone =
        ap (λ (x : World). (island_at x i).constraint_remove_count) (after (call H (Schedule i) r d) Run s k ∙ ap (λ (x : Step). x.after) ran)
        ∙ split-count i (split_set (split_set (world_of Z t) (some i)) none)

pub bid-splits : BidSplits
bid-splits Z t u v H i a z r s d k = (answered Z t u v H i a z r s d k, splits-it Z t u v H i a z r s d k, count-gone Z t u v H i a z r s d k)

pub split-within-16 : SplitWithin16
split-within-16 Z t u v x H K i U l m lv k z r s d e = bid-splits Z u v x K i (may-bid Z t u H K i U l m lv k) z r s d e
