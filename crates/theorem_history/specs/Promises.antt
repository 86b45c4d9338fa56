-- Two promises over histories: what a finish never lists (Oren's), and when an island may bid again and is split (Dana's).
-- Proved in proofs/Oren.antt and proofs/Dana.antt.
use Rattle.std.specs.Prelude.{◌≡◌, ◌⊎◌, ◌≢◌, true, false, List, ℕ, ◌+◌, ◌≤◌}
use Rattle.std.proofs.Math.Option.{some}
use Rattle.def_kinds.specs.Choice.{pick}
use Rattle.def_kinds.specs.declared.Sizes.{Sizes}
use Rattle.def_kinds.specs.Answers.{Answer, Done}
use Rattle.def_state.specs.World.{Handle, World, island_at, body_island, live}
use Rattle.def_state.specs.Split.{split_island_now, run_pending_split, split_allowed}
use Rattle.def_state.specs.Scan.{finish_sleep_scan}
use Rattle.def_state.specs.Calls.{Call, Reset, Put, Retire, Flags, Ensure, Remove, Contact, Uncontact, Renumber, Joint, Unjoint, Chain, Resolve, Split, Schedule, Run, Begin, Observe, Finish, Sleep, Wake, perform}
use Rattle.table_meaning.specs.Decode.{world_of}
use Rattle.table_meaning.specs.Does.{Called}
use Rattle.theorem_split.specs.Graph.{In, Path, Bond, Joins}
use Rattle.theorem_split.specs.Exact.{Exact}
use Rattle.theorem_history.specs.History.{History, reset, call}
use Rattle.theorem_history.specs.Ties.{is_done, Tie}

-- ---- Oren's

-- what an accepted call says of the scan
pub data Sight : Type 0 where
  nothing : Sight
  -- a scan begins, or is over
  over : Sight
  unfit : (island : ℕ) → Sight

abbrev pub sight_of : Call → Sight
sight_of Reset = over
sight_of (Put h f e z) = nothing
sight_of (Retire h) = nothing
sight_of (Flags h f e z) = nothing
sight_of (Ensure h) = nothing
sight_of (Remove h) = nothing
sight_of (Contact e h1 h2) = nothing
sight_of (Uncontact e) = nothing
sight_of (Renumber removed last) = nothing
sight_of (Joint q h1 h2) = nothing
sight_of (Unjoint q) = nothing
sight_of (Chain high low hs) = nothing
sight_of Resolve = nothing
sight_of (Split j) = nothing
sight_of (Schedule j) = nothing
sight_of Run = nothing
sight_of Begin = over
sight_of (Observe j e) = pick e nothing (unfit j)
sight_of (Finish room) = over
sight_of (Sleep j) = nothing
sight_of (Wake j) = nothing

abbrev pub sight : Sizes → Call → World → Sight
sight Z c w = pick (is_done (perform Z c w)) (sight_of c) nothing

-- an island that P speaks of was observed unfit in the scan: by this call, or before it (S)
abbrev pub Sees : Sight → (ℕ → Type 0) → Type 0 → Type 0
Sees nothing P S = S
Sees over P S = ⊥
Sees (unfit i) P S = S ⊎ P i

-- in the scan that is open after the history, the number i was observed unfit
abbrev pub Unfit : {Z : Sizes} {t : List ℕ} → History Z t → ℕ → Type 0
Unfit (reset e) i = ⊥
Unfit {Z} (call {t} H c r d) i = Sees (sight Z c (world_of Z t)) (λ (j : ℕ). i ≡ j) (Unfit H i)

-- in that scan the island of body h was observed unfit, and no call since has changed the island of h
abbrev pub SeenUnfit : {Z : Sizes} {t : List ℕ} → History Z t → Handle → Type 0
SeenUnfit (reset e) h = ⊥
SeenUnfit {Z} (call {t} {t'} H c r d) h =
    Sees (sight Z c (world_of Z t)) (λ (j : ℕ). body_island (world_of Z t) h ≡ j) (SeenUnfit H h)
    × (body_island (world_of Z t') h ≡ body_island (world_of Z t) h)

-- a tie joins a and b
abbrev pub Tied : {Z : Sizes} {t : List ℕ} → History Z t → Handle → Handle → Type 0
Tied H a b = (l : Bond) × Tie H l × Joins l a b

-- a finish, on the tables that the history left, lists no number that was observed unfit in the scan, whatever the other calls were
abbrev pub NoUnfit : Type 0
NoUnfit =
    (Z : Sizes) (t : List ℕ) (H : History Z t) (i : ℕ) → Unfit H i → (room : ℕ) → In i (finish_sleep_scan room (world_of Z t)).listed → ⊥

-- it lists no island with a body that was seen unfit, nor with one that ties lead to from there
abbrev pub NoneTiedToUnfit : Type 0
NoneTiedToUnfit =
    (Z : Sizes) (t : List ℕ) (H : History Z t) (a : Handle) → SeenUnfit H a → (b : Handle) → Path (Tied H) a b → (room : ℕ)
    → In (body_island (world_of Z t) b) (finish_sleep_scan room (world_of Z t)).listed
    → ⊥

-- ---- Dana's

-- scans begun since the last reset: after a history a begin is never refused
abbrev pub begun : Call → ℕ → ℕ
begun Reset n = 0
begun (Put h f e z) n = n
begun (Retire h) n = n
begun (Flags h f e z) n = n
begun (Ensure h) n = n
begun (Remove h) n = n
begun (Contact e h1 h2) n = n
begun (Uncontact e) n = n
begun (Renumber removed last) n = n
begun (Joint q h1 h2) n = n
begun (Unjoint q) n = n
begun (Chain high low hs) n = n
begun Resolve n = n
begun (Split j) n = n
begun (Schedule j) n = n
begun Run n = n
begun Begin n = n + 1
begun (Observe j e) n = n
begun (Finish room) n = n
begun (Sleep j) n = n
begun (Wake j) n = n

abbrev pub begins : {Z : Sizes} {t : List ℕ} → History Z t → ℕ
begins (reset e) = 0
begins (call H c r d) = begun c (begins H)

-- the call does not split island i of w: it is no accepted split of i, and no accepted run where i is pending
abbrev pub Spares : Call → ℕ → World → Type 0
Spares Reset i w = Unit {0}
Spares (Put h f e z) i w = Unit {0}
Spares (Retire h) i w = Unit {0}
Spares (Flags h f e z) i w = Unit {0}
Spares (Ensure h) i w = Unit {0}
Spares (Remove h) i w = Unit {0}
Spares (Contact e h1 h2) i w = Unit {0}
Spares (Uncontact e) i w = Unit {0}
Spares (Renumber removed last) i w = Unit {0}
Spares (Joint q h1 h2) i w = Unit {0}
Spares (Unjoint q) i w = Unit {0}
Spares (Chain high low hs) i w = Unit {0}
Spares Resolve i w = Unit {0}
Spares (Split j) i w = j ≡ i → (split_island_now j w).answer ≢ Done
Spares (Schedule j) i w = Unit {0}
Spares Run i w = w.split_island ≡ some i → (run_pending_split w).answer ≢ Done
Spares Begin i w = Unit {0}
Spares (Observe j e) i w = Unit {0}
Spares (Finish room) i w = Unit {0}
Spares (Sleep j) i w = Unit {0}
Spares (Wake j) i w = Unit {0}

-- K is H and further calls, none of which splits island i
pub data Unsplit {Z : Sizes} {t : List ℕ} (H : History Z t) (i : ℕ) : (u : List ℕ) → History Z u → Type 0 where
  now : Unsplit H i t H
  later : {u v : List ℕ} {K : History Z u} → Unsplit H i u K → (c : Call) (r : Answer) (d : Called Z (perform Z c) u r v) → Spares c i (world_of Z u) → Unsplit H i v (call K c r d)

-- an island that has not been split while 16 scans began may bid, where it is live and its count is not 0, and the stamp has not wrapped
abbrev pub MayBid : Type 0
MayBid =
    (Z : Sizes) (t u : List ℕ) (H : History Z t) (K : History Z u) (i : ℕ) → Unsplit H i u K → begins H + 16 ≤ begins K → begins K ≤ 4294967295
    → live (world_of Z u) i ≡ true
    → (island_at (world_of Z u) i).constraint_remove_count ≢ 0
    → split_allowed i (world_of Z u) ≡ true

-- schedule and then run (t, u, v: tables before, between, after) split island i: its count is 0 then
abbrev pub RunSplits : (Z : Sizes) (i : ℕ) (t u v : List ℕ) → Type 0
RunSplits Z i t u v =
    (r s : Answer) → Called Z (perform Z (Schedule i)) t r u → Called Z (perform Z Run) u s v
    → (s ≡ Done) × Exact i (world_of Z u) (world_of Z v) × ((island_at (world_of Z v) i).constraint_remove_count ≡ 0)

-- they do where it may bid and is awake
abbrev pub BidSplits : Type 0
BidSplits =
    (Z : Sizes) (t u v : List ℕ) → History Z t → (i : ℕ) → split_allowed i (world_of Z t) ≡ true → (island_at (world_of Z t) i).sleeping ≡ false → RunSplits Z i t u v

-- so an island that is live and awake, and whose count is not 0, is split by the time that 16 scans have begun, or then
abbrev pub SplitWithin16 : Type 0
SplitWithin16 =
    (Z : Sizes) (t u v x : List ℕ) (H : History Z t) (K : History Z u) (i : ℕ) → Unsplit H i u K → begins H + 16 ≤ begins K → begins K ≤ 4294967295
    → live (world_of Z u) i ≡ true
    → (island_at (world_of Z u) i).constraint_remove_count ≢ 0
    → (island_at (world_of Z u) i).sleeping ≡ false
    → RunSplits Z i u v x
