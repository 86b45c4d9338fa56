-- Ties: the links that were RecordedAfter while both ends were members, up to when they are unlinked or an end leaves.
-- And the links that are RecordedAfter at all, with one member end or two, up to when they are unlinked or dropped.
use Rattle.std.specs.Prelude.{◌≡◌, ◌⊎◌, ◌≢◌, Bool, List, [], ◌∷◌, ◌++◌, ℕ, zero, suc, ◌+◌, eqb}
use Rattle.std.proofs.Math.Option.{Option, none, some}
use Rattle.def_kinds.specs.Choice.{pick}
use Rattle.def_kinds.specs.Number.{number}
use Rattle.def_kinds.specs.declared.Sizes.{Sizes}
use Rattle.def_state.specs.Plain.{top}
use Rattle.def_state.specs.World.{Handle, chain, World, Step, body_island}
use Rattle.def_state.specs.Chain.{chained, old_length}
use Rattle.def_state.specs.Calls.{Call, Reset, Put, Retire, Flags, Ensure, Remove, Contact, Uncontact, Renumber, Joint, Unjoint, Chain, Resolve, Split, Schedule, Run, Begin, Observe, Finish, Sleep, Wake, perform}
use Rattle.table_meaning.specs.Decode.{world_of}
use Rattle.theorem_split.specs.Graph.{Name, edge, joint, Bond, Stands, Whole}
use Rattle.theorem_history.specs.History.{History, reset, call}

-- what an accepted call says of the RecordedAfter links
pub data Event : Type 0 where
  nothing : Event
  made : (l : Bond) → Event
  unlinked : (n : Name) → Event
  renumbered : (removed last : ℕ) → Event
  -- the body h leaves its island, if it is in one
  leaving : (h : Handle) → Event
  -- island i is split
  splitting : (i : ℕ) → Event
  wiped : Event

-- an accepted run splits the pending island
abbrev pub splitting_pending : Option ℕ → Event
splitting_pending none = nothing
splitting_pending (some i) = splitting i

-- the event of an accepted call, where w is the state before it
abbrev pub event_of : Call → World → Event
event_of Reset w = wiped
event_of (Put h f e z) w = nothing
event_of (Retire h) w = leaving h
event_of (Flags h f e z) w = nothing
event_of (Ensure h) w = nothing
event_of (Remove h) w = leaving h
event_of (Contact e h1 h2) w = made (record { name = edge e; body1 = h1; body2 = h2 })
event_of (Uncontact e) w = unlinked (edge e)
event_of (Renumber removed last) w = renumbered removed last
event_of (Joint q h1 h2) w = made (record { name = joint q; body1 = h1; body2 = h2 })
event_of (Unjoint q) w = unlinked (joint q)
event_of (Chain high low hs) w = nothing
event_of Resolve w = nothing
event_of (Split i) w = splitting i
event_of (Schedule i) w = nothing
event_of Run w = splitting_pending w.split_island
event_of Begin w = nothing
event_of (Observe i e) w = nothing
event_of (Finish room) w = nothing
event_of (Sleep i) w = nothing
event_of (Wake i) w = nothing

-- the answer is 0
abbrev pub is_done : Step → Bool
is_done s = eqb (number s.answer) 0

-- the event of a call: a refused one says nothing
abbrev pub event : Sizes → Call → World → Event
event Z c w = pick (is_done (perform Z c w)) (event_of c w) nothing

-- the last edge takes the removed number
abbrev pub new_name : ℕ → ℕ → Name → Name
new_name removed last (edge e) = pick (eqb e last) (edge removed) (edge e)
new_name removed last (joint q) = joint q

-- the link with its name after that
abbrev pub new_bond : ℕ → ℕ → Bond → Bond
new_bond removed last l = record { name = new_name removed last l.name; body1 = l.body1; body2 = l.body2 }

-- both ends are members
abbrev pub Both : World → Bond → Type 0
Both w l = (body_island w l.body1 ≢ top) × (body_island w l.body2 ≢ top)

-- the ties after an event, where T are those before, and w and v the states before and after
abbrev pub TiedAfter : Event → World → World → (Bond → Type 0) → Bond → Type 0
TiedAfter nothing w v T l = T l × Both v l
TiedAfter (made k) w v T l = (T l × Both v l) ⊎ ((l ≡ k) × Both w l)
TiedAfter (unlinked n) w v T l = T l × (l.name ≢ n) × Both v l
TiedAfter (renumbered removed last) w v T l = (k : Bond) × T k × (l ≡ new_bond removed last k) × Both v l
TiedAfter (leaving h) w v T l = T l × Both v l
TiedAfter (splitting i) w v T l = T l × Both v l
TiedAfter wiped w v T l = ⊥

-- ---- the links that a call drops, told from the state w before it

-- no other body is in the island of h
abbrev pub Alone : World → Handle → Type 0
Alone w h = (k : Handle) → body_island w k ≡ body_island w h → k ≡ h

-- a body that leaves while it is alone empties its island: the links that stand there are dropped (none, if it is in no island)
abbrev pub DroppedByLeaving : World → Handle → Bond → Type 0
DroppedByLeaving w h l = Alone w h × Stands w (body_island w h) l

-- a split parts an island that is not connected: the links that stand there and have no end in it are dropped
abbrev pub DroppedBySplit : World → ℕ → Bond → Type 0
DroppedBySplit w i l = (Whole w i → ⊥) × Stands w i l × (body_island w l.body1 ≢ i) × (body_island w l.body2 ≢ i)

-- the links RecordedAfter after an event, where R are those before, and w is the state before
abbrev pub RecordedAfter : Event → World → (Bond → Type 0) → Bond → Type 0
RecordedAfter nothing w R l = R l
RecordedAfter (made k) w R l = R l ⊎ (l ≡ k)
RecordedAfter (unlinked n) w R l = R l × (l.name ≢ n)
RecordedAfter (renumbered removed last) w R l = (k : Bond) × R k × (l ≡ new_bond removed last k)
RecordedAfter (leaving h) w R l = R l × (DroppedByLeaving w h l → ⊥)
RecordedAfter (splitting i) w R l = R l × (DroppedBySplit w i l → ⊥)
RecordedAfter wiped w R l = ⊥

-- ---- a chain refresh is its unlinks, then its links, where it is accepted

-- k joints of a chain are unlinked, from the ordinal o on
abbrev pub unlinks : ℕ → ℕ → ℕ → ℕ → List Call
unlinks high low o zero = []
unlinks high low o (suc k) = Unjoint (chain high low o) ∷ unlinks high low (o + 1) k

-- successive bodies are linked, from the ordinal o on
abbrev pub links : ℕ → ℕ → ℕ → Handle → List Handle → List Call
links high low o prev [] = []
links high low o prev (h ∷ hs) = Joint (chain high low o) prev h ∷ links high low (o + 1) h hs

-- all bodies of a chain are
abbrev pub links_all : ℕ → ℕ → List Handle → List Call
links_all high low [] = []
links_all high low (h ∷ hs) = links high low 0 h hs

-- the calls that a call is made of: itself, if it is no chain refresh
abbrev pub parts : Sizes → Call → World → List Call
parts Z Reset w = Reset ∷ []
parts Z (Put h f e z) w = Put h f e z ∷ []
parts Z (Retire h) w = Retire h ∷ []
parts Z (Flags h f e z) w = Flags h f e z ∷ []
parts Z (Ensure h) w = Ensure h ∷ []
parts Z (Remove h) w = Remove h ∷ []
parts Z (Contact e h1 h2) w = Contact e h1 h2 ∷ []
parts Z (Uncontact e) w = Uncontact e ∷ []
parts Z (Renumber removed last) w = Renumber removed last ∷ []
parts Z (Joint q h1 h2) w = Joint q h1 h2 ∷ []
parts Z (Unjoint q) w = Unjoint q ∷ []
parts Z (Chain high low hs) w =
    pick (is_done (perform Z (Chain high low hs) w)) (unlinks high low 0 (old_length Z w high low) ++ links_all high low (chained w hs)) []
parts Z Resolve w = Resolve ∷ []
parts Z (Split i) w = Split i ∷ []
parts Z (Schedule i) w = Schedule i ∷ []
parts Z Run w = Run ∷ []
parts Z Begin w = Begin ∷ []
parts Z (Observe i e) w = Observe i e ∷ []
parts Z (Finish room) w = Finish room ∷ []
parts Z (Sleep i) w = Sleep i ∷ []
parts Z (Wake i) w = Wake i ∷ []

-- ---- over a history

-- the ties after some calls, one after the other, where T are those before them
abbrev pub TiedAfterAll : Sizes → List Call → World → (Bond → Type 0) → Bond → Type 0
TiedAfterAll Z [] w T l = T l
TiedAfterAll Z (c ∷ cs) w T l = TiedAfterAll Z cs (perform Z c w).after (TiedAfter (event Z c w) w (perform Z c w).after T) l

-- and the links RecordedAfter, where R are those before them
abbrev pub RecordedAfterAll : Sizes → List Call → World → (Bond → Type 0) → Bond → Type 0
RecordedAfterAll Z [] w R l = R l
RecordedAfterAll Z (c ∷ cs) w R l = RecordedAfterAll Z cs (perform Z c w).after (RecordedAfter (event Z c w) w R) l

-- the link l is a tie after the history
abbrev pub Tie : {Z : Sizes} {t : List ℕ} → History Z t → Bond → Type 0
Tie (reset e) l = ⊥
Tie {Z} (call {t} H c r d) l = TiedAfterAll Z (parts Z c (world_of Z t)) (world_of Z t) (Tie H) l

-- the link l is RecordedAfter after the history: neither unlinked nor dropped since it was made
abbrev pub Recorded : {Z : Sizes} {t : List ℕ} → History Z t → Bond → Type 0
Recorded (reset e) l = ⊥
Recorded {Z} (call {t} H c r d) l = RecordedAfterAll Z (parts Z c (world_of Z t)) (world_of Z t) (Recorded H) l
