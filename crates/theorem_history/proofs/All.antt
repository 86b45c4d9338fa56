-- Every call is a run of changes: one, or those of a chain refresh.
use mathlib.Core.Path.{◌≡◌, refl, sym, subst}
use mathlib.Core.Logic.{◌↔◌}
use mathlib.Core.Bool.{Bool, true, false}
use mathlib.Core.List.{List, [], ◌∷◌, ◌++◌}
use Prim.Native.Nat.{ℕ, zero, suc, ◌+◌, ◌-◌}
use lib.ListN.{length}
use lib.Dec.{ltb}
use Rattle.def_kinds.specs.Choice.{pick}
use Rattle.def_kinds.specs.declared.Sizes.{Sizes}
use Rattle.def_state.specs.World.{Handle, chain, World, Step}
use Rattle.def_state.specs.Links.{joint_room}
use Rattle.def_state.specs.Chain.{chained, old_length, unlinked, linked, linked_all, refresh_multibody_chain}
use Rattle.def_state.specs.Calls.{Call, Reset, Put, Retire, Flags, Ensure, Remove, Contact, Uncontact, Renumber, Joint, Unjoint, Chain, Resolve, Split, Schedule, Run, Begin, Observe, Finish, Sleep, Wake, perform, run}
use Rattle.theorem_split.specs.Fine.{Apart, Fine}
use Rattle.theorem_split.specs.Graph.{Bond}
use Rattle.theorem_history.specs.Ties.{Event, nothing, event_of, is_done, event, unlinks, links, links_all, parts, TiedAfter, TiedAfterAll, RecordedAfter, RecordedAfterAll}
use Rattle.theorem_history.proofs.Change.{EntersIn}
use Rattle.theorem_history.proofs.Change.{Calm, Change, same, fresh}
use Rattle.theorem_history.proofs.Keep.{Held, keep-ties, Closed, keep-closed}
use Rattle.theorem_history.proofs.Record.{Somewhere, keep-recorded}
use Rattle.theorem_history.proofs.Near.{Joined, keep-joined}
use Rattle.theorem_history.proofs.Basic.{ways, put_same, flags-same, schedule-same, begin-same, observe-same, finish-same, sleep-same, wake-same}
use Rattle.theorem_history.proofs.Enter.{ensure-change}
use Rattle.theorem_history.proofs.Quit.{remove-change, retire-change}
use Rattle.theorem_history.proofs.Keys.{Keyed}
use Rattle.theorem_history.proofs.Link.{contact-change, joint-change}
use Rattle.theorem_history.proofs.Unlink.{uncontact-change, unjoint-change}
use Rattle.theorem_history.proofs.Renumber.{renumber-change}
use Rattle.theorem_history.proofs.Resolve.{resolve-change}
use Rattle.theorem_history.proofs.Halve.{split-change, run-change}

-- each of these calls is a change; where nobody named by a link became a member, and where each did so
abbrev pub Changed : Sizes → List Call → World → Type 0
Changed Z [] w = Unit {0}
Changed Z (c ∷ cs) w = Change (event Z c w) w (perform Z c w).after × Changed Z cs (perform Z c w).after

abbrev pub Entering : Sizes → List Call → World → Type 0
Entering Z [] w = Unit {0}
Entering Z (c ∷ cs) w = EntersIn w (perform Z c w).after × Entering Z cs (perform Z c w).after

-- ---- three things that a run of changes keeps

pub ties-run : (Z : Sizes) (cs : List Call) (w : World) → Changed Z cs w → (T : Bond → Type 0) → ((l : Bond) → T l → Held w l) → (l : Bond) → TiedAfterAll Z cs w T l → Held (run Z cs w) l
unfolding run
ties-run Z [] w C T K l t = K l t
ties-run Z (c ∷ cs) w C T K l t =
    ties-run Z cs (perform Z c w).after C.1 (TiedAfter (event Z c w) w (perform Z c w).after T) (keep-ties T K C.0) l t

pub recorded-run : (Z : Sizes) (cs : List Call) (w : World) → Changed Z cs w → (R : Bond → Type 0) → ((l : Bond) → R l ↔ Somewhere w l) → (l : Bond)
    → RecordedAfterAll Z cs w R l ↔ Somewhere (run Z cs w) l
unfolding run
recorded-run Z [] w C R K l = K l
recorded-run Z (c ∷ cs) w C R K l =
    recorded-run Z cs (perform Z c w).after C.1 (RecordedAfter (event Z c w) w R) (keep-recorded w (perform Z c w).after R K C.0) l

pub closed_run : (Z : Sizes) (cs : List Call) (w : World) → Changed Z cs w → Entering Z cs w → Closed w → Closed (run Z cs w)
unfolding run
closed_run Z [] w C N K = K
closed_run Z (c ∷ cs) w C N K = closed_run Z cs (perform Z c w).after C.1 N.1 (keep-closed N.0 K C.0)

pub joined-run : (Z : Sizes) (cs : List Call) (w : World) → Changed Z cs w → Joined w → Joined (run Z cs w)
unfolding run
joined-run Z [] w C J = J
joined-run Z (c ∷ cs) w C J = joined-run Z cs (perform Z c w).after C.1 (keep-joined J C.0)

-- ---- a chain refresh

pub record Runs (Z : Sizes) (cs : List Call) (w v : World) : Type 0 where
  pub changed : Changed Z cs w
  pub ends : run Z cs w ≡ v
  pub entering : EntersIn w v → Entering Z cs w

calm-enters : (w v : World) → Calm w v → EntersIn w v
calm-enters w v C h o i j l s = absurd (i (C h o))

module _ (Z : Sizes) (high low : ℕ) where
  -- with what comes after
  record Through (cs : List Call) (w v : World) : Type 0 where
    changed : Changed Z cs w
    ends : run Z cs w ≡ v
    entering : Entering Z cs w

  link-run : (o : ℕ) (prev : Handle) (hs : List Handle) (w : World) → Apart w → Keyed w → Through (links high low o prev hs) w (linked Z high low o prev hs w)
  unfolding run linked perform
  link-run o prev [] w A K = record { changed = tt; ends = refl; entering = tt }
  link-run o prev (h ∷ hs) w A K =
      let c = joint-change Z (chain high low o) prev h w A K in
      let t = link-run (o + 1) h hs (perform Z (Joint (chain high low o) prev h) w).after c.1 c.2 in
      record { changed = (c.0, t.changed); ends = t.ends; entering = (calm-enters w _ c.3, t.entering) }

  links-run : (hs : List Handle) (w : World) → Apart w → Keyed w → Through (links_all high low hs) w (linked_all Z high low hs w)
  unfolding run linked_all
  links-run [] w A K = record { changed = tt; ends = refl; entering = tt }
  links-run (h ∷ hs) w A K = link-run 0 h hs w A K

  unlink-run : (o k : ℕ) (hs : List Handle) (w : World) → Apart w → Keyed w → Through (unlinks high low o k ++ links_all high low hs) w (linked_all Z high low hs (unlinked Z high low o k w))
  unfolding run unlinked perform
  unlink-run o zero hs w A K = links-run hs w A K
  unlink-run o (suc k) hs w A K =
      let c = unjoint-change Z (chain high low o) w A K in
      let t = unlink-run (o + 1) k hs (perform Z (Unjoint (chain high low o)) w).after c.1 c.2 in
      record { changed = (c.0, t.changed); ends = t.ends; entering = (calm-enters w _ c.3, t.entering) }

  -- the parts of a refresh that answers s
  abbrev Refreshes : List Handle → World → Step → Type 0
  Refreshes hs w s = Runs Z (pick (is_done s) (unlinks high low 0 (old_length Z w high low) ++ links_all high low (chained w hs)) []) w s.after

  chain_run : (hs : List Handle) (w : World) → Apart w → Keyed w → Runs Z (parts Z (Chain high low hs) w) w (perform Z (Chain high low hs) w).after
  unfolding perform refresh_multibody_chain run
  chain_run hs w A K =
      ways (Refreshes hs w) (ltb Z.slots (length hs)) (λ q. record { changed = tt; ends = refl; entering = λ e. tt })
      (λ q.
      ways (Refreshes hs w) (ltb (joint_room Z w + old_length Z w high low) (length (chained w hs) - 1)) (λ q. record { changed = tt; ends = refl; entering = λ e. tt })
      (λ q.
      ways (Refreshes hs w) (ltb (Z.journal - length w.removal_journal) (old_length Z w high low)) (λ q. record { changed = tt; ends = refl; entering = λ e. tt })
      (λ q.
      let t = unlink-run 0 (old_length Z w high low) (chained w hs) w A K in
      record { changed = t.changed; ends = t.ends; entering = λ e. t.entering })))

-- ---- every call

single : (Z : Sizes) (c : Call) (w : World) → Change (event Z c w) w (perform Z c w).after → Runs Z (c ∷ []) w (perform Z c w).after
unfolding run
single Z c w C = record { changed = (C, tt); ends = refl; entering = λ e. (e, tt) }

-- a call that says nothing of the RecordedAfter links
quiet : (Z : Sizes) (c : Call) (w : World) → event_of c w ≡ nothing → Change nothing w (perform Z c w).after → Runs Z (c ∷ []) w (perform Z c w).after
quiet Z c w e C = single Z c w (go (is_done (perform Z c w)))
  where
    go : (b : Bool) → Change (pick b (event_of c w) nothing) w (perform Z c w).after
    go true = subst (λ (x : Event). Change x w (perform Z c w).after) (sym e) C
    go false = C

pub call-run : (Z : Sizes) (c : Call) (w : World) → Fine w → Apart (perform Z c w).after → Runs Z (parts Z c w) w (perform Z c w).after
unfolding perform
call-run Z Reset w F B = single Z Reset w (fresh refl)
call-run Z (Put h f e z) w F B = quiet Z (Put h f e z) w refl (same (put_same Z w F h f e z))
call-run Z (Retire h) w F B = single Z (Retire h) w (retire-change w F h B)
call-run Z (Flags h f e z) w F B = quiet Z (Flags h f e z) w refl (same (flags-same Z w F h f e z))
call-run Z (Ensure h) w F B = quiet Z (Ensure h) w refl (ensure-change w F h B)
call-run Z (Remove h) w F B = single Z (Remove h) w (remove-change w F h B)
call-run Z (Contact e h1 h2) w F B = single Z (Contact e h1 h2) w (contact-change Z e h1 h2 w F.apart)
call-run Z (Uncontact e) w F B = single Z (Uncontact e) w (uncontact-change Z e w F)
call-run Z (Renumber r l) w F B = single Z (Renumber r l) w (renumber-change r l w F)
call-run Z (Joint q h1 h2) w F B = single Z (Joint q h1 h2) w (joint-change Z q h1 h2 w F.apart F.keys).0
call-run Z (Unjoint q) w F B = single Z (Unjoint q) w (unjoint-change Z q w F.apart F.keys).0
call-run Z (Chain u v hs) w F B = chain_run Z u v hs w F.apart F.keys
call-run Z Resolve w F B = quiet Z Resolve w refl (resolve-change w)
call-run Z (Split i) w F B = single Z (Split i) w (split-change w F i B)
call-run Z (Schedule i) w F B = quiet Z (Schedule i) w refl (same (schedule-same i w))
call-run Z Run w F B = single Z Run w (run-change w F B)
call-run Z Begin w F B = quiet Z Begin w refl (same (begin-same w))
call-run Z (Observe i e) w F B = quiet Z (Observe i e) w refl (same (observe-same i e w))
call-run Z (Finish room) w F B = quiet Z (Finish room) w refl (same (finish-same room w))
call-run Z (Sleep i) w F B = quiet Z (Sleep i) w refl (same (sleep-same i w))
call-run Z (Wake i) w F B = quiet Z (Wake i) w refl (same (wake-same i w))
