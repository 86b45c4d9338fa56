-- Every call of document 01 with what it is given, and its definition.
use Rattle.std.specs.Prelude.{Bool, List, [], ◌∷◌, ℕ}
use Rattle.def_kinds.specs.declared.Sizes.{Sizes}
use Rattle.def_kinds.specs.Answers.{Answer}
use Rattle.def_state.specs.World.{Handle, Key, World, empty_world, Step, done, gives}
use Rattle.def_state.specs.Bodies.{put, retire, flags}
use Rattle.def_state.specs.Membership.{ensure, remove}
use Rattle.def_state.specs.Links.{link_contact, unlink_contact, contact_edge_removed, link_joint, unlink_joint}
use Rattle.def_state.specs.Resolver.{resolve_removals}
use Rattle.def_state.specs.Chain.{refresh_multibody_chain}
use Rattle.def_state.specs.Split.{split_island_now, schedule_split, run_pending_split}
use Rattle.def_state.specs.Scan.{begin_sleep_scan, observe_body_for_sleep, finish_sleep_scan, mark_island_sleeping, wake_island}

-- The two questions, a body's island and whether an island may bid, change nothing and have their own definitions: Bodies.island, Split.split_allowed
pub data Call : Type 0 where
  Reset : Call
  Put : (h : Handle) (fixed enabled sleeping : Bool) → Call
  Retire : (h : Handle) → Call
  Flags : (h : Handle) (fixed enabled sleeping : Bool) → Call
  Ensure : (h : Handle) → Call
  Remove : (h : Handle) → Call
  Contact : (edge : ℕ) (h1 h2 : Handle) → Call
  Uncontact : (edge : ℕ) → Call
  Renumber : (removed last : ℕ) → Call
  Joint : (key : Key) (h1 h2 : Handle) → Call
  Unjoint : (key : Key) → Call
  Chain : (high low : ℕ) (hs : List Handle) → Call
  Resolve : Call
  Split : (island : ℕ) → Call
  Schedule : (island : ℕ) → Call
  Run : Call
  Begin : Call
  Observe : (island : ℕ) (eligible : Bool) → Call
  Finish : (room : ℕ) → Call
  Sleep : (island : ℕ) → Call
  Wake : (island : ℕ) → Call

unfoldable pub finished : ℕ → World → Step
finished room w = let l = finish_sleep_scan room w in gives l.answer l.after

unfoldable pub perform : Sizes → Call → World → Step
perform Z Reset w = done empty_world
perform Z (Put h f e z) w = put Z h f e z w
perform Z (Retire h) w = retire h w
perform Z (Flags h f e z) w = flags h f e z w
perform Z (Ensure h) w = ensure h w
perform Z (Remove h) w = remove h w
perform Z (Contact e h1 h2) w = link_contact Z e h1 h2 w
perform Z (Uncontact e) w = unlink_contact Z e w
perform Z (Renumber r l) w = contact_edge_removed r l w
perform Z (Joint q h1 h2) w = link_joint Z q h1 h2 w
perform Z (Unjoint q) w = unlink_joint Z q w
perform Z (Chain u v hs) w = refresh_multibody_chain Z u v hs w
perform Z Resolve w = resolve_removals w
perform Z (Split i) w = split_island_now i w
perform Z (Schedule i) w = schedule_split i w
perform Z Run w = run_pending_split w
perform Z Begin w = begin_sleep_scan w
perform Z (Observe i e) w = observe_body_for_sleep i e w
perform Z (Finish room) w = finished room w
perform Z (Sleep i) w = mark_island_sleeping i w
perform Z (Wake i) w = wake_island i w

-- one call after the other: the answers, and the state after the last
unfoldable pub answers : Sizes → List Call → World → List Answer
answers Z [] w = []
answers Z (c ∷ cs) w = (perform Z c w).answer ∷ answers Z cs (perform Z c w).after

unfoldable pub run : Sizes → List Call → World → World
run Z [] w = w
run Z (c ∷ cs) w = run Z cs (perform Z c w).after
