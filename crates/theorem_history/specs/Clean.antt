-- Histories in which no body became a member while a RecordedAfter, not yet unlinked link named it.
use Rattle.std.specs.Prelude.{◌≡◌, ◌≢◌, List, ℕ}
use Rattle.def_kinds.specs.declared.Sizes.{Sizes}
use Rattle.def_state.specs.Plain.{top}
use Rattle.def_state.specs.World.{Handle, World, body_island}
use Rattle.table_meaning.specs.Decode.{world_of}
use Rattle.theorem_split.specs.Graph.{Bond, Joins}
use Rattle.theorem_history.specs.History.{History, reset, call}
use Rattle.theorem_history.specs.Ties.{Recorded}

-- a body that became a member (w before, v after) was named by none of the links R
abbrev pub Enters : World → World → (Bond → Type 0) → Type 0
Enters w v R = (h : Handle) → body_island w h ≡ top → body_island v h ≢ top → (l : Bond) → R l → (l.body1 ≢ h) × (l.body2 ≢ h)

-- in every call of the history, those that became members were named by no link RecordedAfter before it
abbrev pub Clean : {Z : Sizes} {t : List ℕ} → History Z t → Type 0
Clean (reset e) = Unit {0}
Clean {Z} (call {t} {t'} H c r d) = Clean H × Enters (world_of Z t) (world_of Z t') (Recorded H)

-- a RecordedAfter link joins a and b, and both are members
pub record Linked {Z : Sizes} {t : List ℕ} (H : History Z t) (a b : Handle) : Type 0 where
  pub link : Bond
  pub RecordedAfter : Recorded H link
  pub joins : Joins link a b
  pub first : body_island (world_of Z t) a ≢ top
  pub second : body_island (world_of Z t) b ≢ top
