-- What it is that a body left its island: the step, that the body is in no island now, and that no slot went out of use.
use Rattle.std.specs.Prelude.{◌≡◌, true, List, ℕ}
use Rattle.list_in_table.specs.Rules.{none}
use Rattle.def_kinds.specs.declared.Sizes.{Sizes}
use Rattle.def_kinds.specs.Answers.{Answer}
use Rattle.def_state.specs.World.{World, Step, done, named}
use Rattle.def_state.specs.Membership.{free_island, remove}
use Rattle.table_meaning.specs.Layout.{tables, head_put, extents, members_in}
use Rattle.table_meaning.specs.Decode.{world_of}
use Rattle.table_meaning.specs.Does.{Does}
use Rattle.table_meaning.specs.Larger.{Larger}
use Rattle.core_laws.specs.Steps.{handle, Steps, clear_pending}

-- the island i is freed, with its links
unfoldable pub freeing : ℕ → World → Step
freeing i w = done (free_island i w)

-- the step f took the body in slot s out of its island
pub record BodyLeft (Z : Sizes) (f : World → Step) (s : ℕ) (t t' : List ℕ) : Type 0 where
  pub steps : Steps Z f t t'
  pub gone : (members_in Z (tables Z t')).home s ≡ none
  pub slots : (extents (tables Z t')).slots ≡ (extents (tables Z t)).slots

-- a pending split of i is cleared: only the head changes
pub record Unpended (Z : Sizes) (i : ℕ) (t t' : List ℕ) : Type 0 where
  pub steps : Steps Z (clear_pending i) t t'
  pub extents_same : extents (tables Z t') ≡ extents (tables Z t)
  pub rest : tables Z t' ≡ head_put (tables Z t) (tables Z t').head

pub record Removes (Z : Sizes) (s g : ℕ) (t : List ℕ) (r : Answer) (t' : List ℕ) : Type 0 where
  pub does : Does Z (remove (handle s g)) t r t'
  pub larger : Larger (extents (tables Z t)) (extents (tables Z t'))
  pub slots : (extents (tables Z t')).slots ≡ (extents (tables Z t)).slots
  pub gone : named (world_of Z t) (handle s g) ≡ true → (members_in Z (tables Z t')).home s ≡ none
