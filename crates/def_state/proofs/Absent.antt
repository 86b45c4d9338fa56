-- The absent handle names nothing, and neither does any other handle of generation 4294967295.
use mathlib.Core.Path.{◌≡◌, refl}
use mathlib.Core.Bool.{false}
use Prim.Native.Nat.{ℕ}
use Rattle.def_state.specs.Plain.{top}
use Rattle.def_state.specs.World.{absent, World, named, body_island}

-- it names no live body
pub absent-named : (w : World) → named w absent ≡ false
unfolding named
absent-named w = refl

-- so it has no island
pub absent-island : (w : World) → body_island w absent ≡ top
unfolding body_island named
absent-island w = refl

pub top-named : (w : World) (s : ℕ) → named w (record { slot = s; generation = top }) ≡ false
unfolding named
top-named w s = refl
