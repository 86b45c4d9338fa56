-- The lent list of a chain refresh, and what its loops do.
use Rattle.std.specs.Prelude.{◌≡◌, List, [], ◌∷◌, ℕ, zero, suc, ◌+◌, ◌*◌, ◌≤◌, length, Bool}
use Rattle.def_kinds.specs.declared.Sizes.{Sizes}
use Rattle.def_state.specs.World.{Handle, World}
use Rattle.def_state.specs.Chain.{chainable, linked, linked_all}
use Rattle.def_kinds.specs.Choice.{pick}
use Rattle.table_meaning.specs.Layout.{tables, extents}
use Rattle.table_meaning.specs.Decode.{handle_at, world_of}
use Rattle.table_meaning.specs.Sound.{Sound}
use Rattle.table_meaning.specs.Does.{SameBehind}

-- m handles, two words each, from the k-th on
unfoldable pub handles_from : List ℕ → ℕ → ℕ → List Handle
handles_from x k zero = []
handles_from x k (suc m) = handle_at x (2 * k) ∷ handles_from x (k + 1) m

-- u follows on w: the same bodies, and no less of anything
pub record Onward (w u : World) : Type 0 where
  pub bodies : u.bodies ≡ w.bodies
  pub islands : length w.islands ≤ length u.islands
  pub tracked : w.tracked ≤ u.tracked
  pub places : w.joint_places ≤ u.joint_places
  pub journal : length w.removal_journal ≤ length u.removal_journal

-- the tables came from t₀ by steps, and hold the state u
pub record CameBySteps (Z : Sizes) (t₀ t : List ℕ) (u : World) : Type 0 where
  pub sound : Sound Z t
  pub after : world_of Z t ≡ u
  pub onward : Onward (world_of Z t₀) u
  pub frame : SameBehind Z (extents (tables Z t)) (tables Z t₀) (tables Z t)

-- the pairs that are left to link: the body before is `prev`, where there is one
unfoldable pub link_rest : Sizes → ℕ → ℕ → Bool → ℕ → Handle → List Handle → World → World
link_rest Z high low has o prev hs w = pick has (linked Z high low o prev hs w) (linked_all Z high low hs w)

-- a handle h of the list was seen: what is left to link is as it was, with h in front where a chain links it
pub record LinkedOn (Z : Sizes) (high low : ℕ) (has : Bool) (o : ℕ) (prev h : Handle) (has' : Bool) (o' : ℕ) (prev' : Handle) (t t' : List ℕ) : Type 0 where
  pub came : CameBySteps Z t t' (world_of Z t')
  pub rest : (hs : List Handle) → link_rest Z high low has' o' prev' hs (world_of Z t') ≡ link_rest Z high low has o prev (pick (chainable (world_of Z t) h) (h ∷ hs) hs) (world_of Z t)
  pub ordinal_le : o' ≤ o + 1
