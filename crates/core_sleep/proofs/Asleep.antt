-- A live island is marked asleep, or wakes.
use mathlib.Core.Path.{◌≡◌, refl, ◌∙◌, ap}
use mathlib.Core.Bool.{Bool, true, false}
use mathlib.Core.List.{List}
use Prim.Native.Nat.{ℕ, ◌+◌, ◌*◌, ◌<◌}
use native.Mathlib.Omega.{arith}
use lib.ListN.{length, get_or, set}
use lib.Seq.{get_or-set_same, get_or-set_other}
use Rattle.list_in_buffer.specs.Part.{Put}
use Rattle.def_kinds.specs.declared.Sizes.{Sizes}
use Rattle.def_kinds.specs.Answers.{Done, NoIsland}
use Rattle.def_state.specs.World.{live}
use Rattle.def_state.specs.Fields.{sleeping_set}
use Rattle.def_state.specs.Scan.{mark_island_sleeping, wake_island}
use Rattle.table_meaning.specs.Layout.{tables, rows_at, rows_span}
use Rattle.table_meaning.specs.Decode.{bit_of, flag, world_of}
use Rattle.table_meaning.specs.Sound.{Sound}
use Rattle.table_meaning.specs.Does.{Does}
use Rattle.table_meaning.proofs.Puts.{sized}
use Rattle.core_laws.specs.Steps.{Steps, clear_pending}
use Rattle.core_laws.specs.Lives.{Lives}
use Rattle.core_laws.proofs.Then.{refused, does-as, does-then}
use Rattle.core_laws.proofs.Good.{island-is}
use Rattle.core_laws.proofs.Isle.{set-aside}
use Rattle.core_laws.proofs.Row.{row-steps}
use Rattle.core_sleep.specs.Resting.{rest_as}
use Rattle.core_laws.proofs.Put.{bit_is as flag-bit, bit_le}

-- ---- rest
pub rested : {Z : Sizes} {t t1 : List ℕ} (i : ℕ) (z : Bool) → Sound Z t → Lives Z t i → Put (rows_at Z) (rows_span Z) t t1 (set (tables Z t).rows (3 * i + 2) (bit_of z)) → Steps Z (rest_as i z) t t1
unfolding rest_as
rested {Z} {t} {t1} i z S L P =
    let T = tables Z t in
    let x = T.rows in
    let v = bit_of z in
    let lx : 3 * i + 2 < length x = (let k = (sized Z t S.long).rows_length in let g = S.good.islands_le in let l = L.in_use in omega arith) in
    let s : get_or (set x (3 * i + 2) v) (3 * i + 2) 0 ≡ v = get_or-set_same x (3 * i + 2) v 0 lx in
    row-steps i (set x (3 * i + 2) v) (λ a. sleeping_set a z) S L.in_use L.some (set-aside x i (3 * i + 2) v (omega arith) (omega arith)) (rw s (bit_le z))
    (island-is refl refl refl (get_or-set_other x (3 * i + 2) (3 * i) v 0 (omega arith)) (get_or-set_other x (3 * i + 2) (3 * i + 1) v 0 (omega arith)) (ap flag s ∙ flag-bit z))
    P

-- ---- sleep_on, wake_on
module _ {Z : Sizes} {t : List ℕ} (i : ℕ) (S : Sound Z t) where
  pub sleep-dead : live (world_of Z t) i ≡ false → Does Z (mark_island_sleeping i) t NoIsland t
  unfolding mark_island_sleeping
  sleep-dead d = refused (mark_island_sleeping i) NoIsland S (rw d)

  pub wake-dead : live (world_of Z t) i ≡ false → Does Z (wake_island i) t NoIsland t
  unfolding wake_island
  wake-dead d = refused (wake_island i) NoIsland S (rw d)

  pub slept : {t1 t2 : List ℕ} → live (world_of Z t) i ≡ true → Steps Z (rest_as i true) t t1 → Steps Z (clear_pending i) t1 t2 → Does Z (mark_island_sleeping i) t Done t2
  unfolding mark_island_sleeping rest_as clear_pending
  slept d A B =
      does-as (λ w. clear_pending i (rest_as i true w).after) (mark_island_sleeping i) (rw d) (does-then (rest_as i true) (clear_pending i) B.larger A.does B.does)

  pub woken : {t1 : List ℕ} → live (world_of Z t) i ≡ true → Steps Z (rest_as i false) t t1 → Does Z (wake_island i) t Done t1
  unfolding wake_island rest_as
  woken d A = does-as (rest_as i false) (wake_island i) (rw d) A.does
