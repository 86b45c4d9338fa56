-- A law over the tables is a step on the buffer.
use mathlib.Core.Path.{◌≡◌, refl, sym, ◌∙◌, ap}
use mathlib.Core.List.{List}
use Prim.Native.Nat.{ℕ}
use lib.ListN.{length}
use Rattle.def_kinds.specs.declared.Sizes.{Sizes}
use Rattle.def_state.specs.World.{World, Step, done}
use Rattle.table_meaning.specs.Layout.{Tables, tables, total, Extents, extents}
use Rattle.table_meaning.specs.Decode.{decode, world_of}
use Rattle.table_meaning.specs.Sound.{Good, Sound}
use Rattle.table_meaning.specs.Does.{SameBehind}
use Rattle.table_meaning.specs.Larger.{Larger}
use Rattle.table_meaning.proofs.Frame.{larger-refl, kept_refl, sound-at, world-at, kept_at}
use Rattle.core_laws.specs.Steps.{Steps}
use Rattle.core_laws.proofs.Then.{does-as}

-- the tables of t' are W, with the extents Y
pub steps-at : {Z : Sizes} {t : List ℕ} (t' : List ℕ) (f : World → World) (Y : Extents) (W : Tables) → tables Z t' ≡ W → extents W ≡ Y → length t' ≡ total Z → Good Z Y W
    → decode Z Y W ≡ f (decode Z (extents (tables Z t)) (tables Z t)) → SameBehind Z Y (tables Z t) W → Larger (extents (tables Z t)) Y → Steps Z (λ w. done (f w)) t t'
unfolding world_of
steps-at {Z} {t} t' f Y W e a l G d k h =
    record {
      does = record { sound = sound-at Z Y t' W e a l G; answer = refl; after = world-at Z Y t' W e a ∙ d; frame = kept_at Z Y t' W e a (tables Z t) k };
      larger = rw (ap extents e ∙ a) h;
    }

-- a step that leaves the state as it is
pub steps-none : {Z : Sizes} {t : List ℕ} (f : World → World) → Sound Z t → f (world_of Z t) ≡ world_of Z t → Steps Z (λ w. done (f w)) t t
steps-none {Z} {t} f S e = record { does = record { sound = S; answer = refl; after = sym e; frame = kept_refl }; larger = larger-refl (extents (tables Z t)) }

pub steps-as : {Z : Sizes} {t u : List ℕ} (f g : World → Step) → f (world_of Z t) ≡ g (world_of Z t) → Steps Z f t u → Steps Z g t u
steps-as f g e D = record { does = does-as f g e D.does; larger = D.larger }
