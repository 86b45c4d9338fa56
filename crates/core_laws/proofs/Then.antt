-- Steps that do nothing, steps one after the other, and steps that are the same at the state in hand.
use mathlib.Core.Path.{◌≡◌, sym, ◌∙◌, ap}
use mathlib.Core.List.{List}
use Prim.Native.Nat.{ℕ}
use Rattle.def_kinds.specs.declared.Sizes.{Sizes}
use Rattle.def_kinds.specs.Answers.{Answer}
use Rattle.def_state.specs.World.{World, Step, gives}
use Rattle.table_meaning.specs.Layout.{tables, extents}
use Rattle.table_meaning.specs.Decode.{world_of}
use Rattle.table_meaning.specs.Sound.{Sound}
use Rattle.table_meaning.specs.Does.{Does}
use Rattle.table_meaning.specs.Larger.{Larger}
use Rattle.table_meaning.proofs.Frame.{kept_refl, kept_then}

-- answered r, and nothing changed
pub refused : {Z : Sizes} {t : List ℕ} (f : World → Step) (r : Answer) → Sound Z t → f (world_of Z t) ≡ gives r (world_of Z t) → Does Z f t r t
refused f r S e = record { sound = S; answer = sym (ap (λ (x : Step). x.answer) e); after = sym (ap (λ (x : Step). x.after) e); frame = kept_refl }

pub does-as : {Z : Sizes} {t u : List ℕ} {r : Answer} (f g : World → Step) → f (world_of Z t) ≡ g (world_of Z t) → Does Z f t r u → Does Z g t r u
does-as f g e D = record { sound = D.sound; answer = D.answer ∙ ap (λ (x : Step). x.answer) e; after = D.after ∙ ap (λ (x : Step). x.after) e; frame = D.frame }

pub does-then : {Z : Sizes} {t t1 t2 : List ℕ} {r r' : Answer} (f g : World → Step) → Larger (extents (tables Z t1)) (extents (tables Z t2)) → Does Z f t r t1 → Does Z g t1 r' t2
    → Does Z (λ w. g (f w).after) t r' t2
does-then f g L D E =
    record {
      sound = E.sound;
      answer = E.answer ∙ ap (λ (w : World). (g w).answer) D.after;
      after = E.after ∙ ap (λ (w : World). (g w).after) D.after;
      frame = kept_then L D.frame E.frame;
    }
