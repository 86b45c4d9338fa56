-- put of a buffer, at each of its ways out, by what the words of the slot are.
use mathlib.Core.Path.{◌≡◌, sym, ◌∙◌, ap}
use mathlib.Core.Logic.{◌≢◌}
use mathlib.Core.Bool.{Bool}
use mathlib.Core.List.{List}
use Prim.Native.Nat.{ℕ, ◌+◌, ◌*◌, ◌≤◌, ◌<◌}
use native.Mathlib.Omega.{arith}
use lib.ListN.{get_or}
use Rattle.list_in_table.specs.Rules.{none}
use Rattle.def_kinds.specs.declared.Sizes.{Sizes}
use Rattle.def_kinds.specs.Answers.{Done, OverSize, SlotTaken, BadGeneration}
use Rattle.def_state.specs.World.{Body, World, Step, body_of}
use Rattle.def_state.specs.Bodies.{put}
use Rattle.table_meaning.specs.Layout.{tables, extents}
use Rattle.table_meaning.specs.Decode.{bit_of, world_of}
use Rattle.table_meaning.specs.Sound.{Sound}
use Rattle.table_meaning.specs.Does.{Does}
use Rattle.core_laws.specs.Steps.{handle, Grew, Stood}
use Rattle.core_laws.proofs.Then.{refused}
use Rattle.core_laws.proofs.Put.{body-none, generation-word, lowest-word, put-far, put-taken, put_low, put-absent, put-fits, put-old, put-new}

module _ {Z : Sizes} {t : List ℕ} (s g : ℕ) (f e z : Bool) (S : Sound Z t) where
  abbrev puts : World → Step
  puts = put Z (handle s g) f e z

  abbrev w : World
  w = world_of Z t

  pub puts-far : Z.slots ≤ s → Does Z puts t OverSize t
  puts-far l = refused puts OverSize S (put-far Z s g f e z w l)

  module _ (l : s < Z.slots) where
    -- into a slot that has to come into use
    module _ (h : (extents (tables Z t)).slots ≤ s) where
      vacant : (body_of w s).generation ≡ none
      vacant = ap (λ (b : Body). b.generation) (body-none Z t s h)

      least : (body_of w s).lowest ≤ g
      least = let q = ap (λ (b : Body). b.lowest) (body-none Z t s h) in omega arith

      pub puts-new-absent : g ≡ none → Does Z puts t BadGeneration t
      puts-new-absent d = refused puts BadGeneration S (put-absent Z s g f e z w l vacant least d)

      pub puts-new : {t1 t2 : List ℕ} → g ≢ none → Grew Z (s + 1) t t1 → Stood Z s g 0 (bit_of f) (bit_of e) (bit_of z) t1 t2 → Does Z puts t Done t2
      puts-new d G F = put-new Z t s g f e z h (put-fits Z s g f e z w l vacant least d) G F

    -- into one in use, whose first words are v and lowest
    module _ (h : s < (extents (tables Z t)).slots) (v : ℕ) (ve : v ≡ get_or (tables Z t).slots (5 * s) 0) where
      pub puts-taken : v ≢ none → Does Z puts t SlotTaken t
      puts-taken d = refused puts SlotTaken S (put-taken Z s g f e z w l (λ q. d (ve ∙ sym (generation-word Z t s h) ∙ q)))

      module _ (vn : v ≡ none) (lowest : ℕ) (le : lowest ≡ get_or (tables Z t).slots (5 * s + 1) 0) where
        left : (body_of w s).generation ≡ none
        left = generation-word Z t s h ∙ sym ve ∙ vn

        pub puts_low : g < lowest → Does Z puts t BadGeneration t
        puts_low d = refused puts BadGeneration S (put_low Z s g f e z w l left (let q = lowest-word Z t s h in omega arith))

        module _ (b : lowest ≤ g) where
          from : (body_of w s).lowest ≤ g
          from = let q = lowest-word Z t s h in omega arith

          pub puts-absent : g ≡ none → Does Z puts t BadGeneration t
          puts-absent d = refused puts BadGeneration S (put-absent Z s g f e z w l left from d)

          pub puts-old : {t' : List ℕ} → g ≢ none → Stood Z s g lowest (bit_of f) (bit_of e) (bit_of z) t t' → Does Z puts t Done t'
          puts-old d F = put-old Z t s g f e z h (put-fits Z s g f e z w l left from d) (rw le at F)
