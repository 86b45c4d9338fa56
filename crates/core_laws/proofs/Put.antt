-- put, flags and the freeing of a slot: what they say where their tests are known.
use mathlib.Core.Path.{◌≡◌, refl, sym, ◌∙◌, ap}
use mathlib.Core.Logic.{◌≢◌}
use mathlib.Core.Bool.{Bool, true, false}
use mathlib.Core.List.{List}
use Prim.Native.Nat.{ℕ, ◌+◌, ◌*◌, ◌≤◌, ◌<◌}
use native.Mathlib.Omega.{arith}
use borrow.Author.Tests.{eq-eqb, ne_eqb, le-leb, lt-leb, lt-ltb, le-ltb}
use lib.ListN.{get_or, set}
use Rattle.std.specs.Int.{from_bool}
use Rattle.list_in_table.specs.Rules.{none}
use Rattle.def_kinds.specs.declared.Sizes.{Sizes}
use Rattle.def_kinds.specs.Answers.{Done, Nothing, OverSize, SlotTaken, BadGeneration}
use Rattle.def_state.specs.World.{Handle, Body, absent_body, World, done, gives, body_of, named}
use Rattle.def_state.specs.Fields.{bodies_set}
use Rattle.def_state.specs.Bodies.{grown, filled, placed, put, flags}
use Rattle.table_meaning.specs.Layout.{tables, extents}
use Rattle.table_meaning.specs.Decode.{bit_of, flag, body_at, world_of}
use Rattle.table_meaning.specs.Does.{Does}
use Rattle.table_meaning.proofs.Unique.{slots-is}
use Rattle.table_meaning.proofs.Frame.{larger-refl}
use Rattle.core_laws.specs.Steps.{handle, body_with, grow, stand, Grew, Stood}
use Rattle.core_laws.proofs.Then.{does-as, does-then}
use Rattle.core_laws.proofs.GrowSlot.{grown-none}
use Rattle.core_laws.proofs.Names.{body-of, body-far}

pub bit_le : (b : Bool) → bit_of b ≤ 1
bit_le true = omega arith
bit_le false = omega arith

pub bit_is : (b : Bool) → flag (bit_of b) ≡ b
bit_is true = refl
bit_is false = refl

-- a flag as a number is its word
pub bit-from : (b : Bool) → from_bool b ≡ bit_of b
bit-from true = refl
bit-from false = refl

-- the body with these flags
pub body-with : (g l : ℕ) (f e z : Bool) → body_with g l (bit_of f) (bit_of e) (bit_of z) ≡ record { generation = g; lowest = l; fixed = f; enabled = e; sleeping = z }
body-with g l f e z = rw (bit_is f, bit_is e, bit_is z)

module _ (Z : Sizes) (s g : ℕ) (f e z : Bool) (w : World) where
  pub put-far : Z.slots ≤ s → put Z (handle s g) f e z w ≡ gives OverSize w
  unfolding put
  put-far l = rw (le-leb Z.slots s l)

  module _ (l : s < Z.slots) where
    pub put-taken : (body_of w s).generation ≢ none → put Z (handle s g) f e z w ≡ gives SlotTaken w
    unfolding put
    put-taken d = rw (lt-leb Z.slots s l, ne_eqb (body_of w s).generation none d)

    module _ (v : (body_of w s).generation ≡ none) where
      pub put_low : g < (body_of w s).lowest → put Z (handle s g) f e z w ≡ gives BadGeneration w
      unfolding put
      put_low h = rw (lt-leb Z.slots s l, eq-eqb (body_of w s).generation none v, lt-ltb g (body_of w s).lowest h)

      module _ (h : (body_of w s).lowest ≤ g) where
        pub put-absent : g ≡ none → put Z (handle s g) f e z w ≡ gives BadGeneration w
        unfolding put
        put-absent q = rw (lt-leb Z.slots s l, eq-eqb (body_of w s).generation none v, le-ltb g (body_of w s).lowest h, eq-eqb g none q)

        pub put-fits : g ≢ none → put Z (handle s g) f e z w ≡ done (placed (handle s g) f e z w)
        unfolding put
        put-fits d = rw (lt-leb Z.slots s l, eq-eqb (body_of w s).generation none v, le-ltb g (body_of w s).lowest h, ne_eqb g none d)

-- the words of a slot in use, and of one that is not
module _ (Z : Sizes) (t : List ℕ) (s : ℕ) where
  pub body-word : s < (extents (tables Z t)).slots → body_of (world_of Z t) s ≡ body_at (tables Z t).slots s
  unfolding world_of
  body-word h = body-of Z (extents (tables Z t)) (tables Z t) s h

  pub body-none : (extents (tables Z t)).slots ≤ s → body_of (world_of Z t) s ≡ absent_body
  unfolding world_of
  body-none h = body-far Z (extents (tables Z t)) (tables Z t) s h

  pub generation-word : s < (extents (tables Z t)).slots → (body_of (world_of Z t) s).generation ≡ get_or (tables Z t).slots (5 * s) 0
  generation-word h = ap (λ (b : Body). b.generation) (body-word h)

  pub lowest-word : s < (extents (tables Z t)).slots → (body_of (world_of Z t) s).lowest ≡ get_or (tables Z t).slots (5 * s + 1) 0
  lowest-word h = ap (λ (b : Body). b.lowest) (body-word h)

-- ---- put into a slot in use, and into one that has to come into use
module _ (Z : Sizes) (t : List ℕ) (s g : ℕ) (f e z : Bool) where
  abbrev w : World
  w = world_of Z t

  pub put-old : {t' : List ℕ} → s < (extents (tables Z t)).slots → put Z (handle s g) f e z w ≡ done (placed (handle s g) f e z w)
      → Stood Z s g (get_or (tables Z t).slots (5 * s + 1) 0) (bit_of f) (bit_of e) (bit_of z) t t' → Does Z (put Z (handle s g) f e z) t Done t'
  unfolding stand placed
  put-old h q D =
      does-as _ (put Z (handle s g) f e z)
      (sym
      (q
      ∙ ap (λ (v : World). done (bodies_set w (set v.bodies s (filled (handle s g) f e z (body_of w s))))) (grown-none (s + 1) w (let x = slots-is Z t in omega arith))
      ∙ ap (λ (b : Body). done (bodies_set w (set w.bodies s b)))
      (ap (λ (x : ℕ). record { generation = g; lowest = x; fixed = f; enabled = e; sleeping = z }) (lowest-word Z t s h) ∙ sym (body-with g (get_or (tables Z t).slots (5 * s + 1) 0) f e z))))
      D.does

  pub put-new : {t1 t2 : List ℕ} → (extents (tables Z t)).slots ≤ s → put Z (handle s g) f e z w ≡ done (placed (handle s g) f e z w)
      → Grew Z (s + 1) t t1 → Stood Z s g 0 (bit_of f) (bit_of e) (bit_of z) t1 t2 → Does Z (put Z (handle s g) f e z) t Done t2
  unfolding stand placed grow grown
  put-new {t1} h q D E =
      does-as _ (put Z (handle s g) f e z)
      (sym
      (q
      ∙ ap (λ (b : Body). done (bodies_set w (set (grown (s + 1) w).bodies s b)))
      (ap (λ (x : Body). filled (handle s g) f e z x) (body-none Z t s h) ∙ sym (body-with g 0 f e z))))
      (does-then (grow (s + 1)) (stand s (body_with g 0 (bit_of f) (bit_of e) (bit_of z))) (rw E.extents_same (larger-refl (extents (tables Z t1)))) D.does E.does)

-- ---- flags
pub flags-no : (h : Handle) (f e z : Bool) (w : World) → named w h ≡ false → flags h f e z w ≡ gives Nothing w
unfolding flags
flags-no h f e z w n = rw n

pub flags-yes : {Z : Sizes} {t t' : List ℕ} (s g : ℕ) (f e z : Bool) → named (world_of Z t) (handle s g) ≡ true → s < (extents (tables Z t)).slots
    → Stood Z s g (get_or (tables Z t).slots (5 * s + 1) 0) (bit_of f) (bit_of e) (bit_of z) t t' → Does Z (flags (handle s g) f e z) t Done t'
unfolding stand flags
flags-yes {Z} {t} s g f e z n h D =
    let w = world_of Z t in
    does-as _ (flags (handle s g) f e z)
    (sym
    (rw n
    (ap (λ (b : Body). done (bodies_set w (set w.bodies s b)))
    (ap (λ (x : ℕ). record { generation = g; lowest = x; fixed = f; enabled = e; sleeping = z }) (lowest-word Z t s h) ∙ sym (body-with g (get_or (tables Z t).slots (5 * s + 1) 0) f e z)))))
    D.does
