-- Whom a chain links, by the words of the body's slot.
use mathlib.Core.Path.{◌≡◌, refl, sym, ◌∙◌, ap}
use mathlib.Core.Bool.{Bool, true, false, not, ◌&&◌}
use mathlib.Core.List.{List}
use Prim.Native.Nat.{ℕ, ◌+◌, ◌*◌, ◌<◌}
use lib.Dec.{eqb}
use lib.ListN.{get_or}
use Rattle.def_kinds.specs.Choice.{pick}
use Rattle.def_kinds.specs.declared.Sizes.{Sizes}
use Rattle.def_state.specs.World.{Handle, Body, World, body_of, named}
use Rattle.def_state.specs.Chain.{chainable}
use Rattle.table_meaning.specs.Layout.{tables, extents}
use Rattle.table_meaning.specs.Decode.{flag, world_of}
use Rattle.core_laws.specs.Steps.{handle}
use Rattle.core_laws.proofs.Names.{named_is}
use Rattle.core_laws.proofs.Put.{body-word}

pick-not : (a b : Bool) → pick a false b ≡ (not a && b)
pick-not true b = refl
pick-not false b = refl

module _ (Z : Sizes) (t : List ℕ) (s g : ℕ) where
  abbrev w : World
  w = world_of Z t

  abbrev h : Handle
  h = handle s g

  pub chain-absent : named w h ≡ false → false ≡ chainable w h
  unfolding chainable
  chain-absent e = sym (rw e)

  module _ (n : named w h ≡ true) where
    pub slot-in : s < (extents (tables Z t)).slots
    slot-in = (named_is Z t s g n).slot_lt

    fixed-is : (body_of w s).fixed ≡ flag (get_or (tables Z t).slots (5 * s + 2) 0)
    fixed-is = ap (λ (b : Body). b.fixed) (body-word Z t s slot-in)

    enabled-is : (body_of w s).enabled ≡ flag (get_or (tables Z t).slots (5 * s + 3) 0)
    enabled-is = ap (λ (b : Body). b.enabled) (body-word Z t s slot-in)

    chain-words : chainable w h ≡ (not (eqb (get_or (tables Z t).slots (5 * s + 2) 0) 1) && eqb (get_or (tables Z t).slots (5 * s + 3) 0) 1)
    unfolding chainable
    chain-words = rw (n, fixed-is, enabled-is) (pick-not (flag (get_or (tables Z t).slots (5 * s + 2) 0)) (flag (get_or (tables Z t).slots (5 * s + 3) 0)))

    -- f and e are the words of its flags
    module _ (f : ℕ) (p : f ≡ get_or (tables Z t).slots (5 * s + 2) 0) where
      pub chain-fixed : not (eqb f 1) ≡ false → false ≡ chainable w h
      chain-fixed r = sym (chain-words ∙ rw (← p, r))

      pub chain-enabled : (e : ℕ) → e ≡ get_or (tables Z t).slots (5 * s + 3) 0 → not (eqb f 1) ≡ true → eqb e 1 ≡ chainable w h
      chain-enabled e q r = sym (chain-words ∙ rw (← p, ← q, r))
