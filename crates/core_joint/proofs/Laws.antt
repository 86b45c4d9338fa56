-- What the search for a linked place with a key found; whether a link's ends are one body.
use mathlib.Core.Path.{◌≡◌, sym, subst}
use mathlib.Core.Bool.{Bool, ◌&&◌}
use mathlib.Core.List.{List}
use lib.Dec.{eqb}
use lib.ListN.{get_or}
use Prim.Native.Nat.{ℕ, ◌+◌, ◌≤◌, ◌<◌}
use native.Mathlib.Omega.{arith}
use Rattle.std.specs.declared.option.Option.{Option}
use Rattle.std.specs.declared.option.Option.TheVariants.{None, Some}
use Rattle.std.specs.Option.{MatchOption}
use Rattle.def_kinds.specs.declared.JointKey.{JointKey}
use Rattle.def_kinds.specs.declared.Sizes.{Sizes}
use Rattle.def_state.specs.Links.{same_handle}
use Rattle.table_meaning.specs.Decode.{handle_at}
use Rattle.table_meaning.specs.declared.KeyWords.{KeyWords}
use Rattle.table_meaning.specs.Keys.{words_of}
use Rattle.table_meaning.specs.Layout.{Tables, extents}
use Rattle.core_laws.specs.Places.{LinkedAs, KeyAt, Unlinked, PlaceHas, NoPlaceHas}

-- the place p is linked, with the key of these words
abbrev Linked : Sizes → Tables → KeyWords → ℕ → Type 0
Linked Z T w p = LinkedAs Z T w.kind w.first w.second w.third p

-- the search by these words found r
abbrev pub Searched : Sizes → Tables → KeyWords → Option ℕ → Type 0
Searched Z T w r = MatchOption r (Unlinked Z T w.kind w.first w.second w.third) (KeyAt Z T w.kind w.first w.second w.third)

pub placed : (Z : Sizes) (T : Tables) (w : KeyWords) {n : ℕ} → n ≡ (extents T).joints → (r : Option ℕ)
    → MatchOption r ((k : ℕ) → 0 ≤ k → k < n → Linked Z T w k → ⊥) (λ p. (0 ≤ p) × (p < n) × Linked Z T w p × ((k : ℕ) → 0 ≤ k → k < p → Linked Z T w k → ⊥))
    → Searched Z T w r
placed Z T w l None h = λ k kl a. h k (omega arith) (omega arith) a
placed Z T w l (Some p) h = record { place_lt = omega (arith, h.1); keyed = h.2 }

-- by the words of a key
pub keyed : (Z : Sizes) (T : Tables) (key : JointKey) {w : KeyWords} → w ≡ words_of key → (r : Option ℕ) → Searched Z T w r → MatchOption r (NoPlaceHas Z T key) (PlaceHas Z T key)
keyed Z T key e r h = subst (λ (x : KeyWords). Searched Z T x r) e h

-- the handles at j and k are one body where the words that were read are
pub ends-are : (x : List ℕ) (j k : ℕ) {r : Bool} (a b c d : ℕ) → (a ≡ get_or x j 0) × (b ≡ get_or x (j + 1) 0) → (c ≡ get_or x k 0) × (d ≡ get_or x (k + 1) 0) → r ≡ (eqb a c && eqb b d)
    → same_handle (handle_at x j) (handle_at x k) ≡ r
unfolding same_handle
ends-are x j k a b c d p q e = rw (sym p.0, sym p.1, sym q.0, sym q.1) (sym e)
