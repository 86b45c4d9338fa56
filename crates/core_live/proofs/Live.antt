-- When a number is that of a live island: it is in use, and a body is in its list.
use mathlib.Core.Path.{◌≡◌, refl, sym, ◌∙◌, ap}
use mathlib.Core.Bool.{true, false, not, false≢true}
use mathlib.Core.Logic.{◌≢◌}
use mathlib.Core.List.{List}
use Rattle.std.specs.Option.{option_eq}
use Rattle.std.specs.Prelude.{Option, None, Some, MatchOption}
use Prim.Native.Nat.{ℕ, ◌≤◌, ◌<◌}
use borrow.Author.Tests.{ne_eqb, eqb-false, true-eqb, false-eqb, not-true}
use lib.Dec.{eqb}
use lib.ListN.{length}
use Rattle.list_in_table.proofs.Order.{length-list}
use Rattle.def_kinds.specs.declared.Sizes.{Sizes}
use Rattle.def_state.specs.World.{Island, absent_island, island_at, live}
use Rattle.table_meaning.specs.Layout.{tables, extents, members_in}
use Rattle.table_meaning.specs.Decode.{island_in, world_of}
use Rattle.table_meaning.specs.Sound.{Sound}
use Rattle.table_meaning.proofs.Tab.{length-tabulate, get_d_beyond}
use Rattle.core_laws.specs.Lives.{Lives}
use Rattle.core_laws.proofs.Names.{island-at}
use Rattle.core_live.specs.Live.{LiveIs}

module _ {Z : Sizes} {t : List ℕ} (i : ℕ) (S : Sound Z t) where
  pub live-far : (extents (tables Z t)).islands ≤ i → LiveIs Z t i false
  unfolding live world_of
  live-far l =
      record {
        says =
            sym
            (ap (λ (a : Island). not (eqb (length a.bodies) 0))
            (get_d_beyond (world_of Z t).islands absent_island i (rw (length-tabulate (extents (tables Z t)).islands (island_in Z (tables Z t))) l)));
        lives = λ e. absurd (false≢true e);
      }

  bodies-are : i < (extents (tables Z t)).islands → length (island_at (world_of Z t) i).bodies ≡ (members_in Z (tables Z t)).count i
  unfolding world_of
  bodies-are l = ap (λ (a : Island). length a.bodies) (island-at Z (extents (tables Z t)) (tables Z t) i l) ∙ length-list S.good.members_wf.rules i l

  -- what the count of its bodies says of an island in use
  pub live-count : (n : ℕ) → i < (extents (tables Z t)).islands → n ≡ (members_in Z (tables Z t)).count i → LiveIs Z t i (not (eqb n 0))
  unfolding live
  live-count n l e =
      record {
        says = ap (λ (k : ℕ). not (eqb k 0)) (e ∙ sym (bodies-are l));
        lives = λ h. record { in_use = l; some = λ z. eqb-false n 0 (not-true (eqb n 0) h) (e ∙ z) };
      }

  pub lives-true : Lives Z t i → live (world_of Z t) i ≡ true
  lives-true L = sym (live-count _ L.in_use refl).says ∙ ap not (ne_eqb _ 0 L.some)

-- ---- what it says of the two words of the pending split that they name the island i, or do not
pub was-pending : {a b : ℕ} (r : Option ℕ) (i : ℕ) → MatchOption r (a ≢ 1) (λ k. (a ≡ 1) × (k ≡ b)) → true ≡ option_eq eqb r (Some i) → (a ≡ 1) × (b ≡ i)
was-pending None i m e = absurd (false≢true (sym e))
was-pending (Some k) i m e = (m.0, sym m.1 ∙ true-eqb k i e)

pub was-another : {a b : ℕ} (r : Option ℕ) (i : ℕ) → MatchOption r (a ≢ 1) (λ k. (a ≡ 1) × (k ≡ b)) → false ≡ option_eq eqb r (Some i) → a ≡ 1 → b ≢ i
was-another None i m e p q = m p
was-another (Some k) i m e p q = false-eqb k i e (m.1 ∙ q)
