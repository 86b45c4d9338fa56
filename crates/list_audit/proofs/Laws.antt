-- An answer that is true just where a rule holds.
use mathlib.Core.Path.{◌≡◌, refl, subst}
use mathlib.Core.Bool.{Bool, true, false, false≢true}
use mathlib.Core.List.{List}
use Prim.Native.Nat.{ℕ, ◌<◌}
use native.Mathlib.Omega.{arith}
use lib.ListN.{length, get_or}
use denote.Param.Members.{Mut}
use Rattle.std.specs.declared.option.Option.{Option}
use Rattle.std.specs.declared.ops.Range.{Range}
use Rattle.std.specs.Bool.{MatchBool}
use Rattle.std.specs.Fn.{Called}
use Rattle.std.specs.Iterator.{YieldsThen}
use Rattle.std.specs.List.{FoldsTo, range_with_len, AllWithin, HoldsAt}
use Rattle.std.specs.Option.{MatchOption}
use Rattle.std.proofs.iter.Yields.{nat_range_steps}
use Rattle.std.proofs.lemmas.Iterator.{YieldsList-from_range, cases_from_all}
use Rattle.std.proofs.lemmas.List.FromFn.{length-range_with_len, get_or-range_with_len}
use Rattle.list_in_table.specs.Rules.{Is}

pub is-yes : {X : Type 0} → X → Is true X
is-yes x = ((λ _. x), (λ _. refl))

pub is-no : {X : Type 0} → (X → ⊥) → Is false X
is-no f = ((λ e. absurd (false≢true e)), (λ x. absurd (f x)))

-- the k-th number of a range from 0 is k
at-zero : (n k : ℕ) → k < n → get_or (range_with_len 0 n) k 0 ≡ k
at-zero n k l = omega (arith, get_or-range_with_len 0 n k 0 l)

each-below :
    (n : ℕ) (P : ℕ → Type 0) (r : Bool) →
    MatchBool r (AllWithin P (range_with_len 0 n) 0 (length (range_with_len 0 n)))
    ((k : ℕ) × (k < length (range_with_len 0 n)) × HoldsAt (λ x. P x → ⊥) (range_with_len 0 n) k) →
    Is r ((k : ℕ) → k < n → P k)
each-below n P true h = is-yes (λ k l. subst P (at-zero n k l) (h k 0 (omega arith) (omega (arith, l, length-range_with_len 0 n))))
each-below n P false h =
    let l : h.0 < n = omega (arith, h.1, length-range_with_len 0 n) in
    is-no (λ all. subst (λ x. P x → ⊥) (at-zero n h.0 l) (h.2 0) (all h.0 l))

-- `(0..n).all(f)`, where f answers of a number whether it has P: the chain answers whether each number below n has P
module _ {F : Type 0} {g : Mut F (ℕ × Unit {0}) Bool} {s : Range ℕ} (u : Range ℕ) (f : F) (n : ℕ) (P : ℕ → Type 0) where
  pub all-below :
      (r : Bool) →
      (xs : List ℕ) × (o : Option ℕ) × (j : F) × YieldsThen nat_range_steps s xs o u × FoldsTo (λ p x q. Called g p (x, tt) true q) f xs j
      × MatchOption o (r ≡ true) (λ x. (r ≡ false) × ((h : F) × Called g j (x, tt) false h)) →
      s ≡ record { start = 0; end = n } →
      ((x : ℕ) (b : Bool) (q : F) → Called g f (x, tt) b q → (q ≡ f) × Is b (P x)) →
      Is r ((k : ℕ) → k < n → P k)
  all-below r ran e asks =
      each-below n P r
      (cases_from_all u f r P (λ x. P x → ⊥) ran (YieldsList-from_range 0 n n e (omega arith))
      (λ x q k. let a = asks x true q k in (a.0, a.1.0 refl))
      (λ x q k y. let a = asks x false q k in false≢true (a.1.1 y)))
