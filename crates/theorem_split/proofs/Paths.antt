-- Paths.
use mathlib.Core.Path.{◌≡◌, refl, ◌∙◌}
use Rattle.theorem_split.specs.Graph.{Path, stop, step}

module _ {A : Type 0} {R : A → A → Type 0} where
  pub then : {a b c : A} → Path R a b → Path R b c → Path R a c
  then stop q = q
  then (step r p) q = step r (then p q)

  pub one-step : {a b : A} → R a b → Path R a b
  one-step r = step r stop

  pub back : ((a b : A) → R a b → R b a) → {a b : A} → Path R a b → Path R b a
  back s stop = stop
  back s {a} (step {b = b} r p) = then (back s p) (one-step (s a b r))

-- steps of R that lead from where P holds are steps of S that lead to where P holds
pub along : {A : Type 0} {R S : A → A → Type 0} (P : A → Type 0) → ((a b : A) → P a → R a b → S a b × P b) → {a b : A} → P a → Path R a b → Path S a b
along P f p stop = stop
along P f {a} p (step {b = b} r q) = let h = f a b p r in step h.0 (along P f h.1 q)

-- what is the same along each step is the same at both ends
pub same-along : {A B : Type 0} {R : A → A → Type 0} (f : A → B) → ((a b : A) → R a b → f a ≡ f b) → {a b : A} → Path R a b → f a ≡ f b
same-along f h stop = refl
same-along f h {a} (step {b = b} r p) = h a b r ∙ same-along f h p
