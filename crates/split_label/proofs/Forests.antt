-- What links do to a forest, one after the other.
use mathlib.Core.Path.{◌≡◌, refl, sym, ◌∙◌, ap, subst}
use mathlib.Core.Logic.{◌⊎◌, inl, inr, ◌≢◌}
use mathlib.Core.Bool.{Bool}
use mathlib.Core.List.{List, [], ◌∷◌}
use Prim.Native.Nat.{ℕ, ◌+◌, ◌<◌}
use native.Mathlib.Omega.{arith}
use borrow.Author.Tests.{eq-eqb, ne_eqb}
use Rattle.list_in_table.specs.Rules.{none}
use Rattle.def_kinds.specs.Choice.{pick}
use Rattle.list_in_table.proofs.Laws.{either}
use Rattle.def_state.specs.World.{Handle, World}
use Rattle.def_state.specs.Connected.{label, components}
use Rattle.def_state.specs.Split.{node_of}
use Rattle.split_forest.specs.Groups.{Groups}
use Rattle.split_forest.specs.Forest.{root_of, Forest, JoinDone}
use Rattle.split_forest.proofs.Counts.{fewer}
use Rattle.split_label.specs.Ends.{pair_ends, Goes}

-- the same links as before
same-links : {n : ℕ} {p z : ℕ → ℕ} (f : List (ℕ × ℕ) → List (ℕ × ℕ)) → ((ls : List (ℕ × ℕ)) → f ls ≡ ls) → Forest n p z → Goes n p p z f 0
same-links {n} {p} f h F =
    record {
      forest = F;
      groups = λ ls G. subst (λ (ms : List (ℕ × ℕ)). Groups ms n (root_of p)) (sym (h ls)) G;
      fewer = λ ls G. (let e : components (label (f ls) n) ≡ components (label ls n) = ap (λ (ms : List (ℕ × ℕ)). components (label ms n)) (h ls) in omega arith);
    }

module _ (w : World) (i : ℕ) where
  pub goes_none : {n : ℕ} {p z : ℕ → ℕ} → Forest n p z → Goes n p p z (pair_ends w i []) 0
  unfolding pair_ends
  goes_none F = same-links (pair_ends w i []) (λ ls. refl) F

  -- one more pair, before those that were passed
  pub goes-more : {n r s : ℕ} {p q y q' y' : ℕ → ℕ} (h : Handle × Handle) (hs : List (Handle × Handle)) → Goes n p q y (pair_ends w i hs) r
      → Goes n q q' y' (pair_ends w i (h ∷ [])) s → Goes n p q' y' (pair_ends w i (h ∷ hs)) (r + s)
  unfolding pair_ends
  goes-more h hs A B =
      record {
        forest = B.forest;
        groups = λ ls G. B.groups _ (A.groups ls G);
        fewer = λ ls G. (let a = A.fewer ls G in let b = B.fewer _ (A.groups ls G) in omega arith);
      }

  module _ (h1 h2 : Handle) where
    no_end : (node_of w i h1 ≡ none) ⊎ (node_of w i h2 ≡ none) → (ls : List (ℕ × ℕ)) → pair_ends w i ((h1, h2) ∷ []) ls ≡ ls
    unfolding pair_ends
    no_end (inl e) ls = rw (eq-eqb (node_of w i h1) none e)
    no_end (inr e) ls =
        rw (eq-eqb (node_of w i h2) none e)
        (either (node_of w i h1) none (λ q. rw (eq-eqb (node_of w i h1) none q)) (λ d. rw (ne_eqb (node_of w i h1) none d)))

    both_ends : (a b : ℕ) → node_of w i h1 ≡ a → node_of w i h2 ≡ b → a ≢ none → b ≢ none → (ls : List (ℕ × ℕ)) → pair_ends w i ((h1, h2) ∷ []) ls ≡ (a, b) ∷ ls
    unfolding pair_ends
    both_ends a b p q c d ls = rw (p, q, ne_eqb a none c, ne_eqb b none d)

    -- an end that is no member
    pub goes-past : {n : ℕ} {p z : ℕ → ℕ} → (node_of w i h1 ≡ none) ⊎ (node_of w i h2 ≡ none) → Forest n p z → Goes n p p z (pair_ends w i ((h1, h2) ∷ [])) 0
    goes-past e F = same-links (pair_ends w i ((h1, h2) ∷ [])) (no_end e) F

    pub goes-join : {n : ℕ} {p q y : ℕ → ℕ} (a b : ℕ) (r : Bool) → node_of w i h1 ≡ a → node_of w i h2 ≡ b → a ≢ none → b ≢ none → a < n → b < n → JoinDone n p q y a b r
        → Goes n p q y (pair_ends w i ((h1, h2) ∷ [])) (pick r 1 0)
    goes-join {n} {p} {q} a b r e1 e2 d1 d2 al bl J =
        record {
          forest = J.forest;
          groups = λ ls G. subst (λ (ms : List (ℕ × ℕ)). Groups ms n (root_of q)) (sym (both_ends a b e1 e2 d1 d2 ls)) (J.groups ls G);
          fewer =
              λ ls G.
              fewer ls n a b G.inside al bl r (J.apart ls G)
              ∙ sym (ap (λ (ms : List (ℕ × ℕ)). components (label ms n) + pick r 1 0) (both_ends a b e1 e2 d1 d2 ls));
        }
