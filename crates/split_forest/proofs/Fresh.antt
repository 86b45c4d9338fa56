-- A forest in which each place is a root.
use mathlib.Core.Path.{◌≡◌, sym, ap, ◌∙◌, subst}
use Prim.Native.Nat.{ℕ, ◌≤◌, ◌<◌}
use native.Mathlib.Omega.{arith}
use mathlib.Core.List.{[]}
use lib.Dec.{eqb}
use Rattle.def_state.specs.Connected.{Joined, stop}
use Rattle.split_forest.specs.Forest.{climb, root_of, members, ForestStands}
use Rattle.split_forest.proofs.Climb.{climb-root}
use Rattle.split_forest.proofs.Tallies.{one, tally-same, tally-one}

module _ (n : ℕ) (p z : ℕ → ℕ) (small : n ≤ 4096) (own : (i : ℕ) → i < n → p i ≡ i) (single : (i : ℕ) → i < n → z i ≡ 1) where
  root-own : (i : ℕ) → i < n → root_of p i ≡ i
  unfolding root_of
  root-own i l = climb-root p 12 i (own i l)

  alone : (r : ℕ) → r < n → members (root_of p) n r ≡ 1
  unfolding members
  alone r l = tally-same _ _ n (λ i k. ap (λ (j : ℕ). one (eqb j r)) (root-own i k)) ∙ tally-one r n l

  pub fresh : ForestStands n p z []
  unfolding climb
  fresh =
      record {
        forest =
            record {
              n_small = small;
              within = λ i l. (let e = own i l in omega arith);
              tall = λ i l. record { steps = 0; top = own i l; wide = (let e = single i l in omega arith) };
              counted = λ r l e. single r l ∙ sym (alone r l);
            };
        groups =
            record {
              inside = λ a b k. absurd k;
              along = λ a b k. absurd k;
              leads = λ i l. subst (λ (j : ℕ). Joined [] i j) (sym (root-own i l)) stop;
            };
      }
