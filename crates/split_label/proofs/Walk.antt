-- A walk over a list of a chain table, from the last element to the first.
use mathlib.Core.Path.{◌≡◌, sym, ◌∙◌, ap, subst}
use mathlib.Core.Logic.{⊎_elim}
use mathlib.Core.List.{List, [], ◌∷◌, map}
use Prim.Native.Nat.{ℕ, suc, ◌+◌, ◌-◌, ◌*◌, ◌≤◌, ◌<◌}
use native.Mathlib.Omega.{arith}
use lib.ListN.{length, get_or, drop, length-map, get_or-map}
use lib.Seq.{drop-cons, drop-length}
use Rattle.list_in_table.specs.Rules.{View, Rules, After, Full, list_of}
use Rattle.list_in_table.proofs.Laws.{held_in, full}
use Rattle.list_in_table.proofs.Order.{At, length-list, list_at, list-of}
use Rattle.def_state.specs.World.{Handle}
use Rattle.split_label.specs.Ends.{pair_at, pairs_in}

module _ {n m : ℕ} {S : View} (R : Rules n m S) (i : ℕ) (il : i < m) where
  -- e is the element before the first k of the list i
  abbrev pub Stood : ℕ → ℕ → Type 0
  Stood k e = 0 < k → e ≡ get_or (list_of S i) (k - 1) 0

  pub stood-last : Stood (S.count i) (S.last i)
  stood-last l =
      let f : Full n m S i = full R i il (omega arith) in
      let p : S.place (S.last i) ≡ S.count i - 1 = (let q = f.last_place in omega arith) in
      sym (subst (λ (j : ℕ). get_or (list_of S i) j 0 ≡ S.last i) p (list-of R i il (S.last i) f.last_lt f.last_home))

  module _ (k e : ℕ) (kl : 0 < k) (kc : k ≤ S.count i) (h : Stood k e) where
    stands : At n S i (k - 1) e
    stands = rw (h kl) (list_at R i il (k - 1) (omega arith))

    pub stood-lt : e < n
    stood-lt = stands.lt

    pub stood-prev : Stood (k - 1) (S.prev e)
    stood-prev l =
        let p : S.place e ≡ k - 1 = stands.place_is in
        ⊎_elim (λ f. absurd (let z : S.place e ≡ 0 = f.at_zero in omega arith))
        (λ (a : After n m S e).
        let q : S.place (S.prev e) ≡ k - 1 - 1 = (let z = a.prev_place in omega arith) in
        sym (subst (λ (j : ℕ). get_or (list_of S i) j 0 ≡ S.prev e) q (list-of R i il (S.prev e) a.prev_lt (a.prev_home ∙ stands.home_is))))
        (held_in R e i stands.lt il stands.home_is).back

  module _ (x : List ℕ) (a b : ℕ) where
    abbrev at_word : ℕ → Handle × Handle
    at_word e = pair_at x (a * e + b)

    pub length_pairs : length (pairs_in S x a b i) ≡ S.count i
    unfolding pairs_in
    length_pairs = length-map (list_of S i) at_word ∙ length-list R i il

    -- none is passed yet
    pub none_passed : drop (S.count i) (pairs_in S x a b i) ≡ []
    none_passed = subst (λ (k : ℕ). drop k (pairs_in S x a b i) ≡ []) length_pairs (drop-length (pairs_in S x a b i))

    -- one more
    pub one-passed : (k e : ℕ) → 0 < k → k ≤ S.count i → Stood k e → drop (k - 1) (pairs_in S x a b i) ≡ pair_at x (a * e + b) ∷ drop k (pairs_in S x a b i)
    unfolding pairs_in
    one-passed k e kl kc h =
        let L : List (Handle × Handle) = map at_word (list_of S i) in
        let q : suc (k - 1) ≡ k = omega arith in
        drop-cons L (k - 1) (at_word 0) (let c : length L ≡ S.count i = length_pairs in omega arith)
        ∙ ap (λ (y : Handle × Handle). y ∷ drop (suc (k - 1)) L) (get_or-map at_word (list_of S i) (k - 1) 0 ∙ ap at_word (sym (h kl)))
        ∙ ap (λ (j : ℕ). pair_at x (a * e + b) ∷ drop j L) q
