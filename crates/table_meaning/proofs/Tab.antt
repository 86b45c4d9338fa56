-- A list of values by their number.
use mathlib.Core.Path.{◌≡◌, refl, sym, ◌∙◌, ap}
use mathlib.Core.Logic.{◌≢◌}
use Prim.Native.Nat.{ℕ, zero, suc, ◌≤◌, ◌<◌}
use native.Mathlib.Omega.{arith}
use mathlib.Core.List.{List, [], ◌∷◌}
use lib.ListN.{length, get_or, set, length-append, length-set, get_or-append}
use lib.Seq.{ext_get_or, get_or_at, get_or-set_same, get_or-set_other}
use lib.Dec.{eqb}
use borrow.Author.Tests.{eq-eqb, ne_eqb}
use Rattle.def_kinds.specs.Choice.{pick}
use Rattle.list_in_table.proofs.Laws.{either}
use Rattle.table_meaning.specs.Decode.{tabulate}

module _ {A : Type 0} where
  pub length-tabulate : (n : ℕ) (f : ℕ → A) → length (tabulate n f) ≡ n
  unfolding tabulate
  length-tabulate zero f = refl
  length-tabulate (suc n) f = length-append (tabulate n f) (f n ∷ []) ∙ (let h = length-tabulate n f in omega arith)

  pub get_d_tabulate : (n : ℕ) (f : ℕ → A) (d : A) (k : ℕ) → k < n → get_or (tabulate n f) k d ≡ f k
  unfolding tabulate
  get_d_tabulate zero f d k h = absurd (omega arith)
  get_d_tabulate (suc n) f d k h =
      either k n
      (λ e. get_or_at (tabulate n f) (f n) [] d k (length-tabulate n f ∙ sym e) ∙ ap f (sym e))
      (λ e.
      get_or-append (tabulate n f) (f n ∷ []) d k (let l = length-tabulate n f in omega arith)
      ∙ get_d_tabulate n f d k (omega arith))

  pub get_d_beyond : (l : List A) (d : A) (k : ℕ) → length l ≤ k → get_or l k d ≡ d
  get_d_beyond [] d k h = refl
  get_d_beyond (x ∷ l) d zero h = absurd (omega arith)
  get_d_beyond (x ∷ l) d (suc k) h = get_d_beyond l d k (omega arith)

  pub tabulate-same : (n : ℕ) (f g : ℕ → A) → ((k : ℕ) → k < n → f k ≡ g k) → tabulate n f ≡ tabulate n g
  unfolding tabulate
  tabulate-same zero f g h = refl
  tabulate-same (suc n) f g h = rw (tabulate-same n f g (λ k l. h k (omega arith)), h n (omega arith))

  -- where f and g differ at i alone
  pub tabulate-set : (n i : ℕ) (f g : ℕ → A) (v : A) → f i ≡ v → ((k : ℕ) → k < n → k ≢ i → f k ≡ g k) → tabulate n f ≡ set (tabulate n g) i v
  tabulate-set n i f g v e h =
      ext_get_or v (tabulate n f) (set (tabulate n g) i v)
      (length-tabulate n f ∙ sym (length-set (tabulate n g) i v ∙ length-tabulate n g))
      (λ k l.
      let kl : k < n = rw (length-tabulate n f) at l in
      get_d_tabulate n f v k kl
      ∙ either k i
      (λ s. ap f s ∙ e ∙ sym (ap (λ (j : ℕ). get_or (set (tabulate n g) i v) j v) s ∙ get_or-set_same (tabulate n g) i v v (rw (length-tabulate n g) (omega arith))))
      (λ d. h k kl d ∙ sym (get_or-set_other (tabulate n g) i k v v d ∙ get_d_tabulate n g v k kl)))

  -- where they differ at i and j alone
  pub tabulate-two : (n i j : ℕ) (f g : ℕ → A) (v w : A) → f i ≡ v → f j ≡ w → ((k : ℕ) → k < n → k ≢ i → k ≢ j → f k ≡ g k) → tabulate n f ≡ set (set (tabulate n g) i v) j w
  tabulate-two n i j f g v w p q h =
      let m : ℕ → A = λ k. pick (eqb k i) v (g k) in
      tabulate-set n j f m w q (λ k l o. either k i (λ e. ap f e ∙ p ∙ sym (rw (eq-eqb k i e))) (λ e. h k l e o ∙ sym (rw (ne_eqb k i e))))
      ∙ ap (λ (xs : List A). set xs j w) (tabulate-set n i m g v (rw (eq-eqb i i refl)) (λ k l o. rw (ne_eqb k i o)))

  -- equal lists are equal at each number
  pub tabulate-at : (n : ℕ) (f g : ℕ → A) (d : A) → tabulate n f ≡ tabulate n g → (k : ℕ) → k < n → f k ≡ g k
  tabulate-at n f g d e k l = sym (get_d_tabulate n f d k l) ∙ ap (λ (x : List A). get_or x k d) e ∙ get_d_tabulate n g d k l
