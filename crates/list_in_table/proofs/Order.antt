-- The list that a table's links spell: element p of list i is the one whose home is i and whose place is p.
use mathlib.Core.Path.{◌≡◌, refl, sym, ◌∙◌, ap, subst, subst⁻¹}
use mathlib.Core.Logic.{⊎_elim}
use Prim.Native.Nat.{ℕ, zero, suc, ◌+◌, ◌-◌, ◌<◌}
use native.Mathlib.Omega.{arith}
use native.Mathlib.Numerals.{add-one}
use mathlib.Core.List.{List, [], ◌∷◌}
use lib.ListN.{length, get_or, length-append, get_or-append}
use lib.Seq.{get_or_at, ext_get_or}
use Rattle.list_in_table.specs.Rules.{View, Rules, Held, After, Final, Before, Full, walk, list_of}
use Rattle.list_in_table.proofs.Laws.{either, held_in, full}

-- x is the element of list i at place p
pub record At (n : ℕ) (S : View) (i p x : ℕ) : Type 0 where
  pub lt : x < n
  pub home_is : S.home x ≡ i
  pub place_is : S.place x ≡ p

length-walk : (v : ℕ → ℕ) (k q : ℕ) → length (walk v k q) ≡ k
length-walk v zero q = refl
length-walk v (suc k) q = length-append (walk v k (v q)) (q ∷ []) ∙ (let h = length-walk v k (v q) in omega arith)

walk_end : (v : ℕ → ℕ) (k q : ℕ) → get_or (walk v (suc k) q) k 0 ≡ q
walk_end v k q = get_or_at (walk v k (v q)) q [] 0 k (length-walk v k (v q))

walk-in : (v : ℕ → ℕ) (k q p : ℕ) → p < k → get_or (walk v (suc k) q) p 0 ≡ get_or (walk v k (v q)) p 0
walk-in v k q p h = get_or-append (walk v k (v q)) (q ∷ []) 0 p (rw (length-walk v k (v q)) h)

walk-prev : (v : ℕ → ℕ) (k q p : ℕ) → suc p < k → get_or (walk v k q) p 0 ≡ v (get_or (walk v k q) (suc p) 0)
walk-prev v zero q p h = absurd (omega arith)
walk-prev v (suc k) q p h =
    either k (suc p)
    (λ e.
    walk-in v k q p (omega arith)
    ∙ subst⁻¹ (λ (j : ℕ). get_or (walk v j (v q)) p 0 ≡ v (get_or (walk v (suc j) q) (suc p) 0)) e (walk_end v p (v q) ∙ sym (ap v (walk_end v (suc p) q))))
    (λ d. walk-in v k q p (omega arith) ∙ walk-prev v k (v q) p (omega arith) ∙ sym (ap v (walk-in v k q (suc p) (omega arith))))

module _ {n m : ℕ} {S : View} (R : Rules n m S) (i : ℕ) (il : i < m) where
  walk_at : (k q p : ℕ) → q < n → S.home q ≡ i → S.place q + 1 ≡ k → p < k → At n S i p (get_or (walk S.prev k q) p 0)
  walk_at zero q p l h e g = absurd (omega arith)
  walk_at (suc k) q p l h e g =
      either p k
      (λ s. rw (s, walk_end S.prev k q) (record { lt = l; home_is = h; place_is = omega arith }))
      (λ d.
      rw (walk-in S.prev k q p (omega arith))
      (⊎_elim (λ f. absurd (let z : S.place q ≡ 0 = f.at_zero in omega arith))
      (λ (a : After n m S q). walk_at k (S.prev q) p a.prev_lt (a.prev_home ∙ h) (let z = a.prev_place in omega arith) (omega arith))
      (held_in R q i l il h).back))

  pub length-list : length (list_of S i) ≡ S.count i
  unfolding list_of
  length-list = length-walk S.prev (S.count i) (S.last i)

  -- what stands at p
  pub list_at : (p : ℕ) → p < S.count i → At n S i p (get_or (list_of S i) p 0)
  unfolding list_of
  list_at p l =
      let f : Full n m S i = full R i il (omega arith) in
      walk_at (S.count i) (S.last i) p f.last_lt f.last_home f.last_place l

  -- from the last down to x
  find : (d x : ℕ) → x < n → S.home x ≡ i → S.place x + suc d ≡ S.count i → get_or (list_of S i) (S.place x) 0 ≡ x
  unfolding list_of
  find zero x l h e =
      let k : Held n m S x = held_in R x i l il h in
      ⊎_elim (λ (f : Final n m S x).
      let q : S.last i ≡ x = rw h at f.is_last in
      let s : suc (S.place x) ≡ S.count i = omega arith in
      subst (λ (c : ℕ). get_or (walk S.prev c (S.last i)) (S.place x) 0 ≡ x) s (walk_end S.prev (S.place x) (S.last i) ∙ q))
      (λ (b : Before n m S x).
      let o : S.home (S.next x) ≡ i = b.next_home ∙ h in
      let g : S.place (S.next x) < S.count i = rw o at (held_in R (S.next x) i b.next_lt il o).place_lt in
      let z = b.next_place in
      absurd (omega arith))
      k.fore
  find (suc d) x l h e =
      let k : Held n m S x = held_in R x i l il h in
      ⊎_elim (λ (f : Final n m S x). let z : S.place x + 1 ≡ S.count i = rw h at f.at_end in absurd (omega arith))
      (λ (b : Before n m S x).
      let r : get_or (list_of S i) (S.place (S.next x)) 0 ≡ S.next x = find d (S.next x) b.next_lt (b.next_home ∙ h) (let z = b.next_place in omega arith) in
      let s : S.place (S.next x) ≡ suc (S.place x) = b.next_place ∙ add-one (S.place x) in
      walk-prev S.prev (S.count i) (S.last i) (S.place x) (omega arith) ∙ ap S.prev (rw s at r) ∙ b.next_prev)
      k.fore

  -- where x stands
  pub list-of : (x : ℕ) → x < n → S.home x ≡ i → get_or (list_of S i) (S.place x) 0 ≡ x
  list-of x l h =
      let g : S.place x < S.count i = rw h at (held_in R x i l il h).place_lt in
      find (S.count i - suc (S.place x)) x l h (omega arith)

  -- a list that has at each place the element that is there is the list i
  pub list-is : (L : List ℕ) → length L ≡ S.count i → ((p : ℕ) → p < S.count i → At n S i p (get_or L p 0)) → list_of S i ≡ L
  list-is L s h =
      ext_get_or 0 (list_of S i) L (length-list ∙ sym s)
      (λ p g.
      let a : At n S i p (get_or L p 0) = h p (rw length-list at g) in
      rw a.place_is at (list-of (get_or L p 0) a.lt a.home_is))
