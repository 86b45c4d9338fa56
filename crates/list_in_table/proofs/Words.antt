-- The table in its words: what each field is after push_last and swap_remove.
use mathlib.Core.Path.{◌≡◌, refl, ◌∙◌}
use mathlib.Core.Logic.{◌≢◌, ⊎_elim}
use Prim.Native.Nat.{ℕ, ◌+◌, ◌*◌, ◌<◌}
use native.Mathlib.Omega.{arith}
use mathlib.Core.List.{List, [], ◌∷◌, ◌++◌}
use borrow.Author.Tests.{eq-eqb, ne_eqb}
use lib.ListN.{length, get_or, set, length-set}
use lib.Seq.{get_or-set_same, get_or-set_other}
use Rattle.list_in_table.specs.Word.{writes, Misses, miss, hit, length_writes}
use Rattle.list_in_table.specs.Rules.{none, list_of}
use Rattle.list_in_table.specs.Table.{view, Wf, next_set, pushed}
use Rattle.list_in_table.proofs.Laws.{either, last_lt}
use Rattle.list_in_table.proofs.Push.{Pushed, push-rules, push-list, push-others}

-- a word after next_set
module _ (t : List ℕ) (b k v : ℕ) where
  pub next-other : (j : ℕ) → (k ≢ none → j ≢ b + 4 * k + 3) → get_or (next_set t b k v) j 0 ≡ get_or t j 0
  next-other j h = either k none (λ p. simp (eq-eqb k none p)) (λ q. rw (ne_eqb k none q) (get_or-set_other t (b + 4 * k + 3) j v 0 (h q)))

  pub next_same : k ≢ none → b + 4 * k + 3 < length t → get_or (next_set t b k v) (b + 4 * k + 3) 0 ≡ v
  next_same q l = rw (ne_eqb k none q) (get_or-set_same t (b + 4 * k + 3) v 0 l)

  pub length-next : length (next_set t b k v) ≡ length t
  length-next = either k none (λ p. simp (eq-eqb k none p)) (λ q. rw (ne_eqb k none q) (length-set t (b + 4 * k + 3) v))

module _ {t : List ℕ} {b z n m : ℕ} (w : Wf t b z n m) (i e : ℕ) (il : i < m) (el : e < n) (blank : get_or t (b + 4 * e) 0 ≡ none) where
  abbrev c : ℕ
  c = get_or t (z + 2 * i) 0

  abbrev l : ℕ
  l = get_or t (z + 2 * i + 1) 0

  abbrev a : ℕ
  a = b + 4 * e

  abbrev y : ℕ
  y = z + 2 * i

  abbrev ws : List (ℕ × ℕ)
  ws = (a, i) ∷ (a + 1, c) ∷ (a + 2, l) ∷ (a + 3, none) ∷ (y, c + 1) ∷ (y + 1, e) ∷ []

  l_lt : l ≢ none → l < n
  l_lt h = last_lt w.rules i il h

  -- the old last is in i, and e is not
  l-ne : l ≢ none → l ≢ e
  l-ne h p =
      ⊎_elim (λ o. h o.no_last)
      (λ f. let q : get_or t (b + 4 * e) 0 ≡ i = rw p at f.last_home in let s = w.rules.m_small in omega arith)
      (w.rules.list i il)

  pub length-pushed : length (pushed t b z i e) ≡ length t
  unfolding pushed
  length-pushed = length-next (writes t ws) b l e ∙ length_writes t ws

  -- a word that no store is at
  other : (j : ℕ) → Misses ws j → (l ≢ none → j ≢ b + 4 * l + 3) → get_or (pushed t b z i e) j 0 ≡ get_or t j 0
  unfolding pushed
  other j h k = next-other (writes t ws) b l e j k ∙ miss t ws j h

  -- a word of e's record or i's
  mine : (us : List (ℕ × ℕ)) (j v : ℕ) (vs : List (ℕ × ℕ)) → writes t ws ≡ writes (set (writes t us) j v) vs → j < length t → Misses vs j → (l ≢ none → j ≢ b + 4 * l + 3)
      → get_or (pushed t b z i e) j 0 ≡ v
  unfolding pushed
  mine us j v vs s h g k = next-other (writes t ws) b l e j k ∙ rw s (hit t us j v vs h g)

  stored : l ≢ none → b + 4 * l + 3 < length (writes t ws) → get_or (pushed t b z i e) (b + 4 * l + 3) 0 ≡ e
  unfolding pushed
  stored = next_same (writes t ws) b l e

  pub push-view : Pushed n m i e (view t b z) (view (pushed t b z i e) b z)
  push-view =
      let eb = w.elems_below in
      let lb = w.lists_below in
      record {
        home_e = mine [] a i ((a + 1, c) ∷ (a + 2, l) ∷ (a + 3, none) ∷ (y, c + 1) ∷ (y + 1, e) ∷ []) refl (omega arith) (omega arith) (λ h. omega arith);
        home_o = λ k kl d. other (b + 4 * k) (omega arith) (λ h. omega arith);
        place_e = mine ((a, i) ∷ []) (a + 1) c ((a + 2, l) ∷ (a + 3, none) ∷ (y, c + 1) ∷ (y + 1, e) ∷ []) refl (omega arith) (omega arith) (λ h. omega arith);
        place_o = λ k kl d. other (b + 4 * k + 1) (omega arith) (λ h. omega arith);
        prev_e = mine ((a, i) ∷ (a + 1, c) ∷ []) (a + 2) l ((a + 3, none) ∷ (y, c + 1) ∷ (y + 1, e) ∷ []) refl (omega arith) (omega arith) (λ h. omega arith);
        prev_o = λ k kl d. other (b + 4 * k + 2) (omega arith) (λ h. omega arith);
        next_e = mine ((a, i) ∷ (a + 1, c) ∷ (a + 2, l) ∷ []) (a + 3) none ((y, c + 1) ∷ (y + 1, e) ∷ []) refl (omega arith) (omega arith) (λ h. omega (arith, l-ne h));
        next_l = λ h.
            let s = w.rules.n_small in
            let g : l ≢ none = omega arith in
            stored g (rw (length_writes t ws) (omega arith));
        next_o = λ k kl d g. other (b + 4 * k + 3) (omega arith) (λ h. omega arith);
        count_i = mine ((a, i) ∷ (a + 1, c) ∷ (a + 2, l) ∷ (a + 3, none) ∷ []) y (c + 1) ((y + 1, e) ∷ []) refl (omega arith) (omega arith) (λ h. omega (arith, l_lt h));
        count_o = λ j jl d. other (z + 2 * j) (omega arith) (λ h. omega (arith, l_lt h));
        last_i = mine ((a, i) ∷ (a + 1, c) ∷ (a + 2, l) ∷ (a + 3, none) ∷ (y, c + 1) ∷ []) (y + 1) e [] refl (omega arith) (omega arith) (λ h. omega (arith, l_lt h));
        last_o = λ j jl d. other (z + 2 * j + 1) (omega arith) (λ h. omega (arith, l_lt h));
      }

  -- push_last keeps the rules, adds e at the end of list i, and leaves every other list
  pub push-wf : Wf (pushed t b z i e) b z n m
  push-wf = record { elems_below = w.elems_below; lists_below = rw length-pushed w.lists_below; rules = push-rules w.rules il el blank push-view }

  pub push-lists-i : list_of (view (pushed t b z i e) b z) i ≡ list_of (view t b z) i ++ (e ∷ [])
  push-lists-i = push-list w.rules il el blank push-view

  pub push-lists-o : (j : ℕ) → j < m → j ≢ i → list_of (view (pushed t b z i e) b z) j ≡ list_of (view t b z) j
  push-lists-o = push-others w.rules il el blank push-view
