-- The walk that relabels a list's elements, from the last to the first.
use mathlib.Core.Path.{◌≡◌, refl, sym, ◌∙◌, ap}
use mathlib.Core.Logic.{◌≢◌, ⊎_elim}
use Prim.Native.Nat.{ℕ, zero, suc, ◌+◌, ◌-◌, ◌*◌, ◌≤◌, ◌<◌}
use native.Mathlib.Omega.{arith}
use mathlib.Core.List.{List, [], ◌∷◌}
use lib.ListN.{length, get_or, set, length-set}
use Rattle.list_in_table.specs.Word.{miss, hit}
use Rattle.list_in_table.specs.Rules.{none, Held, First, After, Full, list_of}
use Rattle.list_in_table.specs.Table.{view}
use Rattle.list_in_table.proofs.Laws.{held_in, full, either}
use Rattle.list_in_table.proofs.Order.{At, list-of}
use Rattle.list_splice.specs.Splice.{relabel, SpliceReady}

pub relabel-step : (b h c k : ℕ) (t : List ℕ) (q f : ℕ) → 0 < k
    → relabel b h c k t q f ≡ relabel b h c (k - 1) (set (set t (b + 4 * q) h) (b + 4 * q + 1) (c + (k - 1))) (get_or t (b + 4 * q + 2) 0) q
unfolding relabel
relabel-step b h c zero t q f l = absurd (omega arith)
relabel-step b h c (suc k) t q f l = let e : suc k - 1 ≡ k = omega arith in rw e

-- the words of x are not q's
home-ne : (b x q : ℕ) → x ≢ q → (b + 4 * x ≢ b + 4 * q) × ((b + 4 * x ≢ b + 4 * q + 1) × Unit {0})
home-ne b x q d = (omega arith, (omega arith, tt))

place-ne : (b x q : ℕ) → x ≢ q → (b + 4 * x + 1 ≢ b + 4 * q) × ((b + 4 * x + 1 ≢ b + 4 * q + 1) × Unit {0})
place-ne b x q d = (omega arith, (omega arith, tt))

-- where the walk of the list s stands: k elements are left, which end in q, and f was the last one done
pub record Walk (t₀ : List ℕ) (b z g s : ℕ) (ready : SpliceReady t₀ b z g s) (t : List ℕ) (k q f : ℕ) : Type 0 where
  pub same_len : length t ≡ length t₀
  pub left : k ≤ (view t₀ b z).count s
  pub prev_same : (x : ℕ) → x < ready.n → get_or t (b + 4 * x + 2) 0 ≡ get_or t₀ (b + 4 * x + 2) 0
  pub here : 0 < k → At ready.n (view t₀ b z) s (k - 1) q
  pub f_at : k < (view t₀ b z).count s → At ready.n (view t₀ b z) s k f
  pub next_same : (x : ℕ) → x < ready.n → get_or t (b + 4 * x + 3) 0 ≡ get_or t₀ (b + 4 * x + 3) 0
  pub behind : (j : ℕ) → b + 4 * ready.n ≤ j → get_or t j 0 ≡ get_or t₀ j 0
  pub moved_home : (x : ℕ) → x < ready.n → (view t₀ b z).home x ≡ s → k ≤ (view t₀ b z).place x → get_or t (b + 4 * x) 0 ≡ g
  pub moved_place : (x : ℕ) → x < ready.n → (view t₀ b z).home x ≡ s → k ≤ (view t₀ b z).place x → get_or t (b + 4 * x + 1) 0 ≡ (view t₀ b z).count g + (view t₀ b z).place x
  pub kept_home : (x : ℕ) → x < ready.n → ((view t₀ b z).home x ≡ s → (view t₀ b z).place x < k) → get_or t (b + 4 * x) 0 ≡ (view t₀ b z).home x
  pub kept_place : (x : ℕ) → x < ready.n → ((view t₀ b z).home x ≡ s → (view t₀ b z).place x < k) → get_or t (b + 4 * x + 1) 0 ≡ (view t₀ b z).place x
  pub rest : relabel b g ((view t₀ b z).count g) k t q f ≡ relabel b g ((view t₀ b z).count g) ((view t₀ b z).count s) t₀ ((view t₀ b z).last s) none

-- what an index asks
pub record Inside (t₀ t : List ℕ) (b z n m q : ℕ) : Type 0 where
  pub q_lt : q < n
  pub elems_below : b + 4 * n ≤ z
  pub lists_below : z + 2 * m ≤ length t₀
  pub n_small : n ≤ none
  pub same_len : length t ≡ length t₀

module _ {t₀ : List ℕ} {b z g s : ℕ} where
  -- an element's place is below its list's count
  below : (r : SpliceReady t₀ b z g s) (x : ℕ) → x < r.n → (view t₀ b z).home x ≡ s → (view t₀ b z).place x < (view t₀ b z).count s
  below r x l e = rw e at (held_in r.wf.rules x s l r.small_lt e).place_lt

  -- an element of s is told by its place
  same_place : (r : SpliceReady t₀ b z g s) (x y : ℕ) → x < r.n → y < r.n → (view t₀ b z).home x ≡ s → (view t₀ b z).home y ≡ s
      → (view t₀ b z).place x ≡ (view t₀ b z).place y → x ≡ y
  same_place r x y xl yl hx hy p =
      sym (list-of r.wf.rules s r.small_lt x xl hx) ∙ ap (λ (j : ℕ). get_or (list_of (view t₀ b z) s) j 0) p ∙ list-of r.wf.rules s r.small_lt y yl hy

  pub start : (r : SpliceReady t₀ b z g s) → (view t₀ b z).count s ≢ 0 → Walk t₀ b z g s r t₀ ((view t₀ b z).count s) ((view t₀ b z).last s) none
  start r h =
      let f : Full r.n r.m (view t₀ b z) s = full r.wf.rules s r.small_lt h in
      record {
        same_len = refl;
        left = omega arith;
        prev_same = λ x l. refl;
        here = λ l. record { lt = f.last_lt; home_is = f.last_home; place_is = (let e = f.last_place in omega arith) };
        f_at = λ l. absurd (omega arith);
        next_same = λ x l. refl;
        behind = λ j l. refl;
        moved_home = λ x l e k. absurd (omega (arith, below r x l e));
        moved_place = λ x l e k. absurd (omega (arith, below r x l e));
        kept_home = λ x l k. refl;
        kept_place = λ x l k. refl;
        rest = refl;
      }

  pub inside : {r : SpliceReady t₀ b z g s} {t : List ℕ} {k q f : ℕ} (W : Walk t₀ b z g s r t k q f) → 0 < k → Inside t₀ t b z r.n r.m q
  inside {r} W l =
      record {
        q_lt = (W.here l).lt;
        elems_below = r.wf.elems_below;
        lists_below = r.wf.lists_below;
        n_small = r.wf.rules.n_small;
        same_len = W.same_len;
      }

  pub step : {r : SpliceReady t₀ b z g s} {t : List ℕ} {k q f : ℕ} → Walk t₀ b z g s r t k q f → 0 < k
      → Walk t₀ b z g s r (set (set t (b + 4 * q) g) (b + 4 * q + 1) ((view t₀ b z).count g + (k - 1))) (k - 1) (get_or t (b + 4 * q + 2) 0) q
  step {r} {t} {k} {q} {f} W l =
      let a : At r.n (view t₀ b z) s (k - 1) q = W.here l in
      let hq : Held r.n r.m (view t₀ b z) q = held_in r.wf.rules q s a.lt r.small_lt a.home_is in
      let w = W.left in
      let ws : List (ℕ × ℕ) = (b + 4 * q, g) ∷ (b + 4 * q + 1, (view t₀ b z).count g + (k - 1)) ∷ [] in
      let ql1 : b + 4 * q + 1 < length t = omega (arith, inside W l) in
      let ql : b + 4 * q < length t = omega arith in
      let far : (x : ℕ) → x < r.n → (view t₀ b z).home x ≡ s → x ≢ q → k - 1 ≤ (view t₀ b z).place x → k ≤ (view t₀ b z).place x =
      λ x xl e d i.
      (let n : (view t₀ b z).place x ≢ k - 1 = λ p. d (same_place r x q xl a.lt e a.home_is (p ∙ sym a.place_is)) in
      omega arith) in
      let not-q : (x : ℕ) → ((view t₀ b z).home x ≡ s → (view t₀ b z).place x < k - 1) → x ≢ q =
      λ x h p. (let y = h (rw p a.home_is) in let o : (view t₀ b z).place x ≡ k - 1 = rw p a.place_is in omega arith) in
      let ps : get_or t (b + 4 * q + 2) 0 ≡ get_or t₀ (b + 4 * q + 2) 0 = W.prev_same q a.lt in
      record {
        same_len = simp length-set W.same_len;
        left = omega arith;
        prev_same = λ x xl. miss t ws (b + 4 * x + 2) (omega arith) ∙ W.prev_same x xl;
        here = λ p.
            rw ps
            (⊎_elim (λ (o : First r.n r.m (view t₀ b z) q). absurd (let c = a.place_is in let d = o.at_zero in omega arith))
            (λ (v : After r.n r.m (view t₀ b z) q).
            record { lt = v.prev_lt; home_is = v.prev_home ∙ a.home_is; place_is = (let c = a.place_is in let d = v.prev_place in omega arith) })
            hq.back);
        f_at = λ p. a;
        next_same = λ x xl. miss t ws (b + 4 * x + 3) (omega arith) ∙ W.next_same x xl;
        behind = λ j jl. miss t ws j (let al = a.lt in omega arith) ∙ W.behind j jl;
        moved_home = λ x xl e i.
            either x q (λ p. rw p (hit t [] (b + 4 * q) g ((b + 4 * q + 1, (view t₀ b z).count g + (k - 1)) ∷ []) ql (omega arith)))
            (λ d. miss t ws (b + 4 * x) (home-ne b x q d) ∙ W.moved_home x xl e (far x xl e d i));
        moved_place = λ x xl e i.
            either x q
            (λ p.
            rw p
            (hit t ((b + 4 * q, g) ∷ []) (b + 4 * q + 1) ((view t₀ b z).count g + (k - 1)) [] ql1 tt
            ∙ ap (λ (j : ℕ). (view t₀ b z).count g + j) (sym a.place_is)))
            (λ d. miss t ws (b + 4 * x + 1) (place-ne b x q d) ∙ W.moved_place x xl e (far x xl e d i));
        kept_home = λ x xl h. miss t ws (b + 4 * x) (home-ne b x q (not-q x h)) ∙ W.kept_home x xl (λ e. (let y = h e in omega arith));
        kept_place = λ x xl h. miss t ws (b + 4 * x + 1) (place-ne b x q (not-q x h)) ∙ W.kept_place x xl (λ e. (let y = h e in omega arith));
        rest = sym (relabel-step b g ((view t₀ b z).count g) k t q f l) ∙ W.rest;
      }

  -- the walk is done
  pub done : {r : SpliceReady t₀ b z g s} {t : List ℕ} {k q f : ℕ} → Walk t₀ b z g s r t k q f → k ≤ 0
      → relabel b g ((view t₀ b z).count g) ((view t₀ b z).count s) t₀ ((view t₀ b z).last s) none ≡ (t, f)
  unfolding relabel
  done {r} {t} {k} {q} {f} W l =
      let e : k ≡ 0 = omega arith in
      sym W.rest ∙ rw e

  pub outside : {r : SpliceReady t₀ b z g s} {t : List ℕ} {k q f : ℕ} (W : Walk t₀ b z g s r t k q f) → k ≤ 0 → (view t₀ b z).count s ≢ 0 → Inside t₀ t b z r.n r.m f
  outside {r} W l h =
      record {
        q_lt = (W.f_at (omega arith)).lt;
        elems_below = r.wf.elems_below;
        lists_below = r.wf.lists_below;
        n_small = r.wf.rules.n_small;
        same_len = W.same_len;
      }

  -- every walk ends
  pub run : {r : SpliceReady t₀ b z g s} (k : ℕ) {t : List ℕ} {q f : ℕ} → Walk t₀ b z g s r t k q f → (t' : List ℕ) × (q' : ℕ) × (f' : ℕ) × Walk t₀ b z g s r t' 0 q' f'
  run zero {t} {q} {f} W = (t, q, f, W)
  run (suc k) {t} {q} {f} W =
      let e : suc k - 1 ≡ k = omega arith in
      run k (rw e at (step W (omega arith)))
