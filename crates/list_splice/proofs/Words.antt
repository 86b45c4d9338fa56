-- The table in its words: what each field is after splice.
use mathlib.Core.Path.{◌≡◌, ◌∙◌}
use mathlib.Core.Logic.{◌⊎◌, ◌≢◌, ⊎_elim}
use Prim.Native.Nat.{ℕ, ◌+◌, ◌*◌, ◌≤◌, ◌<◌}
use native.Mathlib.Omega.{arith}
use mathlib.Core.List.{List, [], ◌∷◌, ◌++◌}
use borrow.Author.Tests.{eq-eqb, ne_eqb}
use lib.ListN.{length, get_or, set, length-set}
use lib.Seq.{get_or-set_same, get_or-set_other}
use Rattle.list_in_table.specs.Word.{writes, Misses, miss, hit, length_writes}
use Rattle.list_in_table.specs.Rules.{none, list_of}
use Rattle.list_in_table.specs.Table.{view, Wf, next_set}
use Rattle.list_in_table.proofs.Laws.{last_lt}
use Rattle.list_in_table.proofs.Words.{next-other, next_same, length-next}
use Rattle.list_splice.specs.Splice.{spliced, SpliceReady}
use Rattle.list_splice.proofs.Walk.{Walk, start, done, run}
use Rattle.list_splice.proofs.Join.{Spliced, splice-rules, splice-big, splice-small, splice-others}

-- what splice does to the lists, where small is not empty
pub record Joined (t : List ℕ) (b z n m g s : ℕ) (t' : List ℕ) : Type 0 where
  pub wf_kept : Wf t' b z n m
  pub big_is : list_of (view t' b z) g ≡ list_of (view t b z) g ++ list_of (view t b z) s
  pub small_is : list_of (view t' b z) s ≡ []
  pub others : (j : ℕ) → j < m → j ≢ g → j ≢ s → list_of (view t' b z) j ≡ list_of (view t b z) j
  -- the words: an element's home, a list's count, and what lies behind the elements and the lists
  pub home_s : (k : ℕ) → k < n → (view t b z).home k ≡ s → (view t' b z).home k ≡ g
  pub home_o : (k : ℕ) → k < n → (view t b z).home k ≢ s → (view t' b z).home k ≡ (view t b z).home k
  pub count_g : (view t' b z).count g ≡ (view t b z).count g + (view t b z).count s
  pub count_s : (view t' b z).count s ≡ 0
  pub count_o : (j : ℕ) → j < m → j ≢ g → j ≢ s → (view t' b z).count j ≡ (view t b z).count j
  pub behind : (j : ℕ) → b + 4 * n ≤ j → (j < z) ⊎ (z + 2 * m ≤ j) → get_or t' j 0 ≡ get_or t j 0
  pub length_kept : length t' ≡ length t

module _ {t : List ℕ} {b z g s : ℕ} {r : SpliceReady t b z g s} (ne : (view t b z).count s ≢ 0) {t₁ : List ℕ} {q₁ f : ℕ} (W : Walk t b z g s r t₁ 0 q₁ f) where
  abbrev c : ℕ
  c = get_or t (z + 2 * g) 0

  abbrev l : ℕ
  l = get_or t (z + 2 * g + 1) 0

  abbrev d : ℕ
  d = get_or t (z + 2 * s) 0

  abbrev e : ℕ
  e = get_or t (z + 2 * s + 1) 0

  abbrev us : List (ℕ × ℕ)
  us = (z + 2 * g, c + d) ∷ (z + 2 * g + 1, e) ∷ (z + 2 * s, 0) ∷ (z + 2 * s + 1, none) ∷ []

  abbrev v : List ℕ
  v = set t₁ (b + 4 * f + 2) l

  abbrev u : List ℕ
  u = next_set v b l f

  is : spliced t b z g s ≡ writes u us
  unfolding spliced
  is = rw (ne_eqb d 0 ne, done W (omega arith))

  fl : f < r.n
  fl = (W.f_at (omega arith)).lt

  u-length : length u ≡ length t
  u-length = length-next v b l f ∙ length-set t₁ (b + 4 * f + 2) l ∙ W.same_len

  -- an element's word that no store is at
  other : (j : ℕ) → j < z → (l ≢ none → j ≢ b + 4 * l + 3) → j ≢ b + 4 * f + 2 → get_or (writes u us) j 0 ≡ get_or t₁ j 0
  other j h k o = miss u us j (omega arith) ∙ next-other v b l f j k ∙ get_or-set_other t₁ (b + 4 * f + 2) j l 0 o

  -- a list's word that no store is at
  list-other : (j : ℕ) → z ≤ j → Misses us j → get_or (writes u us) j 0 ≡ get_or t j 0
  list-other j h k =
      let eb = r.wf.elems_below in
      let ff = fl in
      miss u us j k
      ∙ next-other v b l f j (λ a. omega (arith, last_lt r.wf.rules g r.big_lt a))
      ∙ get_or-set_other t₁ (b + 4 * f + 2) j l 0 (omega arith)
      ∙ W.behind j (omega arith)

  -- a word behind the elements and the lists
  far : (j : ℕ) → b + 4 * r.n ≤ j → (j < z) ⊎ (z + 2 * r.m ≤ j) → get_or (writes u us) j 0 ≡ get_or t j 0
  far j h o =
      let ff = fl in
      let eb = r.wf.elems_below in
      let gl = r.big_lt in
      let sl = r.small_lt in
      miss u us j (⊎_elim (λ (p : j < z). omega arith) (λ (p : z + 2 * r.m ≤ j). omega arith) o)
      ∙ next-other v b l f j (λ a. omega (arith, last_lt r.wf.rules g r.big_lt a))
      ∙ get_or-set_other t₁ (b + 4 * f + 2) j l 0 (omega arith)
      ∙ W.behind j h

  splice-view : Spliced r.n r.m g s f (view t b z) (view (writes u us) b z)
  splice-view =
      let eb = r.wf.elems_below in
      let lb = r.wf.lists_below in
      let ns = r.wf.rules.n_small in
      let ff = fl in
      let ul = u-length in
      let gl = r.big_lt in
      let sl = r.small_lt in
      let gs = r.differ in
      let sm = W.same_len in
      record {
        f_at = W.f_at (omega arith);
        home_s = λ k kl h. other (b + 4 * k) (omega arith) (λ _. omega arith) (omega arith) ∙ W.moved_home k kl h (omega arith);
        home_o = λ k kl h. other (b + 4 * k) (omega arith) (λ _. omega arith) (omega arith) ∙ W.kept_home k kl (λ a. absurd (h a));
        place_s = λ k kl h. other (b + 4 * k + 1) (omega arith) (λ _. omega arith) (omega arith) ∙ W.moved_place k kl h (omega arith);
        place_o = λ k kl h. other (b + 4 * k + 1) (omega arith) (λ _. omega arith) (omega arith) ∙ W.kept_place k kl (λ a. absurd (h a));
        prev_f = miss u us (b + 4 * f + 2) (omega arith) ∙ next-other v b l f (b + 4 * f + 2) (λ _. omega arith) ∙ get_or-set_same t₁ (b + 4 * f + 2) l 0 (omega arith);
        prev_o = λ k kl h. other (b + 4 * k + 2) (omega arith) (λ _. omega arith) (omega arith) ∙ W.prev_same k kl;
        next_l = λ h. miss u us (b + 4 * l + 3) (omega arith) ∙ next_same v b l f (omega arith) (rw length-set (omega arith));
        next_o = λ k kl h. other (b + 4 * k + 3) (omega arith) (λ _. omega arith) (omega arith) ∙ W.next_same k kl;
        count_g = hit u [] (z + 2 * g) (c + d) ((z + 2 * g + 1, e) ∷ (z + 2 * s, 0) ∷ (z + 2 * s + 1, none) ∷ []) (omega arith) (omega arith);
        count_s = hit u ((z + 2 * g, c + d) ∷ (z + 2 * g + 1, e) ∷ []) (z + 2 * s) 0 ((z + 2 * s + 1, none) ∷ []) (omega arith) (omega arith);
        count_o = λ j jl dg ds. list-other (z + 2 * j) (omega arith) (omega arith);
        last_g = hit u ((z + 2 * g, c + d) ∷ []) (z + 2 * g + 1) e ((z + 2 * s, 0) ∷ (z + 2 * s + 1, none) ∷ []) (omega arith) (omega arith);
        last_s = hit u ((z + 2 * g, c + d) ∷ (z + 2 * g + 1, e) ∷ (z + 2 * s, 0) ∷ []) (z + 2 * s + 1) none [] (omega arith) tt;
        last_o = λ j jl dg ds. list-other (z + 2 * j + 1) (omega arith) (omega arith);
      }

  joined : Joined t b z r.n r.m g s (spliced t b z g s)
  joined =
      rw is
      (record {
        wf_kept =
            record {
              elems_below = r.wf.elems_below;
              lists_below = rw (length_writes u us, u-length) r.wf.lists_below;
              rules = splice-rules r.wf.rules r.big_lt r.small_lt r.differ splice-view;
            };
        big_is = splice-big r.wf.rules r.big_lt r.small_lt r.differ splice-view;
        small_is = splice-small r.wf.rules r.big_lt r.small_lt r.differ splice-view;
        others = splice-others r.wf.rules r.big_lt r.small_lt r.differ splice-view;
        home_s = splice-view.home_s;
        home_o = splice-view.home_o;
        count_g = splice-view.count_g;
        count_s = splice-view.count_s;
        count_o = splice-view.count_o;
        behind = far;
        length_kept = length_writes u us ∙ u-length;
      })

-- splice keeps the rules, puts small's list behind big's, empties small and leaves every other list. Where small is empty it changes nothing
pub splice-joined : {t : List ℕ} {b z g s : ℕ} (r : SpliceReady t b z g s) → (view t b z).count s ≢ 0 → Joined t b z r.n r.m g s (spliced t b z g s)
splice-joined {t} {b} {z} {g} {s} r ne = joined ne (run ((view t b z).count s) (start r ne)).3

pub splice-none : (t : List ℕ) (b z g s : ℕ) → (view t b z).count s ≡ 0 → spliced t b z g s ≡ t
unfolding spliced
splice-none t b z g s h = rw (eq-eqb ((view t b z).count s) 0 h)
