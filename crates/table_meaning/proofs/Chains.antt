-- What a step does to a chain table, whichever it is: an element or a list comes into use, an element is put last in a list, an element is taken out.
use mathlib.Core.Path.{◌≡◌, refl, sym, ◌∙◌, subst}
use mathlib.Core.Logic.{◌⊎◌, inl, inr, ◌≢◌, ⊎_elim}
use Prim.Native.Nat.{ℕ, ◌+◌, ◌*◌, ◌≤◌, ◌<◌}
use native.Mathlib.Omega.{arith}
use mathlib.Core.List.{List, [], ◌∷◌, ◌++◌}
use lib.ListN.{length, get_or}
use Rattle.list_in_table.specs.Rules.{none, Blank, Empty, list_of, swap_remove}
use Rattle.list_in_table.specs.Word.{writes, miss, hit, length_writes}
use Rattle.list_in_table.specs.Table.{view, Wf, pushed, removed, PushReady, RemoveReady}
use Rattle.list_in_table.proofs.Laws.{last_lt}
use Rattle.list_in_table.proofs.Order.{length-list}
use Rattle.list_in_table.proofs.Words.{next-other, length-pushed, push-view, push-wf, push-lists-i, push-lists-o}
use Rattle.list_in_table.proofs.Push.{Pushed}
use Rattle.list_in_table.proofs.WordsRemove.{remove-kept}
use Rattle.table_meaning.specs.Layout.{elem_words, list_words}
use Rattle.table_meaning.specs.Does.{ChainKept}
use Rattle.table_meaning.proofs.More.{Agrees, rules-more, list_same}
use Rattle.table_meaning.proofs.Behind.{remove-behind}

pub nil : {A : Type 0} (xs : List A) → length xs ≡ 0 → xs ≡ []
nil [] h = refl
nil (x ∷ xs) h = absurd (omega arith)

pub chain-refl : {N n m : ℕ} {x : List ℕ} → ChainKept N n m x x
chain-refl = record { elems = λ j h k. refl; ends = λ j h. refl }

pub chain-then : {N n m n' m' : ℕ} {x y z : List ℕ} → n ≤ n' → m ≤ m' → ChainKept N n m x y → ChainKept N n' m' y z → ChainKept N n' m' x z
chain-then nl ml A B = record { elems = λ j h k. B.elems j h k ∙ A.elems j (omega arith) k; ends = λ j h. B.ends j h ∙ A.ends j (omega arith) }

-- what was in use agrees, the rules hold of what is in use now, and behind that nothing changed
pub record Grown (N n m n' m' : ℕ) (x y : List ℕ) : Type 0 where
  pub wf : Wf y 0 (4 * N) n' m'
  pub agrees : Agrees n m (view x 0 (4 * N)) (view y 0 (4 * N))
  pub lists : (i : ℕ) → i < m → list_of (view y 0 (4 * N)) i ≡ list_of (view x 0 (4 * N)) i
  pub kept : ChainKept N n' m' x y
  pub long : length y ≡ length x

-- ---- one more element
module _ (N n m : ℕ) (x : List ℕ) (w : Wf x 0 (4 * N) n m) (l : n < N) (s : n < none) where
  abbrev ws : List (ℕ × ℕ)
  ws = elem_words (4 * n)

  abbrev y : List ℕ
  y = writes x ws

  long : 4 * N ≤ length x
  long = let q = w.lists_below in omega arith

  elem-o : (j : ℕ) → (j < 4 * n) ⊎ (4 * n + 4 ≤ j) → get_or y j 0 ≡ get_or x j 0
  elem-o j o = miss x ws j (⊎_elim (λ (p : j < 4 * n). omega arith) (λ (p : 4 * n + 4 ≤ j). omega arith) o)

  e0 : get_or y (4 * n) 0 ≡ none
  e0 = let q = long in hit x [] (4 * n) none ((4 * n + 1, none) ∷ (4 * n + 2, none) ∷ (4 * n + 3, none) ∷ []) (omega arith) (omega arith)

  e1 : get_or y (4 * n + 1) 0 ≡ none
  e1 = let q = long in hit x ((4 * n, none) ∷ []) (4 * n + 1) none ((4 * n + 2, none) ∷ (4 * n + 3, none) ∷ []) (omega arith) (omega arith)

  e2 : get_or y (4 * n + 2) 0 ≡ none
  e2 = let q = long in hit x ((4 * n, none) ∷ (4 * n + 1, none) ∷ []) (4 * n + 2) none ((4 * n + 3, none) ∷ []) (omega arith) (omega arith)

  e3 : get_or y (4 * n + 3) 0 ≡ none
  e3 = let q = long in hit x ((4 * n, none) ∷ (4 * n + 1, none) ∷ (4 * n + 2, none) ∷ []) (4 * n + 3) none [] (omega arith) (omega arith)

  blank : (e : ℕ) → n ≤ e → e < n + 1 → Blank (n + 1) m (view y 0 (4 * N)) e
  blank e a b =
      let q : e ≡ n = omega arith in
      let z : 4 * n ≡ 0 + 4 * n = omega arith in
      subst (λ (k : ℕ). Blank (n + 1) m (view y 0 (4 * N)) k) (sym q)
      (record {
        home_none = subst (λ (x : ℕ). get_or y x 0 ≡ none) z e0;
        place_none = subst (λ (x : ℕ). get_or y (x + 1) 0 ≡ none) z e1;
        prev_none = subst (λ (x : ℕ). get_or y (x + 2) 0 ≡ none) z e2;
        next_none = subst (λ (x : ℕ). get_or y (x + 3) 0 ≡ none) z e3;
      })

  elem-agrees : Agrees n m (view x 0 (4 * N)) (view y 0 (4 * N))
  elem-agrees =
      record {
        home = λ e h. elem-o (0 + 4 * e) (inl (omega arith));
        place = λ e h. elem-o (0 + 4 * e + 1) (inl (omega arith));
        prev = λ e h. elem-o (0 + 4 * e + 2) (inl (omega arith));
        next = λ e h. elem-o (0 + 4 * e + 3) (inl (omega arith));
        count = λ i h. elem-o (4 * N + 2 * i) (inr (omega arith));
        last = λ i h. elem-o (4 * N + 2 * i + 1) (inr (omega arith));
      }

  pub elem-grown : Grown N n m (n + 1) m x y
  elem-grown =
      let k = length_writes x ws in
      record {
        wf =
            record {
              elems_below = omega arith;
              lists_below = (let q = w.lists_below in omega arith);
              rules = rules-more w.rules elem-agrees (omega arith) (omega arith) (omega arith) w.rules.m_small blank (λ i a b. absurd (omega arith));
            };
        agrees = elem-agrees;
        lists = λ i h. list_same w.rules elem-agrees i h;
        kept = record { elems = λ j a b. elem-o j (inr (omega arith)); ends = λ j a. elem-o j (inr (omega arith)) };
        long = k;
      }

  -- the new element is in no list
  pub elem-home : (view y 0 (4 * N)).home n ≡ none
  elem-home = (blank n (omega arith) (omega arith)).home_none

-- ---- one more list
module _ (N n m M : ℕ) (x : List ℕ) (w : Wf x 0 (4 * N) n m) (l : m < M) (s : m < none) (lx : length x ≡ 4 * N + 2 * M) where
  abbrev vs : List (ℕ × ℕ)
  vs = list_words (4 * N + 2 * m)

  abbrev u : List ℕ
  u = writes x vs

  list_o : (j : ℕ) → (j < 4 * N + 2 * m) ⊎ (4 * N + 2 * m + 2 ≤ j) → get_or u j 0 ≡ get_or x j 0
  list_o j o = miss x vs j (⊎_elim (λ (p : j < 4 * N + 2 * m). omega arith) (λ (p : 4 * N + 2 * m + 2 ≤ j). omega arith) o)

  nl : 4 * n ≤ 4 * N
  nl = let q = w.elems_below in omega arith

  list-agrees : Agrees n m (view x 0 (4 * N)) (view u 0 (4 * N))
  list-agrees =
      let q = nl in
      record {
        home = λ e h. list_o (0 + 4 * e) (inl (omega arith));
        place = λ e h. list_o (0 + 4 * e + 1) (inl (omega arith));
        prev = λ e h. list_o (0 + 4 * e + 2) (inl (omega arith));
        next = λ e h. list_o (0 + 4 * e + 3) (inl (omega arith));
        count = λ i h. list_o (4 * N + 2 * i) (inl (omega arith));
        last = λ i h. list_o (4 * N + 2 * i + 1) (inl (omega arith));
      }

  -- the new list is empty
  pub list_count : (view u 0 (4 * N)).count m ≡ 0
  list_count = hit x [] (4 * N + 2 * m) 0 ((4 * N + 2 * m + 1, none) ∷ []) (omega arith) (omega arith)

  list-last : (view u 0 (4 * N)).last m ≡ none
  list-last = hit x ((4 * N + 2 * m, 0) ∷ []) (4 * N + 2 * m + 1) none [] (omega arith) (omega arith)

  empty : (i : ℕ) → m ≤ i → i < m + 1 → Empty n (m + 1) (view u 0 (4 * N)) i
  empty i a b = let q : i ≡ m = omega arith in subst (λ (k : ℕ). Empty n (m + 1) (view u 0 (4 * N)) k) (sym q) (record { no_count = list_count; no_last = list-last })

  list-wf : Wf u 0 (4 * N) n (m + 1)
  list-wf =
      let k = length_writes x vs in
      record {
        elems_below = w.elems_below;
        lists_below = omega arith;
        rules = rules-more w.rules list-agrees (omega arith) (omega arith) w.rules.n_small (omega arith) (λ e a b. absurd (omega arith)) empty;
      }

  pub list-grown : Grown N n m n (m + 1) x u
  list-grown =
      record {
        wf = list-wf;
        agrees = list-agrees;
        lists = λ i h. list_same w.rules list-agrees i h;
        kept = record { elems = λ j a b. list_o j (inl (omega arith)); ends = λ j a. list_o j (inr (omega arith)) };
        long = length_writes x vs;
      }

  pub list-new : list_of (view u 0 (4 * N)) m ≡ []
  list-new = nil (list_of (view u 0 (4 * N)) m) (length-list list-wf.rules m (omega arith) ∙ list_count)

-- ---- an element is put last in a list, or taken out of its own
pub push-behind : {t : List ℕ} {b z n m : ℕ} (w : Wf t b z n m) (i e : ℕ) → i < m → e < n → (j : ℕ) → b + 4 * n ≤ j → (j < z) ⊎ (z + 2 * m ≤ j)
    → get_or (pushed t b z i e) j 0 ≡ get_or t j 0
unfolding pushed
push-behind {t} {b} {z} {n} {m} w i e il el j h o =
    let a = b + 4 * e in
    let y = z + 2 * i in
    let c = get_or t y 0 in
    let l = get_or t (y + 1) 0 in
    let ws : List (ℕ × ℕ) = (a, i) ∷ (a + 1, c) ∷ (a + 2, l) ∷ (a + 3, none) ∷ (y, c + 1) ∷ (y + 1, e) ∷ [] in
    next-other (writes t ws) b l e j (λ d. let q : l < n = last_lt w.rules i il d in omega arith)
    ∙ miss t ws j (⊎_elim (λ (p : j < z). omega arith) (λ (p : z + 2 * m ≤ j). let q = w.elems_below in omega arith) o)

pub record Added (N n m i e : ℕ) (x y : List ℕ) : Type 0 where
  pub wf : Wf y 0 (4 * N) n m
  pub view_is : Pushed n m i e (view x 0 (4 * N)) (view y 0 (4 * N))
  pub list_i : list_of (view y 0 (4 * N)) i ≡ list_of (view x 0 (4 * N)) i ++ (e ∷ [])
  pub list_o : (j : ℕ) → j < m → j ≢ i → list_of (view y 0 (4 * N)) j ≡ list_of (view x 0 (4 * N)) j
  pub kept : ChainKept N n m x y
  pub long : length y ≡ length x

pub added : (N n m : ℕ) (x : List ℕ) (w : Wf x 0 (4 * N) n m) (i e : ℕ) → i < m → e < n → (view x 0 (4 * N)).home e ≡ none → Added N n m i e x (pushed x 0 (4 * N) i e)
added N n m x w i e il el b =
    record {
      wf = push-wf w i e il el b;
      view_is = push-view w i e il el b;
      list_i = push-lists-i w i e il el b;
      list_o = push-lists-o w i e il el b;
      kept =
          record {
            elems = λ j a b. push-behind w i e il el j (omega arith) (inl b);
            ends = λ j a. (let q = w.elems_below in push-behind w i e il el j (omega arith) (inr a));
          };
      long = length-pushed w i e il el b;
    }

abbrev pub push_ready : (N : ℕ) {n m : ℕ} {x : List ℕ} (w : Wf x 0 (4 * N) n m) (i e : ℕ) → i < m → e < n → (view x 0 (4 * N)).home e ≡ none → PushReady x 0 (4 * N) i e
push_ready N {n} {m} w i e il el b = record { n = n; m = m; wf = w; list_lt = il; elem_lt = el; elem_blank = b }

pub record Taken (N n m e : ℕ) (x y : List ℕ) : Type 0 where
  pub wf : Wf y 0 (4 * N) n m
  pub list_e : list_of (view y 0 (4 * N)) ((view x 0 (4 * N)).home e) ≡ swap_remove (list_of (view x 0 (4 * N)) ((view x 0 (4 * N)).home e)) ((view x 0 (4 * N)).place e)
  pub list_o : (j : ℕ) → j < m → j ≢ (view x 0 (4 * N)).home e → list_of (view y 0 (4 * N)) j ≡ list_of (view x 0 (4 * N)) j
  pub home_e : (view y 0 (4 * N)).home e ≡ none
  pub home_o : (k : ℕ) → k < n → k ≢ e → (view y 0 (4 * N)).home k ≡ (view x 0 (4 * N)).home k
  pub count_o : (j : ℕ) → j < m → j ≢ (view x 0 (4 * N)).home e → (view y 0 (4 * N)).count j ≡ (view x 0 (4 * N)).count j
  pub count_i : (view y 0 (4 * N)).count ((view x 0 (4 * N)).home e) + 1 ≡ (view x 0 (4 * N)).count ((view x 0 (4 * N)).home e)
  pub kept : ChainKept N n m x y
  pub long : length y ≡ length x

abbrev pub remove_ready : (N : ℕ) {n m : ℕ} {x : List ℕ} (w : Wf x 0 (4 * N) n m) (e : ℕ) → e < n → (view x 0 (4 * N)).home e ≢ none → RemoveReady x 0 (4 * N) e
remove_ready N {n} {m} w e el h = record { n = n; m = m; wf = w; elem_lt = el; elem_held = h }

pub taken : (N n m : ℕ) (x : List ℕ) (w : Wf x 0 (4 * N) n m) (e : ℕ) → e < n → (view x 0 (4 * N)).home e ≢ none → Taken N n m e x (removed x 0 (4 * N) e)
taken N n m x w e el h =
    let K = remove-kept w e el h in
    let R = remove_ready N w e el h in
    record {
      wf = K.wf_kept;
      list_e = K.list_e;
      list_o = K.list_o;
      home_e = K.e_blank.home_none;
      home_o = K.home_o;
      count_o = K.count_o;
      count_i = K.count_i;
      kept =
          record {
            elems = λ j a b. remove-behind R j (omega arith) (inl b);
            ends = λ j a. (let q = w.elems_below in remove-behind R j (omega arith) (inr a));
          };
      long = K.length_kept;
    }
