-- The last of a list is taken out of a chain table, whichever it is; the values of what is listed; four words are blanked.
use mathlib.Core.Path.{◌≡◌, refl, sym, ◌∙◌, ap}
use mathlib.Core.Logic.{◌≢◌}
use mathlib.Core.List.{List, [], ◌∷◌, ◌++◌, map, map-append}
use Prim.Native.Nat.{ℕ, zero, suc, ◌+◌, ◌-◌, ◌*◌, ◌≤◌, ◌<◌}
use native.Mathlib.Omega.{arith}
use lib.ListN.{length, get_or, set, take, length-append}
use lib.Seq.{take-suc, take-length, take_at, get_or_at, set-get_or}
use Rattle.list_in_table.specs.Rules.{none, View, Rules, Full, list_of, swap_remove}
use Rattle.list_in_table.specs.Word.{writes, hit}
use Rattle.list_in_table.specs.Table.{view, Wf, removed, RemoveReady}
use Rattle.list_in_table.proofs.Laws.{either, full}
use Rattle.list_in_table.proofs.Order.{length-list, list_at, list-of}
use Rattle.def_state.specs.Plain.{drop_last, last_of}
use Rattle.table_meaning.specs.Layout.{elem_words}
use Rattle.table_meaning.specs.Does.{ChainKept}
use Rattle.table_meaning.proofs.Chains.{nil, taken, remove_ready}

-- ---- a list and its last
module _ {A : Type 0} where
  pub snoc : (d : A) (xs : List A) → 0 < length xs → xs ≡ drop_last xs ++ (last_of d xs ∷ [])
  snoc d xs h =
      let e : length xs ≡ suc (length xs - 1) = omega arith in
      sym (take-length xs) ∙ ap (λ (k : ℕ). take k xs) e ∙ take-suc xs (length xs - 1) d (omega arith)

  size-snoc : (xs : List A) (a : A) → length xs ≡ length (xs ++ (a ∷ [])) - 1
  size-snoc xs a = let h = length-append xs (a ∷ []) in omega arith

  pub drop-snoc : (xs : List A) (a : A) → drop_last (xs ++ (a ∷ [])) ≡ xs
  drop-snoc xs a = take_at xs (a ∷ []) (length (xs ++ (a ∷ [])) - 1) (size-snoc xs a)

  pub last_snoc : (d : A) (xs : List A) (a : A) → last_of d (xs ++ (a ∷ [])) ≡ a
  last_snoc d xs a = get_or_at xs a [] d (length (xs ++ (a ∷ [])) - 1) (size-snoc xs a)

  pub map_same : (f g : ℕ → A) (xs : List ℕ) → ((p : ℕ) → p < length xs → f (get_or xs p 0) ≡ g (get_or xs p 0)) → map f xs ≡ map g xs
  map_same f g [] h = refl
  map_same f g (x ∷ xs) h = rw (h 0 (omega arith), map_same f g xs (λ p l. h (suc p) (omega arith)))

  -- what is done twice to one entry is done once
  pub set-again : (xs : List A) (i : ℕ) (a d : A) (f : A → A) → set (set xs i a) i (f (get_or (set xs i a) i d)) ≡ set xs i (f a)
  set-again [] i a d f = refl
  set-again (x ∷ xs) zero a d f = refl
  set-again (x ∷ xs) (suc i) a d f = ap (λ (ys : List A). x ∷ ys) (set-again xs i a d f)

  -- an empty list has no values
  pub no-values : {n m : ℕ} {S : View} → Rules n m S → (i : ℕ) → i < m → S.count i ≡ 0 → (f : ℕ → A) → map f (list_of S i) ≡ []
  no-values {S} R i il c f = ap (map f) (nil (list_of S i) (length-list R i il ∙ c))

-- ---- the element e was the last of the list i
pub record Popped (N n m i e : ℕ) (x y : List ℕ) : Type 0 where
  pub wf : Wf y 0 (4 * N) n m
  pub list_i : list_of (view x 0 (4 * N)) i ≡ list_of (view y 0 (4 * N)) i ++ (e ∷ [])
  pub list_o : (j : ℕ) → j < m → j ≢ i → list_of (view y 0 (4 * N)) j ≡ list_of (view x 0 (4 * N)) j
  pub home_e : (view y 0 (4 * N)).home e ≡ none
  pub home_o : (k : ℕ) → k < n → k ≢ e → (view y 0 (4 * N)).home k ≡ (view x 0 (4 * N)).home k
  pub count_i : (view y 0 (4 * N)).count i + 1 ≡ (view x 0 (4 * N)).count i
  pub count_o : (j : ℕ) → j < m → j ≢ i → (view y 0 (4 * N)).count j ≡ (view x 0 (4 * N)).count j
  pub kept : ChainKept N n m x y

-- what taking it out asks
pub record LastIn (N n i e : ℕ) (x : List ℕ) : Type 0 where
  pub elem_lt : e < n
  pub room_lt : e < N
  pub home_is : (view x 0 (4 * N)).home e ≡ i
  pub held : (view x 0 (4 * N)).home e ≢ none
  pub ready : RemoveReady x 0 (4 * N) e

module _ (N n m : ℕ) (x : List ℕ) (w : Wf x 0 (4 * N) n m) (i e : ℕ) (il : i < m) (c : 0 < (view x 0 (4 * N)).count i) (q : e ≡ (view x 0 (4 * N)).last i) where
  abbrev S : View
  S = view x 0 (4 * N)

  F : Full n m S i
  F = full w.rules i il (omega arith)

  last_lt : e < n
  last_lt = rw q F.last_lt

  last_home : S.home e ≡ i
  last_home = rw q F.last_home

  last-held : S.home e ≢ none
  last-held = let h = last_home in let s = w.rules.m_small in omega arith

  pub last-in : LastIn N n i e x
  last-in =
      record {
        elem_lt = last_lt;
        room_lt = (let a = last_lt in let b = w.elems_below in omega arith);
        home_is = last_home;
        held = last-held;
        ready = remove_ready N w e last_lt last-held;
      }

  pub last_place : S.place e ≡ length (list_of S i) - 1
  last_place = let a : S.place e + 1 ≡ S.count i = rw q F.last_place in let b = length-list w.rules i il in omega arith

  last-of : last_of 0 (list_of S i) ≡ e
  last-of = ap (λ (k : ℕ). get_or (list_of S i) k 0) (sym last_place) ∙ list-of w.rules i il e last_lt last_home

  swap-last : (xs : List ℕ) (p : ℕ) → p ≡ length xs - 1 → swap_remove xs p ≡ drop_last xs
  unfolding swap_remove
  swap-last xs p h = rw h (ap (λ (ys : List ℕ). take (length xs - 1) ys) (set-get_or xs (length xs - 1) 0))

  pub popped : Popped N n m i e x (removed x 0 (4 * N) e)
  popped =
      let y = removed x 0 (4 * N) e in
      let D = taken N n m x w e last_lt last-held in
      let h = last_home in
      let l : list_of (view y 0 (4 * N)) i ≡ drop_last (list_of S i) = (rw h at D.list_e) ∙ swap-last (list_of S i) (S.place e) last_place in
      record {
        wf = D.wf;
        list_i = snoc 0 (list_of S i) (rw (length-list w.rules i il) c) ∙ rw (l, last-of);
        list_o = λ j jl d. D.list_o j jl (λ a. d (a ∙ h));
        home_e = D.home_e;
        home_o = D.home_o;
        count_i = rw h at D.count_i;
        count_o = λ j jl d. D.count_o j jl (λ a. d (a ∙ h));
        kept = D.kept;
      }

-- the values of what is listed, where those of no number but e changed
pub still : {A : Type 0} {n m : ℕ} {S : View} (R : Rules n m S) (e : ℕ) → S.home e ≡ none → (f g : ℕ → A) → ((k : ℕ) → k ≢ e → f k ≡ g k) → (j : ℕ) → j < m → map f (list_of S j) ≡ map g (list_of S j)
still {S} R e he f g same j jl =
    map_same f g (list_of S j)
    (λ p l.
    let k = get_or (list_of S j) p 0 in
    let a : S.home k ≡ j = (list_at R j jl p (rw (length-list R j jl) at l)).home_is in
    same k (λ d. let b : S.home k ≡ none = ap S.home d ∙ he in let s = R.m_small in omega arith))

module _ {A : Type 0} {N n m i e : ℕ} {x y : List ℕ} (P : Popped N n m i e x y) (f g : ℕ → A) (same : (k : ℕ) → k ≢ e → f k ≡ g k) where
  stay : (j : ℕ) → j < m → map f (list_of (view y 0 (4 * N)) j) ≡ map g (list_of (view y 0 (4 * N)) j)
  stay = still P.wf.rules e P.home_e f g same

  pub values-i : i < m → map g (list_of (view x 0 (4 * N)) i) ≡ map f (list_of (view y 0 (4 * N)) i) ++ (g e ∷ [])
  values-i il = ap (map g) P.list_i ∙ map-append g (list_of (view y 0 (4 * N)) i) (e ∷ []) ∙ ap (λ (l : List A). l ++ (g e ∷ [])) (sym (stay i il))

  pub values-o : (j : ℕ) → j < m → j ≢ i → map f (list_of (view y 0 (4 * N)) j) ≡ map g (list_of (view x 0 (4 * N)) j)
  values-o j jl d = stay j jl ∙ ap (map g) (P.list_o j jl d)

-- ---- four words are blanked
pub blanked : (x : List ℕ) (a j : ℕ) → a + 3 < length x → a ≤ j → j < a + 4 → get_or (writes x (elem_words a)) j 0 ≡ none
blanked x a j l b h =
    either j a (λ q. rw q (hit x [] a none ((a + 1, none) ∷ (a + 2, none) ∷ (a + 3, none) ∷ []) (omega arith) (omega arith)))
    (λ d0. either j (a + 1) (λ q. rw q (hit x ((a, none) ∷ []) (a + 1) none ((a + 2, none) ∷ (a + 3, none) ∷ []) (omega arith) (omega arith)))
    (λ d1. either j (a + 2) (λ q. rw q (hit x ((a, none) ∷ (a + 1, none) ∷ []) (a + 2) none ((a + 3, none) ∷ []) (omega arith) (omega arith)))
    (λ d2.
    let q : j ≡ a + 3 = omega arith in
    rw q (hit x ((a, none) ∷ (a + 1, none) ∷ (a + 2, none) ∷ []) (a + 3) none [] (omega arith) (omega arith)))))
