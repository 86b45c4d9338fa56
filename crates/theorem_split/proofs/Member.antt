-- Elements of a list: of two lists put together, of a list that is mapped, of a list with one removed by swap.
use mathlib.Core.Path.{◌≡◌, refl, sym, ◌∙◌, ap, subst}
use mathlib.Core.Logic.{◌⊎◌, inl, inr, ⊎_elim, ◌≢◌}
use mathlib.Core.Bool.{true, false≢true}
use mathlib.Core.List.{List, [], ◌∷◌, ◌++◌, map}
use Prim.Native.Nat.{ℕ, zero, suc, ◌+◌, ◌-◌, ◌<◌}
use native.Mathlib.Omega.{arith}
use lib.ListN.{length, get_or, take, drop, length-drop, set, length-set}
use lib.Seq.{take-suc, take-length, split_at, length-take-le, get_or-take, get_or-drop, get_or-set_same, get_or-set_other}
use borrow.Author.Tests.{eq-eqb, ne_eqb}
use Rattle.list_in_table.proofs.Laws.{either}
use Rattle.def_state.specs.Plain.{has, swap_remove}
use Rattle.theorem_split.specs.Graph.{In, here, there}

pred : (n : ℕ) → suc n - 1 ≡ n
pred n = omega arith

module _ {A : Type 0} where
  pub none_in : {x : A} → In x [] → ⊥
  none_in i = elim i [ ]

  pub in_left : {x : A} {xs : List A} (ys : List A) → In x xs → In x (xs ++ ys)
  in_left ys (here e) = here e
  in_left ys (there i) = there (in_left ys i)

  pub in_right : {x : A} (xs : List A) {ys : List A} → In x ys → In x (xs ++ ys)
  in_right [] i = i
  in_right (y ∷ xs) i = there (in_right xs i)

  pub in-cases : {x : A} (xs : List A) {ys : List A} → In x (xs ++ ys) → In x xs ⊎ In x ys
  in-cases [] i = inr i
  in-cases (y ∷ xs) (here e) = inl (here e)
  in-cases (y ∷ xs) (there i) = ⊎_elim (λ a. inl (there a)) inr (in-cases xs i)

  pub in_one : {x y : A} → In x (y ∷ []) → y ≡ x
  in_one (here e) = e
  in_one (there i) = absurd (none_in i)

  pub in-at : (d : A) (xs : List A) (p : ℕ) → p < length xs → In (get_or xs p d) xs
  in-at d [] p l = absurd (omega arith)
  in-at d (x ∷ xs) zero l = here refl
  in-at d (x ∷ xs) (suc p) l = there (in-at d xs p (omega arith))

  -- a place where the list has x
  pub record Place (d x : A) (xs : List A) : Type 0 where
    pub place : ℕ
    pub lt : place < length xs
    pub is : get_or xs place d ≡ x

  pub at_in : (d : A) {x : A} {xs : List A} → In x xs → Place d x xs
  at_in d (here e) = record { place = 0; lt = omega arith; is = e }
  at_in d (there i) = let r = at_in d i in record { place = suc r.place; lt = (let l = r.lt in omega arith); is = r.is }

  -- ---- swap removal at the place behind X: the last of what comes after takes it
  abbrev pub turned : A → List A → List A
  turned d [] = []
  turned d (r ∷ R) = get_or (r ∷ R) (length R) d ∷ take (length R) (r ∷ R)

  swap-cons : (d a y : A) (ys : List A) (p : ℕ) → swap_remove d (a ∷ y ∷ ys) (suc p) ≡ a ∷ swap_remove d (y ∷ ys) p
  swap-cons d a y ys p = rw (pred (suc (length ys)), pred (length ys))

  pub swap_at : (d : A) (X : List A) (x : A) (R : List A) → swap_remove d (X ++ (x ∷ R)) (length X) ≡ X ++ turned d R
  swap_at d [] x [] = refl
  swap_at d [] x (r ∷ R) = rw (pred (suc (length R)))
  swap_at d (a ∷ []) x R = swap-cons d a x R 0 ∙ ap (λ (l : List A). a ∷ l) (swap_at d [] x R)
  swap_at d (a ∷ b ∷ X) x R = swap-cons d a b (X ++ (x ∷ R)) (suc (length X)) ∙ ap (λ (l : List A). a ∷ l) (swap_at d (b ∷ X) x R)

  snoc-last : (d : A) (r : A) (R : List A) → r ∷ R ≡ take (length R) (r ∷ R) ++ (get_or (r ∷ R) (length R) d ∷ [])
  snoc-last d r R = sym (take-length (r ∷ R)) ∙ take-suc (r ∷ R) (length R) d (omega arith)

  pub turned-in : (d : A) {x : A} (R : List A) → In x (turned d R) → In x R
  turned-in d [] i = i
  turned-in d {x} (r ∷ R) (here e) = subst (λ (l : List A). In x l) (sym (snoc-last d r R)) (in_right (take (length R) (r ∷ R)) (here e))
  turned-in d {x} (r ∷ R) (there i) = subst (λ (l : List A). In x l) (sym (snoc-last d r R)) (in_left _ i)

  pub in-turned : (d : A) {x : A} (R : List A) → In x R → In x (turned d R)
  in-turned d [] i = i
  in-turned d {x} (r ∷ R) i =
      ⊎_elim (λ a. there a) (λ b. here (in_one b)) (in-cases (take (length R) (r ∷ R)) (subst (λ (l : List A). In x l) (snoc-last d r R) i))

module _ {A B : Type 0} (f : A → B) where
  pub in_map : {x : A} {xs : List A} → In x xs → In (f x) (map f xs)
  in_map (here e) = here (ap f e)
  in_map (there i) = there (in_map i)

  -- an element of xs that f takes to y
  pub record Source (y : B) (xs : List A) : Type 0 where
    pub source : A
    pub listed : In source xs
    pub is : f source ≡ y

  pub map-in : {y : B} (xs : List A) → In y (map f xs) → Source y xs
  map-in {y = y} [] i = elim i [ ]
  map-in (x ∷ xs) (here e) = record { source = x; listed = here refl; is = e }
  map-in (x ∷ xs) (there i) = let r = map-in xs i in record { source = r.source; listed = there r.listed; is = r.is }

pub in-has : {s : ℕ} {xs : List ℕ} → In s xs → has xs s ≡ true
unfolding has
in-has {s} (here {y} e) = rw (eq-eqb y s e)
in-has {s} (there {y} {ys} i) = either y s (λ e. rw (eq-eqb y s e)) (λ d. rw (ne_eqb y s d) (in-has i))

pub has_in : (xs : List ℕ) (s : ℕ) → has xs s ≡ true → In s xs
unfolding has
has_in [] s e = absurd (false≢true e)
has_in (y ∷ ys) s e = either y s (λ q. here q) (λ d. there (has_in ys s (rw (ne_eqb y s d) at e)))

-- ---- swap removal at any place

module _ {A : Type 0} (d : A) (xs : List A) (p : ℕ) (l : p < length xs) where
  swap-form : swap_remove d xs p ≡ take p xs ++ turned d (drop (suc p) xs)
  swap-form =
      ap (λ (ys : List A). swap_remove d ys p) (split_at xs p d l)
      ∙ subst (λ (k : ℕ). swap_remove d (take p xs ++ (get_or xs p d ∷ drop (suc p) xs)) k ≡ take p xs ++ turned d (drop (suc p) xs)) (length-take-le p xs (omega arith))
      (swap_at d (take p xs) (get_or xs p d) (drop (suc p) xs))

  pub swap-old : {x : A} → In x (swap_remove d xs p) → In x xs
  swap-old {x} i =
      subst (λ (ys : List A). In x ys) (sym (split_at xs p d l))
      (⊎_elim (λ a. in_left _ a) (λ a. in_right (take p xs) (there (turned-in d (drop (suc p) xs) a))) (in-cases (take p xs) (subst (λ (ys : List A). In x ys) swap-form i)))

  pub swap-cases : {x : A} → In x xs → (x ≡ get_or xs p d) ⊎ In x (swap_remove d xs p)
  swap-cases {x} i =
      ⊎_elim (λ a. inr (subst (λ (ys : List A). In x ys) (sym swap-form) (in_left _ a))) (λ a. behind a)
      (in-cases (take p xs) (subst (λ (ys : List A). In x ys) (split_at xs p d l) i))
    where
      behind : In x (get_or xs p d ∷ drop (suc p) xs) → (x ≡ get_or xs p d) ⊎ In x (swap_remove d xs p)
      behind (here e) = inl (sym e)
      behind (there j) = inr (subst (λ (ys : List A). In x ys) (sym swap-form) (in_right (take p xs) (in-turned d (drop (suc p) xs) j)))

  -- where no element is twice, the removed one is gone
  pub swap-gone : ((q : ℕ) → q < length xs → get_or xs q d ≡ get_or xs p d → q ≡ p) → In (get_or xs p d) (swap_remove d xs p) → ⊥
  swap-gone h i =
      ⊎_elim
      (λ a.
      let r = at_in d a in
      let rl : r.place < p = rw (length-take-le p xs (omega arith)) at r.lt in
      let e = h r.place (omega arith) (sym (get_or-take p xs r.place d rl) ∙ r.is) in
      omega arith)
      (λ a.
      let r = at_in d (turned-in d (drop (suc p) xs) a) in
      let rl : r.place < length xs - suc p = rw (length-drop (suc p) xs) at r.lt in
      let e = h (suc p + r.place) (omega arith) (sym (get_or-drop (suc p) xs r.place d) ∙ r.is) in
      omega arith)
      (in-cases (take p xs) (subst (λ (ys : List A). In (get_or xs p d) ys) swap-form i))

-- what stands at a place after a swap removal, and where it stood
pub record Before {A : Type 0} (d : A) (xs : List A) (p r : ℕ) : Type 0 where
  pub at : ℕ
  pub lt : at < length xs
  pub is : get_or (swap_remove d xs p) r d ≡ get_or xs at d
  pub other : at ≢ p
  pub how : (at ≡ r) ⊎ ((r ≡ p) × (at ≡ length xs - 1))
  pub small : r < length xs - 1

pub swap-before : {A : Type 0} (d : A) (xs : List A) (p r : ℕ) → p < length xs → r < length (swap_remove d xs p) → Before d xs p r
swap-before {A} d xs p r l rl =
    let last = get_or xs (length xs - 1) d in
    let k : r < length xs - 1 = rw (length-take-le (length xs - 1) (set xs p (get_or xs (length xs - 1) d)) (rw (length-set xs p (get_or xs (length xs - 1) d)) (omega arith))) at rl in
    let t : get_or (swap_remove d xs p) r d ≡ get_or (set xs p (get_or xs (length xs - 1) d)) r d = get_or-take (length xs - 1) (set xs p (get_or xs (length xs - 1) d)) r d k in
    either r p
    (λ e.
    record {
      at = length xs - 1;
      lt = omega arith;
      is = t ∙ ap (λ (x : ℕ). get_or (set xs p (get_or xs (length xs - 1) d)) x d) e ∙ get_or-set_same xs p (get_or xs (length xs - 1) d) d l;
      other = λ q. (let z : length xs - 1 ≡ p = q in omega arith);
      how = inr (e, refl);
      small = k;
    })
    (λ o.
    record { at = r; lt = omega arith; is = t ∙ get_or-set_other xs p r (get_or xs (length xs - 1) d) d o; other = o; how = inl refl; small = k })

-- two places that held one element are one place
pub before-one : {A : Type 0} {d : A} {xs : List A} {p r q : ℕ} (x : Before d xs p r) (y : Before d xs p q) → x.at ≡ y.at → r ≡ q
before-one {A} {d} {xs} {p} {r} {q} x y e =
    let a = x.small in
    let b = y.small in
    ⊎_elim (λ u. ⊎_elim (λ v. sym u ∙ e ∙ v) (λ v. absurd (let z = v.1 in omega arith)) y.how)
    (λ u. ⊎_elim (λ v. absurd (let z = u.1 in omega arith)) (λ v. u.0 ∙ sym v.0) y.how)
    x.how
