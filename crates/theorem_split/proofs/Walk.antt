-- A walk over the list of one island, from the highest place down: each element stays, is dropped, or goes behind the list of another island.
-- What is visited at a place is what stood there at the start.
use mathlib.Core.Path.{◌≡◌, refl, sym, ◌∙◌, ap, subst}
use mathlib.Core.Logic.{◌⊎◌, inl, inr, ◌≢◌, ⊎_elim}
use mathlib.Core.List.{List, [], ◌∷◌, ◌++◌, append_assoc, append-nil}
use Prim.Native.Nat.{ℕ, suc, ◌<◌}
use native.Mathlib.Omega.{arith}
use lib.ListN.{length, get_or}
use lib.Seq.{get_or_at, ext_get_or}
use Rattle.list_in_table.proofs.Laws.{either}
use Rattle.def_state.specs.Plain.{top, swap_remove}
use Rattle.table_meaning.specs.Decode.{tabulate}
use Rattle.table_meaning.proofs.Tab.{length-tabulate, get_d_tabulate}
use Rattle.theorem_split.specs.Graph.{In, here, there}
use Rattle.theorem_split.proofs.Member.{none_in, in-at, at_in, in_left, in_right, in-cases, in_one, turned, swap_at, turned-in, in-turned}

-- one place: the element at p of the list `base` goes to `to`
pub record Move {A : Type 0} (d : A) (base p to : ℕ) (F G : ℕ → List A) : Type 0 where
  pub stay : to ≡ base → (j : ℕ) → G j ≡ F j
  pub from : to ≢ base → G base ≡ swap_remove d (F base) p
  pub into : to ≢ base → to ≢ top → G to ≡ F to ++ (get_or (F base) p d ∷ [])
  pub rest : (j : ℕ) → j ≢ base → j ≢ to → G j ≡ F j

-- the places below p, from the highest down
pub data Walk {A : Type 0} (d : A) (f : ℕ → A → ℕ) (base : ℕ) : ℕ → (ℕ → List A) → (ℕ → List A) → Type 0 where
  done : {F : ℕ → List A} → Walk d f base 0 F F
  more : {p : ℕ} {F E G : ℕ → List A} → Move d base p (f p (get_or (F base) p d)) F E → Walk d f base p E G → Walk d f base (suc p) F G

module _ {A : Type 0} (d : A) (f : ℕ → A → ℕ) (base : ℕ) (e : ℕ → A) where
  -- x stood below p and goes to j
  pub record Went (p : ℕ) (x : A) (j : ℕ) : Type 0 where
    pub place : ℕ
    pub lt : place < p
    pub is : e place ≡ x
    pub to : f place (e place) ≡ j

  wider : {p : ℕ} {x : A} {j : ℕ} → Went p x j → Went (suc p) x j
  wider g = record { place = g.place; lt = (let l = g.lt in omega arith); is = g.is; to = g.to }

  -- base's list is what stood below p, then R
  abbrev Stood : ℕ → (ℕ → List A) → List A → Type 0
  Stood p F R = F base ≡ tabulate p e ++ R

  split-last : (p : ℕ) (F : ℕ → List A) (R : List A) → Stood (suc p) F R → F base ≡ tabulate p e ++ (e p ∷ R)
  unfolding tabulate
  split-last p F R q = q ∙ append_assoc (tabulate p e) (e p ∷ []) R

  at_last : (p : ℕ) (F : ℕ → List A) (R : List A) → Stood (suc p) F R → get_or (F base) p d ≡ e p
  at_last p F R q =
      ap (λ (l : List A). get_or l p d) (split-last p F R q) ∙ get_or_at (tabulate p e) (e p) R d p (length-tabulate p e)

  gone : (p : ℕ) (F : ℕ → List A) (R : List A) → Stood (suc p) F R → swap_remove d (F base) p ≡ tabulate p e ++ turned d R
  gone p F R q =
      ap (λ (l : List A). swap_remove d l p) (split-last p F R q)
      ∙ subst (λ (k : ℕ). swap_remove d (tabulate p e ++ (e p ∷ R)) k ≡ tabulate p e ++ turned d R) (length-tabulate p e) (swap_at d (tabulate p e) (e p) R)

  -- the two ways that one place can go: to f p (e p)
  module _ {p : ℕ} {F E : ℕ → List A} (R : List A) (q : Stood (suc p) F R) (m : Move d base p (f p (get_or (F base) p d)) F E) where
    goes : f p (get_or (F base) p d) ≡ f p (e p)
    goes = ap (f p) (at_last p F R q)

    stayed : f p (e p) ≡ base → Stood p E (e p ∷ R)
    stayed s = m.stay (goes ∙ s) base ∙ split-last p F R q

    left : f p (e p) ≢ base → Stood p E (turned d R)
    left s = m.from (λ o. s (sym goes ∙ o)) ∙ gone p F R q

    put : f p (e p) ≢ base → f p (e p) ≢ top → E (f p (e p)) ≡ F (f p (e p)) ++ (e p ∷ [])
    put s t =
        subst (λ (k : ℕ). E k ≡ F k ++ (e p ∷ [])) goes
        (subst (λ (x : A). E (f p (get_or (F base) p d)) ≡ F (f p (get_or (F base) p d)) ++ (x ∷ [])) (at_last p F R q)
        (m.into (λ o. s (sym goes ∙ o)) (λ o. t (sym goes ∙ o))))

    others : (j : ℕ) → j ≢ base → j ≢ f p (e p) → E j ≡ F j
    others j a b = m.rest j a (λ o. b (o ∙ goes))

  -- what base has afterwards was behind p, or stood below p and stays
  pub base-out : {p : ℕ} {F G : ℕ → List A} → Walk d f base p F G → (R : List A) → Stood p F R → {x : A} → In x (G base) → In x R ⊎ Went p x base
  unfolding tabulate
  base-out done R q {x} i = inl (subst (λ (l : List A). In x l) q i)
  base-out (more {p} m k) R q {x} i =
      either (f p (e p)) base
      (λ s. ⊎_elim (λ a. first s a) (λ b. inr (wider b)) (base-out k (e p ∷ R) (stayed R q m s) i))
      (λ s. ⊎_elim (λ a. inl (turned-in d R a)) (λ b. inr (wider b)) (base-out k (turned d R) (left R q m s) i))
    where
      first : f p (e p) ≡ base → In x (e p ∷ R) → In x R ⊎ Went (suc p) x base
      first s (here o) = inr (record { place = p; lt = omega arith; is = o; to = s })
      first s (there a) = inl a

  -- the highest place, or one below it
  narrow : {p : ℕ} {x : A} {j : ℕ} → Went (suc p) x j → ((e p ≡ x) × (f p (e p) ≡ j)) ⊎ Went p x j
  narrow {p} {x} {j} g =
      either g.place p
      (λ o. inl (sym (ap e o) ∙ g.is, subst (λ (k : ℕ). f k (e k) ≡ j) o g.to))
      (λ o. inr (record { place = g.place; lt = (let l = g.lt in omega arith); is = g.is; to = g.to }))

  pub base-in : {p : ℕ} {F G : ℕ → List A} → Walk d f base p F G → (R : List A) → Stood p F R → {x : A} → In x R ⊎ Went p x base → In x (G base)
  unfolding tabulate
  base-in done R q {x} (inl i) = subst (λ (l : List A). In x l) (sym q) i
  base-in done R q {x} (inr g) = absurd (let l = g.lt in omega arith)
  base-in (more {p} m k) R q {x} i =
      either (f p (e p)) base
      (λ s.
      base-in k (e p ∷ R) (stayed R q m s)
      (⊎_elim (λ a. inl (there a)) (λ g. ⊎_elim (λ o. inl (here o.0)) (λ o. inr o) (narrow g)) i))
      (λ s.
      base-in k (turned d R) (left R q m s)
      (⊎_elim (λ a. inl (in-turned d R a)) (λ g. ⊎_elim (λ o. absurd (s o.1)) (λ o. inr o) (narrow g)) i))

  -- another list: what it had, and what goes there
  module _ (j : ℕ) (jb : j ≢ base) (jt : j ≢ top) where
    pub other-out : {p : ℕ} {F G : ℕ → List A} → Walk d f base p F G → (R : List A) → Stood p F R → {x : A} → In x (G j) → In x (F j) ⊎ Went p x j
    unfolding tabulate
    other-out done R q i = inl i
    other-out (more {p} {F} {E} m k) R q {x} i =
        either (f p (e p)) base
        (λ s.
        ⊎_elim (λ a. inl (subst (λ (l : List A). In x l) (m.stay (goes R q m ∙ s) j) a)) (λ b. inr (wider b))
        (other-out k (e p ∷ R) (stayed R q m s) i))
        (λ s.
        ⊎_elim
        (λ a.
        either j (f p (e p))
        (λ o.
        ⊎_elim (λ b. inl b) (λ b. inr (record { place = p; lt = omega arith; is = in_one b; to = sym o }))
        (in-cases (F j) (subst (λ (l : List A). In x l) (into-j s o) a)))
        (λ o. inl (subst (λ (l : List A). In x l) (others R q m j jb o) a)))
        (λ b. inr (wider b))
        (other-out k (turned d R) (left R q m s) i))
      where
        into-j : f p (e p) ≢ base → j ≡ f p (e p) → E j ≡ F j ++ (e p ∷ [])
        into-j s o = subst (λ (k : ℕ). E k ≡ F k ++ (e p ∷ [])) (sym o) (put R q m s (λ t. jt (o ∙ t)))

    pub other-in : {p : ℕ} {F G : ℕ → List A} → Walk d f base p F G → (R : List A) → Stood p F R → {x : A} → In x (F j) ⊎ Went p x j → In x (G j)
    unfolding tabulate
    other-in done R q (inl i) = i
    other-in done R q (inr g) = absurd (let l = g.lt in omega arith)
    other-in (more {p} {F} {E} m k) R q {x} i =
        either (f p (e p)) base
        (λ s.
        other-in k (e p ∷ R) (stayed R q m s)
        (⊎_elim (λ a. inl (subst (λ (l : List A). In x l) (sym (m.stay (goes R q m ∙ s) j)) a))
        (λ g. ⊎_elim (λ o. absurd (jb (sym o.1 ∙ s))) (λ o. inr o) (narrow g))
        i))
        (λ s.
        other-in k (turned d R) (left R q m s)
        (either j (f p (e p))
        (λ o.
        ⊎_elim (λ a. inl (subst (λ (l : List A). In x l) (sym (into-j s o)) (in_left _ a)))
        (λ g.
        ⊎_elim (λ v. inl (subst (λ (l : List A). In x l) (sym (into-j s o)) (in_right (F j) (here v.0)))) (λ v. inr v) (narrow g))
        i)
        (λ o.
        ⊎_elim (λ a. inl (subst (λ (l : List A). In x l) (sym (others R q m j jb o)) a))
        (λ g. ⊎_elim (λ v. absurd (o (sym v.1))) (λ v. inr v) (narrow g))
        i)))
      where
        into-j : f p (e p) ≢ base → j ≡ f p (e p) → E j ≡ F j ++ (e p ∷ [])
        into-j s o = subst (λ (k : ℕ). E k ≡ F k ++ (e p ∷ [])) (sym o) (put R q m s (λ t. jt (o ∙ t)))

    -- where nothing goes, nothing changes
    pub other-same : {p : ℕ} {F G : ℕ → List A} → Walk d f base p F G → (R : List A) → Stood p F R → ((q : ℕ) → q < p → f q (e q) ≢ j) → G j ≡ F j
    unfolding tabulate
    other-same done R q h = refl
    other-same (more {p} m k) R q h =
        either (f p (e p)) base
        (λ s. other-same k (e p ∷ R) (stayed R q m s) (λ o l. h o (omega arith)) ∙ m.stay (goes R q m ∙ s) j)
        (λ s. other-same k (turned d R) (left R q m s) (λ o l. h o (omega arith)) ∙ others R q m j jb (λ o. h p (omega arith) (sym o)))

-- a list is what stands in it
pub stood : {A : Type 0} (d : A) (xs : List A) → xs ≡ tabulate (length xs) (λ p. get_or xs p d) ++ []
stood d xs =
    ext_get_or d xs (tabulate (length xs) (λ p. get_or xs p d)) (sym (length-tabulate (length xs) (λ p. get_or xs p d)))
    (λ p l. sym (get_d_tabulate (length xs) (λ p. get_or xs p d) d p l))
    ∙ sym (append-nil (tabulate (length xs) (λ p. get_or xs p d)))

-- a walk where an element alone, and not its place, says where it goes
module _ {A : Type 0} (d : A) (f : A → ℕ) (base : ℕ) (xs : List A) {F G : ℕ → List A} (W : Walk d (λ q x. f x) base (length xs) F G) (s : F base ≡ xs) where
  abbrev e : ℕ → A
  e q = get_or xs q d

  began : F base ≡ tabulate (length xs) (λ q. get_or xs q d) ++ []
  began = s ∙ stood d xs

  went : {c : A} {j : ℕ} → Went d (λ q x. f x) base e (length xs) c j → In c xs × (f c ≡ j)
  went {c} {j} g =
      (subst (λ (x : A). In x xs) g.is (in-at d xs g.place g.lt), subst (λ (x : A). f x ≡ j) g.is g.to)

  goes_to : {c : A} (j : ℕ) → In c xs → f c ≡ j → Went d (λ q x. f x) base e (length xs) c j
  goes_to {c} j m q = let r = at_in d m in record { place = r.place; lt = r.lt; is = r.is; to = ap f r.is ∙ q }

  pub walked-out : (j : ℕ) → j ≢ top → {c : A} → In c (G j) → ((j ≢ base) × In c (F j)) ⊎ (In c xs × (f c ≡ j))
  walked-out j jt {c} m =
      either j base
      (λ q.
      ⊎_elim (λ a. absurd (none_in a)) (λ g. inr (let r = went g in (r.0, r.1 ∙ sym q)))
      (base-out d (λ q x. f x) base e W [] began (subst (λ (x : ℕ). In c (G x)) q m)))
      (λ o. ⊎_elim (λ a. inl (o, a)) (λ g. inr (went g)) (other-out d (λ q x. f x) base e j o jt W [] began m))

  pub walked-keep : (j : ℕ) → j ≢ top → j ≢ base → {c : A} → In c (F j) → In c (G j)
  walked-keep j jt o m = other-in d (λ q x. f x) base e j o jt W [] began (inl m)

  pub walked-move : (j : ℕ) → j ≢ top → {c : A} → In c xs → f c ≡ j → In c (G j)
  walked-move j jt {c} m q =
      either j base (λ p. subst (λ (x : ℕ). In c (G x)) (sym p) (base-in d (λ q x. f x) base e W [] began (inr (goes_to base m (q ∙ p)))))
      (λ o. other-in d (λ q x. f x) base e j o jt W [] began (inr (goes_to j m q)))

  pub walked_same : (j : ℕ) → j ≢ top → j ≢ base → ((c : A) → In c xs → f c ≢ j) → G j ≡ F j
  walked_same j jt o h = other-same d (λ q x. f x) base e j o jt W [] began (λ q l. h (get_or xs q d) (in-at d xs q l))
