-- A number is left for a component: each number that is not free has a body of its own.
use mathlib.Core.Path.{◌≡◌, refl, sym, ◌∙◌, ap}
use mathlib.Core.Logic.{◌⊎◌, inl, inr, ◌≢◌, ⊎_elim}
use mathlib.Core.Bool.{Bool, true, false, ◌||◌, false≢true}
use mathlib.Core.List.{List, [], ◌∷◌}
use Prim.Native.Nat.{ℕ, zero, suc, ◌+◌, ◌≤◌, ◌<◌}
use native.Mathlib.Omega.{arith}
use lib.ListN.{length, get_or, take}
use lib.Seq.{get_or-take}
use lib.Dec.{eqb}
use borrow.Author.Tests.{eq-eqb, ne_eqb}
use Rattle.list_in_table.specs.Rules.{none, View, Rules, Full, list_of}
use Rattle.def_kinds.specs.Choice.{pick}
use Rattle.list_in_table.proofs.Laws.{either, full, held_in}
use Rattle.list_in_table.proofs.Order.{At, list_at}
use Rattle.list_in_table.proofs.Pigeon.{pigeon}
use Rattle.def_kinds.specs.declared.Sizes.{Sizes}
use Rattle.def_state.specs.Plain.{has, place_of}
use Rattle.table_meaning.specs.Layout.{Tables, Extents, members_in, freed_in}
use Rattle.core_laws.specs.Loose.{OpenAt, Loose}
use Rattle.core_laws.proofs.Names.{has-yes}

-- what is in a list has a place there
pub place_in : (xs : List ℕ) (i : ℕ) → has xs i ≡ true → (place_of xs i < length xs) × (get_or xs (place_of xs i) 0 ≡ i)
unfolding has place_of
place_in [] i h = absurd (false≢true h)
place_in (x ∷ xs) i h =
    either x i (λ e. rw (eq-eqb x i e) (omega arith, e))
    (λ d.
    let r = place_in xs i (rw (ne_eqb x i d) at h) in
    rw (ne_eqb x i d) ((let a = r.0 in omega arith), r.1))

pub two-bools : (b : Bool) → (b ≡ true) ⊎ (b ≡ false)
two-bools true = inl refl
two-bools false = inr refl

take_long : (p : ℕ) (xs : List ℕ) → length (take p xs) ≤ p
take_long zero xs = omega arith
take_long (suc p) [] = omega arith
take_long (suc p) (x ∷ xs) = let h = take_long p xs in omega arith

take-full : (p : ℕ) (xs : List ℕ) → p ≤ length xs → length (take p xs) ≡ p
take-full zero xs h = refl
take-full (suc p) [] h = absurd (omega arith)
take-full (suc p) (x ∷ xs) h = ap suc (take-full p xs (omega arith))

-- no number is free, and the place p leads a component that has none yet
module _ (Z : Sizes) (X : Extents) (T : Tables) (G : Loose Z X T) (base keep p : ℕ) (goals : List ℕ) (none_free : (freed_in Z T).count 0 ≡ 0) (bl : base < X.islands)
    (pl : p < (members_in Z T).count base) (kl : keep < (members_in Z T).count base) (pk : p ≢ keep) (gl : p ≤ length goals) (gk : keep < p → get_or goals keep 0 ≡ base)
    (gets : (i : ℕ) → i < X.islands → (freed_in Z T).home i ≡ none → (members_in Z T).count i ≡ 0 → has (take p goals) i ≡ true) where
  abbrev B : View
  B = members_in Z T

  abbrev R : Rules X.slots X.islands (members_in Z T)
  R = G.members_wf.rules

  abbrev m : ℕ
  m = X.islands

  abbrev xs : List ℕ
  xs = take p goals

  abbrev slot_at : ℕ → ℕ
  slot_at q = get_or (list_of B base) q 0

  -- the place of the body that stands for the number i: the new one's, base's, or that of a number just taken
  abbrev spot : ℕ → ℕ
  spot i = pick (eqb i m) p (pick (eqb i base) keep (place_of xs i))

  abbrev in_base : ℕ → Bool
  in_base i = eqb i m || (eqb i base || has xs i)

  abbrev f : ℕ → ℕ
  f i = pick (in_base i) (slot_at (spot i)) (B.last i)

  -- the number that a spot stands for
  abbrev back : ℕ → ℕ
  back q = pick (eqb q p) m (pick (eqb q keep) base (get_or goals q 0))

  open-all : (i : ℕ) → i < m → (freed_in Z T).home i ≡ none
  open-all i l =
      ⊎_elim (λ (x : OpenAt Z T i). x.not_freed)
      (λ x.
      absurd
      (let h = (held_in G.freed_wf.rules i 0 l (omega arith) x.in_stack).place_lt in
      let e : (freed_in Z T).count ((freed_in Z T).home i) ≡ (freed_in Z T).count 0 = ap (freed_in Z T).count x.in_stack in
      omega arith))
      (G.island i l)

  -- ---- a number that has its spot in base
  module _ (i : ℕ) (y : in_base i ≡ true) where
    spot_is : (spot i < B.count base) × (back (spot i) ≡ i)
    spot_is =
        either i m
        (λ e. rw (eq-eqb i m e) (pl, rw (eq-eqb p p refl) (sym e)))
        (λ d.
        either i base
        (λ e. rw (ne_eqb i m d, eq-eqb i base e) (kl, rw (ne_eqb keep p (λ q. pk (sym q)), eq-eqb keep keep refl) (sym e)))
        (λ d2.
        let h : has xs i ≡ true = rw (ne_eqb i m d, ne_eqb i base d2) at y in
        let r = place_in xs i h in
        let l = take_long p goals in
        let q = place_of xs i in
        let ql : q < p = (let a = r.0 in omega arith) in
        let g : get_or goals q 0 ≡ i = sym (get_or-take p goals q 0 ql) ∙ r.1 in
        rw (ne_eqb i m d, ne_eqb i base d2)
        (omega arith, either q keep (λ e. rw (ne_eqb q p (omega arith), eq-eqb q keep e) (sym (gk (omega arith)) ∙ ap (λ (k : ℕ). get_or goals k 0) (sym e) ∙ g)) (λ e. rw (ne_eqb q p (omega arith), ne_eqb q keep e) g))))

    at-spot : At X.slots B base (spot i) (f i)
    at-spot = rw y (list_at R base bl (spot i) spot_is.0)

  -- ---- one that has not is live
  module _ (i : ℕ) (il : i < m + 1) (y : in_base i ≡ false) where
    not_new : i ≢ m
    not_new e = false≢true (sym y ∙ rw (eq-eqb i m e))

    not-base : i ≢ base
    not-base e = false≢true (sym y ∙ rw (ne_eqb i m not_new, eq-eqb i base e))

    not_taken : has xs i ≡ false
    not_taken = rw (ne_eqb i m not_new, ne_eqb i base not-base) at y

    lives : B.count i ≢ 0
    lives z = false≢true (sym not_taken ∙ gets i (let d = not_new in omega arith) (open-all i (let d = not_new in omega arith)) z)

    last-of : Full X.slots m B i
    last-of = full R i (let d = not_new in omega arith) lives

    at_last : (f i < X.slots) × (B.home (f i) ≡ i)
    at_last = rw y (last-of.last_lt, last-of.last_home)

  within : (i : ℕ) → i < m + 1 → f i < X.slots
  within i l = ⊎_elim (λ y. (at-spot i y).lt) (λ y. (at_last i l y).0) (two-bools (in_base i))

  differ : (i j : ℕ) → i < m + 1 → j < m + 1 → f i ≡ f j → i ≡ j
  differ i j il jl e =
      ⊎_elim
      (λ (y : in_base i ≡ true).
      ⊎_elim
      (λ (x : in_base j ≡ true).
      let q : spot i ≡ spot j = sym (at-spot i y).place_is ∙ ap B.place e ∙ (at-spot j x).place_is in
      sym (spot_is i y).1 ∙ ap back q ∙ (spot_is j x).1)
      (λ (x : in_base j ≡ false). absurd (not-base j jl x (sym (at_last j jl x).1 ∙ ap B.home (sym e) ∙ (at-spot i y).home_is)))
      (two-bools (in_base j)))
      (λ (y : in_base i ≡ false).
      ⊎_elim
      (λ (x : in_base j ≡ true). absurd (not-base i il y (sym (at_last i il y).1 ∙ ap B.home e ∙ (at-spot j x).home_is)))
      (λ (x : in_base j ≡ false). sym (at_last i il y).1 ∙ ap B.home e ∙ (at_last j jl x).1)
      (two-bools (in_base j)))
      (two-bools (in_base i))

  pub room : (m < Z.islands) × (m < none)
  room =
      let r = pigeon X.slots (m + 1) f within differ in
      let a = G.slots_le in
      let b = G.enough in
      let c = R.n_small in
      (omega arith, omega arith)

pub taken-has : (p i q : ℕ) (goals : List ℕ) → p ≤ length goals → q < p → get_or goals q 0 ≡ i → has (take p goals) i ≡ true
taken-has p i q goals h l e = has-yes (take p goals) i q (let a = take-full p goals h in omega arith) (get_or-take p goals q 0 l ∙ e)
