-- What a handle names and which island a body is in, in the words of the tables.
use mathlib.Core.Path.{◌≡◌, refl, sym, ◌∙◌, ap}
use mathlib.Core.Logic.{◌≢◌, ⊎_elim}
use mathlib.Core.Bool.{true, false, false≢true}
use mathlib.Core.List.{List, [], ◌∷◌}
use Prim.Native.Nat.{ℕ, zero, suc, ◌+◌, ◌*◌, ◌≤◌, ◌<◌}
use native.Mathlib.Omega.{arith}
use lib.Dec.{eqb}
use borrow.Author.Tests.{eq-eqb, ne_eqb, eqb-true}
use lib.ListN.{length, get_or}
use Rattle.list_in_table.specs.Rules.{none, View, Rules, Held, list_of}
use Rattle.list_in_table.proofs.Laws.{either, held, held_in}
use Rattle.list_in_table.proofs.Same.{below}
use Rattle.list_in_table.proofs.Order.{length-list, list_at, list-of}
use Rattle.def_kinds.specs.declared.Sizes.{Sizes}
use Rattle.def_state.specs.Plain.{top, has, place_of}
use Rattle.def_state.specs.World.{Handle, absent_body, Island, absent_island, World, body_of, island_at, named, island_below, island_of}
use Rattle.table_meaning.specs.Layout.{Tables, tables, Extents, extents, members_in}
use Rattle.table_meaning.specs.Decode.{body_at, island_in, decode, world_of}
use Rattle.table_meaning.specs.Rule.{Filled}
use Rattle.table_meaning.specs.Sound.{Good, Sound}
use Rattle.table_meaning.proofs.Tab.{length-tabulate, get_d_tabulate, get_d_beyond}
use Rattle.core_laws.specs.Steps.{handle}

pub has-yes : (xs : List ℕ) (e p : ℕ) → p < length xs → get_or xs p 0 ≡ e → has xs e ≡ true
unfolding has
has-yes [] e p h q = absurd (omega arith)
has-yes (x ∷ xs) e zero h q = rw (eq-eqb x e q)
has-yes (x ∷ xs) e (suc p) h q = either x e (λ s. rw (eq-eqb x e s)) (λ d. rw (ne_eqb x e d) (has-yes xs e p (omega arith) q))

pub has_no : (xs : List ℕ) (e : ℕ) → ((p : ℕ) → p < length xs → get_or xs p 0 ≢ e) → has xs e ≡ false
unfolding has
has_no [] e h = refl
has_no (x ∷ xs) e h = rw (ne_eqb x e (h 0 (omega arith))) (has_no xs e (λ p l. h (suc p) (omega arith)))

pub place_is : (xs : List ℕ) (e p : ℕ) → p < length xs → get_or xs p 0 ≡ e → ((q : ℕ) → q < p → get_or xs q 0 ≢ e) → place_of xs e ≡ p
unfolding place_of
place_is [] e p h q o = absurd (omega arith)
place_is (x ∷ xs) e zero h q o = rw (eq-eqb x e q)
place_is (x ∷ xs) e (suc p) h q o = rw (ne_eqb x e (o 0 (omega arith)), place_is xs e p (omega arith) q (λ k l. o (suc k) (omega arith)))

-- ---- which list of a chain table has an element, and at which place: the home and the place that its words name
module _ {n m : ℕ} {S : View} (R : Rules n m S) where
  pub listed-no : (i e : ℕ) → i < m → (e < n → S.home e ≢ i) → has (list_of S i) e ≡ false
  listed-no i e l d =
      has_no (list_of S i) e
      (λ p pl q.
      let A = list_at R i l p (rw (length-list R i l) at pl) in
      let a = A.lt in
      d (omega arith) (ap S.home (sym q) ∙ A.home_is))

  module _ (e : ℕ) (el : e < n) (il : S.home e < m) where
    H : Held n m S e
    H = held_in R e (S.home e) el il refl

    pub listed_lt : S.place e < length (list_of S (S.home e))
    listed_lt = let p = H.place_lt in let l = length-list R (S.home e) il in omega arith

    pub listed-yes : has (list_of S (S.home e)) e ≡ true
    listed-yes = has-yes (list_of S (S.home e)) e (S.place e) listed_lt (list-of R (S.home e) il e el refl)

    pub listed_place : place_of (list_of S (S.home e)) e ≡ S.place e
    listed_place =
        let l = length-list R (S.home e) il in
        let p = listed_lt in
        place_is (list_of S (S.home e)) e (S.place e) listed_lt (list-of R (S.home e) il e el refl)
        (λ q ql x. (let a : S.place e ≡ q = ap S.place (sym x) ∙ (list_at R (S.home e) il q (omega arith)).place_is in omega arith))

-- ---- the island of a body
below-no : (is : List Island) (e k : ℕ) → ((i : ℕ) → i < k → has (get_or is i absent_island).bodies e ≡ false) → island_below is e k ≡ top
unfolding island_below
below-no is e zero h = refl
below-no is e (suc k) h = rw (h k (omega arith)) (below-no is e k (λ i l. h i (omega arith)))

below-yes : (is : List Island) (e i k : ℕ) → i < k → has (get_or is i absent_island).bodies e ≡ true → ((j : ℕ) → j < k → j ≢ i → has (get_or is j absent_island).bodies e ≡ false)
    → island_below is e k ≡ i
unfolding island_below
below-yes is e i zero l y h = absurd (omega arith)
below-yes is e i (suc k) l y h =
    either k i (λ s. let y' : has (get_or is k absent_island).bodies e ≡ true = rw s y in rw y' s)
    (λ d. rw (h k (omega arith) d) (below-yes is e i k (omega arith) y (λ j jl o. h j (omega arith) o)))

module _ (Z : Sizes) (X : Extents) (T : Tables) where
  abbrev w : World
  w = decode Z X T

  abbrev S : View
  S = members_in Z T

  pub island-at : (i : ℕ) → i < X.islands → island_at w i ≡ island_in Z T i
  island-at i l = get_d_tabulate X.islands (island_in Z T) absent_island i l

  pub body-of : (s : ℕ) → s < X.slots → body_of w s ≡ body_at T.slots s
  body-of s l = get_d_tabulate X.slots (body_at T.slots) absent_body s l

  pub body-far : (s : ℕ) → X.slots ≤ s → body_of w s ≡ absent_body
  body-far s l = get_d_beyond w.bodies absent_body s (rw (length-tabulate X.slots (body_at T.slots)) l)

  pub named-absent : (h : Handle) → h.generation ≡ none → named w h ≡ false
  unfolding named
  named-absent h e = rw (eq-eqb h.generation none e)

  pub named-far : (h : Handle) → X.slots ≤ h.slot → named w h ≡ false
  unfolding named
  named-far h l =
      either h.generation none (λ e. rw (eq-eqb h.generation none e))
      (λ d. rw (ne_eqb h.generation none d, body-far h.slot l) (ne_eqb none h.generation (λ e. d (sym e))))

  pub named-at : (h : Handle) → h.slot < X.slots → h.generation ≢ none → named w h ≡ eqb (get_or T.slots (5 * h.slot) 0) h.generation
  unfolding named
  named-at h l d = rw (ne_eqb h.generation none d, body-of h.slot l)

  -- what it is that a handle names a live body
  pub record Named (h : Handle) : Type 0 where
    pub slot_lt : h.slot < X.slots
    pub not_absent : h.generation ≢ none
    pub generation_is : get_or T.slots (5 * h.slot) 0 ≡ h.generation

  pub is-named : (h : Handle) → named w h ≡ true → Named h
  is-named h e =
      below h.slot X.slots
      (λ l.
      either h.generation none (λ q. absurd (false≢true (sym (named-absent h q) ∙ e)))
      (λ d. record { slot_lt = l; not_absent = d; generation_is = eqb-true _ _ (sym (named-at h l d) ∙ e) }))
      (λ l. absurd (false≢true (sym (named-far h l) ∙ e)))

  module _ (G : Good Z X T) where
    R : Rules X.slots X.islands S
    R = G.members_wf.rules

    -- a named body's slot is filled
    pub named-filled : (h : Handle) → Named h
        → Filled (get_or T.slots (5 * h.slot) 0) (get_or T.slots (5 * h.slot + 2) 0) (get_or T.slots (5 * h.slot + 3) 0) (get_or T.slots (5 * h.slot + 4) 0)
    named-filled h N =
        ⊎_elim (λ v. absurd (let a = v.no_generation in let b = N.generation_is in let c = N.not_absent in omega arith)) (λ f. f) (G.slot h.slot N.slot_lt)

    not_in : (s i : ℕ) → i < X.islands → (s < X.slots → S.home s ≢ i) → has (island_at w i).bodies s ≡ false
    not_in s i l d = rw (island-at i l) (listed-no R i s l d)

    -- the island that lists a body is the home that its words name
    pub island-of : (s : ℕ) → s < X.slots → island_of w s ≡ S.home s
    unfolding island_of
    island-of s sl =
        rw (length-tabulate X.islands (island_in Z T))
        (either (S.home s) none
        (λ q. below-no w.islands s X.islands (λ i l. not_in s i l (λ h e. (let o = R.m_small in omega arith))) ∙ sym q)
        (λ d.
        let il = (held R s sl d).home_lt in
        below-yes w.islands s (S.home s) X.islands il (rw (island-at (S.home s) il) (listed-yes R s sl il)) (λ j jl o. not_in s j jl (λ h e. o (sym e)))))

    -- the place at which the list has it
    pub place-of : (s : ℕ) → s < X.slots → S.home s < X.islands → place_of (list_of S (S.home s)) s ≡ S.place s
    place-of s sl il = listed_place R s sl il

-- the same of a buffer
module _ (Z : Sizes) (t : List ℕ) (s g : ℕ) where
  pub absent-named : g ≡ none → false ≡ named (world_of Z t) (handle s g)
  unfolding world_of
  absent-named e = sym (named-absent Z (extents (tables Z t)) (tables Z t) (handle s g) e)

  pub far-named : (extents (tables Z t)).slots ≤ s → false ≡ named (world_of Z t) (handle s g)
  unfolding world_of
  far-named l = sym (named-far Z (extents (tables Z t)) (tables Z t) (handle s g) l)

  pub word-named : s < (extents (tables Z t)).slots → g ≢ none → eqb (get_or (tables Z t).slots (5 * s) 0) g ≡ named (world_of Z t) (handle s g)
  unfolding world_of
  word-named l d = sym (named-at Z (extents (tables Z t)) (tables Z t) (handle s g) l d)

  pub named_is : named (world_of Z t) (handle s g) ≡ true → Named Z (extents (tables Z t)) (tables Z t) (handle s g)
  unfolding world_of
  named_is e = is-named Z (extents (tables Z t)) (tables Z t) (handle s g) e

  pub home_is : Sound Z t → s < (extents (tables Z t)).slots → island_of (world_of Z t) s ≡ (members_in Z (tables Z t)).home s
  unfolding world_of
  home_is S l = island-of Z (extents (tables Z t)) (tables Z t) S.good s l

  -- there is room for the slot that a handle names
  pub room-named : Sound Z t → named (world_of Z t) (handle s g) ≡ true → s < Z.slots
  room-named S e = let n = (named_is e).slot_lt in let m = S.good.slots_le in omega arith
