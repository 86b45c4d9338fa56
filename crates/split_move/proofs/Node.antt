-- The place of a body among the bodies of an island, in the words of the tables.
use mathlib.Core.Path.{◌≡◌, sym, ◌∙◌, ap, subst}
use mathlib.Core.Logic.{◌≢◌}
use mathlib.Core.Bool.{true, false}
use mathlib.Core.List.{List}
use Prim.Native.Nat.{ℕ, ◌+◌, ◌*◌, ◌≤◌, ◌<◌}
use native.Mathlib.Omega.{arith}
use lib.ListN.{get_or}
use borrow.Author.Tests.{eq-eqb, ne_eqb, lt-ltb, le-ltb}
use Rattle.list_in_table.specs.Rules.{list_of}
use Rattle.list_in_table.specs.Table.{view}
use Rattle.list_in_table.proofs.Laws.{either}
use Rattle.list_in_table.proofs.Same.{below}
use Rattle.def_kinds.specs.declared.Sizes.{Sizes}
use Rattle.def_state.specs.Plain.{top}
use Rattle.def_state.specs.World.{Handle, Island, World, island_at, named, body_island}
use Rattle.def_state.specs.Split.{node_of}
use Rattle.table_meaning.specs.Layout.{Tables, tables, Extents, extents, members_in}
use Rattle.table_meaning.specs.Decode.{world_of, decode}
use Rattle.table_meaning.specs.Sound.{Sound}
use Rattle.core_laws.specs.Steps.{handle}
use Rattle.core_laws.specs.Loose.{BodiesStay}
use Rattle.core_laws.proofs.Names.{island-at, named-absent, named-far, named-at, island-of, place-of}
use Rattle.split_move.specs.Shift.{node_at}

-- the words of an element
pub home-word : (x : List ℕ) (z e : ℕ) → get_or x (4 * e) 0 ≡ (view x 0 z).home e
home-word x z e = let q : 4 * e ≡ 0 + 4 * e = omega arith in ap (λ (k : ℕ). get_or x k 0) q

pub place-word : (x : List ℕ) (z e : ℕ) → get_or x (4 * e + 1) 0 ≡ (view x 0 z).place e
place-word x z e = let q : 4 * e + 1 ≡ 0 + 4 * e + 1 = omega arith in ap (λ (k : ℕ). get_or x k 0) q

pub prev-word : (x : List ℕ) (z e : ℕ) → get_or x (4 * e + 2) 0 ≡ (view x 0 z).prev e
prev-word x z e = let q : 4 * e + 2 ≡ 0 + 4 * e + 2 = omega arith in ap (λ (k : ℕ). get_or x k 0) q

module _ (Z : Sizes) (T : Tables) (i s g : ℕ) where
  pub node-far : (extents T).slots ≤ s → top ≡ node_at Z T i (handle s g)
  unfolding node_at
  node-far h = rw (le-ltb s (extents T).slots h)

  module _ (l : s < (extents T).slots) where
    pub node-absent : g ≡ top → top ≡ node_at Z T i (handle s g)
    unfolding node_at
    node-absent e = rw (lt-ltb s (extents T).slots l, eq-eqb g top e)

    module _ (d : g ≢ top) where
      pub node-stale : get_or T.slots (5 * s) 0 ≢ g → top ≡ node_at Z T i (handle s g)
      unfolding node_at
      node-stale e = rw (lt-ltb s (extents T).slots l, ne_eqb g top d, ne_eqb (get_or T.slots (5 * s) 0) g e)

      pub node-else : get_or T.slots (5 * s) 0 ≡ g → (members_in Z T).home s ≢ i → top ≡ node_at Z T i (handle s g)
      unfolding node_at
      node-else e h = rw (lt-ltb s (extents T).slots l, ne_eqb g top d, eq-eqb (get_or T.slots (5 * s) 0) g e, ne_eqb ((members_in Z T).home s) i h)

      pub node-here : get_or T.slots (5 * s) 0 ≡ g → (members_in Z T).home s ≡ i → (members_in Z T).place s ≡ node_at Z T i (handle s g)
      unfolding node_at
      node-here e h = rw (lt-ltb s (extents T).slots l, ne_eqb g top d, eq-eqb (get_or T.slots (5 * s) 0) g e, eq-eqb ((members_in Z T).home s) i h)

-- the five cases
pub node-cases : (Z : Sizes) (T : Tables) (i : ℕ) (h : Handle) (P : ℕ → Type 0)
    → P top → (h.slot < (extents T).slots → h.generation ≢ top → get_or T.slots (5 * h.slot) 0 ≡ h.generation → (members_in Z T).home h.slot ≡ i → P ((members_in Z T).place h.slot))
    → P (node_at Z T i h)
node-cases Z T i h P p q =
    let s = h.slot in
    let g = h.generation in
    below s (extents T).slots
    (λ l.
    either g top (λ e. subst P (node-absent Z T i s g l e) p)
    (λ d.
    either (get_or T.slots (5 * s) 0) g
    (λ e. either ((members_in Z T).home s) i (λ m. subst P (node-here Z T i s g l d e m) (q l d e m)) (λ m. subst P (node-else Z T i s g l d e m) p))
    (λ e. subst P (node-stale Z T i s g l d e) p)))
    (λ l. subst P (node-far Z T i s g l) p)

-- in the state
module _ {Z : Sizes} {t : List ℕ} (S : Sound Z t) (i : ℕ) (il : i < (extents (tables Z t)).islands) (h : Handle) where
  abbrev T : Tables
  T = tables Z t

  abbrev X : Extents
  X = extents (tables Z t)

  abbrev w : World
  w = decode Z (extents (tables Z t)) (tables Z t)

  not_top : i ≢ top
  not_top e = let m = S.good.members_wf.rules.m_small in omega arith

  unnamed : named w h ≡ false → node_of w i h ≡ top
  unfolding node_of body_island
  unnamed e = rw (e, ne_eqb top i (λ q. not_top (sym q)))

  module _ (l : h.slot < X.slots) (e : named w h ≡ true) where
    elsewhere : (members_in Z T).home h.slot ≢ i → node_of w i h ≡ top
    unfolding node_of body_island
    elsewhere d = rw (e, island-of Z X T S.good h.slot l, ne_eqb ((members_in Z T).home h.slot) i d)

    here : (members_in Z T).home h.slot ≡ i → node_of w i h ≡ (members_in Z T).place h.slot
    unfolding node_of body_island
    here q =
        let hl : (members_in Z T).home h.slot < X.islands = omega arith in
        let p = place-of Z X T S.good h.slot l hl in
        let b : (island_at w i).bodies ≡ list_of (members_in Z T) i = ap (λ (a : Island). a.bodies) (island-at Z X T i il) in
        rw (e, island-of Z X T S.good h.slot l, eq-eqb ((members_in Z T).home h.slot) i q, b) (rw q at p)

  node-same : node_of w i h ≡ node_at Z T i h
  node-same =
      let s = h.slot in
      let g = h.generation in
      below s X.slots
      (λ l.
      either g top (λ e. unnamed (named-absent Z X T h e) ∙ node-absent Z T i s g l e)
      (λ d.
      either (get_or T.slots (5 * s) 0) g
      (λ e.
      let n : named w h ≡ true = named-at Z X T h l d ∙ eq-eqb _ _ e in
      either ((members_in Z T).home s) i (λ m. here l n m ∙ node-here Z T i s g l d e m) (λ m. elsewhere l n m ∙ node-else Z T i s g l d e m))
      (λ e. unnamed (named-at Z X T h l d ∙ ne_eqb _ _ e) ∙ node-stale Z T i s g l d e)))
      (λ l. unnamed (named-far Z X T h l) ∙ node-far Z T i s g l)

  pub node-is : node_of (world_of Z t) i h ≡ node_at Z (tables Z t) i h
  unfolding world_of
  node-is = node-same

-- where the bodies stay, the places stay
pub node_stays : (Z : Sizes) (T U : Tables) (i : ℕ) (h : Handle) → BodiesStay Z T U → node_at Z U i h ≡ node_at Z T i h
node_stays Z T U i h B =
    let s = h.slot in
    let g = h.generation in
    let n = B.slots_in_use in
    let v : get_or U.slots (5 * s) 0 ≡ get_or T.slots (5 * s) 0 = ap (λ (x : List ℕ). get_or x (5 * s) 0) B.slots in
    below s (extents T).slots
    (λ l.
    let m = B.home s l in
    let l' : s < (extents U).slots = omega arith in
    either g top (λ e. sym (node-absent Z U i s g l' e) ∙ node-absent Z T i s g l e)
    (λ d.
    either (get_or T.slots (5 * s) 0) g
    (λ e.
    either ((members_in Z T).home s) i (λ q. sym (node-here Z U i s g l' d (v ∙ e) (m ∙ q)) ∙ B.place s l ∙ node-here Z T i s g l d e q)
    (λ q. sym (node-else Z U i s g l' d (v ∙ e) (λ x. q (sym m ∙ x))) ∙ node-else Z T i s g l d e q))
    (λ e. sym (node-stale Z U i s g l' d (λ x. e (sym v ∙ x))) ∙ node-stale Z T i s g l d e)))
    (λ l. sym (node-far Z U i s g (omega arith)) ∙ node-far Z T i s g l)
