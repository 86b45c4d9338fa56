-- Where an edge is linked, and its link, in the words of the tables.
use mathlib.Core.Path.{◌≡◌, refl, sym, ◌∙◌, ap}
use mathlib.Core.Logic.{◌≢◌}
use mathlib.Core.Bool.{true, false}
use mathlib.Core.List.{List, [], ◌∷◌, map}
use Prim.Native.Nat.{ℕ, zero, suc, ◌≤◌, ◌<◌}
use native.Mathlib.Omega.{arith}
use lib.ListN.{length, get_or}
use Rattle.list_in_table.specs.Rules.{none, View, Rules, list_of}
use Rattle.list_in_table.proofs.Laws.{either, held}
use Rattle.list_in_table.proofs.Order.{list-of}
use Rattle.def_kinds.specs.declared.Sizes.{Sizes}
use Rattle.def_state.specs.Plain.{top, has, place_of}
use Rattle.def_state.specs.World.{ContactLink, absent_contact, Island, absent_island, World, island_at}
use Rattle.def_state.specs.Links.{edges_of, contact_below, contact_home}
use Rattle.table_meaning.specs.Layout.{Tables, tables, Extents, extents, contacts_in}
use Rattle.table_meaning.specs.Decode.{contact_at, island_in, decode, world_of}
use Rattle.table_meaning.specs.Sound.{Sound}
use Rattle.table_meaning.proofs.Tab.{length-tabulate}
use Rattle.core_laws.specs.Loose.{Loose}
use Rattle.core_laws.proofs.Loose.{good-loose}
use Rattle.core_laws.proofs.Names.{listed-no, listed-yes, listed_place, listed_lt, island-at}

below-no : (is : List Island) (e k : ℕ) → ((i : ℕ) → i < k → has (edges_of (get_or is i absent_island)) e ≡ false) → contact_below is e k ≡ top
unfolding contact_below
below-no is e zero h = refl
below-no is e (suc k) h = rw (h k (omega arith)) (below-no is e k (λ i l. h i (omega arith)))

below-yes : (is : List Island) (e i k : ℕ) → i < k → has (edges_of (get_or is i absent_island)) e ≡ true → ((j : ℕ) → j < k → j ≢ i → has (edges_of (get_or is j absent_island)) e ≡ false)
    → contact_below is e k ≡ i
unfolding contact_below
below-yes is e i zero l y h = absurd (omega arith)
below-yes is e i (suc k) l y h =
    either k i (λ s. let y' : has (edges_of (get_or is k absent_island)) e ≡ true = rw s y in rw y' s)
    (λ d. rw (h k (omega arith) d) (below-yes is e i k (omega arith) y (λ j jl o. h j (omega arith) o)))

-- the values of a list's numbers: their own numbers, and the one at a place
numbers : (x es : List ℕ) → map (λ (l : ContactLink). l.edge_id) (map (contact_at x) es) ≡ es
numbers x [] = refl
numbers x (e ∷ es) = ap (λ (ys : List ℕ). e ∷ ys) (numbers x es)

pub value-at : {A : Type 0} (f : ℕ → A) (d : A) (xs : List ℕ) (p : ℕ) → p < length xs → get_or (map f xs) p d ≡ f (get_or xs p 0)
value-at f d [] p h = absurd (omega arith)
value-at f d (x ∷ xs) zero h = refl
value-at f d (x ∷ xs) (suc p) h = value-at f d xs p (omega arith)

module _ (Z : Sizes) (X : Extents) (T : Tables) (G : Loose Z X T) where
  abbrev w : World
  w = decode Z X T

  abbrev S : View
  S = contacts_in Z T

  R : Rules X.edges X.islands S
  R = G.contacts_wf.rules

  edges-in : (i : ℕ) → i < X.islands → edges_of (island_at w i) ≡ list_of S i
  edges-in i l = rw (island-at Z X T i l) (numbers T.touches (list_of S i))

  not_in : (e i : ℕ) → i < X.islands → (e < X.edges → S.home e ≢ i) → has (edges_of (island_at w i)) e ≡ false
  not_in e i l d = rw (edges-in i l) (listed-no R i e l d)

  home-far : (e : ℕ) → X.edges ≤ e → contact_home w e ≡ top
  unfolding contact_home
  home-far e l =
      rw (length-tabulate X.islands (island_in Z T))
      (below-no w.islands e X.islands (λ i il. not_in e i il (λ (h : e < X.edges). absurd (omega arith))))

  home_none : (e : ℕ) → S.home e ≡ none → contact_home w e ≡ top
  unfolding contact_home
  home_none e q =
      rw (length-tabulate X.islands (island_in Z T))
      (below-no w.islands e X.islands (λ i il. not_in e i il (λ h s. (let o = R.m_small in omega arith))))

  module _ (e : ℕ) (el : e < X.edges) (d : S.home e ≢ none) where
    il : S.home e < X.islands
    il = (held R e el d).home_lt

    pub home-held : contact_home w e ≡ S.home e
    unfolding contact_home
    home-held =
        rw (length-tabulate X.islands (island_in Z T))
        (below-yes w.islands e (S.home e) X.islands il (rw (edges-in (S.home e) il) (listed-yes R e el il))
        (λ j jl o. not_in e j jl (λ h s. o (sym s))))

    pub place-held : place_of (edges_of (island_at w (S.home e))) e ≡ S.place e
    place-held = rw (edges-in (S.home e) il) (listed_place R e el il)

    pub link-held : get_or (island_at w (S.home e)).contact_links (S.place e) absent_contact ≡ contact_at T.touches e
    link-held =
        rw (island-at Z X T (S.home e) il)
        (value-at (contact_at T.touches) absent_contact (list_of S (S.home e)) (S.place e) (listed_lt R e el il)
        ∙ ap (contact_at T.touches) (list-of R (S.home e) il e el refl))

-- the same of a buffer
module _ {Z : Sizes} {t : List ℕ} (S : Sound Z t) (e : ℕ) where
  -- behind the tracked length nothing is linked
  pub contact-far : (extents (tables Z t)).edges ≤ e → contact_home (world_of Z t) e ≡ top
  unfolding world_of
  contact-far l = home-far Z (extents (tables Z t)) (tables Z t) (good-loose S.good) e l

  pub contact-none : (contacts_in Z (tables Z t)).home e ≡ none → contact_home (world_of Z t) e ≡ top
  unfolding world_of
  contact-none q = home_none Z (extents (tables Z t)) (tables Z t) (good-loose S.good) e q

  module _ (el : e < (extents (tables Z t)).edges) where
    -- the island that has the edge is the home that its words name
    pub contact-home : contact_home (world_of Z t) e ≡ (contacts_in Z (tables Z t)).home e
    unfolding world_of
    contact-home =
        either ((contacts_in Z (tables Z t)).home e) none (λ q. contact-none q ∙ sym q)
        (λ d. home-held Z (extents (tables Z t)) (tables Z t) (good-loose S.good) e el d)

    module _ (d : (contacts_in Z (tables Z t)).home e ≢ none) where
      pub contact-island : (contacts_in Z (tables Z t)).home e < (extents (tables Z t)).islands
      contact-island = il Z (extents (tables Z t)) (tables Z t) (good-loose S.good) e el d

      -- the place at which its list has it
      pub contact-place : place_of (edges_of (island_at (world_of Z t) ((contacts_in Z (tables Z t)).home e))) e ≡ (contacts_in Z (tables Z t)).place e
      unfolding world_of
      contact-place = place-held Z (extents (tables Z t)) (tables Z t) (good-loose S.good) e el d

      -- and its link there
      pub contact-link : get_or (island_at (world_of Z t) ((contacts_in Z (tables Z t)).home e)).contact_links ((contacts_in Z (tables Z t)).place e) absent_contact ≡ contact_at (tables Z t).touches e
      unfolding world_of
      contact-link = link-held Z (extents (tables Z t)) (tables Z t) (good-loose S.good) e el d
