-- A joint link's key: where the state has it, in the words of the tables.
use mathlib.Core.Path.{◌≡◌, refl, sym, ◌∙◌, ap}
use mathlib.Core.Logic.{◌≢◌, ⊎_elim}
use mathlib.Core.Bool.{Bool, true, false, ◌&&◌, false≢true}
use mathlib.Core.List.{List, [], ◌∷◌, map}
use Prim.Native.Nat.{ℕ, zero, suc, ◌+◌, ◌*◌, ◌<◌}
use native.Mathlib.Omega.{arith}
use lib.Dec.{eqb}
use borrow.Author.Tests.{eq-eqb, eqb-true, lt-ltb, le-ltb}
use lib.ListN.{length, get_or, length-map}
use Rattle.list_in_table.specs.Rules.{none, View, Rules, Held, list_of}
use Rattle.list_in_table.proofs.Laws.{either, held}
use Rattle.list_in_table.proofs.Order.{length-list, list_at, list-of}
use Rattle.def_kinds.specs.declared.Sizes.{Sizes}
use Rattle.def_state.specs.Plain.{top}
use Rattle.def_state.specs.World.{Key, impulse, chain, JointLink, absent_joint, Island, absent_island, island_at}
use Rattle.def_state.specs.Links.{same_key, key_place, joint_below, joint_home}
use Rattle.table_meaning.specs.Layout.{Tables, tables, Extents, extents, joints_in}
use Rattle.table_meaning.specs.Decode.{key_of, joint_at, island_in, decode, world_of}
use Rattle.table_meaning.specs.Sound.{Sound}
use Rattle.table_meaning.proofs.Tab.{length-tabulate}
use Rattle.table_meaning.proofs.Unique.{key-words}
use Rattle.core_laws.specs.Places.{KeyRule, HasKey, LinkedAs, KeyAt, Unlinked}
use Rattle.core_laws.specs.Loose.{Loose}
use Rattle.core_laws.proofs.Loose.{good-loose}
use Rattle.core_laws.proofs.Names.{island-at}
use Rattle.core_laws.proofs.Touching.{value-at}

-- ---- keys
both : (x y : Bool) → x && y ≡ true → (x ≡ true) × (y ≡ true)
both true y e = (refl, e)
both false y e = absurd (false≢true e)

pub same_key-refl : (q : Key) → same_key q q ≡ true
same_key-refl (impulse i g) = rw (eq-eqb i i refl, eq-eqb g g refl)
same_key-refl (chain u v o) = rw (eq-eqb u u refl, eq-eqb v v refl, eq-eqb o o refl)

pub key-same : (q r : Key) → same_key q r ≡ true → q ≡ r
key-same (impulse i g) (impulse j h) e =
    let b = both (eqb i j) (eqb g h) e in
    rw (eqb-true i j b.0, eqb-true g h b.1)
key-same (impulse i g) (chain u v o) e = absurd (false≢true e)
key-same (chain u v o) (impulse j h) e = absurd (false≢true e)
key-same (chain u v o) (chain x y p) e =
    let b = both (eqb u x) (eqb v y && eqb o p) e in
    let d = both (eqb v y) (eqb o p) b.1 in
    rw (eqb-true u x b.0, eqb-true v y d.0, eqb-true o p d.1)

key-other : (q r : Key) → q ≢ r → same_key q r ≡ false
key-other q r d = go (same_key q r) refl
  where
    go : (b : Bool) → same_key q r ≡ b → same_key q r ≡ false
    go true e = absurd (d (key-same q r e))
    go false e = e

-- ---- the place in a list, the island
place-yes : (ls : List JointLink) (q : Key) (p : ℕ) → p < length ls → (get_or ls p absent_joint).key ≡ q → ((k : ℕ) → k < p → (get_or ls k absent_joint).key ≢ q) → key_place ls q ≡ p
unfolding key_place
place-yes [] q p h e o = absurd (omega arith)
place-yes (l ∷ ls) q zero h e o = rw (e, same_key-refl q)
place-yes (l ∷ ls) q (suc p) h e o = rw (key-other l.key q (o 0 (omega arith)), place-yes ls q p (omega arith) e (λ k m. o (suc k) (omega arith)))

place-no : (ls : List JointLink) (q : Key) → ((k : ℕ) → k < length ls → (get_or ls k absent_joint).key ≢ q) → key_place ls q ≡ length ls
unfolding key_place
place-no [] q o = refl
place-no (l ∷ ls) q o = rw (key-other l.key q (o 0 (omega arith)), place-no ls q (λ k m. o (suc k) (omega arith)))

-- the list has no link with the key
abbrev Without : List JointLink → Key → Type 0
Without ls q = (k : ℕ) → k < length ls → (get_or ls k absent_joint).key ≢ q

below-no : (is : List Island) (q : Key) (k : ℕ) → ((i : ℕ) → i < k → Without (get_or is i absent_island).joint_links q) → joint_below is q k ≡ top
unfolding joint_below
below-no is q zero h = refl
below-no is q (suc k) h =
    let ls = (get_or is k absent_island).joint_links in
    let e = place-no ls q (h k (omega arith)) in
    rw (le-ltb (key_place ls q) (length ls) (omega arith)) (below-no is q k (λ i l. h i (omega arith)))

below-yes : (is : List Island) (q : Key) (i k : ℕ) → i < k → key_place (get_or is i absent_island).joint_links q < length (get_or is i absent_island).joint_links
    → ((j : ℕ) → j < k → j ≢ i → Without (get_or is j absent_island).joint_links q) → joint_below is q k ≡ i
unfolding joint_below
below-yes is q i zero l y h = absurd (omega arith)
below-yes is q i (suc k) l y h =
    let ls = (get_or is k absent_island).joint_links in
    either k i (λ s. let y' : key_place ls q < length ls = rw s y in rw (lt-ltb (key_place ls q) (length ls) y') s)
    (λ d.
    let e = place-no ls q (h k (omega arith) d) in
    rw (le-ltb (key_place ls q) (length ls) (omega arith)) (below-yes is q i k (omega arith) y (λ j jl o. h j (omega arith) o)))

-- ---- the tables
module _ (Z : Sizes) (X : Extents) (T : Tables) (G : Loose Z X T) where
  abbrev S : View
  S = joints_in Z T

  abbrev f : ℕ → JointLink
  f = joint_at T.keys

  R : Rules X.joints X.islands S
  R = G.joints_wf.rules

  -- the key of a linked place
  rule-of : (p : ℕ) → p < X.joints → S.home p ≢ none → KeyRule (get_or T.keys (8 * p) 0) (get_or T.keys (8 * p + 3) 0)
  rule-of p l h = ⊎_elim (λ u. absurd (h u.not_linked)) (λ k. k.key) (G.joint p l)

  -- what is listed is linked
  module _ (i : ℕ) (il : i < X.islands) where
    links-at : (island_at (decode Z X T) i).joint_links ≡ map f (list_of S i)
    links-at = ap (λ (a : Island). a.joint_links) (island-at Z X T i il)

    size-at : length (map f (list_of S i)) ≡ S.count i
    size-at = length-map (list_of S i) f ∙ length-list R i il

    without : (q : Key) → ((x : ℕ) → x < X.joints → S.home x ≡ i → (f x).key ≢ q) → Without (island_at (decode Z X T) i).joint_links q
    without q h =
        rw links-at
        (λ k l e.
        let n = length-list R i il in
        let s = size-at in
        let A = list_at R i il k (omega arith) in
        h (get_or (list_of S i) k 0) A.lt A.home_is (sym (ap (λ (x : JointLink). x.key) (value-at f absent_joint (list_of S i) k (omega arith))) ∙ e))

  -- a linked place stands in its list
  module _ (p : ℕ) (pl : p < X.joints) (hn : S.home p ≢ none) where
    hp : Held X.joints X.islands S p
    hp = held R p pl hn

    il : S.home p < X.islands
    il = hp.home_lt

    in_list : S.place p < length (map f (list_of S (S.home p)))
    in_list = let s = size-at (S.home p) il in let h = hp.place_lt in omega arith

    pub link_at : get_or (island_at (decode Z X T) (S.home p)).joint_links (S.place p) absent_joint ≡ f p
    link_at =
        let i = S.home p in
        let s = length-list R i il in
        let h = hp.place_lt in
        ap (λ (ls : List JointLink). get_or ls (S.place p) absent_joint) (links-at i il) ∙ value-at f absent_joint (list_of S i) (S.place p) (omega arith) ∙ ap f (list-of R i il p pl refl)

  module _ (kind a b c : ℕ) (K : KeyRule kind c) where
    abbrev q : Key
    q = key_of kind a b c

    -- the words of a linked place with this key
    words_of : (x : ℕ) → x < X.joints → S.home x ≢ none → (f x).key ≡ q → HasKey T.keys x kind a b c
    words_of x l h e =
        let W = key-words _ _ _ _ kind a b c (rule-of x l h) K e in
        record { kind_is = W.kind; a_is = W.first; b_is = W.second; c_is = W.third }

    pub home_none : ((p : ℕ) → p < X.joints → LinkedAs Z T kind a b c p → ⊥) → joint_home (decode Z X T) q ≡ top
    unfolding joint_home
    home_none out =
        rw (length-tabulate X.islands (island_in Z T))
        (below-no (decode Z X T).islands q X.islands
        (λ i il. without i il q (λ x xl h e. (let d : S.home x ≢ none = (let s = R.m_small in omega arith) in out x xl (record { linked = d; key = words_of x xl d e })))))

    module _ (p : ℕ) (pl : p < X.joints) (k : LinkedAs Z T kind a b c p) where
      abbrev i : ℕ
      i = S.home p

      ih : i < X.islands
      ih = il p pl k.linked

      key-p : (f p).key ≡ q
      key-p = let h = k.key in rw (h.kind_is, h.a_is, h.b_is, h.c_is)

      -- no other linked place has it
      only : (x : ℕ) → x < X.joints → S.home x ≢ none → (f x).key ≡ q → x ≡ p
      only x xl h e =
          let A = words_of x xl h e in
          let B = k.key in
          G.distinct x p xl pl h k.linked
          (record { kind = A.kind_is ∙ sym B.kind_is; a = A.a_is ∙ sym B.a_is; b = A.b_is ∙ sym B.b_is; c = A.c_is ∙ sym B.c_is })

      pub place_is : key_place (island_at (decode Z X T) i).joint_links q ≡ S.place p
      place_is =
          let n = in_list p pl k.linked in
          let s = length-list R i ih in
          let z = size-at i ih in
          place-yes (island_at (decode Z X T) i).joint_links q (S.place p) (rw (links-at i ih) n) (ap (λ (l : JointLink). l.key) (link_at p pl k.linked) ∙ key-p)
          (λ j jl e.
          let A = list_at R i ih j (omega arith) in
          let x = get_or (list_of S i) j 0 in
          let v : (f x).key ≡ q = sym (ap (λ (ls : List JointLink). (get_or ls j absent_joint).key) (links-at i ih) ∙ ap (λ (l : JointLink). l.key) (value-at f absent_joint (list_of S i) j (omega arith))) ∙ e in
          let d : S.home x ≢ none = (let m = R.m_small in let h = A.home_is in let o = ih in omega arith) in
          let o : S.place x ≡ S.place p = ap S.place (only x A.lt d v) in
          let r = A.place_is in
          omega arith)

      pub home_is : joint_home (decode Z X T) q ≡ i
      unfolding joint_home
      home_is =
          rw (length-tabulate X.islands (island_in Z T))
          (below-yes (decode Z X T).islands q i X.islands ih (rw (place_is, links-at i ih) (in_list p pl k.linked))
          (λ j jl d. without j jl q (λ x xl h e. (let n : S.home x ≢ none = (let s = R.m_small in omega arith) in d (sym h ∙ ap S.home (only x xl n e))))))

-- ---- the same of a buffer
module _ {Z : Sizes} {t : List ℕ} (kind a b c : ℕ) (S : Sound Z t) (K : KeyRule kind c) where
  pub joint-home_none : Unlinked Z (tables Z t) kind a b c → joint_home (world_of Z t) (key_of kind a b c) ≡ top
  unfolding world_of
  joint-home_none n = home_none Z (extents (tables Z t)) (tables Z t) (good-loose S.good) kind a b c K n

  module _ (p : ℕ) (A : KeyAt Z (tables Z t) kind a b c p) where
    pub joint-home : joint_home (world_of Z t) (key_of kind a b c) ≡ (joints_in Z (tables Z t)).home p
    unfolding world_of
    joint-home = home_is Z (extents (tables Z t)) (tables Z t) (good-loose S.good) kind a b c K p A.place_lt A.keyed

    pub joint-place : key_place (island_at (world_of Z t) ((joints_in Z (tables Z t)).home p)).joint_links (key_of kind a b c) ≡ (joints_in Z (tables Z t)).place p
    unfolding world_of
    joint-place = place_is Z (extents (tables Z t)) (tables Z t) (good-loose S.good) kind a b c K p A.place_lt A.keyed

    pub joint-link : get_or (island_at (world_of Z t) ((joints_in Z (tables Z t)).home p)).joint_links ((joints_in Z (tables Z t)).place p) absent_joint ≡ joint_at (tables Z t).keys p
    unfolding world_of
    joint-link = link_at Z (extents (tables Z t)) (tables Z t) (good-loose S.good) p A.place_lt A.keyed.linked

  -- the home in the state says which of the two it is
  pub home-unlinked : joint_home (world_of Z t) (key_of kind a b c) ≡ top → Unlinked Z (tables Z t) kind a b c
  home-unlinked e p l k =
      let A : KeyAt Z (tables Z t) kind a b c p = record { place_lt = l; keyed = k } in
      k.linked (sym (joint-home p A) ∙ e)
