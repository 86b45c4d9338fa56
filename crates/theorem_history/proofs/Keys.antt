-- No joint key is linked twice: a joint link and a joint unlink keep that.
use mathlib.Core.Path.{◌≡◌, refl, sym, ◌∙◌, ap, subst}
use mathlib.Core.Logic.{◌⊎◌, inl, inr, ◌≢◌, ⊎_elim}
use mathlib.Core.Bool.{Bool, true, false, ◌||◌, false≢true}
use mathlib.Core.List.{List, [], ◌∷◌, ◌++◌}
use Prim.Native.Nat.{ℕ, zero, suc, ◌+◌, ◌-◌, ◌≤◌, ◌<◌}
use native.Mathlib.Omega.{arith}
use lib.ListN.{length, get_or, set, length-set, length-append, get_or-append}
use lib.Seq.{get_or-set_same, get_or-set_other, get_or-append-add, get_or_at}
use lib.Dec.{eqb, ltb}
use borrow.Author.Tests.{eqb-false, ltb-false}
use Rattle.list_in_table.proofs.Laws.{either}
use Rattle.list_in_table.proofs.Same.{below}
use Rattle.table_meaning.proofs.Tab.{get_d_beyond}
use Rattle.core_laws.proofs.JointKeys.{same_key-refl as key-self}
use Rattle.def_state.specs.Plain.{top, swap_remove}
use Rattle.def_state.specs.World.{Handle, Key, JointLink, absent_joint, Island, absent_island, World, island_at, body_island}
use Rattle.def_state.specs.Fields.{island_set}
use Rattle.def_state.specs.Membership.{clear_pending_split_of}
use Rattle.def_state.specs.Links.{same_key, key_place, joint_below, joint_home, survivor, absorbed, absorb, merge_islands, merged, joint_pushed, same_handle, journal_removal, joint_removed}
use Rattle.theorem_split.proofs.Member.{Before, swap-before, before-one}
use Rattle.theorem_split.proofs.Homes.{bool, in_use, member}
use Rattle.theorem_history.proofs.Basic.{ways}

abbrev joints_at : World → ℕ → List JointLink
joints_at w j = (island_at w j).joint_links

-- the key at place r of island j
abbrev key_in : World → ℕ → ℕ → Key
key_in w j r = (get_or (island_at w j).joint_links r absent_joint).key

abbrev pub Keyed : World → Type 0
Keyed w = (i j p q : ℕ) → p < length (island_at w i).joint_links → q < length (island_at w j).joint_links
    → (get_or (island_at w i).joint_links p absent_joint).key ≡ (get_or (island_at w j).joint_links q absent_joint).key
    → (i ≡ j) × (p ≡ q)

-- no link has the key q
abbrev pub Fresh : World → Key → Type 0
Fresh w q = (j r : ℕ) → r < length (island_at w j).joint_links → (get_or (island_at w j).joint_links r absent_joint).key ≢ q

pub keyed-same : (w v : World) → ((j : ℕ) → (island_at v j).joint_links ≡ (island_at w j).joint_links) → Keyed w → Keyed v
keyed-same w v h K i j p q pl ql e =
    K i j p q (subst (λ (x : List JointLink). p < length x) (h i) pl) (subst (λ (x : List JointLink). q < length x) (h j) ql)
    (sym (ap (λ (x : List JointLink). (get_or x p absent_joint).key) (h i)) ∙ e ∙ ap (λ (x : List JointLink). (get_or x q absent_joint).key) (h j))

-- ---- unlink: the link at place p of island i goes

module _ (i p : ℕ) (w : World) (K : Keyed w) (pl : p < length (island_at w i).joint_links) (il : i < length w.islands) where
  abbrev xs : List JointLink
  xs = (island_at w i).joint_links

  abbrev v : World
  v = joint_removed i p w

  at_i : (island_at (joint_removed i p w) i).joint_links ≡ swap_remove absent_joint (island_at w i).joint_links p
  unfolding joint_removed island_set
  at_i = ap (λ (a : Island). a.joint_links) (get_or-set_same w.islands i _ absent_island il)

  off-i : (j : ℕ) → j ≢ i → (island_at (joint_removed i p w) j).joint_links ≡ (island_at w j).joint_links
  unfolding joint_removed island_set
  off-i j d = ap (λ (a : Island). a.joint_links) (get_or-set_other w.islands i j _ absent_island d)

  before : (r : ℕ) → r < length (joints_at v i) → Before absent_joint xs p r
  before r l = swap-before absent_joint xs p r pl (subst (λ (x : List JointLink). r < length x) at_i l)

  before-key : (r : ℕ) (l : r < length (joints_at v i)) → key_in v i r ≡ (get_or xs (before r l).at absent_joint).key
  before-key r l = ap (λ (x : List JointLink). (get_or x r absent_joint).key) at_i ∙ ap (λ (c : JointLink). c.key) (before r l).is

  -- where the link at place r of island j stood
  record Stood (j r : ℕ) : Type 0 where
    at : ℕ
    lt : at < length (joints_at w j)
    key : key_in v j r ≡ key_in w j at
    how : ((b : Before absent_joint xs p r) × (b.at ≡ at) × (j ≡ i)) ⊎ ((j ≢ i) × (at ≡ r))

  stood : (j r : ℕ) → r < length (joints_at v j) → Stood j r
  stood j r l =
      either j i
      (λ e.
      let l' : r < length (joints_at v i) = subst (λ (k : ℕ). r < length (joints_at v k)) e l in
      let b = before r l' in
      record {
        at = b.at;
        lt = subst (λ (k : ℕ). b.at < length (joints_at w k)) (sym e) b.lt;
        key = ap (λ (k : ℕ). key_in v k r) e ∙ before-key r l' ∙ ap (λ (k : ℕ). key_in w k b.at) (sym e);
        how = inl (b, refl, e);
      })
      (λ d.
      record {
        at = r;
        lt = subst (λ (x : List JointLink). r < length x) (off-i j d) l;
        key = ap (λ (x : List JointLink). (get_or x r absent_joint).key) (off-i j d);
        how = inr (d, refl);
      })

  pub removed-keyed : Keyed (joint_removed i p w)
  removed-keyed a b r q rl ql e =
      let x = stood a r rl in
      let y = stood b q ql in
      let z = K a b x.at y.at x.lt y.lt (sym x.key ∙ e ∙ y.key) in (
        z.0,
        ⊎_elim
            (λ s.
            ⊎_elim (λ t. before-one s.0 t.0 (s.1 ∙ z.1 ∙ sym t.1)) (λ t. absurd (t.0 (sym z.0 ∙ s.2))) y.how)
            (λ s. ⊎_elim (λ t. absurd (s.0 (z.0 ∙ t.2))) (λ t. sym s.1 ∙ z.1 ∙ t.1) y.how)
            x.how,
      )

  pub removed-fresh : Fresh (joint_removed i p w) (get_or (island_at w i).joint_links p absent_joint).key
  removed-fresh j r l e =
      let x = stood j r l in
      let z = K j i x.at p x.lt pl (sym x.key ∙ e) in
      ⊎_elim (λ s. s.0.other (s.1 ∙ z.1)) (λ s. s.0 z.0) x.how

journal-islands : (h1 h2 : Handle) (w : World) → (journal_removal h1 h2 w).islands ≡ w.islands
unfolding journal_removal
journal-islands h1 h2 w = ways (λ (x : World). x.islands ≡ w.islands) (same_handle h1 h2) (λ q. refl) (λ q. refl)

pub journal-keyed : (h1 h2 : Handle) (w : World) → Keyed w → Keyed (journal_removal h1 h2 w)
journal-keyed h1 h2 w K = keyed-same w (journal_removal h1 h2 w) (λ j. ap (λ (is : List Island). (get_or is j absent_island).joint_links) (journal-islands h1 h2 w)) K

-- ---- merge

module _ (w : World) (K : Keyed w) (big small : ℕ) (bl : big < length w.islands) (sl : small < length w.islands) (d : big ≢ small) where
  abbrev u : World
  u = absorb big small w

  abbrev P : Island
  P = absorbed (island_at w big) (island_at w small)

  abbrev bs : List JointLink
  bs = (island_at w big).joint_links

  abbrev ss : List JointLink
  ss = (island_at w small).joint_links

  at-big : (island_at (absorb big small w) big).joint_links ≡ (island_at w big).joint_links ++ (island_at w small).joint_links
  unfolding absorb island_set clear_pending_split_of
  at-big =
      ap (λ (a : Island). a.joint_links)
      (get_or-set_other (set w.islands big P) small big absent_island absent_island d ∙ get_or-set_same w.islands big P absent_island bl)

  at_small : (island_at (absorb big small w) small).joint_links ≡ []
  unfolding absorb island_set clear_pending_split_of
  at_small = ap (λ (a : Island). a.joint_links) (get_or-set_same (set w.islands big P) small absent_island absent_island (rw (length-set w.islands big P) sl))

  at_other : (j : ℕ) → j ≢ big → j ≢ small → (island_at (absorb big small w) j).joint_links ≡ (island_at w j).joint_links
  unfolding absorb island_set clear_pending_split_of
  at_other j p q =
      ap (λ (a : Island). a.joint_links)
      (get_or-set_other (set w.islands big P) small j absent_island absent_island q ∙ get_or-set_other w.islands big j P absent_island p)

  -- where the link at place r of island j stood
  data How (j r x y : ℕ) : Type 0 where
    first : j ≡ big → x ≡ big → y ≡ r → How j r x y
    second : j ≡ big → x ≡ small → r ≡ length (island_at w big).joint_links + y → How j r x y
    same : j ≢ big → j ≢ small → x ≡ j → y ≡ r → How j r x y

  record Origin (j r : ℕ) : Type 0 where
    isle : ℕ
    at : ℕ
    lt : at < length (joints_at w isle)
    key : key_in u j r ≡ key_in w isle at
    how : How j r isle at

  came : (j r : ℕ) → r < length (joints_at u j) → Origin j r
  came j r l =
      either j big
      (λ e.
      let l' : r < length (bs ++ ss) = subst (λ (x : List JointLink). r < length x) at-big (subst (λ (k : ℕ). r < length (joints_at u k)) e l) in
      let k : key_in u j r ≡ (get_or (bs ++ ss) r absent_joint).key = ap (λ (n : ℕ). key_in u n r) e ∙ ap (λ (x : List JointLink). (get_or x r absent_joint).key) at-big in
      let n = length-append bs ss in
      below r (length bs)
      (λ o.
      record {
        isle = big;
        at = r;
        lt = o;
        key = k ∙ ap (λ (c : JointLink). c.key) (get_or-append bs ss absent_joint r o);
        how = first e refl refl;
      })
      (λ o.
      let q : length bs + (r - length bs) ≡ r = omega arith in
      record {
        isle = small;
        at = r - length bs;
        lt = omega arith;
        key = k ∙ ap (λ (n : ℕ). (get_or (bs ++ ss) n absent_joint).key) (sym q) ∙ ap (λ (c : JointLink). c.key) (get_or-append-add bs ss (r - length bs) absent_joint);
        how = second e refl (sym q);
      }))
      (λ o.
      either j small
      (λ e. absurd (let z : r < 0 = subst (λ (x : List JointLink). r < length x) at_small (subst (λ (k : ℕ). r < length (joints_at u k)) e l) in omega arith))
      (λ q.
      record {
        isle = j;
        at = r;
        lt = subst (λ (x : List JointLink). r < length x) (at_other j o q) l;
        key = ap (λ (x : List JointLink). (get_or x r absent_joint).key) (at_other j o q);
        how = same o q refl refl;
      }))

  one : (j r k q x y x' y' : ℕ) → How j r x y → How k q x' y' → x ≡ x' → y ≡ y' → (j ≡ k) × (r ≡ q)
  one j r k q x y x' y' (first a b c) (first a' b' c') e f = (a ∙ sym a', sym c ∙ f ∙ c')
  one j r k q x y x' y' (first a b c) (second a' b' c') e f = absurd (d (sym b ∙ e ∙ b'))
  one j r k q x y x' y' (first a b c) (same a' b' c' d') e f = absurd (a' (sym c' ∙ sym e ∙ b))
  one j r k q x y x' y' (second a b c) (first a' b' c') e f = absurd (d (sym b' ∙ sym e ∙ b))
  one j r k q x y x' y' (second a b c) (second a' b' c') e f = (a ∙ sym a', c ∙ ap (λ (n : ℕ). length (island_at w big).joint_links + n) f ∙ sym c')
  one j r k q x y x' y' (second a b c) (same a' b' c' d') e f = absurd (b' (sym c' ∙ sym e ∙ b))
  one j r k q x y x' y' (same a b c g) (first a' b' c') e f = absurd (a (sym c ∙ e ∙ b'))
  one j r k q x y x' y' (same a b c g) (second a' b' c') e f = absurd (b (sym c ∙ e ∙ b'))
  one j r k q x y x' y' (same a b c g) (same a' b' c' d') e f = (sym c ∙ e ∙ c', sym g ∙ f ∙ d')

  absorb-keyed : Keyed (absorb big small w)
  absorb-keyed a b r q rl ql e =
      let x = came a r rl in
      let y = came b q ql in
      let z = K x.isle y.isle x.at y.at x.lt y.lt (sym x.key ∙ e ∙ y.key) in
      one a r b q x.isle x.at y.isle y.at x.how y.how z.0 z.1

  absorb-fresh : (q : Key) → Fresh w q → Fresh (absorb big small w) q
  absorb-fresh q f j r l e = let x = came j r l in f x.isle x.at x.lt (sym x.key ∙ e)

used : (w : World) (h : Handle) → body_island w h ≢ top → body_island w h < length w.islands
used w h t = in_use w (body_island w h) (member w (body_island w h) h refl t).listed

either-false : (a b : Bool) → a || b ≡ false → (a ≡ false) × (b ≡ false)
either-false true b e = absurd (false≢true (sym e))
either-false false b e = (refl, e)

pub merged-keyed : (w : World) → Keyed w → (h1 h2 : Handle) (q : Key) → Fresh w q → Keyed (merged h1 h2 w) × Fresh (merged h1 h2 w) q
unfolding merged merge_islands
merged-keyed w K h1 h2 q f =
    ways (λ (x : World). Keyed x × Fresh x q) (eqb (body_island w h1) top || eqb (body_island w h2) top) (λ z. (K, f))
    (λ z.
    let t = either-false (eqb (body_island w h1) top) (eqb (body_island w h2) top) z in
    let l1 : body_island w h1 < length w.islands = used w h1 (eqb-false (body_island w h1) top t.0) in
    let l2 : body_island w h2 < length w.islands = used w h2 (eqb-false (body_island w h2) top t.1) in
    ways (λ (x : World). Keyed x × Fresh x q) (eqb (body_island w h1) (body_island w h2)) (λ o. (K, f))
    (λ o.
    let d : body_island w h1 ≢ body_island w h2 = eqb-false (body_island w h1) (body_island w h2) o in
    ways (λ (x : World). Keyed x × Fresh x q) (eqb (survivor w (body_island w h1) (body_island w h2)) (body_island w h1))
    (λ s. (absorb-keyed w K (body_island w h1) (body_island w h2) l1 l2 d, absorb-fresh w K (body_island w h1) (body_island w h2) l1 l2 d q f))
    (λ s. (
      absorb-keyed w K (body_island w h2) (body_island w h1) l2 l1 (λ e. d (sym e)),
      absorb-fresh w K (body_island w h2) (body_island w h1) l2 l1 (λ e. d (sym e)) q f,
    ))))

-- ---- a link with a new key is put behind the list of island i

module _ (i : ℕ) (c : JointLink) (w : World) (K : Keyed w) (f : Fresh w c.key) (il : i < length w.islands) where
  abbrev cs : List JointLink
  cs = (island_at w i).joint_links

  abbrev after : World
  after = joint_pushed i c w

  pushed_at : (island_at (joint_pushed i c w) i).joint_links ≡ (island_at w i).joint_links ++ (c ∷ [])
  unfolding joint_pushed island_set
  pushed_at = ap (λ (a : Island). a.joint_links) (get_or-set_same w.islands i _ absent_island il)

  pushed-off : (j : ℕ) → j ≢ i → (island_at (joint_pushed i c w) j).joint_links ≡ (island_at w j).joint_links
  unfolding joint_pushed island_set
  pushed-off j d = ap (λ (a : Island). a.joint_links) (get_or-set_other w.islands i j _ absent_island d)

  -- an old link at its old place, or the new one
  Sort : ℕ → ℕ → Type 0
  Sort j r = ((r < length (joints_at w j)) × (key_in after j r ≡ key_in w j r)) ⊎ ((j ≡ i) × (r ≡ length cs) × (key_in after j r ≡ c.key))

  sort : (j r : ℕ) → r < length (joints_at after j) → Sort j r
  unfolding Sort
  sort j r l =
      either j i
      (λ e.
      let l' : r < length (cs ++ (c ∷ [])) = subst (λ (x : List JointLink). r < length x) pushed_at (subst (λ (k : ℕ). r < length (joints_at after k)) e l) in
      let k : key_in after j r ≡ (get_or (cs ++ (c ∷ [])) r absent_joint).key = ap (λ (n : ℕ). key_in after n r) e ∙ ap (λ (x : List JointLink). (get_or x r absent_joint).key) pushed_at in
      let n = length-append cs (c ∷ []) in
      below r (length cs)
      (λ o.
      inl (
        subst (λ (n : ℕ). r < length (joints_at w n)) (sym e) o,
        k ∙ ap (λ (x : JointLink). x.key) (get_or-append cs (c ∷ []) absent_joint r o) ∙ ap (λ (n : ℕ). key_in w n r) (sym e),
      ))
      (λ o.
      let q : length cs ≡ r = omega arith in
      inr (e, sym q, k ∙ ap (λ (x : JointLink). x.key) (get_or_at cs c [] absent_joint r q))))
      (λ d.
      inl (subst (λ (x : List JointLink). r < length x) (pushed-off j d) l, ap (λ (x : List JointLink). (get_or x r absent_joint).key) (pushed-off j d)))

  pub pushed-keyed : Keyed (joint_pushed i c w)
  unfolding Sort
  pushed-keyed a b r q rl ql e =
      ⊎_elim
      (λ x.
      ⊎_elim (λ y. K a b r q x.0 y.0 (sym x.1 ∙ e ∙ y.1)) (λ y. absurd (f a r x.0 (sym x.1 ∙ e ∙ y.2))) (sort b q ql))
      (λ x.
      ⊎_elim (λ y. absurd (f b q y.0 (sym y.1 ∙ sym e ∙ x.2))) (λ y. (x.0 ∙ sym y.0, x.1 ∙ sym y.1)) (sort b q ql))
      (sort a r rl)

-- ---- a key that is not found is no link's

key-place-le : (ls : List JointLink) (q : Key) (r : ℕ) → r < length ls → (get_or ls r absent_joint).key ≡ q → key_place ls q ≤ r
unfolding key_place
key-place-le [] q r l e = absurd (omega arith)
key-place-le (c ∷ ls) q zero l e = rw (subst (λ (k : Key). same_key k q ≡ true) (sym e) (key-self q)) (omega arith)
key-place-le (c ∷ ls) q (suc r) l e =
    bool (same_key c.key q) (λ s. rw s (omega arith)) (λ s. rw s (let h = key-place-le ls q r (omega arith) e in omega arith))

joint_none : (is : List Island) (q : Key) (k j : ℕ) → length is ≤ top → k ≤ length is → joint_below is q k ≡ top → j < k → (r : ℕ) → r < length (get_or is j absent_island).joint_links
    → (get_or (get_or is j absent_island).joint_links r absent_joint).key ≢ q
unfolding joint_below
joint_none is q zero j s kl z l r rl e = omega arith
joint_none is q (suc k) j s kl z l r rl e =
    bool (ltb (key_place (get_or is k absent_island).joint_links q) (length (get_or is k absent_island).joint_links))
    (λ h. (let o : k ≡ top = rw h at z in omega arith))
    (λ h.
    either j k
    (λ o.
    let p : key_place (get_or is k absent_island).joint_links q ≤ r =
    key-place-le (get_or is k absent_island).joint_links q r (subst (λ (n : ℕ). r < length (get_or is n absent_island).joint_links) o rl)
    (ap (λ (n : ℕ). (get_or (get_or is n absent_island).joint_links r absent_joint).key) (sym o) ∙ e) in
    let g = ltb-false (key_place (get_or is k absent_island).joint_links q) (length (get_or is k absent_island).joint_links) h in
    let m : r < length (get_or is k absent_island).joint_links = subst (λ (n : ℕ). r < length (get_or is n absent_island).joint_links) o rl in
    omega arith)
    (λ o. joint_none is q k j s (omega arith) (rw h at z) (omega arith) r rl e))

pub not_found : (w : World) → length w.islands ≤ top → (q : Key) → joint_home w q ≡ top → Fresh w q
unfolding joint_home
not_found w s q e j r l =
    below j (length w.islands) (λ o. joint_none w.islands q (length w.islands) j s (omega arith) e o r l)
    (λ o. absurd (let z : r < 0 = subst (λ (a : Island). r < length a.joint_links) (get_d_beyond w.islands absent_island j o) l in omega arith))
