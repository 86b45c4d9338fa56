-- Well formed by local rules is well formed in document 01's words, with each word the one that stands for it; both ways.
use mathlib.Core.Path.{◌≡◌, refl, sym, ◌∙◌, ap, subst}
use mathlib.Core.Logic.{◌⊎◌, inl, inr, ◌≢◌, ⊎_elim, ◌↔◌}
use mathlib.Core.List.{List}
use Prim.Native.Nat.{ℕ, ◌+◌, ◌-◌, ◌*◌, ◌≤◌, ◌<◌}
use native.Mathlib.Omega.{arith}
use lib.ListN.{length, get_or}
use Rattle.list_in_table.specs.Rules.{none, View, Rules, Held, Blank, First, After, Final, Before, Empty, Full, list_of}
use Rattle.list_in_table.proofs.Laws.{either, held, held_in, full}
use Rattle.list_in_table.proofs.Order.{At, length-list, list_at, list-of}
use Rattle.list_in_table.proofs.Same.{below}
use Rattle.def_kinds.specs.declared.Sizes.{Sizes}
use Rattle.table_meaning.specs.Layout.{Tables, tables, total, Extents, extents, members_in, contacts_in, joints_in, freed_in, scan_in}
use Rattle.table_meaning.specs.Rule.{Vacant, SlotRule, Freed, IslandRule, ScanRule, Untouched, EdgeRule, Unkeyed, Keyed, JointRule}
use Rattle.table_meaning.specs.Sound.{SlotAt, IslandAt, SeenAt, EdgeAt, JointAt, SameKey, Distinct, Good, Sound}
use Rattle.table_meaning.specs.Proper.{Listed, Found, bodies_of, free_stack, generation_at, Proper, Threaded, Tidy}
use Rattle.table_meaning.proofs.Unique.{Eight, KeyWords, key-words, slot-flags, asleep, scan-flag}

-- ---- chain tables

module _ {n m : ℕ} {S : View} (R : Rules n m S) where
  at : (i p : ℕ) → i < m → p < length (list_of S i) → At n S i p (get_or (list_of S i) p 0)
  at i p il h = list_at R i il p (subst (λ (c : ℕ). p < c) (length-list R i il) h)

  pub listed : Listed n m S
  listed =
      record {
        names_list = λ e l h. (held R e l h).home_lt;
        names_place = λ e l h. (let k = held R e l h in subst (λ (c : ℕ). S.place e < c) (sym (length-list R (S.home e) k.home_lt)) k.place_lt);
        holds = λ e l h. list-of R (S.home e) (held R e l h).home_lt e l refl;
        listed_lt = λ i p il h. (at i p il h).lt;
        listed_home = λ i p il h. (at i p il h).home_is;
        listed_place = λ i p il h. (at i p il h).place_is;
      }

  -- who stands at p
  stands : (i p x : ℕ) → i < m → x < n → S.home x ≡ i → S.place x ≡ p → x ≡ get_or (list_of S i) p 0
  stands i p x il xl h q = sym (subst (λ (k : ℕ). get_or (list_of S i) k 0 ≡ x) q (list-of R i il x xl h))

  last_is : (i p : ℕ) → i < m → p + 1 ≡ length (list_of S i) → S.last i ≡ get_or (list_of S i) p 0
  last_is i p il e =
      let c = length-list R i il in
      let f : Full n m S i = full R i il (omega arith) in
      let q = f.last_place in
      stands i p (S.last i) il f.last_lt f.last_home (omega arith)

  last_none : (i : ℕ) → i < m → length (list_of S i) ≡ 0 → S.last i ≡ none
  last_none i il z =
      let c = length-list R i il in
      ⊎_elim (λ (o : Empty n m S i). o.no_last) (λ (f : Full n m S i). absurd (let q = f.last_place in omega arith)) (R.list i il)

  prev_is : (i p : ℕ) → i < m → p + 1 < length (list_of S i) → S.prev (get_or (list_of S i) (p + 1) 0) ≡ get_or (list_of S i) p 0
  prev_is i p il h =
      let x = get_or (list_of S i) (p + 1) 0 in
      let a = at i (p + 1) il h in
      let e = a.place_is in
      ⊎_elim (λ (f : First n m S x). absurd (let z = f.at_zero in omega arith))
      (λ (b : After n m S x). let z = b.prev_place in stands i p (S.prev x) il b.prev_lt (b.prev_home ∙ a.home_is) (omega arith))
      (held_in R x i a.lt il a.home_is).back

  prev_none : (i : ℕ) → i < m → 0 < length (list_of S i) → S.prev (get_or (list_of S i) 0 0) ≡ none
  prev_none i il h =
      let x = get_or (list_of S i) 0 0 in
      let a = at i 0 il h in
      let e = a.place_is in
      ⊎_elim (λ (f : First n m S x). f.no_prev) (λ (b : After n m S x). absurd (let z = b.prev_place in omega arith)) (held_in R x i a.lt il a.home_is).back

  next_is : (i p : ℕ) → i < m → p + 1 < length (list_of S i) → S.next (get_or (list_of S i) p 0) ≡ get_or (list_of S i) (p + 1) 0
  next_is i p il h =
      let x = get_or (list_of S i) p 0 in
      let a = at i p il (omega arith) in
      let e = a.place_is in
      let c = length-list R i il in
      let d : S.count (S.home x) ≡ S.count i = ap S.count a.home_is in
      ⊎_elim (λ (f : Final n m S x). absurd (let z = f.at_end in omega arith))
      (λ (b : Before n m S x). let z = b.next_place in stands i (p + 1) (S.next x) il b.next_lt (b.next_home ∙ a.home_is) (omega arith))
      (held_in R x i a.lt il a.home_is).fore

  next_none : (i p : ℕ) → i < m → p + 1 ≡ length (list_of S i) → S.next (get_or (list_of S i) p 0) ≡ none
  next_none i p il h =
      let x = get_or (list_of S i) p 0 in
      let a = at i p il (omega arith) in
      let e = a.place_is in
      let c = length-list R i il in
      ⊎_elim (λ (f : Final n m S x). f.no_next)
      (λ (b : Before n m S x).
      let o = b.next_home ∙ a.home_is in
      let k : S.place (S.next x) < S.count (S.home (S.next x)) = (held_in R (S.next x) i b.next_lt il o).place_lt in
      let d : S.count (S.home (S.next x)) ≡ S.count i = ap S.count o in
      let z = b.next_place in
      absurd (omega arith))
      (held_in R x i a.lt il a.home_is).fore

  blank : (e : ℕ) → e < n → S.home e ≡ none → Blank n m S e
  blank e l h =
      let s = R.m_small in
      ⊎_elim (λ (b : Blank n m S e). b) (λ (k : Held n m S e). absurd (let q = k.home_lt in omega arith)) (R.elem e l)

  pub linked : Threaded n m S
  linked =
      record {
        n_small = R.n_small;
        m_small = R.m_small;
        count_is = λ i il. sym (length-list R i il);
        last_is = last_is;
        last_none = last_none;
        prev_is = prev_is;
        prev_none = prev_none;
        next_is = next_is;
        next_none = next_none;
        place_blank = λ e l h. (blank e l h).place_none;
        prev_blank = λ e l h. (blank e l h).prev_none;
        next_blank = λ e l h. (blank e l h).next_none;
      }

-- and back
module _ {n m : ℕ} {S : View} (A : Listed n m S) (B : Threaded n m S) where
  module _ (e : ℕ) (l : e < n) (h : S.home e ≢ none) where
    abbrev i : ℕ
    i = S.home e

    abbrev p : ℕ
    p = S.place e

    abbrev L : List ℕ
    L = list_of S i

    il : i < m
    il = A.names_list e l h

    pl : p < length L
    pl = A.names_place e l h

    here : get_or L p 0 ≡ e
    here = A.holds e l h

    first-from : p ≡ 0 → First n m S e
    first-from z =
        let q : get_or L 0 0 ≡ e = subst (λ (k : ℕ). get_or L k 0 ≡ e) z here in
        let k = pl in
        record { at_zero = z; no_prev = subst (λ (x : ℕ). S.prev x ≡ none) q (B.prev_none i il (omega arith)) }

    after-from : (q : ℕ) → q + 1 ≡ p → After n m S e
    after-from q z =
        let k = pl in
        let ql : q + 1 < length L = omega arith in
        let qm : q < length L = omega arith in
        let x = get_or L q 0 in
        let ex : get_or L (q + 1) 0 ≡ e = subst (λ (k : ℕ). get_or L k 0 ≡ e) (sym z) here in
        let pv : S.prev e ≡ x = subst (λ (y : ℕ). S.prev y ≡ x) ex (B.prev_is i q il ql) in
        record {
          prev_lt = subst (λ (y : ℕ). y < n) (sym pv) (A.listed_lt i q il qm);
          prev_home = ap S.home pv ∙ A.listed_home i q il qm;
          prev_place = ap (λ (y : ℕ). S.place y + 1) pv ∙ ap (λ (y : ℕ). y + 1) (A.listed_place i q il qm) ∙ z;
          prev_next = ap S.next pv ∙ B.next_is i q il ql ∙ ex;
        }

    final-from : p + 1 ≡ length L → Final n m S e
    final-from z =
        record {
          at_end = z ∙ sym (B.count_is i il);
          is_last = B.last_is i p il z ∙ here;
          no_next = subst (λ (y : ℕ). S.next y ≡ none) here (B.next_none i p il z);
        }

    before-from : p + 1 < length L → Before n m S e
    before-from ql =
        let x = get_or L (p + 1) 0 in
        let nx : S.next e ≡ x = subst (λ (y : ℕ). S.next y ≡ x) here (B.next_is i p il ql) in
        record {
          next_lt = subst (λ (y : ℕ). y < n) (sym nx) (A.listed_lt i (p + 1) il ql);
          next_home = ap S.home nx ∙ A.listed_home i (p + 1) il ql;
          next_place = ap S.place nx ∙ A.listed_place i (p + 1) il ql;
          next_prev = ap S.prev nx ∙ B.prev_is i p il ql ∙ here;
        }

    held-from : Held n m S e
    held-from =
        let k = pl in
        record {
          home_lt = il;
          place_lt = subst (λ (c : ℕ). p < c) (sym (B.count_is i il)) pl;
          back = either p 0 (λ z. inl (first-from z)) (λ d. inr (after-from (p - 1) (omega arith)));
          fore = either (p + 1) (length L) (λ z. inl (final-from z)) (λ d. inr (before-from (omega arith)));
        }

  full_from : (i p : ℕ) → i < m → p + 1 ≡ length (list_of S i) → Full n m S i
  full_from i p il z =
      let q : S.last i ≡ get_or (list_of S i) p 0 = B.last_is i p il z in
      let pl : p < length (list_of S i) = omega arith in
      record {
        last_lt = subst (λ (y : ℕ). y < n) (sym q) (A.listed_lt i p il pl);
        last_home = ap S.home q ∙ A.listed_home i p il pl;
        last_place = ap (λ (y : ℕ). S.place y + 1) q ∙ ap (λ (y : ℕ). y + 1) (A.listed_place i p il pl) ∙ z ∙ sym (B.count_is i il);
      }

  pub rules-of : Rules n m S
  rules-of =
      record {
        n_small = B.n_small;
        m_small = B.m_small;
        elem = λ e l.
            either (S.home e) none
            (λ h. inl (record { home_none = h; place_none = B.place_blank e l h; prev_none = B.prev_blank e l h; next_none = B.next_blank e l h }))
            (λ h. inr (held-from e l h));
        list = λ i il.
            either (length (list_of S i)) 0 (λ z. inl (record { no_count = B.count_is i il ∙ z; no_last = B.last_none i il z }))
            (λ d. inr (full_from i (length (list_of S i) - 1) il (omega arith)));
      }

-- ---- helpers

-- a number is at one place of one list
once : {n m : ℕ} {S : View} (R : Rules n m S) (i p q : ℕ) → i < m → p < length (list_of S i) → q < length (list_of S i) → get_or (list_of S i) p 0 ≡ get_or (list_of S i) q 0 → p ≡ q
once {S = S} R i p q il h g e = sym (at R i p il h).place_is ∙ ap S.place e ∙ (at R i q il g).place_is

-- an element of the list 0 is found in it
found : {n m : ℕ} {S : View} (R : Rules n m S) (e : ℕ) → 0 < m → e < n → S.home e ≡ 0 → Found (list_of S 0) e
found {S = S} R e l el h =
    record {
      at = S.place e;
      inside = subst (λ (i : ℕ). S.place e < length (list_of S i)) h ((listed R).names_place e el (omega arith));
      is = list-of R 0 l e el h;
    }

four : (P : ℕ → Type 0) (j : ℕ) → P j → P (j + 1) → P (j + 2) → P (j + 3) → (f : ℕ) → f < 4 → P (j + f)
four P j a b c d f l =
    below f 1 (λ h. subst P (omega arith) a)
    (λ h1. below f 2 (λ h. subst P (omega arith) b) (λ h2. below f 3 (λ h. subst P (omega arith) c) (λ h3. subst P (omega arith) d)))

eight : (P : ℕ → Type 0) (j : ℕ) → Eight P j → (f : ℕ) → f < 8 → P (j + f)
eight P j r f l =
    below f 1 (λ h. subst P (omega arith) r.at0)
    (λ h1. below f 2 (λ h. subst P (omega arith) r.at1)
    (λ h2. below f 3 (λ h. subst P (omega arith) r.at2)
    (λ h3. below f 4 (λ h. subst P (omega arith) r.at3)
    (λ h4. below f 5 (λ h. subst P (omega arith) r.at4)
    (λ h5. below f 6 (λ h. subst P (omega arith) r.at5) (λ h6. below f 7 (λ h. subst P (omega arith) r.at6) (λ h7. subst P (omega arith) r.at7)))))))

start : (P : ℕ → Type 0) (j : ℕ) → P (j + 0) → P j
start P j h = subst P (omega arith) h

none_of : (k : ℕ) → (0 < k → ⊥) → k ≡ 0
none_of k h = either k 0 (λ z. z) (λ d. absurd (h (omega arith)))

-- a linked place has a key, a free one none
key_of : {h s k a b c s1 g1 s2 g2 : ℕ} → h ≢ none → JointRule h s k a b c s1 g1 s2 g2 → Keyed h s k c
key_of d (inl u) = absurd (d u.not_linked)
key_of d (inr k) = k

free_of : {h s k a b c s1 g1 s2 g2 : ℕ} → h ≡ none → JointRule h s k a b c s1 g1 s2 g2 → Unkeyed h s k a b c s1 g1 s2 g2
free_of e (inl u) = u
free_of e (inr k) = absurd (k.linked e)

kind-le : {k c : ℕ} → ((k ≡ 0) × (c ≡ 0)) ⊎ (k ≡ 1) → k ≤ 1
kind-le (inl x) = omega arith
kind-le (inr x) = omega arith

third-is : {k c : ℕ} → ((k ≡ 0) × (c ≡ 0)) ⊎ (k ≡ 1) → k ≡ 0 → c ≡ 0
third-is (inl x) e = x.1
third-is (inr x) e = absurd (omega arith)

two_ways : (k c : ℕ) → k ≤ 1 → (k ≡ 0 → c ≡ 0) → ((k ≡ 0) × (c ≡ 0)) ⊎ (k ≡ 1)
two_ways k c l h = either k 0 (λ e. inl (e, h e)) (λ d. inr (omega arith))

same_key-refl : (x : List ℕ) (p q : ℕ)
    → KeyWords (get_or x (8 * p) 0) (get_or x (8 * p + 1) 0) (get_or x (8 * p + 2) 0) (get_or x (8 * p + 3) 0) (get_or x (8 * q) 0) (get_or x (8 * q + 1) 0) (get_or x (8 * q + 2) 0) (get_or x (8 * q + 3) 0)
    → SameKey x p q
same_key-refl x p q k = record { kind = k.kind; a = k.first; b = k.second; c = k.third }

-- ---- from the local rules

module _ (Z : Sizes) (X : Extents) (T : Tables) (G : Good Z X T) where
  M : Rules X.slots X.islands (members_in Z T)
  M = G.members_wf.rules

  F : Rules X.islands 1 (freed_in Z T)
  F = G.freed_wf.rules

  -- how many bodies
  bodies-are : (i : ℕ) → i < X.islands → length (bodies_of Z T i) ≡ (members_in Z T).count i
  bodies-are i il = length-list M i il

  -- a number with no body is freed, and one in the stack has none
  freed-of : (i : ℕ) → i < X.islands → length (bodies_of Z T i) ≡ 0
      → Freed ((members_in Z T).count i) ((contacts_in Z T).count i) ((joints_in Z T).count i) (get_or T.rows (3 * i) 0) (get_or T.rows (3 * i + 1) 0) (get_or T.rows (3 * i + 2) 0) ((freed_in Z T).home i)
  freed-of i il z = let c = bodies-are i il in not_live (omega arith) (G.island i il)
    where
      not_live : {b c j r d z f : ℕ} → b ≡ 0 → IslandRule b c j r d z f → Freed b c j r d z f
      not_live e (inl x) = absurd (let y = x.some in omega arith)
      not_live e (inr x) = x

  listed_live : (i p : ℕ) → i < X.islands → p < length (bodies_of Z T i) → generation_at T (get_or (bodies_of Z T i) p 0) < none
  listed_live i p il h =
      let a = at M i p il h in
      let e = a.home_is in
      let s = M.m_small in
      filled (omega arith) (G.slot (get_or (bodies_of Z T i) p 0) a.lt)
    where
      filled : {g f e z h : ℕ} → h < none → SlotRule g f e z h → g < none
      filled l (inl v) = absurd (let y = v.no_member in omega arith)
      filled l (inr v) = v.generation_lt

  no_empty : (i : ℕ) → i < X.islands → ((p : ℕ) → p < length (free_stack Z T) → get_or (free_stack Z T) p 0 ≢ i) → 0 < length (bodies_of Z T i)
  no_empty i il h =
      either (length (bodies_of Z T i)) 0
      (λ z. absurd (let f = found F i (omega arith) il (freed-of i il z).in_stack in h f.at f.inside f.is))
      (λ d. omega arith)

  free_not_live : (p : ℕ) → p < length (free_stack Z T) → length (bodies_of Z T (get_or (free_stack Z T) p 0)) ≡ 0
  free_not_live p h =
      let a = at F 0 p (omega arith) h in
      let e = a.home_is in
      bodies-are (get_or (free_stack Z T) p 0) a.lt ∙ stacked e (G.island (get_or (free_stack Z T) p 0) a.lt)
    where
      stacked : {b c j r d z f : ℕ} → f ≡ 0 → IslandRule b c j r d z f → b ≡ 0
      stacked e (inl x) = absurd (let y = x.not_freed in omega arith)
      stacked e (inr x) = x.no_body

  has_body : (i : ℕ) → i < X.islands → length (bodies_of Z T i) ≢ 0 → 0 < length (bodies_of Z T i)
  has_body i il d = omega arith

  pub proper : Proper Z X T
  proper =
      record {
        members = listed M;
        listed_live = listed_live;
        contacts = listed G.contacts_wf.rules;
        joints = listed G.joints_wf.rules;
        contacts_live = λ i il h. has_body i il (λ z. let c = length-list G.contacts_wf.rules i il in let k = (freed-of i il z).no_contact in omega arith);
        joints_live = λ i il h. has_body i il (λ z. let c = length-list G.joints_wf.rules i il in let k = (freed-of i il z).no_joint in omega arith);
        key_once = λ p q pl ql hp hq e.
            G.distinct p q pl ql hp hq
            (same_key-refl T.keys p q (key-words _ _ _ _ _ _ _ _ (key_of hp (G.joint p pl)).key (key_of hq (G.joint q ql)).key e));
        no_empty = no_empty;
        free_once = λ p q h g e. once F 0 p q (omega arith) h g e;
        free_below = λ p h. (at F 0 p (omega arith) h).lt;
        free_not_live = free_not_live;
        free_all = λ i il z. found F i (omega arith) il (freed-of i il z).in_stack;
        enough = G.enough;
        slots_le = G.slots_le;
        islands_le = G.islands_le;
        edges_le = G.edges_le;
        joints_le = G.joints_le;
        journal_le = G.journal_le;
        generation_lt = λ s l d. live-generation d (G.slot s l);
        fixed_flag = λ s l. (slot-flags (G.slot s l)).0;
        enabled_flag = λ s l. (slot-flags (G.slot s l)).1;
        sleeping_flag = λ s l. (slot-flags (G.slot s l)).2;
        asleep_flag = λ i l. asleep (G.island i l);
        kind_flag = λ p l h. kind-le (key_of h (G.joint p l)).key;
        pending_flag = kind-le G.head.split;
        scanning_flag = scan-flag G.head;
        scan_once = λ p q h g e. once G.scan_wf.rules 0 p q (omega arith) h g e;
        scan_below = λ p h. (at G.scan_wf.rules 0 p (omega arith) h).lt;
      }
    where
      live-generation : {g f e z h : ℕ} → g ≢ none → SlotRule g f e z h → g < none
      live-generation d (inl v) = absurd (d v.no_generation)
      live-generation d (inr v) = v.generation_lt

  vacant : (s : ℕ) → s < X.slots → generation_at T s ≡ none
      → Vacant (get_or T.slots (5 * s) 0) (get_or T.slots (5 * s + 2) 0) (get_or T.slots (5 * s + 3) 0) (get_or T.slots (5 * s + 4) 0) ((members_in Z T).home s)
  vacant s l e = not-filled e (G.slot s l)
    where
      not-filled : {g f e z h : ℕ} → g ≡ none → SlotRule g f e z h → Vacant g f e z h
      not-filled e (inl v) = v
      not-filled e (inr v) = absurd (let y = v.generation_lt in omega arith)

  edge_blank : (e f : ℕ) → e < X.edges → f < 4 → (contacts_in Z T).home e ≡ none → get_or T.touches (4 * e + f) 0 ≡ none
  edge_blank e f el fl h =
      let u = not_linked h (G.edge e el) in
      four (λ j. get_or T.touches j 0 ≡ none) (4 * e) u.no_slot1 u.no_generation1 u.no_slot2 u.no_generation2 f fl
    where
      not_linked : {h a b c d : ℕ} → h ≡ none → EdgeRule h a b c d → Untouched h a b c d
      not_linked e (inl u) = u
      not_linked e (inr d) = absurd (d e)

  joint_blank : (p f : ℕ) → p < X.joints → f < 8 → (joints_in Z T).home p ≡ none → get_or T.keys (8 * p + f) 0 ≡ none
  joint_blank p f pl fl h =
      let u = free_of h (G.joint p pl) in
      eight (λ j. get_or T.keys j 0 ≡ none) (8 * p)
      (record {
        at0 = u.no_kind;
        at1 = u.no_a;
        at2 = u.no_b;
        at3 = u.no_c;
        at4 = u.no_slot1;
        at5 = u.no_generation1;
        at6 = u.no_slot2;
        at7 = u.no_generation2;
      })
      f
      fl

  pub tidy : Tidy Z X T
  tidy =
      record {
        members_long = G.members_wf.lists_below;
        freed_long = (let h = G.freed_wf.lists_below in omega arith);
        contacts_long = G.contacts_wf.lists_below;
        joints_long = G.joints_wf.lists_below;
        spare_long = (let h = G.spare_wf.lists_below in omega arith);
        scan_long = (let h = G.scan_wf.lists_below in omega arith);
        members_linked = linked M;
        freed_linked = linked F;
        contacts_linked = linked G.contacts_wf.rules;
        joints_linked = linked G.joints_wf.rules;
        spare_linked = linked G.spare_wf.rules;
        scan_linked = linked G.scan_wf.rules;
        freed_listed = listed F;
        spare_listed = listed G.spare_wf.rules;
        scan_listed = listed G.scan_wf.rules;
        spare_free = λ p l h. (free_of h (G.joint p l)).in_stack;
        spare_not = λ p l h. (key_of h (G.joint p l)).not_spare;
        vacant_fixed = λ s l e. (vacant s l e).not_fixed;
        vacant_enabled = λ s l e. (vacant s l e).not_enabled;
        vacant_sleeping = λ s l e. (vacant s l e).not_sleeping;
        freed_removals = λ i il z. (freed-of i il z).no_removals;
        freed_denial = λ i il z. (freed-of i il z).no_denial;
        freed_awake = λ i il z. (freed-of i il z).not_sleeping;
        edge_blank = edge_blank;
        joint_blank = joint_blank;
        impulse_third = λ p l h e. third-is (key_of h (G.joint p l)).key e;
        fit_flag = λ i il. fit-le (G.seen i il);
        fit_blank = λ i il h. fit_none h (G.seen i il);
        no_number = λ e. third-is G.head.split e;
        no_scan = λ e. length-list G.scan_wf.rules 0 (omega arith) ∙ third-is G.head.scan e;
      }
    where
      fit-le : {h f : ℕ} → ScanRule h f → f ≤ 1
      fit-le (inl x) = omega arith
      fit-le (inr x) = x.fit_flag

      fit_none : {h f : ℕ} → h ≡ none → ScanRule h f → f ≡ 0
      fit_none e (inl x) = x.no_fit
      fit_none e (inr x) = absurd (x.listed e)

-- ---- and back

module _ (Z : Sizes) (X : Extents) (T : Tables) (P : Proper Z X T) (D : Tidy Z X T) where
  bodies-count : (i : ℕ) → i < X.islands → (members_in Z T).count i ≡ length (bodies_of Z T i)
  bodies-count i il = D.members_linked.count_is i il

  -- who has no live body is no member
  no_member : (s : ℕ) → s < X.slots → generation_at T s ≡ none → (members_in Z T).home s ≡ none
  no_member s l e =
      let h = (members_in Z T).home s in
      either h none (λ z. z)
      (λ d.
      let hl = P.members.names_list s l d in
      let g = P.listed_live h ((members_in Z T).place s) hl (P.members.names_place s l d) in
      let q : generation_at T (get_or (bodies_of Z T h) ((members_in Z T).place s) 0) ≡ generation_at T s = ap (generation_at T) (P.members.holds s l d) in
      absurd (omega arith))

  slot-from : (s : ℕ) → s < X.slots → SlotAt Z T s
  slot-from s l =
      either (generation_at T s) none
      (λ e.
      inl
      (record {
        no_generation = e;
        not_fixed = D.vacant_fixed s l e;
        not_enabled = D.vacant_enabled s l e;
        not_sleeping = D.vacant_sleeping s l e;
        no_member = no_member s l e;
      }))
      (λ d.
      inr
      (record {
        generation_lt = P.generation_lt s l d;
        fixed_flag = P.fixed_flag s l;
        enabled_flag = P.enabled_flag s l;
        sleeping_flag = P.sleeping_flag s l;
      }))

  -- a live number is not in the free stack, and another is
  not_freed : (i : ℕ) → i < X.islands → length (bodies_of Z T i) ≢ 0 → (freed_in Z T).home i ≡ none
  not_freed i il n =
      let h = (freed_in Z T).home i in
      either h none (λ z. z)
      (λ d.
      let z : h ≡ 0 = (let hl = D.freed_listed.names_list i il d in omega arith) in
      let pl : (freed_in Z T).place i < length (free_stack Z T) = subst (λ (k : ℕ). (freed_in Z T).place i < length (list_of (freed_in Z T) k)) z (D.freed_listed.names_place i il d) in
      let q : get_or (free_stack Z T) ((freed_in Z T).place i) 0 ≡ i = subst (λ (k : ℕ). get_or (list_of (freed_in Z T) k) ((freed_in Z T).place i) 0 ≡ i) z (D.freed_listed.holds i il d) in
      absurd (n (subst (λ (k : ℕ). length (bodies_of Z T k) ≡ 0) q (P.free_not_live ((freed_in Z T).place i) pl))))

  in_stack : (i : ℕ) → i < X.islands → length (bodies_of Z T i) ≡ 0 → (freed_in Z T).home i ≡ 0
  in_stack i il z =
      let f = P.free_all i il z in
      subst (λ (k : ℕ). (freed_in Z T).home k ≡ 0) f.is (D.freed_listed.listed_home 0 f.at (omega arith) f.inside)

  island-from : (i : ℕ) → i < X.islands → IslandAt Z T i
  island-from i il =
      let c = bodies-count i il in
      either (length (bodies_of Z T i)) 0
      (λ z.
      inr
      (record {
        no_body = c ∙ z;
        no_contact = D.contacts_linked.count_is i il ∙ none_of (length (list_of (contacts_in Z T) i)) (λ h. let k = P.contacts_live i il h in omega arith);
        no_joint = D.joints_linked.count_is i il ∙ none_of (length (list_of (joints_in Z T) i)) (λ h. let k = P.joints_live i il h in omega arith);
        no_removals = D.freed_removals i il z;
        no_denial = D.freed_denial i il z;
        not_sleeping = D.freed_awake i il z;
        in_stack = in_stack i il z;
      }))
      (λ d. inl (record { some = omega arith; sleeping_flag = P.asleep_flag i il; not_freed = not_freed i il d }))

  seen-from : (i : ℕ) → i < X.islands → SeenAt Z T i
  seen-from i il =
      either ((scan_in Z T).home i) none (λ e. inl (record { not_listed = e; no_fit = D.fit_blank i il e })) (λ d. inr (record { listed = d; fit_flag = D.fit_flag i il }))

  edge-from : (e : ℕ) → e < X.edges → EdgeAt Z T e
  edge-from e el =
      either ((contacts_in Z T).home e) none
      (λ h.
      inl
      (record {
        not_linked = h;
        no_slot1 = start (λ j. get_or T.touches j 0 ≡ none) (4 * e) (D.edge_blank e 0 el (omega arith) h);
        no_generation1 = D.edge_blank e 1 el (omega arith) h;
        no_slot2 = D.edge_blank e 2 el (omega arith) h;
        no_generation2 = D.edge_blank e 3 el (omega arith) h;
      }))
      (λ d. inr d)

  joint-from : (p : ℕ) → p < X.joints → JointAt Z T p
  joint-from p pl =
      either ((joints_in Z T).home p) none
      (λ h.
      inl
      (record {
        not_linked = h;
        in_stack = D.spare_free p pl h;
        no_kind = start (λ j. get_or T.keys j 0 ≡ none) (8 * p) (D.joint_blank p 0 pl (omega arith) h);
        no_a = D.joint_blank p 1 pl (omega arith) h;
        no_b = D.joint_blank p 2 pl (omega arith) h;
        no_c = D.joint_blank p 3 pl (omega arith) h;
        no_slot1 = D.joint_blank p 4 pl (omega arith) h;
        no_generation1 = D.joint_blank p 5 pl (omega arith) h;
        no_slot2 = D.joint_blank p 6 pl (omega arith) h;
        no_generation2 = D.joint_blank p 7 pl (omega arith) h;
      }))
      (λ d. inr (record { linked = d; not_spare = D.spare_not p pl d; key = two_ways _ _ (P.kind_flag p pl d) (D.impulse_third p pl d) }))

  distinct_from : Distinct (joints_in Z T).home T.keys X.joints
  distinct_from p q pl ql hp hq s = P.key_once p q pl ql hp hq (rw (s.kind, s.a, s.b, s.c))

  pub good : Good Z X T
  good =
      let a = P.slots_le in
      let b = P.islands_le in
      let c = P.edges_le in
      let d = P.joints_le in
      record {
        enough = P.enough;
        slots_le = a;
        islands_le = b;
        edges_le = c;
        joints_le = d;
        journal_le = P.journal_le;
        members_wf = record { elems_below = omega arith; lists_below = D.members_long; rules = rules-of P.members D.members_linked };
        freed_wf = record { elems_below = omega arith; lists_below = (let h = D.freed_long in omega arith); rules = rules-of D.freed_listed D.freed_linked };
        contacts_wf = record { elems_below = omega arith; lists_below = D.contacts_long; rules = rules-of P.contacts D.contacts_linked };
        joints_wf = record { elems_below = omega arith; lists_below = D.joints_long; rules = rules-of P.joints D.joints_linked };
        spare_wf = record { elems_below = omega arith; lists_below = (let h = D.spare_long in omega arith); rules = rules-of D.spare_listed D.spare_linked };
        scan_wf = record { elems_below = omega arith; lists_below = (let h = D.scan_long in omega arith); rules = rules-of D.scan_listed D.scan_linked };
        slot = slot-from;
        island = island-from;
        seen = seen-from;
        edge = edge-from;
        joint = joint-from;
        distinct = distinct_from;
        head =
            record {
              split = two_ways _ _ P.pending_flag D.no_number;
              scan = two_ways _ _ P.scanning_flag (λ e. D.scan_linked.count_is 0 (omega arith) ∙ D.no_scan e);
            };
      }

pub good-is : (Z : Sizes) (X : Extents) (T : Tables) → Good Z X T ↔ (Proper Z X T × Tidy Z X T)
good-is Z X T = (λ G. (proper Z X T G, tidy Z X T G), λ h. good Z X T h.0 h.1)

-- of a buffer
pub sound-is : (Z : Sizes) (t : List ℕ) → Sound Z t ↔ ((length t ≡ total Z) × Proper Z (extents (tables Z t)) (tables Z t) × Tidy Z (extents (tables Z t)) (tables Z t))
sound-is Z t =
    let X = extents (tables Z t) in
    let T = tables Z t in
    (λ S. (S.long, proper Z X T S.good, tidy Z X T S.good), λ h. record { long = h.0; good = good Z X T h.1 h.2 })
