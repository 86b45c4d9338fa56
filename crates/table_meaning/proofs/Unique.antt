-- Two buffers that are both well formed, hold the same state and have the same words behind the extents are the same, word for word.
-- So two programs that meet a call's definition agree on the answer and on every word.
use mathlib.Core.Path.{◌≡◌, refl, sym, ◌∙◌, ap, subst}
use mathlib.Core.Logic.{◌⊎◌, inl, inr, ◌≢◌, ⊎_elim}
use mathlib.Core.Option.{none, some}
use Prim.Native.Nat.{ℕ, zero, suc, ◌+◌, ◌-◌, ◌*◌, ◌≤◌, ◌<◌}
use native.Mathlib.Omega.{arith}
use mathlib.Core.List.{List, [], ◌∷◌, map}
use borrow.Author.Tests.{eq-eqb, ne_eqb, eqb-true, eqb-false}
use lib.ListN.{length, get_or}
use lib.Seq.{ext_get_or}
use Rattle.list_in_table.specs.Rules.{View, Rules, Held, list_of, none as nowhere}
use Rattle.list_in_table.specs.Table.{view, Wf}
use Rattle.list_in_table.proofs.Laws.{either, held}
use Rattle.list_in_table.proofs.Order.{length-list, list-of}
use Rattle.list_in_table.proofs.Same.{below, rows2, rows4, same-elem, same_count, same-last}
use Rattle.list_in_buffer.specs.Part.{part}
use Rattle.list_in_buffer.proofs.Laws.{part-get}
use Rattle.def_kinds.specs.declared.Sizes.{Sizes}
use Rattle.def_kinds.specs.Answers.{Answer}
use Rattle.def_state.specs.World.{Handle, Body, absent_body, impulse, chain, ContactLink, JointLink, Island, absent_island, Removal, Observed, World, Step}
use Rattle.table_meaning.specs.Layout.{Tables, tables, total, Extents, extents, contacts_in, joints_in, scan_in, head_at, head_span, slots_at, slots_span, members_at, members_span, rows_at, rows_span, freed_at, freed_span, contacts_at, contacts_span, touches_at, touches_span, joints_at, joints_span, keys_at, keys_span, spare_at, spare_span, journal_at, journal_span, scan_at, scan_span, fit_at, fit_span}
use Rattle.table_meaning.specs.Decode.{flag, handle_at, body_at, contact_at, key_of, joint_at, removal_at, observed_at, island_in, pending, decode, world_of}
use Rattle.table_meaning.specs.Rule.{SlotRule, IslandRule, ScanRule, EdgeRule, JointRule, HeadRule}
use Rattle.table_meaning.specs.Sound.{Good, Sound}
use Rattle.table_meaning.specs.Does.{RowsKept, ChainKept, SameBehind, Does, Called, Asks, Reset}
use Rattle.table_meaning.proofs.Puts.{Sized, sized}
use Rattle.table_meaning.proofs.Tab.{tabulate-at, length-tabulate}
use Rattle.table_meaning.proofs.Frame.{kept-both, extents-is}

-- ---- the extents, read off the state

module _ (Z : Sizes) (t : List ℕ) where
  pub slots-is : length (world_of Z t).bodies ≡ (extents (tables Z t)).slots
  unfolding world_of
  slots-is = length-tabulate (extents (tables Z t)).slots (body_at (tables Z t).slots)

  pub islands-is : length (world_of Z t).islands ≡ (extents (tables Z t)).islands
  unfolding world_of
  islands-is = length-tabulate (extents (tables Z t)).islands (island_in Z (tables Z t))

  pub tracked-is : (world_of Z t).tracked ≡ (extents (tables Z t)).edges
  unfolding world_of
  tracked-is = refl

  pub places_is : (world_of Z t).joint_places ≡ (extents (tables Z t)).joints
  unfolding world_of
  places_is = refl

  pub journal_is : length (world_of Z t).removal_journal ≡ (extents (tables Z t)).journal
  unfolding world_of
  journal_is = length-tabulate (extents (tables Z t)).journal (removal_at (tables Z t).journal)

pub extents_same : (Z : Sizes) (t u : List ℕ) → world_of Z t ≡ world_of Z u → extents (tables Z t) ≡ extents (tables Z u)
extents_same Z t u e =
    extents-is (sym (slots-is Z t) ∙ ap (λ (w : World). length w.bodies) e ∙ slots-is Z u)
    (sym (islands-is Z t) ∙ ap (λ (w : World). length w.islands) e ∙ islands-is Z u)
    (sym (tracked-is Z t) ∙ ap (λ (w : World). w.tracked) e ∙ tracked-is Z u)
    (sym (places_is Z t) ∙ ap (λ (w : World). w.joint_places) e ∙ places_is Z u)
    (sym (journal_is Z t) ∙ ap (λ (w : World). length w.removal_journal) e ∙ journal_is Z u)

-- ---- rows of k words

pub rows3 : (P : ℕ → Type 0) (n : ℕ) → ((s : ℕ) → s < n → P (3 * s) × P (3 * s + 1) × P (3 * s + 2)) → (j : ℕ) → j < 3 * n → P j
rows3 P zero h j l = absurd (omega arith)
rows3 P (suc n) h j l =
    let r = h n (omega arith) in
    below j (3 * n) (λ a. rows3 P n (λ s sl. h s (omega arith)) j a)
    (λ b. below j (3 * n + 1) (λ a. subst P (omega arith) r.0)
    (λ b1. below j (3 * n + 2) (λ a. subst P (omega arith) r.1) (λ b2. subst P (omega arith) r.2)))

pub rows5 : (P : ℕ → Type 0) (n : ℕ) → ((s : ℕ) → s < n → P (5 * s) × P (5 * s + 1) × P (5 * s + 2) × P (5 * s + 3) × P (5 * s + 4)) → (j : ℕ) → j < 5 * n → P j
rows5 P zero h j l = absurd (omega arith)
rows5 P (suc n) h j l =
    let r = h n (omega arith) in
    below j (5 * n) (λ a. rows5 P n (λ s sl. h s (omega arith)) j a)
    (λ b. below j (5 * n + 1) (λ a. subst P (omega arith) r.0)
    (λ b1. below j (5 * n + 2) (λ a. subst P (omega arith) r.1)
    (λ b2. below j (5 * n + 3) (λ a. subst P (omega arith) r.2)
    (λ b3. below j (5 * n + 4) (λ a. subst P (omega arith) r.3) (λ b4. subst P (omega arith) r.4)))))

pub record Eight (P : ℕ → Type 0) (j : ℕ) : Type 0 where
  pub at0 : P j
  pub at1 : P (j + 1)
  pub at2 : P (j + 2)
  pub at3 : P (j + 3)
  pub at4 : P (j + 4)
  pub at5 : P (j + 5)
  pub at6 : P (j + 6)
  pub at7 : P (j + 7)

pub rows8 : (P : ℕ → Type 0) (n : ℕ) → ((s : ℕ) → s < n → Eight P (8 * s)) → (j : ℕ) → j < 8 * n → P j
rows8 P zero h j l = absurd (omega arith)
rows8 P (suc n) h j l =
    let r = h n (omega arith) in
    below j (8 * n) (λ a. rows8 P n (λ s sl. h s (omega arith)) j a)
    (λ b. below j (8 * n + 1) (λ a. subst P (omega arith) r.at0)
    (λ b1. below j (8 * n + 2) (λ a. subst P (omega arith) r.at1)
    (λ b2. below j (8 * n + 3) (λ a. subst P (omega arith) r.at2)
    (λ b3. below j (8 * n + 4) (λ a. subst P (omega arith) r.at3)
    (λ b4. below j (8 * n + 5) (λ a. subst P (omega arith) r.at4)
    (λ b5. below j (8 * n + 6) (λ a. subst P (omega arith) r.at5)
    (λ b6. below j (8 * n + 7) (λ a. subst P (omega arith) r.at6) (λ b7. subst P (omega arith) r.at7))))))))

-- a table of rows: the words in use, and those behind
rows_same : (x y : List ℕ) (k : ℕ) → length x ≡ length y → ((j : ℕ) → j < k → get_or x j 0 ≡ get_or y j 0) → RowsKept k x y → x ≡ y
rows_same x y k l h F = ext_get_or 0 x y l (λ j jl. below j k (λ a. h j a) (λ b. sym (F j b)))

-- ---- chain tables of n elements and m lists, in room for N elements

module _ (t u : List ℕ) (N n m : ℕ) (w : Wf t 0 (4 * N) n m) (w' : Wf u 0 (4 * N) n m)
    (L : (i : ℕ) → i < m → list_of (view t 0 (4 * N)) i ≡ list_of (view u 0 (4 * N)) i) where
  abbrev Eq : ℕ → Type 0
  Eq j = get_or t j 0 ≡ get_or u j 0

  same-elems : (j : ℕ) → j < 4 * n → Eq j
  same-elems =
      rows4 Eq n
      (λ s sl.
      let a = same-elem w.rules w'.rules L s sl in
      let e : 0 + 4 * s ≡ 4 * s = omega arith in
      (subst Eq e a.home, subst (λ (x : ℕ). Eq (x + 1)) e a.place, subst (λ (x : ℕ). Eq (x + 2)) e a.prev, subst (λ (x : ℕ). Eq (x + 3)) e a.next))

  same_ends : (j : ℕ) → j < 2 * m → Eq (4 * N + j)
  same_ends =
      rows2 (λ j. Eq (4 * N + j)) m
      (λ i il. (same_count w.rules w'.rules L i il, (let e : 4 * N + 2 * i + 1 ≡ 4 * N + (2 * i + 1) = omega arith in subst Eq e (same-last w.rules w'.rules L i il))))

  same-chain : length t ≡ length u → ChainKept N n m t u → t ≡ u
  same-chain l K =
      ext_get_or 0 t u l
      (λ j jl.
      below j (4 * n) (λ a. same-elems j a)
      (λ b. below j (4 * N) (λ c. sym (K.elems j b c))
      (λ c. below j (4 * N + 2 * m) (λ d. let e : 4 * N + (j - 4 * N) ≡ j = omega arith in subst Eq e (same_ends (j - 4 * N) (omega arith))) (λ d. sym (K.ends j d)))))

-- with one list
module _ (t u : List ℕ) (N n : ℕ) (w : Wf t 0 (4 * N) n 1) (w' : Wf u 0 (4 * N) n 1) (L : list_of (view t 0 (4 * N)) 0 ≡ list_of (view u 0 (4 * N)) 0) where
  only : (i : ℕ) → i < 1 → list_of (view t 0 (4 * N)) i ≡ list_of (view u 0 (4 * N)) i
  only i il = let z : 0 ≡ i = omega arith in subst (λ (k : ℕ). list_of (view t 0 (4 * N)) k ≡ list_of (view u 0 (4 * N)) k) z L

  same-stack : length t ≡ length u → ChainKept N n 1 t u → t ≡ u
  same-stack l K = same-chain t u N n 1 w w' only l K

-- ---- lists of values by number

module _ {A : Type 0} where
  -- the numbers are read off the values
  numbers : (f : ℕ → A) (g : A → ℕ) → ((e : ℕ) → g (f e) ≡ e) → (l : List ℕ) → map g (map f l) ≡ l
  numbers f g h [] = refl
  numbers f g h (e ∷ l) = ap (λ (x : ℕ). x ∷ map g (map f l)) (h e) ∙ ap (λ (x : List ℕ). e ∷ x) (numbers f g h l)

  pub same_numbers : (f f' : ℕ → A) (g : A → ℕ) → ((e : ℕ) → g (f e) ≡ e) → ((e : ℕ) → g (f' e) ≡ e) → (l l' : List ℕ) → map f l ≡ map f' l' → l ≡ l'
  same_numbers f f' g h h' l l' e = sym (numbers f g h l) ∙ ap (map g) e ∙ numbers f' g h' l'

  map_get : (f : ℕ → A) (d : A) (l : List ℕ) (p : ℕ) → p < length l → get_or (map f l) p d ≡ f (get_or l p 0)
  map_get f d [] p h = absurd (omega arith)
  map_get f d (x ∷ l) zero h = refl
  map_get f d (x ∷ l) (suc p) h = map_get f d l p (omega arith)

  -- a number in the list has the same value
  pub same-value : (f f' : ℕ → A) (l l' : List ℕ) → map f l ≡ map f' l' → l ≡ l' → (p : ℕ) → p < length l → f (get_or l p 0) ≡ f' (get_or l p 0)
  same-value f f' l l' e q p h =
      sym (map_get f (f 0) l p h) ∙ ap (λ (x : List A). get_or x p (f 0)) e
      ∙ map_get f' (f 0) l' p (subst (λ (x : List ℕ). p < length x) q h) ∙ ap (λ (x : List ℕ). f' (get_or x p 0)) (sym q)

-- a held element of a table whose lists' values agree has the same value
module _ {A : Type 0} {n m : ℕ} {S : View} (S' : View) (R : Rules n m S) (f f' : ℕ → A) (W : (i : ℕ) → i < m → map f (list_of S i) ≡ map f' (list_of S' i))
    (L : (i : ℕ) → i < m → list_of S i ≡ list_of S' i) where
  held-value : (e : ℕ) → e < n → S.home e ≢ nowhere → f e ≡ f' e
  held-value e l h =
      let k : Held n m S e = held R e l h in
      let i = S.home e in
      let q : get_or (list_of S i) (S.place e) 0 ≡ e = list-of R i k.home_lt e l refl in
      let p : S.place e < length (list_of S i) = subst (λ (c : ℕ). S.place e < c) (sym (length-list R i k.home_lt)) k.place_lt in
      subst (λ (x : ℕ). f x ≡ f' x) q (same-value f f' (list_of S i) (list_of S' i) (W i k.home_lt) (L i k.home_lt) (S.place e) p)

-- ---- words, from what they mean

pub flag_word : (a b : ℕ) → a ≤ 1 → b ≤ 1 → flag a ≡ flag b → a ≡ b
flag_word a b la lb e =
    either a 1 (λ p. p ∙ sym (eqb-true b 1 (sym e ∙ eq-eqb a 1 p)))
    (λ d. let q : b ≢ 1 = eqb-false b 1 (sym e ∙ ne_eqb a 1 d) in omega arith)

pending-word : (a i b j : ℕ) → ((a ≡ 0) × (i ≡ 0)) ⊎ (a ≡ 1) → ((b ≡ 0) × (j ≡ 0)) ⊎ (b ≡ 1) → pending a i ≡ pending b j → (a ≡ b) × (i ≡ j)
pending-word a i b j (inl x) (inl y) e = (x.0 ∙ sym y.0, x.1 ∙ sym y.1)
pending-word a i b j (inl x) (inr y) e =
    let p : none ≡ some j = rw (x.0, y) at e in
    let z : ◌≡◌ {A = ℕ} 0 1 = cc in
    absurd (omega arith)
pending-word a i b j (inr x) (inl y) e =
    let p : some i ≡ none = rw (x, y.0) at e in
    let z : ◌≡◌ {A = ℕ} 0 1 = cc in
    absurd (omega arith)
pending-word a i b j (inr x) (inr y) e =
    let p : some i ≡ some j = rw (x, y) at e in
    (x ∙ sym y, (cc))

-- the four words of a key
pub record KeyWords (k a b c k' a' b' c' : ℕ) : Type 0 where
  pub kind : k ≡ k'
  pub first : a ≡ a'
  pub second : b ≡ b'
  pub third : c ≡ c'

pub key-words : (k a b c k' a' b' c' : ℕ) → ((k ≡ 0) × (c ≡ 0)) ⊎ (k ≡ 1) → ((k' ≡ 0) × (c' ≡ 0)) ⊎ (k' ≡ 1) → key_of k a b c ≡ key_of k' a' b' c' → KeyWords k a b c k' a' b' c'
key-words k a b c k' a' b' c' (inl x) (inl y) e =
    let p : impulse a b ≡ impulse a' b' = rw (x.0, y.0) at e in
    record { kind = x.0 ∙ sym y.0; first = cc; second = cc; third = x.1 ∙ sym y.1 }
key-words k a b c k' a' b' c' (inl x) (inr y) e =
    let p : impulse a b ≡ chain a' b' c' = rw (x.0, y) at e in
    let z : ◌≡◌ {A = ℕ} 0 1 = cc in
    absurd (omega arith)
key-words k a b c k' a' b' c' (inr x) (inl y) e =
    let p : chain a b c ≡ impulse a' b' = rw (x, y.0) at e in
    let z : ◌≡◌ {A = ℕ} 0 1 = cc in
    absurd (omega arith)
key-words k a b c k' a' b' c' (inr x) (inr y) e =
    let p : chain a b c ≡ chain a' b' c' = rw (x, y) at e in
    record { kind = x ∙ sym y; first = cc; second = cc; third = cc }

-- ---- an entry's words

pub slot-flags : {g f e z h : ℕ} → SlotRule g f e z h → (f ≤ 1) × (e ≤ 1) × (z ≤ 1)
slot-flags (inl v) = omega arith
slot-flags (inr v) = omega arith

pub asleep : {b c j r d z f : ℕ} → IslandRule b c j r d z f → z ≤ 1
asleep (inl v) = omega arith
asleep (inr v) = omega arith

pub scan-flag : {p i s k : ℕ} → HeadRule p i s k → s ≤ 1
scan-flag h = ⊎_elim (λ a. omega arith) (λ a. omega arith) h.scan

pub zero-only : (i : ℕ) → i < 1 → i ≡ 0
zero-only i l = omega arith

-- x and y have the same word at j
abbrev Word : List ℕ → List ℕ → ℕ → Type 0
Word x y j = get_or x j 0 ≡ get_or y j 0

slot-words : (x y : List ℕ) (s : ℕ) {h h' : ℕ}
    → SlotRule (get_or x (5 * s) 0) (get_or x (5 * s + 2) 0) (get_or x (5 * s + 3) 0) (get_or x (5 * s + 4) 0) h
    → SlotRule (get_or y (5 * s) 0) (get_or y (5 * s + 2) 0) (get_or y (5 * s + 3) 0) (get_or y (5 * s + 4) 0) h'
    → body_at x s ≡ body_at y s
    → Word x y (5 * s) × Word x y (5 * s + 1) × Word x y (5 * s + 2) × Word x y (5 * s + 3) × Word x y (5 * s + 4)
slot-words x y s a b e =
    let f = slot-flags a in
    let g = slot-flags b in (
      ap (λ (b : Body). b.generation) e,
      ap (λ (b : Body). b.lowest) e,
      flag_word _ _ f.0 g.0 (ap (λ (b : Body). b.fixed) e),
      flag_word _ _ f.1 g.1 (ap (λ (b : Body). b.enabled) e),
      flag_word _ _ f.2 g.2 (ap (λ (b : Body). b.sleeping) e),
    )

-- two handles
pair-words : (x y : List ℕ) (j : ℕ) → handle_at x j ≡ handle_at y j → handle_at x (j + 2) ≡ handle_at y (j + 2)
    → Word x y j × Word x y (j + 1) × Word x y (j + 2) × Word x y (j + 3)
pair-words x y j a b =
    let q : j + 2 + 1 ≡ j + 3 = omega arith in (
      ap (λ (h : Handle). h.slot) a,
      ap (λ (h : Handle). h.generation) a,
      ap (λ (h : Handle). h.slot) b,
      subst (Word x y) q (ap (λ (h : Handle). h.generation) b),
    )

edge-words : (x y : List ℕ) (e : ℕ) {h h' : ℕ} → h ≡ h'
    → EdgeRule h (get_or x (4 * e) 0) (get_or x (4 * e + 1) 0) (get_or x (4 * e + 2) 0) (get_or x (4 * e + 3) 0)
    → EdgeRule h' (get_or y (4 * e) 0) (get_or y (4 * e + 1) 0) (get_or y (4 * e + 2) 0) (get_or y (4 * e + 3) 0)
    → (h ≢ nowhere → contact_at x e ≡ contact_at y e)
    → Word x y (4 * e) × Word x y (4 * e + 1) × Word x y (4 * e + 2) × Word x y (4 * e + 3)
edge-words x y e q (inl a) (inl b) v = (
  a.no_slot1 ∙ sym b.no_slot1,
  a.no_generation1 ∙ sym b.no_generation1,
  a.no_slot2 ∙ sym b.no_slot2,
  a.no_generation2 ∙ sym b.no_generation2,
)
edge-words x y e q (inl a) (inr b) v = absurd (b (sym q ∙ a.not_linked))
edge-words x y e q (inr a) o v =
    let c : contact_at x e ≡ contact_at y e = v a in
    pair-words x y (4 * e) (ap (λ (l : ContactLink). l.body1) c) (ap (λ (l : ContactLink). l.body2) c)

abbrev EightRule : List ℕ → ℕ → ℕ → ℕ → Type 0
EightRule x p h s =
    JointRule h s (get_or x (8 * p) 0) (get_or x (8 * p + 1) 0) (get_or x (8 * p + 2) 0) (get_or x (8 * p + 3) 0) (get_or x (8 * p + 4) 0) (get_or x (8 * p + 5) 0) (get_or x (8 * p + 6) 0)
    (get_or x (8 * p + 7) 0)

joint-words : (x y : List ℕ) (p : ℕ) {h h' s s' : ℕ} → h ≡ h' → EightRule x p h s → EightRule y p h' s' → (h ≢ nowhere → joint_at x p ≡ joint_at y p) → Eight (Word x y) (8 * p)
joint-words x y p q (inl a) (inl b) v =
    record {
      at0 = a.no_kind ∙ sym b.no_kind;
      at1 = a.no_a ∙ sym b.no_a;
      at2 = a.no_b ∙ sym b.no_b;
      at3 = a.no_c ∙ sym b.no_c;
      at4 = a.no_slot1 ∙ sym b.no_slot1;
      at5 = a.no_generation1 ∙ sym b.no_generation1;
      at6 = a.no_slot2 ∙ sym b.no_slot2;
      at7 = a.no_generation2 ∙ sym b.no_generation2;
    }
joint-words x y p q (inl a) (inr b) v = absurd (b.linked (sym q ∙ a.not_linked))
joint-words x y p q (inr a) (inl b) v = absurd (a.linked (q ∙ b.not_linked))
joint-words x y p q (inr a) (inr b) v =
    let c : joint_at x p ≡ joint_at y p = v a.linked in
    let k = key-words _ _ _ _ _ _ _ _ a.key b.key (ap (λ (l : JointLink). l.key) c) in
    let e5 : 8 * p + 4 + 1 ≡ 8 * p + 5 = omega arith in
    let e7 : 8 * p + 6 + 1 ≡ 8 * p + 7 = omega arith in
    record {
      at0 = k.kind;
      at1 = k.first;
      at2 = k.second;
      at3 = k.third;
      at4 = ap (λ (l : JointLink). l.body1.slot) c;
      at5 = subst (Word x y) e5 (ap (λ (l : JointLink). l.body1.generation) c);
      at6 = ap (λ (l : JointLink). l.body2.slot) c;
      at7 = subst (Word x y) e7 (ap (λ (l : JointLink). l.body2.generation) c);
    }

fit_word : (x y : List ℕ) (i : ℕ) {h h' : ℕ} → h ≡ h' → ScanRule h (get_or x i 0) → ScanRule h' (get_or y i 0) → (h ≢ nowhere → observed_at x i ≡ observed_at y i) → Word x y i
fit_word x y i q (inl a) (inl b) v = a.no_fit ∙ sym b.no_fit
fit_word x y i q (inl a) (inr b) v = absurd (b.listed (sym q ∙ a.not_listed))
fit_word x y i q (inr a) (inl b) v = absurd (a.listed (q ∙ b.not_listed))
fit_word x y i q (inr a) (inr b) v = flag_word _ _ a.fit_flag b.fit_flag (ap (λ (o : Observed). o.eligible) (v a.listed))

record HeadWords (x y : List ℕ) : Type 0 where
  slots : Word x y 0
  islands : Word x y 1
  edges : Word x y 2
  joints : Word x y 3
  journal : Word x y 4
  pends : Word x y 5
  number : Word x y 6
  stamp : Word x y 7
  scans : Word x y 8

head-words : (x y : List ℕ) → length x ≡ 9 → length y ≡ 9 → HeadWords x y → x ≡ y
head-words x y lx ly h =
    ext_get_or 0 x y (lx ∙ sym ly)
    (λ j l.
    below j 1 (λ a. subst (Word x y) (omega arith) h.slots)
    (λ b1. below j 2 (λ a. subst (Word x y) (omega arith) h.islands)
    (λ b2. below j 3 (λ a. subst (Word x y) (omega arith) h.edges)
    (λ b3. below j 4 (λ a. subst (Word x y) (omega arith) h.joints)
    (λ b4. below j 5 (λ a. subst (Word x y) (omega arith) h.journal)
    (λ b5. below j 6 (λ a. subst (Word x y) (omega arith) h.pends)
    (λ b6. below j 7 (λ a. subst (Word x y) (omega arith) h.number)
    (λ b7. below j 8 (λ a. subst (Word x y) (omega arith) h.stamp) (λ b8. subst (Word x y) (omega arith) h.scans)))))))))

-- ---- the tables

module _ (Z : Sizes) (X : Extents) (T U : Tables) (G : Good Z X T) (H : Good Z X U) (K : Sized Z T) (J : Sized Z U) (E : decode Z X T ≡ decode Z X U) (F : SameBehind Z X T U) where
  body : (s : ℕ) → s < X.slots → body_at T.slots s ≡ body_at U.slots s
  body = tabulate-at X.slots (body_at T.slots) (body_at U.slots) absent_body (ap (λ (w : World). w.bodies) E)

  isle : (i : ℕ) → i < X.islands → island_in Z T i ≡ island_in Z U i
  isle = tabulate-at X.islands (island_in Z T) (island_in Z U) absent_island (ap (λ (w : World). w.islands) E)

  same-slots : T.slots ≡ U.slots
  same-slots =
      rows_same T.slots U.slots (5 * X.slots) (K.slots_length ∙ sym J.slots_length)
      (rows5 (λ j. get_or T.slots j 0 ≡ get_or U.slots j 0) X.slots (λ s sl. slot-words T.slots U.slots s (G.slot s sl) (H.slot s sl) (body s sl)))
      F.slots

  same_rows : T.rows ≡ U.rows
  same_rows =
      rows_same T.rows U.rows (3 * X.islands) (K.rows_length ∙ sym J.rows_length)
      (rows3 (λ j. get_or T.rows j 0 ≡ get_or U.rows j 0) X.islands
      (λ i il. (
        ap (λ (a : Island). a.constraint_remove_count) (isle i il),
        ap (λ (a : Island). a.split_denied_until) (isle i il),
        flag_word _ _ (asleep (G.island i il)) (asleep (H.island i il)) (ap (λ (a : Island). a.sleeping) (isle i il)),
      )))
      F.rows

  same-members : T.members ≡ U.members
  same-members =
      same-chain T.members U.members Z.slots X.slots X.islands G.members_wf H.members_wf (λ i il. ap (λ (a : Island). a.bodies) (isle i il))
      (K.members_length ∙ sym J.members_length)
      F.members

  same-freed : T.freed ≡ U.freed
  same-freed =
      same-stack T.freed U.freed Z.islands X.islands G.freed_wf H.freed_wf (ap (λ (w : World). w.free_islands) E) (K.freed_length ∙ sym J.freed_length) F.freed

  same-spare : T.spare ≡ U.spare
  same-spare =
      same-stack T.spare U.spare Z.joints X.joints G.spare_wf H.spare_wf (ap (λ (w : World). w.free_places) E) (K.spare_length ∙ sym J.spare_length) F.spare

  same-journal : T.journal ≡ U.journal
  same-journal =
      rows_same T.journal U.journal (4 * X.journal) (K.journal_length ∙ sym J.journal_length)
      (rows4 (λ j. get_or T.journal j 0 ≡ get_or U.journal j 0) X.journal
      (λ s sl.
      let e : removal_at T.journal s ≡ removal_at U.journal s =
      tabulate-at X.journal (removal_at T.journal) (removal_at U.journal) (removal_at [] 0) (ap (λ (w : World). w.removal_journal) E) s sl in
      pair-words T.journal U.journal (4 * s) (ap (λ (r : Removal). r.body1) e) (ap (λ (r : Removal). r.body2) e)))
      F.journal

  -- contact links
  touching : (i : ℕ) → i < X.islands → map (contact_at T.touches) (list_of (contacts_in Z T) i) ≡ map (contact_at U.touches) (list_of (contacts_in Z U) i)
  touching i il = ap (λ (a : Island). a.contact_links) (isle i il)

  edges-in : (i : ℕ) → i < X.islands → list_of (contacts_in Z T) i ≡ list_of (contacts_in Z U) i
  edges-in i il =
      same_numbers (contact_at T.touches) (contact_at U.touches) (λ (l : ContactLink). l.edge_id) (λ e. refl) (λ e. refl) (list_of (contacts_in Z T) i) (list_of (contacts_in Z U) i) (touching i il)

  same-contacts : T.contacts ≡ U.contacts
  same-contacts =
      same-chain T.contacts U.contacts Z.edges X.edges X.islands G.contacts_wf H.contacts_wf edges-in (K.contacts_length ∙ sym J.contacts_length) F.contacts

  same-touches : T.touches ≡ U.touches
  same-touches =
      rows_same T.touches U.touches (4 * X.edges) (K.touches_length ∙ sym J.touches_length)
      (rows4 (λ j. get_or T.touches j 0 ≡ get_or U.touches j 0) X.edges
      (λ e el.
      edge-words T.touches U.touches e (same-elem G.contacts_wf.rules H.contacts_wf.rules edges-in e el).home (G.edge e el) (H.edge e el)
      (held-value (contacts_in Z U) G.contacts_wf.rules (contact_at T.touches) (contact_at U.touches) touching edges-in e el)))
      F.touches

  -- joint links
  jointed : (i : ℕ) → i < X.islands → map (joint_at T.keys) (list_of (joints_in Z T) i) ≡ map (joint_at U.keys) (list_of (joints_in Z U) i)
  jointed i il = ap (λ (a : Island). a.joint_links) (isle i il)

  places-in : (i : ℕ) → i < X.islands → list_of (joints_in Z T) i ≡ list_of (joints_in Z U) i
  places-in i il =
      same_numbers (joint_at T.keys) (joint_at U.keys) (λ (l : JointLink). l.place) (λ e. refl) (λ e. refl) (list_of (joints_in Z T) i) (list_of (joints_in Z U) i) (jointed i il)

  same-joints : T.joints ≡ U.joints
  same-joints =
      same-chain T.joints U.joints Z.joints X.joints X.islands G.joints_wf H.joints_wf places-in (K.joints_length ∙ sym J.joints_length) F.joints

  same_keys : T.keys ≡ U.keys
  same_keys =
      rows_same T.keys U.keys (8 * X.joints) (K.keys_length ∙ sym J.keys_length)
      (rows8 (λ j. get_or T.keys j 0 ≡ get_or U.keys j 0) X.joints
      (λ p pl.
      joint-words T.keys U.keys p (same-elem G.joints_wf.rules H.joints_wf.rules places-in p pl).home (G.joint p pl) (H.joint p pl)
      (held-value (joints_in Z U) G.joints_wf.rules (joint_at T.keys) (joint_at U.keys) jointed places-in p pl)))
      F.keys

  -- the scan
  observed : map (observed_at T.fit) (list_of (scan_in Z T) 0) ≡ map (observed_at U.fit) (list_of (scan_in Z U) 0)
  observed = ap (λ (w : World). w.sleep_scan_touched) E

  seen-in : list_of (scan_in Z T) 0 ≡ list_of (scan_in Z U) 0
  seen-in =
      same_numbers (observed_at T.fit) (observed_at U.fit) (λ (o : Observed). o.island) (λ e. refl) (λ e. refl) (list_of (scan_in Z T) 0) (list_of (scan_in Z U) 0) observed

  same-scan : T.scan ≡ U.scan
  same-scan = same-stack T.scan U.scan Z.islands X.islands G.scan_wf H.scan_wf seen-in (K.scan_length ∙ sym J.scan_length) F.scan

  seen-lists : (i : ℕ) → i < 1 → list_of (scan_in Z T) i ≡ list_of (scan_in Z U) i
  seen-lists = only T.scan U.scan Z.islands X.islands G.scan_wf H.scan_wf seen-in

  observed-lists : (i : ℕ) → i < 1 → map (observed_at T.fit) (list_of (scan_in Z T) i) ≡ map (observed_at U.fit) (list_of (scan_in Z U) i)
  observed-lists i il =
      subst (λ (k : ℕ). map (observed_at T.fit) (list_of (scan_in Z T) k) ≡ map (observed_at U.fit) (list_of (scan_in Z U) k)) (sym (zero-only i il)) observed

  same-fit : T.fit ≡ U.fit
  same-fit =
      rows_same T.fit U.fit X.islands (K.fit_length ∙ sym J.fit_length)
      (λ i il.
      fit_word T.fit U.fit i (same-elem G.scan_wf.rules H.scan_wf.rules seen-lists i il).home (G.seen i il) (H.seen i il)
      (held-value (scan_in Z U) G.scan_wf.rules (observed_at T.fit) (observed_at U.fit) observed-lists seen-lists i il))
      F.fit

  -- the head
  same_head : extents T ≡ extents U → T.head ≡ U.head
  same_head e =
      let p = pending-word _ _ _ _ G.head.split H.head.split (ap (λ (w : World). w.split_island) E) in
      head-words T.head U.head K.head_length J.head_length
      (record {
        slots = ap (λ (x : Extents). x.slots) e;
        islands = ap (λ (x : Extents). x.islands) e;
        edges = ap (λ (x : Extents). x.edges) e;
        joints = ap (λ (x : Extents). x.joints) e;
        journal = ap (λ (x : Extents). x.journal) e;
        pends = p.0;
        number = p.1;
        stamp = ap (λ (w : World). w.sleep_scan_stamp) E;
        scans = flag_word _ _ (scan-flag G.head) (scan-flag H.head) (ap (λ (w : World). w.scanning) E);
      })

  same_tables : extents T ≡ extents U → T ≡ U
  same_tables e =
      rw (same_head e, same-slots, same-members, same_rows, same-freed, same-contacts, same-touches, same-joints, same_keys, same-spare, same-journal, same-scan, same-fit)

-- ---- the buffer

word : (t u : List ℕ) (a k j : ℕ) → part t a k ≡ part u a k → a ≤ j → j < a + k → get_or t j 0 ≡ get_or u j 0
word t u a k j e l h =
    let i : a + (j - a) ≡ j = omega arith in
    subst (λ (x : ℕ). get_or t x 0 ≡ get_or u x 0) i (sym (part-get t a k (j - a) (omega arith)) ∙ ap (λ (x : List ℕ). get_or x (j - a) 0) e ∙ part-get u a k (j - a) (omega arith))

-- a buffer is its tables
pub buffer-same : (Z : Sizes) (t u : List ℕ) → length t ≡ total Z → length u ≡ total Z → tables Z t ≡ tables Z u → t ≡ u
buffer-same Z t u lt lu e =
    ext_get_or 0 t u (lt ∙ sym lu)
    (λ j l.
    below j (slots_at Z) (λ h. word t u (head_at Z) (head_span Z) j (ap (λ (T : Tables). T.head) e) (omega arith) (omega arith))
    (λ h0. below j (members_at Z) (λ h. word t u (slots_at Z) (slots_span Z) j (ap (λ (T : Tables). T.slots) e) (omega arith) (omega arith))
    (λ h1. below j (rows_at Z) (λ h. word t u (members_at Z) (members_span Z) j (ap (λ (T : Tables). T.members) e) (omega arith) (omega arith))
    (λ h2. below j (freed_at Z) (λ h. word t u (rows_at Z) (rows_span Z) j (ap (λ (T : Tables). T.rows) e) (omega arith) (omega arith))
    (λ h3. below j (contacts_at Z) (λ h. word t u (freed_at Z) (freed_span Z) j (ap (λ (T : Tables). T.freed) e) (omega arith) (omega arith))
    (λ h4. below j (touches_at Z) (λ h. word t u (contacts_at Z) (contacts_span Z) j (ap (λ (T : Tables). T.contacts) e) (omega arith) (omega arith))
    (λ h5. below j (joints_at Z) (λ h. word t u (touches_at Z) (touches_span Z) j (ap (λ (T : Tables). T.touches) e) (omega arith) (omega arith))
    (λ h6. below j (keys_at Z) (λ h. word t u (joints_at Z) (joints_span Z) j (ap (λ (T : Tables). T.joints) e) (omega arith) (omega arith))
    (λ h7. below j (spare_at Z) (λ h. word t u (keys_at Z) (keys_span Z) j (ap (λ (T : Tables). T.keys) e) (omega arith) (omega arith))
    (λ h8. below j (journal_at Z) (λ h. word t u (spare_at Z) (spare_span Z) j (ap (λ (T : Tables). T.spare) e) (omega arith) (omega arith))
    (λ h9. below j (scan_at Z) (λ h. word t u (journal_at Z) (journal_span Z) j (ap (λ (T : Tables). T.journal) e) (omega arith) (omega arith))
    (λ h10. below j (fit_at Z) (λ h. word t u (scan_at Z) (scan_span Z) j (ap (λ (T : Tables). T.scan) e) (omega arith) (omega arith))
    (λ h11. word t u (fit_at Z) (fit_span Z) j (ap (λ (T : Tables). T.fit) e) (omega arith) (omega arith))))))))))))))

pub unique : (Z : Sizes) (t u : List ℕ) → Sound Z t → Sound Z u → world_of Z t ≡ world_of Z u → SameBehind Z (extents (tables Z t)) (tables Z t) (tables Z u) → t ≡ u
unfolding world_of
unique Z t u S R E F =
    let T = tables Z t in
    let U = tables Z u in
    let e : extents T ≡ extents U = extents_same Z t u E in
    buffer-same Z t u S.long R.long
    (same_tables Z (extents T) T U S.good (subst (λ (X : Extents). Good Z X U) (sym e) R.good) (sized Z t S.long) (sized Z u R.long)
    (E ∙ ap (λ (X : Extents). decode Z X U) (sym e))
    F
    e)

-- both keep what lies behind the extents of one and the same buffer
pub unique-from : (Z : Sizes) (T : Tables) (u v : List ℕ) → Sound Z u → Sound Z v → world_of Z u ≡ world_of Z v → SameBehind Z (extents (tables Z u)) T (tables Z u) → SameBehind Z (extents (tables Z v)) T (tables Z v) → u ≡ v
unique-from Z T u v S R E A B =
    unique Z u v S R E (kept-both A (subst (λ (X : Extents). SameBehind Z X T (tables Z v)) (sym (extents_same Z u v E)) B))

-- ---- two programs that do the same step agree on the answer and on every word

pub agree : (Z : Sizes) (f : World → Step) (t : List ℕ) (r r' : Answer) (u u' : List ℕ) → Does Z f t r u → Does Z f t r' u' → (r ≡ r') × (u ≡ u')
agree Z f t r r' u u' x y =
    (x.answer ∙ sym y.answer, unique-from Z (tables Z t) u u' x.sound y.sound (x.after ∙ sym y.after) x.frame y.frame)

-- a host call, on any words
pub call-agree : (Z : Sizes) (f : World → Step) (t : List ℕ) (r r' : Answer) (u u' : List ℕ) → Called Z f t r u → Called Z f t r' u' → (r ≡ r') × (u ≡ u')
call-agree Z f t r r' u u' (inl x) (inl y) = agree Z f t r r' u u' x.1 y.1
call-agree Z f t r r' u u' (inl x) (inr y) = absurd (y.unsound x.0)
call-agree Z f t r r' u u' (inr x) (inl y) = absurd (x.unsound y.0)
call-agree Z f t r r' u u' (inr x) (inr y) = (x.nine ∙ sym y.nine, x.same ∙ sym y.same)

pub reset-agree : (Z : Sizes) (t : List ℕ) (r r' : Answer) (u u' : List ℕ) → Reset Z t r u → Reset Z t r' u' → (r ≡ r') × (u ≡ u')
reset-agree Z t r r' u u' (inl x) (inl y) =
    (x.zero ∙ sym y.zero, unique-from Z (tables Z t) u u' x.sound y.sound (x.after ∙ sym y.after) x.frame y.frame)
reset-agree Z t r r' u u' (inl x) (inr y) = absurd (y.wrong x.right)
reset-agree Z t r r' u u' (inr x) (inl y) = absurd (x.wrong y.right)
reset-agree Z t r r' u u' (inr x) (inr y) = (x.nine ∙ sym y.nine, x.same ∙ sym y.same)

pub asks-agree : {A : Type 0} (Z : Sizes) (f : World → A) (n : A) (t : List ℕ) (r r' : A) → Asks Z f n t r → Asks Z f n t r' → r ≡ r'
asks-agree Z f n t r r' (inl x) (inl y) = x.1 ∙ sym y.1
asks-agree Z f n t r r' (inl x) (inr y) = absurd (y.0 x.0)
asks-agree Z f n t r r' (inr x) (inl y) = absurd (x.0 y.0)
asks-agree Z f n t r r' (inr x) (inr y) = x.1 ∙ sym y.1

-- ---- a step that leaves the state leaves the words

pub kept-words : (Z : Sizes) (f : World → Step) (t : List ℕ) (r : Answer) (u : List ℕ) → Sound Z t → Does Z f t r u → (f (world_of Z t)).after ≡ world_of Z t → u ≡ t
kept-words Z f t r u S d e =
    let E : world_of Z t ≡ world_of Z u = sym (d.after ∙ e) in
    sym (unique Z t u S d.sound E (subst (λ (X : Extents). SameBehind Z X (tables Z t) (tables Z u)) (sym (extents_same Z t u E)) d.frame))
