-- The table in its words: what each field is after rename, and that nothing behind the extents is stored.
use mathlib.Core.Path.{◌≡◌, refl, sym, ◌∙◌, ap}
use mathlib.Core.Logic.{◌⊎◌, inl, inr, ◌≢◌, ⊎_elim}
use Prim.Native.Nat.{ℕ, ◌+◌, ◌*◌, ◌≤◌, ◌<◌}
use native.Mathlib.Omega.{arith}
use mathlib.Core.List.{List, [], ◌∷◌}
use borrow.Author.Tests.{eq-eqb, ne_eqb}
use lib.ListN.{length, get_or, set, length-set}
use lib.Seq.{get_or-set_same, get_or-set_other}
use Rattle.list_in_table.specs.Word.{writes, Misses, miss, hit, length_writes}
use Rattle.list_in_table.specs.Rules.{none, View, Rules, Held, Blank, First, After, Final, Before, Empty, Full, list_of}
use Rattle.list_in_table.specs.Table.{view, Wf, next_set}
use Rattle.list_in_table.proofs.Laws.{either, held, last-final}
use Rattle.list_in_table.proofs.Words.{next-other, next_same, length-next}
use Rattle.list_rename.specs.Renamed.{back_set, renamed, RenameReady}
use Rattle.list_rename.proofs.Move.{WasNamed, Moved, swapped, swapped_same, swapped_other, rename-rules, rename-list, rename-others}

-- a word after back_set
module _ (t : List ℕ) (b z i x v : ℕ) where
  pub back-other : (j : ℕ) → (x ≡ none → j ≢ z + 2 * i + 1) → (x ≢ none → j ≢ b + 4 * x + 2) → get_or (back_set t b z i x v) j 0 ≡ get_or t j 0
  back-other j h k =
      either x none (λ p. rw (eq-eqb x none p) (get_or-set_other t (z + 2 * i + 1) j v 0 (h p))) (λ q. rw (ne_eqb x none q) (get_or-set_other t (b + 4 * x + 2) j v 0 (k q)))

  pub back_last : x ≡ none → z + 2 * i + 1 < length t → get_or (back_set t b z i x v) (z + 2 * i + 1) 0 ≡ v
  back_last p l = rw (eq-eqb x none p) (get_or-set_same t (z + 2 * i + 1) v 0 l)

  pub back-prev : x ≢ none → b + 4 * x + 2 < length t → get_or (back_set t b z i x v) (b + 4 * x + 2) 0 ≡ v
  back-prev q l = rw (ne_eqb x none q) (get_or-set_same t (b + 4 * x + 2) v 0 l)

  pub length_back : length (back_set t b z i x v) ≡ length t
  length_back = either x none (λ p. rw (eq-eqb x none p) (length-set t (z + 2 * i + 1) v)) (λ q. rw (ne_eqb x none q) (length-set t (b + 4 * x + 2) v))

-- who stands beside f
pub record Beside (t : List ℕ) (b z f g m : ℕ) : Type 0 where
  pub home_lt : get_or t (b + 4 * f) 0 < m
  pub prev_lt : get_or t (b + 4 * f + 2) 0 ≢ none → get_or t (b + 4 * f + 2) 0 < f
  pub prev_ne : get_or t (b + 4 * f + 2) 0 ≢ g
  pub next_lt : get_or t (b + 4 * f + 3) 0 ≢ none → get_or t (b + 4 * f + 3) 0 < f
  pub next_ne : get_or t (b + 4 * f + 3) 0 ≢ g

pub beside : {t : List ℕ} {b z f g : ℕ} (r : RenameReady t b z f g) → Beside t b z f g r.m
beside {t} {b} {z} {f} {g} r =
    let S = view t b z in
    let R = r.wf.rules in
    let m = r.m in
    let n = f + 1 in
    let h : Held n m S f = held R f (omega arith) r.from_held in
    let gl = r.to_lt in
    let gb : S.home g ≡ none = r.to_blank in
    let ns : n ≤ none = R.n_small in
    let ms : m ≤ none = R.m_small in
    let il : S.home f < m = h.home_lt in
    record {
      home_lt = h.home_lt;
      prev_lt = λ d.
          ⊎_elim (λ (o : First n m S f). absurd (d o.no_prev))
          (λ (a : After n m S f).
          let l = a.prev_lt in
          let p = a.prev_place in
          either (S.prev f) f (λ e. absurd (let q : S.place (S.prev f) ≡ S.place f = ap S.place e in omega arith)) (λ e. omega arith))
          h.back;
      prev_ne = λ e.
          ⊎_elim (λ (o : First n m S f). let q : S.prev f ≡ none = o.no_prev in omega arith)
          (λ (a : After n m S f). let q : S.home g ≡ S.home f = ap S.home (sym e) ∙ a.prev_home in omega arith)
          h.back;
      next_lt = λ d.
          ⊎_elim (λ (o : Final n m S f). absurd (d o.no_next))
          (λ (a : Before n m S f).
          let l = a.next_lt in
          let p = a.next_place in
          either (S.next f) f (λ e. absurd (let q : S.place (S.next f) ≡ S.place f = ap S.place e in omega arith)) (λ e. omega arith))
          h.fore;
      next_ne = λ e.
          ⊎_elim (λ (o : Final n m S f). let q : S.next f ≡ none = o.no_next in omega arith)
          (λ (a : Before n m S f). let q : S.home g ≡ S.home f = ap S.home (sym e) ∙ a.next_home in omega arith)
          h.fore;
    }

-- one field of two elements
elem-ne : (b c k j : ℕ) → k ≢ j → b + 4 * k + c ≢ b + 4 * j + c
elem-ne b c k j d = omega arith

module _ {t : List ℕ} {b z f g : ℕ} (r : RenameReady t b z f g) where
  abbrev m : ℕ
  m = r.m

  abbrev a : ℕ
  a = b + 4 * f

  abbrev c : ℕ
  c = b + 4 * g

  abbrev i : ℕ
  i = get_or t a 0

  abbrev p : ℕ
  p = get_or t (a + 1) 0

  abbrev v : ℕ
  v = get_or t (a + 2) 0

  abbrev x : ℕ
  x = get_or t (a + 3) 0

  abbrev ws : List (ℕ × ℕ)
  ws = (c, i) ∷ (c + 1, p) ∷ (c + 2, v) ∷ (c + 3, x) ∷ []

  abbrev u : List ℕ
  u = next_set (writes t ws) b v g

  abbrev t' : List ℕ
  t' = renamed t b z f g

  abbrev S : View
  S = view t b z

  abbrev S' : View
  S' = view t' b z

  B : Beside t b z f g m
  B = beside r

  length-u : length u ≡ length t
  length-u = length-next (writes t ws) b v g ∙ length_writes t ws

  pub length-renamed : length t' ≡ length t
  unfolding renamed
  length-renamed = length_back u b z i x g ∙ length-u

  -- a word that no store is at
  other : (j : ℕ) → Misses ws j → (v ≢ none → j ≢ b + 4 * v + 3) → (x ≡ none → j ≢ z + 2 * i + 1) → (x ≢ none → j ≢ b + 4 * x + 2) → get_or t' j 0 ≡ get_or t j 0
  unfolding renamed
  other j h k k1 k2 = back-other u b z i x g j k1 k2 ∙ next-other (writes t ws) b v g j k ∙ miss t ws j h

  -- a word of g's record
  mine : (us : List (ℕ × ℕ)) (j d : ℕ) (vs : List (ℕ × ℕ)) → writes t ws ≡ writes (set (writes t us) j d) vs → j < length t → Misses vs j → (v ≢ none → j ≢ b + 4 * v + 3) → (x ≡ none → j ≢ z + 2 * i + 1)
      → (x ≢ none → j ≢ b + 4 * x + 2) → get_or t' j 0 ≡ d
  unfolding renamed
  mine us j d vs s h o k k1 k2 = back-other u b z i x g j k1 k2 ∙ next-other (writes t ws) b v g j k ∙ rw s (hit t us j d vs h o)

  gl : g < f
  gl = r.to_lt

  eb : b + 4 * f + 4 ≤ z
  eb = let q = r.wf.elems_below in omega arith

  lb : z + 2 * m ≤ length t
  lb = r.wf.lists_below

  home-g : S'.home g ≡ i
  home-g =
      let q = eb in
      let l = lb in
      let h = gl in
      mine [] c i ((c + 1, p) ∷ (c + 2, v) ∷ (c + 3, x) ∷ []) refl (omega arith) (omega arith) (λ d. omega arith) (λ d. omega arith) (λ d. omega arith)

  place-g : S'.place g ≡ p
  place-g =
      let q = eb in
      let l = lb in
      let h = gl in
      mine ((c, i) ∷ []) (c + 1) p ((c + 2, v) ∷ (c + 3, x) ∷ []) refl (omega arith) (omega arith) (λ d. omega arith) (λ d. omega arith) (λ d. omega arith)

  prev-g : S'.prev g ≡ v
  prev-g =
      let q = eb in
      let l = lb in
      let h = gl in
      mine ((c, i) ∷ (c + 1, p) ∷ []) (c + 2) v ((c + 3, x) ∷ []) refl (omega arith) (omega arith) (λ d. omega arith) (λ d. omega arith) (λ d. elem-ne b 2 g x (λ e. B.next_ne (sym e)))

  next-g : S'.next g ≡ x
  next-g =
      let q = eb in
      let l = lb in
      let h = gl in
      mine ((c, i) ∷ (c + 1, p) ∷ (c + 2, v) ∷ []) (c + 3) x [] refl (omega arith) tt (λ d. elem-ne b 3 g v (λ e. B.prev_ne (sym e))) (λ d. omega arith) (λ d. omega arith)

  module _ (k : ℕ) (kl : k < f) (d : k ≢ g) where
    home_o : S'.home k ≡ S.home k
    home_o = let q = eb in other (b + 4 * k) (omega arith) (λ h. omega arith) (λ h. omega arith) (λ h. omega arith)

    place_o : S'.place k ≡ S.place k
    place_o = let q = eb in other (b + 4 * k + 1) (omega arith) (λ h. omega arith) (λ h. omega arith) (λ h. omega arith)

    prev_o : k ≢ x → S'.prev k ≡ S.prev k
    prev_o dx = let q = eb in other (b + 4 * k + 2) (omega arith) (λ h. omega arith) (λ h. omega arith) (λ h. elem-ne b 2 k x dx)

    next_o : k ≢ v → S'.next k ≡ S.next k
    next_o dv = let q = eb in other (b + 4 * k + 3) (omega arith) (λ h. elem-ne b 3 k v dv) (λ h. omega arith) (λ h. omega arith)

  prev_x : x ≢ none → S'.prev x ≡ g
  unfolding renamed
  prev_x d = let l = B.next_lt d in let q = eb in let o = lb in back-prev u b z i x g d (rw length-u (omega arith))

  next_v : v ≢ none → S'.next v ≡ g
  unfolding renamed
  next_v d =
      let l = B.prev_lt d in
      let q = eb in
      let o = lb in
      back-other u b z i x g (b + 4 * v + 3) (λ h. omega arith) (λ h. omega arith) ∙ next_same (writes t ws) b v g d (rw (length_writes t ws) (omega arith))

  count_o : (j : ℕ) → j < m → S'.count j ≡ S.count j
  count_o j jl = let q = eb in let h = gl in other (z + 2 * j) (omega arith) (λ d. let l = B.prev_lt d in omega arith) (λ d. omega arith) (λ d. let l = B.next_lt d in omega arith)

  last_i : x ≡ none → S'.last i ≡ g
  unfolding renamed
  last_i e = let l = B.home_lt in let o = lb in back_last u b z i x g e (rw length-u (omega arith))

  last_o : (j : ℕ) → j < m → (x ≡ none → j ≢ i) → S'.last j ≡ S.last j
  last_o j jl n =
      let q = eb in
      let h = gl in
      other (z + 2 * j + 1) (omega arith) (λ d. let l = B.prev_lt d in omega arith) (λ d. let l = n d in omega arith) (λ d. let l = B.next_lt d in omega arith)

  -- ---- the fields by the new numbers
  abbrev ρ : ℕ → ℕ
  ρ = swapped f g

  abbrev R : Rules (f + 1) m S
  R = r.wf.rules

  hf : Held (f + 1) m S f
  hf = held R f (omega arith) r.from_held

  -- a listed element is not g
  not-g : (k : ℕ) → Held (f + 1) m S k → k ≢ g
  not-g k h e = let q : S.home k ≡ S.home g = ap S.home e in let o = r.to_blank in let s = R.m_small in let l = h.home_lt in omega arith

  -- one field of a listed element: that of f is g's, another's is its own
  field : (G : ℕ → ℕ) (k y : ℕ) → (k ≡ f → G g ≡ y) → (k ≢ f → G k ≡ y) → G (ρ k) ≡ y
  field G k y A O = either k f (λ e. ap G (swapped_same f g k e) ∙ A e) (λ d. ap G (swapped_other f g k d) ∙ O d)

  ρ-none : ρ none ≡ none
  ρ-none = swapped_other f g none (let s = R.n_small in omega arith)

  v-other : ρ v ≡ v
  v-other = swapped_other f g v (λ e. let s = R.n_small in let l = B.prev_lt (omega arith) in omega arith)

  x-other : ρ x ≡ x
  x-other = swapped_other f g x (λ e. let s = R.n_small in let l = B.next_lt (omega arith) in omega arith)

  -- the one after f is the one whose prev is f
  prev-k : (k : ℕ) → k < f + 1 → Held (f + 1) m S k → S'.prev (ρ k) ≡ ρ (S.prev k)
  prev-k k kl h =
      field S'.prev k (ρ (S.prev k))
      (λ e. prev-g ∙ sym v-other ∙ ap (λ (y : ℕ). ρ (S.prev y)) (sym e))
      (λ d.
      either k x
      (λ e.
      let s = R.n_small in
      let xn : x ≢ none = omega arith in
      ap S'.prev e ∙ prev_x xn
      ∙ sym
      (swapped_same f g (S.prev k)
      (ap S.prev e
      ∙ ⊎_elim (λ (o : Final (f + 1) m S f). absurd (xn o.no_next)) (λ (o : Before (f + 1) m S f). o.next_prev) hf.fore)))
      (λ dx.
      prev_o k (omega arith) (not-g k h) dx
      ∙ sym
      (swapped_other f g (S.prev k)
      (λ e.
      ⊎_elim (λ (o : First (f + 1) m S k). let q : S.prev k ≡ none = o.no_prev in let s = R.n_small in omega arith)
      (λ (o : After (f + 1) m S k). dx (sym o.prev_next ∙ ap S.next e))
      h.back))))

  next-k : (k : ℕ) → k < f + 1 → Held (f + 1) m S k → S'.next (ρ k) ≡ ρ (S.next k)
  next-k k kl h =
      field S'.next k (ρ (S.next k))
      (λ e. next-g ∙ sym x-other ∙ ap (λ (y : ℕ). ρ (S.next y)) (sym e))
      (λ d.
      either k v
      (λ e.
      let s = R.n_small in
      let vn : v ≢ none = omega arith in
      ap S'.next e ∙ next_v vn
      ∙ sym
      (swapped_same f g (S.next k)
      (ap S.next e
      ∙ ⊎_elim (λ (o : First (f + 1) m S f). absurd (vn o.no_prev)) (λ (o : After (f + 1) m S f). o.prev_next) hf.back)))
      (λ dv.
      next_o k (omega arith) (not-g k h) dv
      ∙ sym
      (swapped_other f g (S.next k)
      (λ e.
      ⊎_elim (λ (o : Final (f + 1) m S k). let q : S.next k ≡ none = o.no_next in let s = R.n_small in omega arith)
      (λ (o : Before (f + 1) m S k). dv (sym o.next_prev ∙ ap S.prev e))
      h.fore))))

  -- f is the last of a list just where that is its own and there is none after it
  last-j : (j : ℕ) → j < m → S'.last j ≡ ρ (S.last j)
  last-j j jl =
      either (S.last j) f
      (λ e.
      let hj : i ≡ j =
      ⊎_elim (λ (o : Empty (f + 1) m S j). absurd (let q : S.last j ≡ none = o.no_last in let s = R.n_small in omega arith))
      (λ (o : Full (f + 1) m S j). ap S.home (sym e) ∙ o.last_home)
      (R.list j jl) in
      let xn : x ≡ none = (last-final R f (omega arith) hf (ap S.last hj ∙ e)).no_next in
      ap S'.last (sym hj) ∙ last_i xn ∙ sym (swapped_same f g (S.last j) e))
      (λ d.
      last_o j jl
      (λ xn e.
      d
      (ap S.last e
      ∙ ⊎_elim (λ (o : Final (f + 1) m S f). o.is_last)
      (λ (o : Before (f + 1) m S f). absurd (let q : S.next f < f + 1 = o.next_lt in let s = R.n_small in omega arith))
      hf.fore))
      ∙ sym (swapped_other f g (S.last j) d))

  cover : (e : ℕ) → e < f → Blank f m S' e ⊎ WasNamed (f + 1) m ρ S e
  cover e el =
      either e g (λ q. inr (record { was = f; was_lt = omega arith; was_held = hf; is = swapped_same f g f refl ∙ sym q }))
      (λ d.
      ⊎_elim
      (λ (o : Blank (f + 1) m S e).
      let n = o.home_none in
      let s = R.m_small in
      let il = hf.home_lt in
      let dx : e ≢ x = λ q. ⊎_elim (λ (y : Final (f + 1) m S f). let k : S.next f ≡ none = y.no_next in let w = R.n_small in omega arith)
      (λ (y : Before (f + 1) m S f). let k : S.home e ≡ S.home f = ap S.home q ∙ y.next_home in omega arith) hf.fore in
      let dv : e ≢ v = λ q. ⊎_elim (λ (y : First (f + 1) m S f). let k : S.prev f ≡ none = y.no_prev in let w = R.n_small in omega arith)
      (λ (y : After (f + 1) m S f). let k : S.home e ≡ S.home f = ap S.home q ∙ y.prev_home in omega arith) hf.back in
      inl
      (record {
        home_none = home_o e el d ∙ o.home_none;
        place_none = place_o e el d ∙ o.place_none;
        prev_none = prev_o e el d dx ∙ o.prev_none;
        next_none = next_o e el d dv ∙ o.next_none;
      }))
      (λ (h : Held (f + 1) m S e). inr (record { was = e; was_lt = omega arith; was_held = h; is = swapped_other f g e (omega arith) }))
      (R.elem e (omega arith)))

  pub rename-view : Moved (f + 1) f m (swapped f g) S S'
  rename-view =
      record {
        none_is = ρ-none;
        lt = λ k kl h. either k f (λ e. rw (swapped_same f g k e) gl) (λ d. rw (swapped_other f g k d) (omega arith));
        home = λ k kl h. field S'.home k (S.home k) (λ e. home-g ∙ ap S.home (sym e)) (λ d. home_o k (omega arith) (not-g k h));
        place = λ k kl h. field S'.place k (S.place k) (λ e. place-g ∙ ap S.place (sym e)) (λ d. place_o k (omega arith) (not-g k h));
        prev = prev-k;
        next = next-k;
        count = count_o;
        last = last-j;
        cover = cover;
      }

  -- rename keeps the rules with one element less in use, puts g at the place of f in its list, leaves every other list, and stores nothing behind what is in use
  pub record RenameKeeps : Type 0 where
    pub wf_kept : Wf t' b z f m
    pub list_f : list_of S' (S.home f) ≡ set (list_of S (S.home f)) (S.place f) g
    pub list_o : (j : ℕ) → j < m → j ≢ S.home f → list_of S' j ≡ list_of S j
    pub home_to : S'.home g ≡ S.home f
    pub home_others : (k : ℕ) → k < f → k ≢ g → S'.home k ≡ S.home k
    pub count_same : (j : ℕ) → j < m → S'.count j ≡ S.count j
    pub behind : (j : ℕ) → b + 4 * f ≤ j → (j < z) ⊎ (z + 2 * m ≤ j) → get_or t' j 0 ≡ get_or t j 0
    pub length_kept : length t' ≡ length t

  rename-behind : (j : ℕ) → b + 4 * f ≤ j → (j < z) ⊎ (z + 2 * m ≤ j) → get_or t' j 0 ≡ get_or t j 0
  rename-behind j h o =
      let q = gl in
      other j (omega arith) (λ d. let l = B.prev_lt d in omega arith)
      (λ d. let l = B.home_lt in ⊎_elim (λ (w : j < z). omega arith) (λ (w : z + 2 * m ≤ j). omega arith) o)
      (λ d. let l = B.next_lt d in omega arith)

  pub rename-kept : RenameKeeps
  rename-kept =
      record {
        wf_kept =
            record {
              elems_below = (let q = eb in omega arith);
              lists_below = rw length-renamed r.wf.lists_below;
              rules = rename-rules g R r.from_held rename-view;
            };
        list_f = rename-list g R r.from_held rename-view;
        list_o = rename-others g R r.from_held rename-view;
        home_to = home-g;
        home_others = home_o;
        count_same = count_o;
        behind = rename-behind;
        length_kept = length-renamed;
      }
