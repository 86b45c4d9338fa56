-- The elements of a table under other numbers: the rules still hold, and each list is the old one with the new numbers.
use mathlib.Core.Path.{◌≡◌, refl, sym, ◌∙◌, ap, subst}
use mathlib.Core.Logic.{◌⊎◌, inl, inr, ◌≢◌, ⊎_elim}
use Prim.Native.Nat.{ℕ, ◌+◌, ◌≤◌, ◌<◌}
use native.Mathlib.Omega.{arith}
use mathlib.Core.List.{List}
use lib.Dec.{eqb}
use lib.ListN.{length, get_or, set, length-set}
use lib.Seq.{get_or-set_same, get_or-set_other}
use borrow.Author.Tests.{eq-eqb, ne_eqb}
use Rattle.list_in_table.specs.Rules.{none, View, Rules, Held, Blank, First, After, Final, Before, Empty, Full, list_of}
use Rattle.def_kinds.specs.Choice.{pick}
use Rattle.list_in_table.proofs.Laws.{either, held_in, held}
use Rattle.list_in_table.proofs.Order.{At, length-list, list_at, list-of, list-is}

-- the element that has the number e after it
pub record WasNamed (n m : ℕ) (ρ : ℕ → ℕ) (S : View) (e : ℕ) : Type 0 where
  pub was : ℕ
  pub was_lt : was < n
  pub was_held : Held n m S was
  pub is : ρ was ≡ e

-- each listed element k of S, n in use, has the number ρ k in S', n' in use, and what names it names it so
pub record Moved (n n' m : ℕ) (ρ : ℕ → ℕ) (S S' : View) : Type 0 where
  pub none_is : ρ none ≡ none
  pub lt : (k : ℕ) → k < n → Held n m S k → ρ k < n'
  pub home : (k : ℕ) → k < n → Held n m S k → S'.home (ρ k) ≡ S.home k
  pub place : (k : ℕ) → k < n → Held n m S k → S'.place (ρ k) ≡ S.place k
  pub prev : (k : ℕ) → k < n → Held n m S k → S'.prev (ρ k) ≡ ρ (S.prev k)
  pub next : (k : ℕ) → k < n → Held n m S k → S'.next (ρ k) ≡ ρ (S.next k)
  pub count : (j : ℕ) → j < m → S'.count j ≡ S.count j
  pub last : (j : ℕ) → j < m → S'.last j ≡ ρ (S.last j)
  pub cover : (e : ℕ) → e < n' → Blank n' m S' e ⊎ WasNamed n m ρ S e

module _ {n n' m : ℕ} {ρ : ℕ → ℕ} {S S' : View} (R : Rules n m S) (ns : n' ≤ none) (P : Moved n n' m ρ S S') where
  new-held : (k : ℕ) → k < n → Held n m S k → Held n' m S' (ρ k)
  new-held k kl h =
      let eh = P.home k kl h in
      let ep = P.place k kl h in
      let ev = P.prev k kl h in
      let ex = P.next k kl h in
      let ec : S'.count (S'.home (ρ k)) ≡ S.count (S.home k) = ap S'.count eh ∙ P.count (S.home k) h.home_lt in
      let el : S'.last (S'.home (ρ k)) ≡ ρ (S.last (S.home k)) = ap S'.last eh ∙ P.last (S.home k) h.home_lt in
      record {
        home_lt = rw eh h.home_lt;
        place_lt = rw (ec, ep) h.place_lt;
        back =
            ⊎_elim (λ (f : First n m S k). inl (record { at_zero = ep ∙ f.at_zero; no_prev = ev ∙ ap ρ f.no_prev ∙ P.none_is }))
            (λ (a : After n m S k).
            let u = S.prev k in
            let hu : Held n m S u = held_in R u (S.home k) a.prev_lt h.home_lt a.prev_home in
            inr
            (record {
              prev_lt = rw ev (P.lt u a.prev_lt hu);
              prev_home = ap S'.home ev ∙ P.home u a.prev_lt hu ∙ a.prev_home ∙ sym eh;
              prev_place = ap (λ (y : ℕ). S'.place y + 1) ev ∙ ap (λ (y : ℕ). y + 1) (P.place u a.prev_lt hu) ∙ a.prev_place ∙ sym ep;
              prev_next = ap S'.next ev ∙ P.next u a.prev_lt hu ∙ ap ρ a.prev_next;
            }))
            h.back;
        fore =
            ⊎_elim
            (λ (f : Final n m S k).
            inl (record { at_end = ap (λ (y : ℕ). y + 1) ep ∙ f.at_end ∙ sym ec; is_last = el ∙ ap ρ f.is_last; no_next = ex ∙ ap ρ f.no_next ∙ P.none_is }))
            (λ (b : Before n m S k).
            let u = S.next k in
            let hu : Held n m S u = held_in R u (S.home k) b.next_lt h.home_lt b.next_home in
            inr
            (record {
              next_lt = rw ex (P.lt u b.next_lt hu);
              next_home = ap S'.home ex ∙ P.home u b.next_lt hu ∙ b.next_home ∙ sym eh;
              next_place = ap S'.place ex ∙ P.place u b.next_lt hu ∙ b.next_place ∙ ap (λ (y : ℕ). y + 1) (sym ep);
              next_prev = ap S'.prev ex ∙ P.prev u b.next_lt hu ∙ ap ρ b.next_prev;
            }))
            h.fore;
      }

  new-list : (j : ℕ) → j < m → Empty n' m S' j ⊎ Full n' m S' j
  new-list j jl =
      let ec = P.count j jl in
      let el = P.last j jl in
      ⊎_elim (λ (o : Empty n m S j). inl (record { no_count = ec ∙ o.no_count; no_last = el ∙ ap ρ o.no_last ∙ P.none_is }))
      (λ (f : Full n m S j).
      let q = S.last j in
      let hq : Held n m S q = held_in R q j f.last_lt jl f.last_home in
      inr
      (record {
        last_lt = rw el (P.lt q f.last_lt hq);
        last_home = ap S'.home el ∙ P.home q f.last_lt hq ∙ f.last_home;
        last_place = ap (λ (y : ℕ). S'.place y + 1) el ∙ ap (λ (y : ℕ). y + 1) (P.place q f.last_lt hq) ∙ f.last_place ∙ sym ec;
      }))
      (R.list j jl)

  pub move-rules : Rules n' m S'
  move-rules =
      record {
        n_small = ns;
        m_small = R.m_small;
        elem = λ e el. ⊎_elim inl (λ (c : WasNamed n m ρ S e). inr (subst (Held n' m S') c.is (new-held c.was c.was_lt c.was_held))) (P.cover e el);
        list = new-list;
      }

  -- at each place stands who stood there, by its new number
  pub move_at : (j p x : ℕ) → j < m → At n S j p x → At n' S' j p (ρ x)
  move_at j p x jl a =
      let h : Held n m S x = held_in R x j a.lt jl a.home_is in
      record { lt = P.lt x a.lt h; home_is = P.home x a.lt h ∙ a.home_is; place_is = P.place x a.lt h ∙ a.place_is }

  pub move-list : (j : ℕ) → j < m → (L : List ℕ) → length L ≡ S.count j → ((p : ℕ) → p < S.count j → get_or L p 0 ≡ ρ (get_or (list_of S j) p 0)) → list_of S' j ≡ L
  move-list j jl L s h =
      let c = P.count j jl in
      list-is move-rules j jl L (s ∙ sym c)
      (λ p l.
      let g : p < S.count j = omega arith in
      rw (h p g) (move_at j p (get_or (list_of S j) p 0) jl (list_at R j jl p g)))

-- ---- the number f becomes g
abbrev pub swapped : ℕ → ℕ → ℕ → ℕ
swapped f g k = pick (eqb k f) g k

pub swapped_same : (f g k : ℕ) → k ≡ f → swapped f g k ≡ g
swapped_same f g k e = rw (eq-eqb k f e)

pub swapped_other : (f g k : ℕ) → k ≢ f → swapped f g k ≡ k
swapped_other f g k d = rw (ne_eqb k f d)

module _ {m f : ℕ} (g : ℕ) {S S' : View} (R : Rules (f + 1) m S) (fh : S.home f ≢ none) (P : Moved (f + 1) f m (swapped f g) S S') where
  ns : f ≤ none
  ns = let s = R.n_small in omega arith

  abbrev i : ℕ
  i = S.home f

  hf : Held (f + 1) m S f
  hf = held R f (omega arith) fh

  pub rename-rules : Rules f m S'
  rename-rules = move-rules R ns P

  -- the list of f has g in its place
  pub rename-list : list_of S' i ≡ set (list_of S i) (S.place f) g
  rename-list =
      let L = list_of S i in
      let il = hf.home_lt in
      let s : length L ≡ S.count i = length-list R i il in
      let pl : S.place f < S.count i = hf.place_lt in
      move-list R ns P i il (set L (S.place f) g) (length-set L (S.place f) g ∙ s)
      (λ p l.
      either p (S.place f)
      (λ q.
      let x : get_or L p 0 ≡ f = rw q (list-of R i il f (omega arith) refl) in
      let y : swapped f g (get_or L p 0) ≡ g = swapped_same f g (get_or L p 0) x in
      ap (λ (k : ℕ). get_or (set L (S.place f) g) k 0) q ∙ get_or-set_same L (S.place f) g 0 (omega arith) ∙ sym y)
      (λ d.
      let x : get_or L p 0 ≢ f = λ e. d (sym (list_at R i il p l).place_is ∙ ap S.place e) in
      get_or-set_other L (S.place f) p g 0 d ∙ sym (swapped_other f g (get_or L p 0) x)))

  -- the others are as they were
  pub rename-others : (j : ℕ) → j < m → j ≢ i → list_of S' j ≡ list_of S j
  rename-others j jl d =
      move-list R ns P j jl (list_of S j) (length-list R j jl)
      (λ p l. sym (swapped_other f g (get_or (list_of S j) p 0) (λ e. d (sym (list_at R j jl p l).home_is ∙ ap S.home e))))

-- ---- an element that is in no list goes out of use: nothing else changes
pub shrink-rules : {m f : ℕ} {S : View} → Rules (f + 1) m S → S.home f ≡ none → Rules f m S
shrink-rules {m} {f} {S} R b =
    let s = R.n_small in
    move-rules R (omega arith)
    (record {
      none_is = refl;
      lt = λ k kl h.
          either k f (λ e. absurd (let q : S.home k ≡ S.home f = ap S.home e in let a = h.home_lt in let c = R.m_small in omega arith)) (λ d. omega arith);
      home = λ k kl h. refl;
      place = λ k kl h. refl;
      prev = λ k kl h. refl;
      next = λ k kl h. refl;
      count = λ j jl. refl;
      last = λ j jl. refl;
      cover = λ e el.
          ⊎_elim
          (λ (o : Blank (f + 1) m S e). inl (record { home_none = o.home_none; place_none = o.place_none; prev_none = o.prev_none; next_none = o.next_none }))
          (λ (h : Held (f + 1) m S e). inr (record { was = e; was_lt = omega arith; was_held = h; is = refl }))
          (R.elem e (omega arith));
    })
