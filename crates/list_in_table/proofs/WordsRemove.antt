-- The table in its words: what each field is after swap_remove.
use mathlib.Core.Path.{◌≡◌, refl, sym, ◌∙◌, ap}
use mathlib.Core.Logic.{◌≢◌, ⊎_elim}
use Prim.Native.Nat.{ℕ, ◌+◌, ◌-◌, ◌*◌, ◌<◌}
use native.Mathlib.Omega.{arith}
use mathlib.Core.List.{List, [], ◌∷◌}
use borrow.Author.Tests.{eq-eqb, ne_eqb}
use lib.ListN.{length, get_or, set}
use Rattle.list_in_table.specs.Word.{writes, Misses, miss, hit, length_writes}
use Rattle.list_in_table.specs.Rules.{none, View, Rules, Held, Blank, First, After, Before, Full, list_of, swap_remove}
use Rattle.list_in_table.specs.Table.{view, Wf, next_set, removed}
use Rattle.list_in_table.proofs.Laws.{either, held, held_in, end, before, after-end, prev_lt, last-final}
use Rattle.list_in_table.proofs.Words.{next-other, next_same, length-next}
use Rattle.list_in_table.proofs.Remove.{Removed, RemovedEnd, RemovedIn, end-rules, in-rules, remove-others, remove-list}

-- one field of two elements, or of two lists
elem-ne : (b f k j : ℕ) → k ≢ j → b + 4 * k + f ≢ b + 4 * j + f
elem-ne b f k j d = omega arith

list-ne : (z f k j : ℕ) → k ≢ j → z + 2 * k + f ≢ z + 2 * j + f
list-ne z f k j d = omega arith

module _ {t : List ℕ} {b z n m : ℕ} (wf : Wf t b z n m) (e : ℕ) (el : e < n) (held : get_or t (b + 4 * e) 0 ≢ none) where
  abbrev a : ℕ
  a = b + 4 * e

  abbrev i : ℕ
  i = get_or t a 0

  abbrev p : ℕ
  p = get_or t (a + 1) 0

  abbrev v : ℕ
  v = get_or t (a + 2) 0

  abbrev x : ℕ
  x = get_or t (a + 3) 0

  abbrev y : ℕ
  y = z + 2 * i

  abbrev c : ℕ
  c = get_or t y 0

  abbrev q : ℕ
  q = get_or t (y + 1) 0

  abbrev r : ℕ
  r = b + 4 * q

  abbrev w : ℕ
  w = get_or t (r + 2) 0

  abbrev S : View
  S = view t b z

  he : Held n m S e
  he = Rattle.list_in_table.proofs.Laws.held wf.rules e el held

  ql : q < n
  ql = (end wf.rules e he).last_lt

  il : i < m
  il = he.home_lt

  cp : 0 < c
  cp = let h : p < c = he.place_lt in omega arith

  vl : v ≢ none → v < n
  vl = prev_lt wf.rules e he

  -- v is another element than e and the last
  ve : v ≢ none → v ≢ e
  ve h s =
      ⊎_elim (λ (f : First n m S e). h f.no_prev)
      (λ (g : After n m S e). let k : get_or t (b + 4 * e + 1) 0 + 1 ≡ p = rw s at g.prev_place in omega arith)
      he.back

  -- ---- e is the last
  module _ (le : q ≡ e) where
    abbrev ws : List (ℕ × ℕ)
    ws = (a, none) ∷ (a + 1, none) ∷ (a + 2, none) ∷ (a + 3, none) ∷ (y, c - 1) ∷ (y + 1, v) ∷ []

    end_is : removed t b z e ≡ next_set (writes t ws) b v none
    unfolding removed
    end_is = rw (eq-eqb q e le)

    end-length : length (removed t b z e) ≡ length t
    end-length = ap length end_is ∙ length-next (writes t ws) b v none ∙ length_writes t ws

    other : (j : ℕ) → Misses ws j → (v ≢ none → j ≢ b + 4 * v + 3) → get_or (removed t b z e) j 0 ≡ get_or t j 0
    other j h k = rw end_is (next-other (writes t ws) b v none j k ∙ miss t ws j h)

    mine : (us : List (ℕ × ℕ)) (j d : ℕ) (vs : List (ℕ × ℕ)) → writes t ws ≡ writes (set (writes t us) j d) vs → j < length t → Misses vs j → (v ≢ none → j ≢ b + 4 * v + 3)
        → get_or (removed t b z e) j 0 ≡ d
    mine us j d vs s h g k = rw end_is (next-other (writes t ws) b v none j k ∙ rw s (hit t us j d vs h g))

    end-view : Removed n m e S (view (removed t b z e) b z) × RemovedEnd n m e S (view (removed t b z e) b z)
    end-view =
        let eb = wf.elems_below in
        let lb = wf.lists_below in
        let ii = il in
        let qq = ql in
        let cc = cp in (
          record {
            blank =
                record {
                  home_none = mine [] a none ((a + 1, none) ∷ (a + 2, none) ∷ (a + 3, none) ∷ (y, c - 1) ∷ (y + 1, v) ∷ []) refl (omega arith) (omega arith) (λ h. omega arith);
                  place_none = mine ((a, none) ∷ []) (a + 1) none ((a + 2, none) ∷ (a + 3, none) ∷ (y, c - 1) ∷ (y + 1, v) ∷ []) refl (omega arith) (omega arith) (λ h. omega arith);
                  prev_none = mine ((a, none) ∷ (a + 1, none) ∷ []) (a + 2) none ((a + 3, none) ∷ (y, c - 1) ∷ (y + 1, v) ∷ []) refl (omega arith) (omega arith) (λ h. omega arith);
                  next_none = mine ((a, none) ∷ (a + 1, none) ∷ (a + 2, none) ∷ []) (a + 3) none ((y, c - 1) ∷ (y + 1, v) ∷ []) refl (omega arith) (omega arith) (λ h. omega (arith, ve h));
                };
            home_o = λ k kl d. other (b + 4 * k) (omega arith) (λ h. omega arith);
            place_q = λ d. absurd (d le);
            place_o = λ k kl d _. other (b + 4 * k + 1) (omega arith) (λ h. omega arith);
            count_i =
                (let g = mine ((a, none) ∷ (a + 1, none) ∷ (a + 2, none) ∷ (a + 3, none) ∷ []) y (c - 1) ((y + 1, v) ∷ []) refl (omega arith) (omega arith) (λ h. omega (arith, vl h)) in omega arith);
            count_o = λ j jl d. other (z + 2 * j) (omega arith) (λ h. omega (arith, vl h));
            last_o = λ j jl d. other (z + 2 * j + 1) (omega arith) (λ h. omega (arith, vl h));
          },
          record {
            prev_o = λ k kl d. other (b + 4 * k + 2) (omega arith) (λ h. omega arith);
            next_v = λ h. rw end_is (next_same (writes t ws) b v none (let s = wf.rules.n_small in omega arith) (rw (length_writes t ws) (omega arith)));
            next_o = λ k kl d g. other (b + 4 * k + 3) (omega arith) (λ h. omega arith);
            last_i = mine ((a, none) ∷ (a + 1, none) ∷ (a + 2, none) ∷ (a + 3, none) ∷ (y, c - 1) ∷ []) (y + 1) v [] refl (omega arith) (omega arith) (λ h. omega (arith, vl h));
          },
        )

  -- ---- e is not the last
  module _ (ne : q ≢ e) where
    be : Before n m S e
    be = before wf.rules e he ne

    aq : After n m S q
    aq = after-end wf.rules e he ne

    fq : Full n m S i
    fq = end wf.rules e he

    nq : get_or t (r + 3) 0 ≡ none
    nq = (last-final wf.rules q ql (held_in wf.rules q i ql il fq.last_home) (ap S.last fq.last_home)).no_next

    vq : v ≢ none → v ≢ q
    vq h s =
        ⊎_elim (λ (f : First n m S e). h f.no_prev)
        (λ (g : After n m S e). let k : get_or t (r + 3) 0 ≡ e = rw s at g.prev_next in let o = nq in let l = wf.rules.n_small in omega arith)
        he.back

    xe : x ≢ e
    xe s = let k : get_or t (b + 4 * e + 1) 0 ≡ p + 1 = rw s at be.next_place in omega arith

    wq : w ≢ q
    wq s = let k : get_or t (r + 1) 0 + 1 ≡ get_or t (r + 1) 0 = rw s at aq.prev_place in omega arith

    vw : v < n → v ≢ w
    vw l s =
        ⊎_elim (λ (f : First n m S e). let k = f.no_prev in let o = wf.rules.n_small in omega arith)
        (λ (g : After n m S e). ne (sym aq.prev_next ∙ sym (ap S.next s) ∙ g.prev_next))
        he.back

    abbrev ws2 : List (ℕ × ℕ)
    ws2 = (a, none) ∷ (a + 1, none) ∷ (a + 2, none) ∷ (a + 3, none) ∷ (y, c - 1) ∷ (r + 1, p) ∷ (r + 2, v) ∷ []

    -- the words before the last four stores
    abbrev u : List ℕ
    u = next_set (writes t ws2) b v q

    u-length : length u ≡ length t
    u-length = length-next (writes t ws2) b v q ∙ length_writes t ws2

    other2 : (j : ℕ) → Misses ws2 j → (v ≢ none → j ≢ b + 4 * v + 3) → get_or u j 0 ≡ get_or t j 0
    other2 j h k = next-other (writes t ws2) b v q j k ∙ miss t ws2 j h

    mine2 : (us : List (ℕ × ℕ)) (j d : ℕ) (vs : List (ℕ × ℕ)) → writes t ws2 ≡ writes (set (writes t us) j d) vs → j < length t → Misses vs j → (v ≢ none → j ≢ b + 4 * v + 3)
        → get_or u j 0 ≡ d
    mine2 us j d vs s h g k = next-other (writes t ws2) b v q j k ∙ rw s (hit t us j d vs h g)

    -- the fields that both cases have, at u
    u-view : Removed n m e S (view u b z)
    u-view =
        let eb = wf.elems_below in
        let lb = wf.lists_below in
        let ii = il in
        let qq = ql in
        let cc = cp in
        record {
          blank =
              record {
                home_none = mine2 [] a none ((a + 1, none) ∷ (a + 2, none) ∷ (a + 3, none) ∷ (y, c - 1) ∷ (r + 1, p) ∷ (r + 2, v) ∷ []) refl (omega arith) (omega arith) (λ h. omega arith);
                place_none = mine2 ((a, none) ∷ []) (a + 1) none ((a + 2, none) ∷ (a + 3, none) ∷ (y, c - 1) ∷ (r + 1, p) ∷ (r + 2, v) ∷ []) refl (omega arith) (omega arith) (λ h. omega arith);
                prev_none = mine2 ((a, none) ∷ (a + 1, none) ∷ []) (a + 2) none ((a + 3, none) ∷ (y, c - 1) ∷ (r + 1, p) ∷ (r + 2, v) ∷ []) refl (omega arith) (omega arith) (λ h. omega arith);
                next_none = mine2 ((a, none) ∷ (a + 1, none) ∷ (a + 2, none) ∷ []) (a + 3) none ((y, c - 1) ∷ (r + 1, p) ∷ (r + 2, v) ∷ []) refl (omega arith) (omega arith) (λ h. omega (arith, ve h));
              };
          home_o = λ k kl d. other2 (b + 4 * k) (omega arith) (λ h. omega arith);
          place_q = λ d. mine2 ((a, none) ∷ (a + 1, none) ∷ (a + 2, none) ∷ (a + 3, none) ∷ (y, c - 1) ∷ []) (r + 1) p ((r + 2, v) ∷ []) refl (omega arith) (omega arith) (λ h. omega arith);
          place_o = λ k kl d dq. other2 (b + 4 * k + 1) (omega arith) (λ h. omega arith);
          count_i =
              (let g = mine2 ((a, none) ∷ (a + 1, none) ∷ (a + 2, none) ∷ (a + 3, none) ∷ []) y (c - 1) ((r + 1, p) ∷ (r + 2, v) ∷ []) refl (omega arith) (omega arith) (λ h. omega (arith, vl h)) in omega arith);
          count_o = λ j jl d. other2 (z + 2 * j) (omega arith) (λ h. omega (arith, vl h));
          last_o = λ j jl d. other2 (z + 2 * j + 1) (omega arith) (λ h. omega (arith, vl h));
        }

    u-prev_q : get_or u (r + 2) 0 ≡ v
    u-prev_q =
        let eb = wf.elems_below in
        let lb = wf.lists_below in
        let qq = ql in
        mine2 ((a, none) ∷ (a + 1, none) ∷ (a + 2, none) ∷ (a + 3, none) ∷ (y, c - 1) ∷ (r + 1, p) ∷ []) (r + 2) v [] refl (omega arith) (omega arith) (λ h. omega arith)

    u-next_v : v < n → get_or u (b + 4 * v + 3) 0 ≡ q
    u-next_v h =
        let eb = wf.elems_below in
        let lb = wf.lists_below in
        let s = wf.rules.n_small in
        next_same (writes t ws2) b v q (omega arith) (rw (length_writes t ws2) (omega arith))

    u-prev_o : (k : ℕ) → k < n → k ≢ e → k ≢ q → get_or u (b + 4 * k + 2) 0 ≡ get_or t (b + 4 * k + 2) 0
    u-prev_o k kl d dq = let eb = wf.elems_below in other2 (b + 4 * k + 2) (omega arith) (λ h. omega arith)

    u-next_o : (k : ℕ) → k < n → k ≢ e → k ≢ v → get_or u (b + 4 * k + 3) 0 ≡ get_or t (b + 4 * k + 3) 0
    u-next_o k kl d dv = let eb = wf.elems_below in other2 (b + 4 * k + 3) (omega arith) (λ h. elem-ne b 3 k v dv)

    module _ (ad : w ≡ e) where
      adj-is : removed t b z e ≡ u
      unfolding removed
      adj-is = rw (ne_eqb q e ne, eq-eqb w e ad)

      adj-view : RemovedIn n m e q w S (view u b z)
      adj-view =
          let eb = wf.elems_below in
          let lb = wf.lists_below in
          let ii = il in
          let qq = ql in
          let xq : x ≡ q = sym (ap S.next ad) ∙ aq.prev_next in
          record {
            prev_q = u-prev_q;
            prev_x = λ d. absurd (d ad);
            prev_o = λ k kl d dq dx. u-prev_o k kl d dq;
            next_q = λ d. absurd (d ad);
            next_adj = λ s. other2 (r + 3) (omega arith) (λ h. omega (arith, vq h)) ∙ nq;
            next_v = u-next_v;
            next_w = λ d. absurd (d ad);
            next_o = λ k kl d dq dv dw. u-next_o k kl d dv;
            last_i = λ d. absurd (d ad);
            last_adj = λ s. other2 (y + 1) (omega arith) (λ h. omega (arith, vl h));
          }

    module _ (fa : w ≢ e) where
      xq : x ≢ q
      xq s = fa (sym (ap S.prev s) ∙ be.next_prev)

      abbrev us : List (ℕ × ℕ)
      us = (r + 3, x) ∷ (b + 4 * x + 2, q) ∷ (b + 4 * w + 3, none) ∷ (y + 1, w) ∷ []

      far-is : removed t b z e ≡ writes u us
      unfolding removed
      far-is = rw (ne_eqb q e ne, ne_eqb w e fa)

      far-view : Removed n m e S (view (writes u us) b z) × RemovedIn n m e q w S (view (writes u us) b z)
      far-view =
          let eb = wf.elems_below in
          let lb = wf.lists_below in
          let ii = il in
          let qq = ql in
          let xl = be.next_lt in
          let wl = aq.prev_lt in
          let ul = u-length in
          let x1 = xe in
          let x2 = xq in
          let w1 = wq in
          let G = u-view in (
            record {
              blank =
                  record {
                    home_none = miss u us a (omega arith) ∙ G.blank.home_none;
                    place_none = miss u us (a + 1) (omega arith) ∙ G.blank.place_none;
                    prev_none = miss u us (a + 2) (omega arith) ∙ G.blank.prev_none;
                    next_none = miss u us (a + 3) (omega arith) ∙ G.blank.next_none;
                  };
              home_o = λ k kl d. miss u us (b + 4 * k) (omega arith) ∙ G.home_o k kl d;
              place_q = λ d. miss u us (r + 1) (omega arith) ∙ G.place_q d;
              place_o = λ k kl d dq. miss u us (b + 4 * k + 1) (omega arith) ∙ G.place_o k kl d dq;
              count_i = ap (λ (k : ℕ). k + 1) (miss u us y (omega arith)) ∙ G.count_i;
              count_o = λ j jl d. miss u us (z + 2 * j) (omega arith) ∙ G.count_o j jl d;
              last_o = λ j jl d. miss u us (z + 2 * j + 1) (omega arith, (omega arith, (omega arith, (list-ne z 1 j i d, tt)))) ∙ G.last_o j jl d;
            },
            record {
              prev_q = miss u us (r + 2) (omega arith) ∙ u-prev_q;
              prev_x = λ d. hit u ((r + 3, x) ∷ []) (b + 4 * x + 2) q ((b + 4 * w + 3, none) ∷ (y + 1, w) ∷ []) (omega arith) (omega arith);
              prev_o = λ k kl d dq dx. miss u us (b + 4 * k + 2) (omega arith, (elem-ne b 2 k x dx, (omega arith, (omega arith, tt)))) ∙ u-prev_o k kl d dq;
              next_q = λ d. hit u [] (r + 3) x ((b + 4 * x + 2, q) ∷ (b + 4 * w + 3, none) ∷ (y + 1, w) ∷ []) (omega arith) (omega arith, (elem-ne b 3 q w (λ s. wq (sym s)), (omega arith, tt)));
              next_adj = λ s. absurd (fa s);
              next_v = λ l. miss u us (b + 4 * v + 3) (elem-ne b 3 v q (vq (let s = wf.rules.n_small in omega arith)), (omega arith, (elem-ne b 3 v w (vw l), (omega arith, tt)))) ∙ u-next_v l;
              next_w = λ d. hit u ((r + 3, x) ∷ (b + 4 * x + 2, q) ∷ []) (b + 4 * w + 3) none ((y + 1, w) ∷ []) (omega arith) (omega arith);
              next_o = λ k kl d dq dv dw. miss u us (b + 4 * k + 3) (elem-ne b 3 k q dq, (omega arith, (elem-ne b 3 k w dw, (omega arith, tt)))) ∙ u-next_o k kl d dv;
              last_i = λ d. hit u ((r + 3, x) ∷ (b + 4 * x + 2, q) ∷ (b + 4 * w + 3, none) ∷ []) (y + 1) w [] (omega arith) (omega arith);
              last_adj = λ s. absurd (fa s);
            },
          )

  -- swap_remove keeps the rules, and makes of the list of e what swap_remove makes of it, and leaves every other list
  pub record RemoveKeeps (t' : List ℕ) : Type 0 where
    pub wf_kept : Wf t' b z n m
    pub list_e : list_of (view t' b z) i ≡ swap_remove (list_of S i) p
    pub list_o : (j : ℕ) → j < m → j ≢ i → list_of (view t' b z) j ≡ list_of S j
    pub e_blank : Blank n m (view t' b z) e
    pub home_o : (k : ℕ) → k < n → k ≢ e → (view t' b z).home k ≡ S.home k
    pub count_o : (j : ℕ) → j < m → j ≢ i → (view t' b z).count j ≡ S.count j
    pub count_i : (view t' b z).count i + 1 ≡ S.count i
    pub length_kept : length t' ≡ length t

  kept : (t' : List ℕ) → length t' ≡ length t → (P : Removed n m e S (view t' b z)) → Rules n m (view t' b z) → RemoveKeeps t'
  kept t' l P R' =
      record {
        wf_kept = record { elems_below = wf.elems_below; lists_below = rw l wf.lists_below; rules = R' };
        list_e = remove-list wf.rules el he P R';
        list_o = remove-others wf.rules el he P R';
        e_blank = P.blank;
        home_o = P.home_o;
        count_o = P.count_o;
        count_i = P.count_i;
        length_kept = l;
      }

  pub remove-kept : RemoveKeeps (removed t b z e)
  remove-kept =
      either q e (λ le. kept (removed t b z e) (end-length le) (end-view le).0 (end-rules wf.rules el he (end-view le).0 le (end-view le).1))
      (λ ne.
      either w e
      (λ ad. rw (adj-is ne ad) (kept (u ne) (u-length ne) (u-view ne) (in-rules wf.rules el he (u-view ne) ne (adj-view ne ad))))
      (λ fa.
      rw (far-is ne fa)
      (kept (writes (u ne) (us ne fa)) (length_writes (u ne) (us ne fa) ∙ u-length ne) (far-view ne fa).0
      (in-rules wf.rules el he (far-view ne fa).0 ne (far-view ne fa).1))))
