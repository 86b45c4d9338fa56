-- An element taken out of its list, whose last takes its place: the rules still hold, and the list is swap_remove's.
use mathlib.Core.Path.{◌≡◌, refl, sym, ◌∙◌, ap, subst, subst⁻¹}
use mathlib.Core.Logic.{◌⊎◌, inl, inr, ◌≢◌, ⊎_elim}
use Prim.Native.Nat.{ℕ, ◌+◌, ◌-◌, ◌<◌}
use native.Mathlib.Omega.{arith}
use mathlib.Core.List.{List}
use lib.ListN.{length, get_or, set, take, length-set}
use lib.Seq.{get_or-take, get_or-set_same, get_or-set_other, length-take-le}
use Rattle.list_in_table.specs.Rules.{none, View, Rules, Held, Blank, First, After, Final, Before, Empty, Full, list_of, swap_remove}
use Rattle.list_in_table.proofs.Laws.{held_in, either, last-final, end, before, after-end}
use Rattle.list_in_table.proofs.Order.{At, length-list, list_at, list-of, list-is}

-- what changes in either case
pub record Removed (n m e : ℕ) (S S' : View) : Type 0 where
  pub blank : Blank n m S' e
  pub home_o : (k : ℕ) → k < n → k ≢ e → S'.home k ≡ S.home k
  pub place_q : S.last (S.home e) ≢ e → S'.place (S.last (S.home e)) ≡ S.place e
  pub place_o : (k : ℕ) → k < n → k ≢ e → k ≢ S.last (S.home e) → S'.place k ≡ S.place k
  pub count_i : S'.count (S.home e) + 1 ≡ S.count (S.home e)
  pub count_o : (j : ℕ) → j < m → j ≢ S.home e → S'.count j ≡ S.count j
  pub last_o : (j : ℕ) → j < m → j ≢ S.home e → S'.last j ≡ S.last j

-- e is the last
pub record RemovedEnd (n m e : ℕ) (S S' : View) : Type 0 where
  pub prev_o : (k : ℕ) → k < n → k ≢ e → S'.prev k ≡ S.prev k
  pub next_v : S.prev e < n → S'.next (S.prev e) ≡ none
  pub next_o : (k : ℕ) → k < n → k ≢ e → k ≢ S.prev e → S'.next k ≡ S.next k
  pub last_i : S'.last (S.home e) ≡ S.prev e

-- e is not the last, q is, and w is before q
pub record RemovedIn (n m e q w : ℕ) (S S' : View) : Type 0 where
  pub prev_q : S'.prev q ≡ S.prev e
  pub prev_x : w ≢ e → S'.prev (S.next e) ≡ q
  pub prev_o : (k : ℕ) → k < n → k ≢ e → k ≢ q → k ≢ S.next e → S'.prev k ≡ S.prev k
  pub next_q : w ≢ e → S'.next q ≡ S.next e
  pub next_adj : w ≡ e → S'.next q ≡ none
  pub next_v : S.prev e < n → S'.next (S.prev e) ≡ q
  pub next_w : w ≢ e → S'.next w ≡ none
  pub next_o : (k : ℕ) → k < n → k ≢ e → k ≢ q → k ≢ S.prev e → k ≢ w → S'.next k ≡ S.next k
  pub last_i : w ≢ e → S'.last (S.home e) ≡ w
  pub last_adj : w ≡ e → S'.last (S.home e) ≡ q

module _ {n m e : ℕ} {S S' : View} (R : Rules n m S) (el : e < n) (h : Held n m S e) (P : Removed n m e S S') where
  abbrev i : ℕ
  i = S.home e

  abbrev q : ℕ
  q = S.last i

  abbrev v : ℕ
  v = S.prev e

  abbrev x : ℕ
  x = S.next e

  il : i < m
  il = h.home_lt

  fq : Full n m S i
  fq = end R e h

  -- two elements of different homes differ
  apart : (k j : ℕ) → S.home k ≢ S.home j → k ≢ j
  apart k j d p = d (ap S.home p)

  -- so do two of different places
  split : (k j : ℕ) → S.place k ≢ S.place j → k ≢ j
  split k j d p = d (ap S.place p)

  v-home : v < n → S.home v ≡ i
  v-home l = ⊎_elim (λ (f : First n m S e). absurd (let a = f.no_prev in let s = R.n_small in omega arith)) (λ (a : After n m S e). a.prev_home) h.back

  v_next : v < n → S.next v ≡ e
  v_next l = ⊎_elim (λ (f : First n m S e). absurd (let a = f.no_prev in let s = R.n_small in omega arith)) (λ (a : After n m S e). a.prev_next) h.back

  -- an element of i other than its last has one after it, in i
  room : (k : ℕ) → k < n → S.home k ≡ i → k ≢ q → S.place k + 1 < S.count i
  room k l s d =
      let hk : Held n m S k = held_in R k i l il s in
      let b : Before n m S k = before R k hk (λ p. d (sym (rw s at p))) in
      let o : S.home (S.next k) ≡ i = b.next_home ∙ s in
      let g : S.place (S.next k) < S.count i = rw o at (held_in R (S.next k) i b.next_lt il o).place_lt in
      let z = b.next_place in
      omega arith

  new-place : (k : ℕ) → k < n → k ≢ e → k ≢ q → Held n m S k → S'.place k < S'.count (S'.home k)
  new-place k l d dq hk =
      rw (P.home_o k l d, P.place_o k l d dq)
      (either (S.home k) i (λ s. let g = room k l s dq in let c = P.count_i in rw s (omega arith))
      (λ s. rw (P.count_o (S.home k) hk.home_lt s) hk.place_lt))

  old-list : (j : ℕ) → j < m → j ≢ i → Empty n m S' j ⊎ Full n m S' j
  old-list j jl d =
      let lj : S'.last j ≡ S.last j = P.last_o j jl d in
      let cj : S'.count j ≡ S.count j = P.count_o j jl d in
      ⊎_elim (λ (o : Empty n m S j). inl (record { no_count = cj ∙ o.no_count; no_last = lj ∙ o.no_last }))
      (λ (f : Full n m S j).
      let de : S.last j ≢ e = apart (S.last j) e (λ p. d (sym f.last_home ∙ p)) in
      let dq : S.last j ≢ q = apart (S.last j) q (λ p. d (sym f.last_home ∙ p ∙ fq.last_home)) in
      inr (record {
        last_lt = rw lj f.last_lt;
        last_home = rw lj (P.home_o (S.last j) f.last_lt de ∙ f.last_home);
        last_place = rw (lj, cj, P.place_o (S.last j) f.last_lt de dq) f.last_place;
      }))
      (R.list j jl)

  -- the lists, where the rules hold after
  stays : (j p k : ℕ) → At n S j p k → k ≢ e → k ≢ q → At n S' j p k
  stays j p k a d dq = record { lt = a.lt; home_is = P.home_o k a.lt d ∙ a.home_is; place_is = P.place_o k a.lt d dq ∙ a.place_is }

  module _ (R' : Rules n m S') where
    pub remove-others : (j : ℕ) → j < m → j ≢ i → list_of S' j ≡ list_of S j
    remove-others j jl d =
        let c = P.count_o j jl d in
        list-is R' j jl (list_of S j) (length-list R j jl ∙ sym c)
        (λ p l.
        let a : At n S j p (get_or (list_of S j) p 0) = list_at R j jl p (omega arith) in
        stays j p (get_or (list_of S j) p 0) a (apart _ e (λ s. d (sym a.home_is ∙ s))) (apart _ q (λ s. d (sym a.home_is ∙ s ∙ fq.last_home))))

    pub remove-list : list_of S' i ≡ swap_remove (list_of S i) (S.place e)
    unfolding swap_remove
    remove-list =
        let L : List ℕ = list_of S i in
        let s : length L ≡ S.count i = length-list R i il in
        let c = P.count_i in
        let pe : S.place e < S.count i = h.place_lt in
        let lp = fq.last_place in
        let ql : get_or L (length L - 1) 0 ≡ q =
        subst (λ (k : ℕ). get_or L k 0 ≡ q) (let z : S.place q ≡ length L - 1 = omega arith in z) (list-of R i il q fq.last_lt fq.last_home) in
        list-is R' i il (take (length L - 1) (set L (S.place e) (get_or L (length L - 1) 0)))
        (length-take-le (length L - 1) (set L (S.place e) (get_or L (length L - 1) 0)) (rw length-set (omega arith)) ∙ (omega arith))
        (λ p l.
        rw (get_or-take (length L - 1) (set L (S.place e) (get_or L (length L - 1) 0)) p 0 (omega arith))
        (either p (S.place e)
        (λ r.
        let dq : q ≢ e = split q e (λ z. let y : S.place q ≡ S.place e = z in omega arith) in
        rw (r, get_or-set_same L (S.place e) (get_or L (length L - 1) 0) 0 (omega arith), ql)
        (record { lt = fq.last_lt; home_is = P.home_o q fq.last_lt dq ∙ fq.last_home; place_is = P.place_q dq }))
        (λ d.
        let a : At n S i p (get_or L p 0) = list_at R i il p (omega arith) in
        let y = a.place_is in
        rw (get_or-set_other L (S.place e) p (get_or L (length L - 1) 0) 0 d)
        (stays i p (get_or L p 0) a (split _ e (λ z. omega arith)) (split _ q (λ z. omega arith))))))

  -- ---- e is the last
  module _ (le : q ≡ e) (E : RemovedEnd n m e S S') where
    fe : Final n m S e
    fe = last-final R e el h le

    module _ (k : ℕ) (kl : k < n) (d : k ≢ e) where
      dq : k ≢ q
      dq p = d (p ∙ le)

      end-blank : Blank n m S k → Blank n m S' k
      end-blank b =
          let dv : k ≢ v = λ p. (let a : S.home k ≡ i = rw p (v-home (rw (sym p) kl)) in let z = b.home_none in let s = R.m_small in let y = il in omega arith) in
          record {
            home_none = P.home_o k kl d ∙ b.home_none;
            place_none = P.place_o k kl d dq ∙ b.place_none;
            prev_none = E.prev_o k kl d ∙ b.prev_none;
            next_none = E.next_o k kl d dv ∙ b.next_none;
          }

      -- one whose next is an element other than e is not v
      end-dv : S.next k ≢ e → k ≢ v
      end-dv y p = y (ap S.next p ∙ v_next (rw (sym p) kl))

      end_after : Held n m S k → After n m S k → After n m S' k
      end_after hk a =
          let u : ℕ = S.prev k in
          let du : S.prev k ≢ e = λ p. (let z : S.next e ≡ k = rw p at a.prev_next in let y = fe.no_next in let s = R.n_small in omega arith) in
          let dv : S.prev k ≢ v = λ p. d (sym a.prev_next ∙ ap S.next p ∙ v_next (rw (sym p) a.prev_lt)) in
          let vk : S'.prev k ≡ S.prev k = E.prev_o k kl d in
          record {
            prev_lt = rw vk a.prev_lt;
            prev_home = rw (vk, P.home_o k kl d) (P.home_o (S.prev k) a.prev_lt du ∙ a.prev_home);
            prev_place = rw (vk, P.place_o k kl d dq, P.place_o (S.prev k) a.prev_lt du (λ p. du (p ∙ le))) a.prev_place;
            prev_next = rw vk (E.next_o (S.prev k) a.prev_lt du dv ∙ a.prev_next);
          }

      end-final : Held n m S k → Final n m S k → Final n m S' k
      end-final hk f =
          let s : S.home k ≢ i = λ p. dq (sym f.is_last ∙ ap S.last p) in
          let hk' : S'.home k ≡ S.home k = P.home_o k kl d in
          let dv : k ≢ v = end-dv (λ p. (let a = f.no_next in let z = R.n_small in omega arith)) in
          record {
            at_end = rw (hk', P.place_o k kl d dq, P.count_o (S.home k) hk.home_lt s) f.at_end;
            is_last = rw hk' (P.last_o (S.home k) hk.home_lt s ∙ f.is_last);
            no_next = E.next_o k kl d dv ∙ f.no_next;
          }

      -- the new last
      end-new : Held n m S k → Before n m S k → S.next k ≡ e → Final n m S' k
      end-new hk b p =
          let kv : k ≡ v = sym b.next_prev ∙ ap S.prev p in
          let s : S.home k ≡ i = sym b.next_home ∙ ap S.home p in
          let hk' : S'.home k ≡ i = P.home_o k kl d ∙ s in
          let pk : S.place e ≡ S.place k + 1 = rw p at b.next_place in
          let c = P.count_i in
          let a = fe.at_end in
          record {
            at_end = rw (hk', P.place_o k kl d dq) (omega arith);
            is_last = rw hk' (E.last_i ∙ sym kv);
            no_next = rw kv (E.next_v (rw (sym kv) kl));
          }

      end_before : Held n m S k → Before n m S k → S.next k ≢ e → Before n m S' k
      end_before hk b y =
          let nk : S'.next k ≡ S.next k = E.next_o k kl d (end-dv y) in
          record {
            next_lt = rw nk b.next_lt;
            next_home = rw (nk, P.home_o k kl d) (P.home_o (S.next k) b.next_lt y ∙ b.next_home);
            next_place = rw (nk, P.place_o k kl d dq) (P.place_o (S.next k) b.next_lt y (λ p. y (p ∙ le)) ∙ b.next_place);
            next_prev = rw nk (E.prev_o (S.next k) b.next_lt y ∙ b.next_prev);
          }

      end-held : Held n m S k → Held n m S' k
      end-held hk =
          record {
            home_lt = rw (P.home_o k kl d) hk.home_lt;
            place_lt = new-place k kl d dq hk;
            back =
                ⊎_elim (λ (f : First n m S k). inl (record { at_zero = P.place_o k kl d dq ∙ f.at_zero; no_prev = E.prev_o k kl d ∙ f.no_prev }))
                (λ (a : After n m S k). inr (end_after hk a))
                hk.back;
            fore =
                ⊎_elim (λ (f : Final n m S k). inl (end-final hk f))
                (λ (b : Before n m S k). either (S.next k) e (λ p. inl (end-new hk b p)) (λ y. inr (end_before hk b y)))
                hk.fore;
          }

    end_list : Empty n m S' i ⊎ Full n m S' i
    end_list =
        let c = P.count_i in
        let a = fe.at_end in
        ⊎_elim (λ (f : First n m S e). inl (record { no_count = (let z = f.at_zero in omega arith); no_last = E.last_i ∙ f.no_prev }))
        (λ (g : After n m S e).
        let d : v ≢ e = split v e (λ p. (let z = g.prev_place in omega arith)) in
        let z = g.prev_place in
        inr (record {
          last_lt = rw E.last_i g.prev_lt;
          last_home = rw E.last_i (P.home_o v g.prev_lt d ∙ g.prev_home);
          last_place = rw (E.last_i, P.place_o v g.prev_lt d (λ p. d (p ∙ le))) (omega arith);
        }))
        h.back

    pub end-rules : Rules n m S'
    end-rules =
        record {
          n_small = R.n_small;
          m_small = R.m_small;
          elem = λ k kl.
              either k e (λ p. inl (subst⁻¹ (λ (j : ℕ). Blank n m S' j) p P.blank))
              (λ d. ⊎_elim (λ b. inl (end-blank k kl d b)) (λ hk. inr (end-held k kl d hk)) (R.elem k kl));
          list = λ j jl. either j i (λ p. subst⁻¹ (λ (o : ℕ). Empty n m S' o ⊎ Full n m S' o) p end_list) (λ d. old-list j jl d);
        }

  -- ---- e is not the last: q takes its place
  module _ (ne : q ≢ e) (I : RemovedIn n m e q (S.prev q) S S') where
    abbrev w : ℕ
    w = S.prev q

    be : Before n m S e
    be = before R e h ne

    aq : After n m S q
    aq = after-end R e h ne

    kq : Held n m S q
    kq = held_in R q i fq.last_lt il fq.last_home

    nq : S.next q ≡ none
    nq = (last-final R q fq.last_lt kq (ap S.last fq.last_home)).no_next

    -- q follows e just where e is before q
    adj : w ≡ e → x ≡ q
    adj p = sym (ap S.next p) ∙ aq.prev_next

    far : w ≢ e → x ≢ q
    far d p = d (sym (ap S.prev p) ∙ be.next_prev)

    xe : x ≢ e
    xe = split x e (λ p. (let z = be.next_place in omega arith))

    hx : S.home x ≡ i
    hx = be.next_home

    -- e has room after it
    re : S.place e + 1 < S.count i
    re = room e el refl (λ p. ne (sym p))

    -- the place of w is before q's, and differs
    wq : w ≢ q
    wq = split w q (λ p. (let z = aq.prev_place in omega arith))

    hw : S.home w ≡ i
    hw = aq.prev_home ∙ fq.last_home

    in_after : After n m S e → After n m S' q
    in_after a =
        let lp = fq.last_place in
        let z = a.prev_place in
        let r = re in
        let d : v ≢ e = split v e (λ p. omega arith) in
        let dq : v ≢ q = split v q (λ p. omega arith) in
        record {
          prev_lt = rw I.prev_q a.prev_lt;
          prev_home = rw (I.prev_q, P.home_o q fq.last_lt ne) (P.home_o v a.prev_lt d ∙ a.prev_home ∙ sym fq.last_home);
          prev_place = rw (I.prev_q, P.place_o v a.prev_lt d dq, P.place_q ne) a.prev_place;
          prev_next = rw I.prev_q (I.next_v a.prev_lt);
        }

    in-final : w ≡ e → Final n m S' q
    in-final p =
        let hq : S'.home q ≡ i = P.home_o q fq.last_lt ne ∙ fq.last_home in
        let z : S.place e + 1 ≡ S.place q = rw p at aq.prev_place in
        let lp = fq.last_place in
        let c = P.count_i in
        record { at_end = rw (hq, P.place_q ne) (omega arith); is_last = rw hq (I.last_adj p); no_next = I.next_adj p }

    in-before : w ≢ e → Before n m S' q
    in-before d =
        record {
          next_lt = rw (I.next_q d) be.next_lt;
          next_home = rw (I.next_q d, P.home_o q fq.last_lt ne) (P.home_o x be.next_lt xe ∙ hx ∙ sym fq.last_home);
          next_place = rw (I.next_q d, P.place_q ne) (P.place_o x be.next_lt xe (far d) ∙ be.next_place);
          next_prev = rw (I.next_q d) (I.prev_x d);
        }

    in-new : Held n m S' q
    in-new =
        let hq : S'.home q ≡ i = P.home_o q fq.last_lt ne ∙ fq.last_home in
        let c = P.count_i in
        let r = re in
        record {
          home_lt = rw hq il;
          place_lt = rw (hq, P.place_q ne) (omega arith);
          back =
              ⊎_elim (λ (f : First n m S e). inl (record { at_zero = P.place_q ne ∙ f.at_zero; no_prev = I.prev_q ∙ f.no_prev }))
              (λ (a : After n m S e). inr (in_after a))
              h.back;
          fore = either w e (λ p. inl (in-final p)) (λ d. inr (in-before d));
        }

    module _ (k : ℕ) (kl : k < n) (d : k ≢ e) (dq : k ≢ q) where
      in-blank : Blank n m S k → Blank n m S' k
      in-blank b =
          let z = b.home_none in
          let s = R.m_small in
          let y = il in
          let out : S.home k ≢ i = omega arith in
          let dv : k ≢ v = λ p. out (rw p (v-home (rw (sym p) kl))) in
          record {
            home_none = P.home_o k kl d ∙ b.home_none;
            place_none = P.place_o k kl d dq ∙ b.place_none;
            prev_none = I.prev_o k kl d dq (apart k x (λ p. out (p ∙ hx))) ∙ b.prev_none;
            next_none = I.next_o k kl d dq dv (apart k w (λ p. out (p ∙ hw))) ∙ b.next_none;
          }

      keeps : S.next k ≢ e → S.next k ≢ q → S'.next k ≡ S.next k
      keeps a b = I.next_o k kl d dq (λ p. a (ap S.next p ∙ v_next (rw (sym p) kl))) (λ p. b (ap S.next p ∙ aq.prev_next))

      -- the one after e
      in-x : k ≡ x → After n m S' k
      in-x p =
          let dw : w ≢ e = λ r. dq (p ∙ adj r) in
          let vk : S'.prev k ≡ q = rw p (I.prev_x dw) in
          let z : S.place k ≡ S.place e + 1 = rw p be.next_place in
          record {
            prev_lt = rw vk fq.last_lt;
            prev_home = rw (vk, P.home_o k kl d) (P.home_o q fq.last_lt ne ∙ fq.last_home ∙ rw p (sym hx));
            prev_place = rw (vk, P.place_q ne, P.place_o k kl d dq) (sym z);
            prev_next = rw vk (I.next_q dw ∙ sym p);
          }

      in-o : After n m S k → k ≢ x → After n m S' k
      in-o a dx =
          let u : S.prev k ≢ e = λ p. dx (sym a.prev_next ∙ ap S.next p) in
          let s = R.n_small in
          let uq : S.prev k ≢ q = λ p. (let z : S.next q ≡ k = rw p at a.prev_next in let y = nq in omega arith) in
          let vk : S'.prev k ≡ S.prev k = I.prev_o k kl d dq dx in
          let uv : S.prev k ≢ v = λ p. d (sym a.prev_next ∙ ap S.next p ∙ v_next (rw (sym p) a.prev_lt)) in
          let uw : S.prev k ≢ w = λ p. dq (sym a.prev_next ∙ ap S.next p ∙ aq.prev_next) in
          record {
            prev_lt = rw vk a.prev_lt;
            prev_home = rw (vk, P.home_o k kl d) (P.home_o (S.prev k) a.prev_lt u ∙ a.prev_home);
            prev_place = rw (vk, P.place_o k kl d dq, P.place_o (S.prev k) a.prev_lt u uq) a.prev_place;
            prev_next = rw vk (I.next_o (S.prev k) a.prev_lt u uq uv uw ∙ a.prev_next);
          }

      in-fin : Held n m S k → Final n m S k → Final n m S' k
      in-fin hk f =
          let s : S.home k ≢ i = λ p. dq (sym f.is_last ∙ ap S.last p) in
          let hk' : S'.home k ≡ S.home k = P.home_o k kl d in
          let a = f.no_next in
          let z = R.n_small in
          let y = fq.last_lt in
          record {
            at_end = rw (hk', P.place_o k kl d dq, P.count_o (S.home k) hk.home_lt s) f.at_end;
            is_last = rw hk' (P.last_o (S.home k) hk.home_lt s ∙ f.is_last);
            no_next = keeps (omega arith) (omega arith) ∙ f.no_next;
          }

      -- the one before e
      in-v : Before n m S k → S.next k ≡ e → Before n m S' k
      in-v b p =
          let kv : k ≡ v = sym b.next_prev ∙ ap S.prev p in
          let s : S.home k ≡ i = sym b.next_home ∙ ap S.home p in
          let nk : S'.next k ≡ q = rw kv (I.next_v (rw (sym kv) kl)) in
          let z : S.place e ≡ S.place k + 1 = rw p at b.next_place in
          record {
            next_lt = rw nk fq.last_lt;
            next_home = rw (nk, P.home_o k kl d) (P.home_o q fq.last_lt ne ∙ fq.last_home ∙ sym s);
            next_place = rw (nk, P.place_q ne, P.place_o k kl d dq) z;
            next_prev = rw nk (I.prev_q ∙ sym kv);
          }

      -- the one before q is the new last
      in-w : Before n m S k → S.next k ≡ q → Final n m S' k
      in-w b p =
          let kw : k ≡ w = sym b.next_prev ∙ ap S.prev p in
          let dw : w ≢ e = λ r. d (kw ∙ r) in
          let hk' : S'.home k ≡ i = P.home_o k kl d ∙ sym b.next_home ∙ ap S.home p ∙ fq.last_home in
          let z : S.place q ≡ S.place k + 1 = rw p at b.next_place in
          let lp = fq.last_place in
          let c = P.count_i in
          record { at_end = rw (hk', P.place_o k kl d dq) (omega arith); is_last = rw hk' (I.last_i dw ∙ sym kw); no_next = rw kw (I.next_w dw) }

      in-bef : Before n m S k → S.next k ≢ e → S.next k ≢ q → Before n m S' k
      in-bef b y z =
          let nk : S'.next k ≡ S.next k = keeps y z in
          let yx : S.next k ≢ x = λ p. d (sym b.next_prev ∙ ap S.prev p ∙ be.next_prev) in
          record {
            next_lt = rw nk b.next_lt;
            next_home = rw (nk, P.home_o k kl d) (P.home_o (S.next k) b.next_lt y ∙ b.next_home);
            next_place = rw (nk, P.place_o k kl d dq) (P.place_o (S.next k) b.next_lt y z ∙ b.next_place);
            next_prev = rw nk (I.prev_o (S.next k) b.next_lt y z yx ∙ b.next_prev);
          }

      in_held : Held n m S k → Held n m S' k
      in_held hk =
          record {
            home_lt = rw (P.home_o k kl d) hk.home_lt;
            place_lt = new-place k kl d dq hk;
            back =
                ⊎_elim
                (λ (f : First n m S k).
                let dx : k ≢ x = split k x (λ p. (let a = f.at_zero in let b = be.next_place in omega arith)) in
                inl (record { at_zero = P.place_o k kl d dq ∙ f.at_zero; no_prev = I.prev_o k kl d dq dx ∙ f.no_prev }))
                (λ (a : After n m S k). inr (either k x in-x (in-o a)))
                hk.back;
            fore =
                ⊎_elim (λ (f : Final n m S k). inl (in-fin hk f))
                (λ (b : Before n m S k). either (S.next k) e (λ p. inr (in-v b p)) (λ y. either (S.next k) q (λ p. inl (in-w b p)) (λ z. inr (in-bef b y z))))
                hk.fore;
          }

    in_list : Full n m S' i
    in_list =
        let lp = fq.last_place in
        let c = P.count_i in
        either w e
        (λ p.
        let z : S.place e + 1 ≡ S.place q = rw p at aq.prev_place in
        record {
          last_lt = rw (I.last_adj p) fq.last_lt;
          last_home = rw (I.last_adj p) (P.home_o q fq.last_lt ne ∙ fq.last_home);
          last_place = rw (I.last_adj p, P.place_q ne) (omega arith);
        })
        (λ d.
        let z = aq.prev_place in
        record {
          last_lt = rw (I.last_i d) aq.prev_lt;
          last_home = rw (I.last_i d) (P.home_o w aq.prev_lt d ∙ hw);
          last_place = rw (I.last_i d, P.place_o w aq.prev_lt d wq) (omega arith);
        })

    pub in-rules : Rules n m S'
    in-rules =
        record {
          n_small = R.n_small;
          m_small = R.m_small;
          elem = λ k kl.
              either k e (λ p. inl (subst⁻¹ (λ (j : ℕ). Blank n m S' j) p P.blank))
              (λ d.
              either k q (λ p. inr (subst⁻¹ (λ (j : ℕ). Held n m S' j) p in-new))
              (λ dq. ⊎_elim (λ b. inl (in-blank k kl d dq b)) (λ hk. inr (in_held k kl d dq hk)) (R.elem k kl)));
          list = λ j jl. either j i (λ p. inr (subst⁻¹ (λ (o : ℕ). Full n m S' o) p in_list)) (λ d. old-list j jl d);
        }
