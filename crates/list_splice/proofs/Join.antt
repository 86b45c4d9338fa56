-- A list put behind another: the rules still hold, and the list is the two, one after the other.
use mathlib.Core.Path.{◌≡◌, sym, ◌∙◌, ap}
use mathlib.Core.Logic.{◌⊎◌, inl, inr, ◌≢◌, ⊎_elim}
use Prim.Native.Nat.{ℕ, ◌+◌, ◌-◌, ◌<◌}
use native.Mathlib.Omega.{arith}
use mathlib.Core.List.{[], ◌++◌}
use lib.ListN.{length, get_or, length-append, get_or-append}
use lib.Seq.{get_or-append-add}
use Rattle.list_in_table.specs.Rules.{none, View, Rules, Held, Blank, First, After, Final, Before, Empty, Full, list_of}
use Rattle.list_in_table.proofs.Laws.{held_in, full, either, last-final}
use Rattle.list_in_table.proofs.Order.{At, length-list, list_at, list-of, list-is}

-- what changes between S and S' when the list s, whose first is f, is put behind the list g
pub record Spliced (n m g s f : ℕ) (S S' : View) : Type 0 where
  pub f_at : At n S s 0 f
  pub home_s : (k : ℕ) → k < n → S.home k ≡ s → S'.home k ≡ g
  pub home_o : (k : ℕ) → k < n → S.home k ≢ s → S'.home k ≡ S.home k
  pub place_s : (k : ℕ) → k < n → S.home k ≡ s → S'.place k ≡ S.count g + S.place k
  pub place_o : (k : ℕ) → k < n → S.home k ≢ s → S'.place k ≡ S.place k
  pub prev_f : S'.prev f ≡ S.last g
  pub prev_o : (k : ℕ) → k < n → k ≢ f → S'.prev k ≡ S.prev k
  pub next_l : S.last g < n → S'.next (S.last g) ≡ f
  pub next_o : (k : ℕ) → k < n → k ≢ S.last g → S'.next k ≡ S.next k
  pub count_g : S'.count g ≡ S.count g + S.count s
  pub count_s : S'.count s ≡ 0
  pub count_o : (j : ℕ) → j < m → j ≢ g → j ≢ s → S'.count j ≡ S.count j
  pub last_g : S'.last g ≡ S.last s
  pub last_s : S'.last s ≡ none
  pub last_o : (j : ℕ) → j < m → j ≢ g → j ≢ s → S'.last j ≡ S.last j

module _ {n m g s f : ℕ} {S S' : View} (R : Rules n m S) (gl : g < m) (sl : s < m) (gs : g ≢ s) (P : Spliced n m g s f S S') where
  fl : f < n
  fl = P.f_at.lt

  fh : S.home f ≡ s
  fh = P.f_at.home_is

  fp : S.place f ≡ 0
  fp = P.f_at.place_is

  -- s is not empty
  fs : Full n m S s
  fs = full R s sl (let h : S.place f < S.count s = rw fh at (held_in R f s fl sl fh).place_lt in omega arith)

  first-is : (k : ℕ) → k < n → S.home k ≡ s → S.place k ≡ 0 → k ≡ f
  first-is k kl h p = sym (list-of R s sl k kl h) ∙ ap (λ (j : ℕ). get_or (list_of S s) j 0) (p ∙ sym fp) ∙ list-of R s sl f fl fh

  was-last : (k : ℕ) → k < n → k ≡ S.last g → S.home k ≡ g
  was-last k l p =
      ⊎_elim (λ (o : Empty n m S g). absurd (let q = o.no_last in let z = R.n_small in omega arith))
      (λ (o : Full n m S g). ap S.home p ∙ o.last_home)
      (R.list g gl)

  not_last : (u : ℕ) → u < n → Held n m S u → S.next u < n → u ≢ S.last g
  not_last u l h b p =
      let hu : S.home u ≡ g = was-last u l p in
      let z = (last-final R u l h (ap S.last hu ∙ sym p)).no_next in
      let y = R.n_small in
      omega arith

  module _ (k : ℕ) (kl : k < n) where
    -- an element of s
    module _ (h : Held n m S k) (hs : S.home k ≡ s) where
      dl : k ≢ S.last g
      dl p = gs (sym (was-last k kl p) ∙ hs)

      s-first : First n m S k → First n m S' k ⊎ After n m S' k
      s-first o =
          let kf : k ≡ f = first-is k kl hs o.at_zero in
          let pk : S'.place k ≡ S.count g = P.place_s k kl hs ∙ (let z = o.at_zero in omega arith) in
          let vk : S'.prev k ≡ S.last g = rw kf P.prev_f in
          ⊎_elim (λ (e : Empty n m S g). inl (record { at_zero = pk ∙ e.no_count; no_prev = vk ∙ e.no_last }))
          (λ (e : Full n m S g).
          let d : S.home (S.last g) ≢ s = λ p. gs (sym e.last_home ∙ p) in
          inr (record {
            prev_lt = rw vk e.last_lt;
            prev_home = rw (vk, P.home_s k kl hs) (P.home_o (S.last g) e.last_lt d ∙ e.last_home);
            prev_place = rw (vk, P.place_o (S.last g) e.last_lt d, pk) e.last_place;
            prev_next = rw vk (P.next_l e.last_lt ∙ sym kf);
          }))
          (R.list g gl)

      s-after : After n m S k → After n m S' k
      s-after a =
          let dk : k ≢ f = λ p. (let q : S.place k ≡ S.place f = ap S.place p in let y = fp in let z = a.prev_place in omega arith) in
          let vk : S'.prev k ≡ S.prev k = P.prev_o k kl dk in
          let hu : S.home (S.prev k) ≡ s = a.prev_home ∙ hs in
          let du : S.prev k ≢ S.last g = λ p. gs (sym (was-last (S.prev k) a.prev_lt p) ∙ hu) in
          let z = a.prev_place in
          record {
            prev_lt = rw vk a.prev_lt;
            prev_home = rw (vk, P.home_s k kl hs) (P.home_s (S.prev k) a.prev_lt hu);
            prev_place = rw (vk, P.place_s k kl hs, P.place_s (S.prev k) a.prev_lt hu) (omega arith);
            prev_next = rw vk (P.next_o (S.prev k) a.prev_lt du ∙ a.prev_next);
          }

      s-final : Final n m S k → Final n m S' k
      s-final o =
          let z : S.place k + 1 ≡ S.count s = rw hs at o.at_end in
          let l : S.last s ≡ k = rw hs at o.is_last in
          record {
            at_end = rw (P.home_s k kl hs, P.place_s k kl hs, P.count_g) (omega arith);
            is_last = rw (P.home_s k kl hs) (P.last_g ∙ l);
            no_next = P.next_o k kl dl ∙ o.no_next;
          }

      s_before : Before n m S k → Before n m S' k
      s_before b =
          let nk : S'.next k ≡ S.next k = P.next_o k kl dl in
          let hx : S.home (S.next k) ≡ s = b.next_home ∙ hs in
          let dx : S.next k ≢ f = λ p. (let q : S.place (S.next k) ≡ S.place f = ap S.place p in let y = fp in let z = b.next_place in omega arith) in
          let z = b.next_place in
          record {
            next_lt = rw nk b.next_lt;
            next_home = rw (nk, P.home_s k kl hs) (P.home_s (S.next k) b.next_lt hx);
            next_place = rw (nk, P.place_s k kl hs) (P.place_s (S.next k) b.next_lt hx ∙ (omega arith));
            next_prev = rw nk (P.prev_o (S.next k) b.next_lt dx ∙ b.next_prev);
          }

      s-held : Held n m S' k
      s-held =
          let z : S.place k < S.count s = rw hs at h.place_lt in
          record {
            home_lt = rw (P.home_s k kl hs) gl;
            place_lt = rw (P.home_s k kl hs, P.place_s k kl hs, P.count_g) (omega arith);
            back = ⊎_elim (λ (o : First n m S k). s-first o) (λ (a : After n m S k). inr (s-after a)) h.back;
            fore = ⊎_elim (λ (o : Final n m S k). inl (s-final o)) (λ (b : Before n m S k). inr (s_before b)) h.fore;
          }

    -- an element of another list
    module _ (ho : S.home k ≢ s) where
      df : k ≢ f
      df p = ho (ap S.home p ∙ fh)

      hk : S'.home k ≡ S.home k
      hk = P.home_o k kl ho

      o-blank : Blank n m S k → Blank n m S' k
      o-blank b =
          let d : k ≢ S.last g = λ p. (let q = was-last k kl p in let z = b.home_none in let y = R.m_small in omega arith) in
          record {
            home_none = hk ∙ b.home_none;
            place_none = P.place_o k kl ho ∙ b.place_none;
            prev_none = P.prev_o k kl df ∙ b.prev_none;
            next_none = P.next_o k kl d ∙ b.next_none;
          }

      o-after : Held n m S k → After n m S k → After n m S' k
      o-after h a =
          let vk : S'.prev k ≡ S.prev k = P.prev_o k kl df in
          let hu : S.home (S.prev k) ≢ s = λ p. ho (sym a.prev_home ∙ p) in
          let ku : Held n m S (S.prev k) = held_in R (S.prev k) (S.home k) a.prev_lt h.home_lt a.prev_home in
          let du : S.prev k ≢ S.last g = not_last (S.prev k) a.prev_lt ku (rw a.prev_next kl) in
          record {
            prev_lt = rw vk a.prev_lt;
            prev_home = rw (vk, hk) (P.home_o (S.prev k) a.prev_lt hu ∙ a.prev_home);
            prev_place = rw (vk, P.place_o k kl ho, P.place_o (S.prev k) a.prev_lt hu) a.prev_place;
            prev_next = rw vk (P.next_o (S.prev k) a.prev_lt du ∙ a.prev_next);
          }

      -- the old last of g
      o-join : Final n m S k → S.home k ≡ g → Before n m S' k
      o-join o p =
          let q : S.last g ≡ k = rw p at o.is_last in
          let nk : S'.next k ≡ f = rw q at (P.next_l (rw q kl)) in
          let z : S.place k + 1 ≡ S.count g = rw p at o.at_end in
          let y = fp in
          record {
            next_lt = rw nk fl;
            next_home = rw (nk, hk) (P.home_s f fl fh ∙ sym p);
            next_place = rw (nk, P.place_o k kl ho) (P.place_s f fl fh ∙ (omega arith));
            next_prev = rw nk (P.prev_f ∙ q);
          }

      o-final : Held n m S k → Final n m S k → S.home k ≢ g → Final n m S' k
      o-final h o p =
          record {
            at_end = rw (hk, P.place_o k kl ho, P.count_o (S.home k) h.home_lt p ho) o.at_end;
            is_last = rw hk (P.last_o (S.home k) h.home_lt p ho ∙ o.is_last);
            no_next = P.next_o k kl (λ q. p (was-last k kl q)) ∙ o.no_next;
          }

      o-before : Held n m S k → Before n m S k → Before n m S' k
      o-before h b =
          let nk : S'.next k ≡ S.next k = P.next_o k kl (not_last k kl h b.next_lt) in
          let hx : S.home (S.next k) ≢ s = λ p. ho (sym b.next_home ∙ p) in
          let dx : S.next k ≢ f = λ p. hx (ap S.home p ∙ fh) in
          record {
            next_lt = rw nk b.next_lt;
            next_home = rw (nk, hk) (P.home_o (S.next k) b.next_lt hx ∙ b.next_home);
            next_place = rw (nk, P.place_o k kl ho) (P.place_o (S.next k) b.next_lt hx ∙ b.next_place);
            next_prev = rw nk (P.prev_o (S.next k) b.next_lt dx ∙ b.next_prev);
          }

      o-held : Held n m S k → Held n m S' k
      o-held h =
          let z = h.place_lt in
          record {
            home_lt = rw hk h.home_lt;
            place_lt =
                rw (hk, P.place_o k kl ho)
                (either (S.home k) g (λ p. let y : S.place k < S.count g = rw p at z in rw (p, P.count_g) (omega arith))
                (λ p. rw (P.count_o (S.home k) h.home_lt p ho) z));
            back =
                ⊎_elim (λ (o : First n m S k). inl (record { at_zero = P.place_o k kl ho ∙ o.at_zero; no_prev = P.prev_o k kl df ∙ o.no_prev }))
                (λ (a : After n m S k). inr (o-after h a))
                h.back;
            fore =
                ⊎_elim (λ (o : Final n m S k). either (S.home k) g (λ p. inr (o-join o p)) (λ p. inl (o-final h o p)))
                (λ (b : Before n m S k). inr (o-before h b))
                h.fore;
          }

  new-list : (j : ℕ) → j < m → Empty n m S' j ⊎ Full n m S' j
  new-list j jl =
      either j g
      (λ p.
      let z = fs.last_place in
      inr (record {
        last_lt = rw (p, P.last_g) fs.last_lt;
        last_home = rw (p, P.last_g) (P.home_s (S.last s) fs.last_lt fs.last_home);
        last_place = rw (p, P.last_g, P.place_s (S.last s) fs.last_lt fs.last_home, P.count_g) (omega arith);
      }))
      (λ dg.
      either j s (λ p. inl (record { no_count = rw p P.count_s; no_last = rw p P.last_s }))
      (λ ds.
      let lj : S'.last j ≡ S.last j = P.last_o j jl dg ds in
      let cj : S'.count j ≡ S.count j = P.count_o j jl dg ds in
      ⊎_elim (λ (o : Empty n m S j). inl (record { no_count = cj ∙ o.no_count; no_last = lj ∙ o.no_last }))
      (λ (o : Full n m S j).
      let d : S.home (S.last j) ≢ s = λ p. ds (sym o.last_home ∙ p) in
      inr (record {
        last_lt = rw lj o.last_lt;
        last_home = rw lj (P.home_o (S.last j) o.last_lt d ∙ o.last_home);
        last_place = rw (lj, cj, P.place_o (S.last j) o.last_lt d) o.last_place;
      }))
      (R.list j jl)))

  pub splice-rules : Rules n m S'
  splice-rules =
      record {
        n_small = R.n_small;
        m_small = R.m_small;
        elem = λ k kl.
            ⊎_elim (λ (b : Blank n m S k). inl (o-blank k kl (λ p. (let z = b.home_none in let y = R.m_small in omega arith)) b))
            (λ (h : Held n m S k). inr (either (S.home k) s (λ p. s-held k kl h p) (λ p. o-held k kl p h)))
            (R.elem k kl);
        list = new-list;
      }

  pub splice-big : list_of S' g ≡ list_of S g ++ list_of S s
  splice-big =
      let a : length (list_of S g) ≡ S.count g = length-list R g gl in
      let b : length (list_of S s) ≡ S.count s = length-list R s sl in
      let c = P.count_g in
      list-is splice-rules g gl (list_of S g ++ list_of S s) (length-append (list_of S g) (list_of S s) ∙ (omega arith))
      (λ p l.
      either (length (list_of S g) - p) 0
      (λ e.
      let q : p ≡ length (list_of S g) + (p - length (list_of S g)) = omega arith in
      let w : At n S s (p - length (list_of S g)) (get_or (list_of S s) (p - length (list_of S g)) 0) = list_at R s sl (p - length (list_of S g)) (omega arith) in
      let v : get_or (list_of S g ++ list_of S s) p 0 ≡ get_or (list_of S s) (p - length (list_of S g)) 0 =
      ap (λ (j : ℕ). get_or (list_of S g ++ list_of S s) j 0) q ∙ get_or-append-add (list_of S g) (list_of S s) (p - length (list_of S g)) 0 in
      rw v
      (record {
        lt = w.lt;
        home_is = P.home_s _ w.lt w.home_is;
        place_is = P.place_s _ w.lt w.home_is ∙ (let y = w.place_is in omega arith);
      }))
      (λ e.
      let w : At n S g p (get_or (list_of S g) p 0) = list_at R g gl p (omega arith) in
      let d : S.home (get_or (list_of S g) p 0) ≢ s = λ q. gs (sym w.home_is ∙ q) in
      rw (get_or-append (list_of S g) (list_of S s) 0 p (omega arith))
      (record { lt = w.lt; home_is = P.home_o _ w.lt d ∙ w.home_is; place_is = P.place_o _ w.lt d ∙ w.place_is })))

  pub splice-small : list_of S' s ≡ []
  splice-small = let c = P.count_s in list-is splice-rules s sl [] (sym c) (λ p l. absurd (omega arith))

  pub splice-others : (j : ℕ) → j < m → j ≢ g → j ≢ s → list_of S' j ≡ list_of S j
  splice-others j jl dg ds =
      let c = P.count_o j jl dg ds in
      list-is splice-rules j jl (list_of S j) (length-list R j jl ∙ sym c)
      (λ p l.
      let w : At n S j p (get_or (list_of S j) p 0) = list_at R j jl p (omega arith) in
      let d : S.home (get_or (list_of S j) p 0) ≢ s = λ q. ds (sym w.home_is ∙ q) in
      record { lt = w.lt; home_is = P.home_o _ w.lt d ∙ w.home_is; place_is = P.place_o _ w.lt d ∙ w.place_is })
