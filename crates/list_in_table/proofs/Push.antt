-- An element put last in a list: the rules still hold.
use mathlib.Core.Path.{◌≡◌, sym, ◌∙◌, ap, subst⁻¹}
use mathlib.Core.Logic.{◌⊎◌, inl, inr, ◌≢◌, ⊎_elim}
use Prim.Native.Nat.{ℕ, ◌+◌, ◌≤◌, ◌<◌}
use native.Mathlib.Omega.{arith}
use mathlib.Core.List.{[], ◌∷◌, ◌++◌}
use lib.ListN.{length, get_or, length-append, get_or-append}
use lib.Seq.{get_or_at}
use Rattle.list_in_table.specs.Rules.{none, View, Rules, Held, Blank, After, Final, Before, Empty, Full, list_of}
use Rattle.list_in_table.proofs.Order.{At, length-list, list_at, list-is}
use Rattle.list_in_table.proofs.Laws.{held_in, either, last-final}

-- what changes between the tables S and S' when e is put last in the list i
pub record Pushed (n m i e : ℕ) (S S' : View) : Type 0 where
  pub home_e : S'.home e ≡ i
  pub home_o : (k : ℕ) → k < n → k ≢ e → S'.home k ≡ S.home k
  pub place_e : S'.place e ≡ S.count i
  pub place_o : (k : ℕ) → k < n → k ≢ e → S'.place k ≡ S.place k
  pub prev_e : S'.prev e ≡ S.last i
  pub prev_o : (k : ℕ) → k < n → k ≢ e → S'.prev k ≡ S.prev k
  pub next_e : S'.next e ≡ none
  pub next_l : S.last i < n → S'.next (S.last i) ≡ e
  pub next_o : (k : ℕ) → k < n → k ≢ e → k ≢ S.last i → S'.next k ≡ S.next k
  pub count_i : S'.count i ≡ S.count i + 1
  pub count_o : (j : ℕ) → j < m → j ≢ i → S'.count j ≡ S.count j
  pub last_i : S'.last i ≡ e
  pub last_o : (j : ℕ) → j < m → j ≢ i → S'.last j ≡ S.last j

module _ {n m i e : ℕ} {S S' : View} (R : Rules n m S) (il : i < m) (el : e < n) (eb : S.home e ≡ none) (P : Pushed n m i e S S') where
  -- an element of a list is not e
  in-other : (k j : ℕ) → j < m → S.home k ≡ j → k ≢ e
  in-other k j l h p = let q : S.home k ≡ S.home e = ap S.home p in let s : m ≤ none = R.m_small in omega arith

  -- the old last of i is none, or is in i
  was-last : (k : ℕ) → k < n → k ≡ S.last i → S.home k ≡ i
  was-last k l p =
      ⊎_elim (λ o. absurd (let q : S.last i ≡ none = o.no_last in let s : n ≤ none = R.n_small in omega arith))
      (λ f. ap S.home p ∙ f.last_home)
      (R.list i il)

  new-elem : Held n m S' e
  new-elem =
      record {
        home_lt = rw P.home_e il;
        place_lt = rw P.home_e (let a = P.place_e in let b = P.count_i in omega arith);
        back =
            ⊎_elim (λ o. inl (record { at_zero = P.place_e ∙ o.no_count; no_prev = P.prev_e ∙ o.no_last }))
            (λ (f : Full n m S i).
            let d : S.last i ≢ e = in-other (S.last i) i il f.last_home in
            let a = P.prev_e in
            let hl = P.home_o (S.last i) f.last_lt d in
            let pl = P.place_o (S.last i) f.last_lt d in
            inr (record {
              prev_lt = rw P.prev_e f.last_lt;
              prev_home = rw (P.prev_e, P.home_e) (hl ∙ f.last_home);
              prev_place = rw P.prev_e (let b = P.place_e in let c = f.last_place in omega arith);
              prev_next = rw P.prev_e (P.next_l f.last_lt);
            }))
            (R.list i il);
        fore =
            inl (record {
              at_end = rw P.home_e (let a = P.place_e in let b = P.count_i in omega arith);
              is_last = rw P.home_e P.last_i;
              no_next = P.next_e;
            });
      }

  module _ (k : ℕ) (kl : k < n) (d : k ≢ e) where
    old-blank : Blank n m S k → Blank n m S' k
    old-blank b =
        let nl : k ≢ S.last i = λ p. (let h : S.home k ≡ i = was-last k kl p in let a = b.home_none in let s = R.m_small in omega arith) in
        record {
          home_none = P.home_o k kl d ∙ b.home_none;
          place_none = P.place_o k kl d ∙ b.place_none;
          prev_none = P.prev_o k kl d ∙ b.prev_none;
          next_none = P.next_o k kl d nl ∙ b.next_none;
        }

    -- one that has another after it is not the last
    not_last : (u : ℕ) → u < n → Held n m S u → S.next u < n → u ≢ S.last i
    not_last u l h b p =
        let hu : S.home u ≡ i = was-last u l p in
        let f = (last-final R u l h (ap S.last hu ∙ sym p)).no_next in
        let s = R.n_small in
        omega arith

    old-after : Held n m S k → After n m S k → After n m S' k
    old-after h a =
        let du : S.prev k ≢ e = in-other (S.prev k) (S.home k) h.home_lt a.prev_home in
        let ku : Held n m S (S.prev k) = held_in R (S.prev k) (S.home k) a.prev_lt h.home_lt a.prev_home in
        let nl : S.prev k ≢ S.last i = not_last (S.prev k) a.prev_lt ku (rw a.prev_next kl) in
        let vk : S'.prev k ≡ S.prev k = P.prev_o k kl d in
        record {
          prev_lt = rw vk a.prev_lt;
          prev_home = rw (vk, P.home_o k kl d) (P.home_o (S.prev k) a.prev_lt du ∙ a.prev_home);
          prev_place = rw (vk, P.place_o k kl d, P.place_o (S.prev k) a.prev_lt du) a.prev_place;
          prev_next = rw vk (P.next_o (S.prev k) a.prev_lt du nl ∙ a.prev_next);
        }

    -- the old last
    new-before : Final n m S k → S.home k ≡ i → Before n m S' k
    new-before f s =
        let q : S.last i ≡ k = rw s at f.is_last in
        let nk : S'.next k ≡ e = rw q at (P.next_l (rw q kl)) in
        let c : S.place k + 1 ≡ S.count i = rw s at f.at_end in
        record {
          next_lt = rw nk el;
          next_home = rw (nk, P.home_o k kl d) (P.home_e ∙ sym s);
          next_place = rw (nk, P.place_o k kl d) (P.place_e ∙ sym c);
          next_prev = rw nk (P.prev_e ∙ q);
        }

    old-final : Held n m S k → Final n m S k → S.home k ≢ i → Final n m S' k
    old-final h f s =
        let hk : S'.home k ≡ S.home k = P.home_o k kl d in
        record {
          at_end = rw (hk, P.place_o k kl d, P.count_o (S.home k) h.home_lt s) f.at_end;
          is_last = rw hk (P.last_o (S.home k) h.home_lt s ∙ f.is_last);
          no_next = P.next_o k kl d (λ p. s (was-last k kl p)) ∙ f.no_next;
        }

    old-before : Held n m S k → Before n m S k → Before n m S' k
    old-before h b =
        let dx : S.next k ≢ e = in-other (S.next k) (S.home k) h.home_lt b.next_home in
        let nk : S'.next k ≡ S.next k = P.next_o k kl d (not_last k kl h b.next_lt) in
        record {
          next_lt = rw nk b.next_lt;
          next_home = rw (nk, P.home_o k kl d) (P.home_o (S.next k) b.next_lt dx ∙ b.next_home);
          next_place = rw (nk, P.place_o k kl d) (P.place_o (S.next k) b.next_lt dx ∙ b.next_place);
          next_prev = rw nk (P.prev_o (S.next k) b.next_lt dx ∙ b.next_prev);
        }

    old-held : Held n m S k → Held n m S' k
    old-held h =
        let hk : S'.home k ≡ S.home k = P.home_o k kl d in
        let pk : S'.place k ≡ S.place k = P.place_o k kl d in
        let vk : S'.prev k ≡ S.prev k = P.prev_o k kl d in
        record {
          home_lt = rw hk h.home_lt;
          place_lt =
              rw hk
              (either (S.home k) i
              (λ s. let c : S'.count (S.home k) ≡ S.count (S.home k) + 1 = rw s P.count_i in let l = h.place_lt in omega arith)
              (λ s. let c = P.count_o (S.home k) h.home_lt s in let l = h.place_lt in omega arith));
          back = ⊎_elim (λ f. inl (record { at_zero = pk ∙ f.at_zero; no_prev = vk ∙ f.no_prev })) (λ a. inr (old-after h a)) h.back;
          fore =
              ⊎_elim (λ f. either (S.home k) i (λ s. inr (new-before f s)) (λ s. inl (old-final h f s)))
              (λ b. inr (old-before h b))
              h.fore;
        }

  new-list : (j : ℕ) → j < m → Empty n m S' j ⊎ Full n m S' j
  new-list j jl =
      either j i
      (λ p.
      inr (record {
        last_lt = rw (p, P.last_i) el;
        last_home = rw (p, P.last_i) P.home_e;
        last_place = rw (p, P.last_i) (let a = P.place_e in let b = P.count_i in omega arith);
      }))
      (λ d.
      let lj = P.last_o j jl d in
      let cj = P.count_o j jl d in
      ⊎_elim (λ o. inl (record { no_count = cj ∙ o.no_count; no_last = lj ∙ o.no_last }))
      (λ f.
      let de : S.last j ≢ e = in-other (S.last j) j jl f.last_home in
      let a = P.home_o (S.last j) f.last_lt de in
      let b = P.place_o (S.last j) f.last_lt de in
      inr (record { last_lt = rw lj f.last_lt; last_home = rw lj (a ∙ f.last_home); last_place = rw (lj, cj) (let c = f.last_place in omega arith) }))
      (R.list j jl))

  pub push-rules : Rules n m S'
  push-rules =
      record {
        n_small = R.n_small;
        m_small = R.m_small;
        elem = λ k kl. either k e (λ p. inr (subst⁻¹ (λ (x : ℕ). Held n m S' x) p new-elem)) (λ d. ⊎_elim (λ b. inl (old-blank k kl d b)) (λ h. inr (old-held k kl d h)) (R.elem k kl));
        list = new-list;
      }

  -- an element that was in a list is where it was
  stays : (j p x : ℕ) → j < m → At n S j p x → At n S' j p x
  stays j p x jl a =
      let d : x ≢ e = in-other x j jl a.home_is in
      record { lt = a.lt; home_is = P.home_o x a.lt d ∙ a.home_is; place_is = P.place_o x a.lt d ∙ a.place_is }

  pub push-list : list_of S' i ≡ list_of S i ++ (e ∷ [])
  push-list =
      let s : length (list_of S i) ≡ S.count i = length-list R i il in
      let g = P.count_i in
      list-is push-rules i il (list_of S i ++ (e ∷ [])) (length-append (list_of S i) (e ∷ []) ∙ (omega arith))
      (λ p l.
      either p (S.count i)
      (λ q.
      rw (get_or_at (list_of S i) e [] 0 p (s ∙ sym q))
      (record { lt = el; home_is = P.home_e; place_is = P.place_e ∙ sym q }))
      (λ d.
      let h : p < S.count i = omega arith in
      rw (get_or-append (list_of S i) (e ∷ []) 0 p (omega arith)) (stays i p (get_or (list_of S i) p 0) il (list_at R i il p h))))

  pub push-others : (j : ℕ) → j < m → j ≢ i → list_of S' j ≡ list_of S j
  push-others j jl d =
      let c = P.count_o j jl d in
      list-is push-rules j jl (list_of S j) (length-list R j jl ∙ sym c)
      (λ p l. stays j p (get_or (list_of S j) p 0) jl (list_at R j jl p (omega arith)))
