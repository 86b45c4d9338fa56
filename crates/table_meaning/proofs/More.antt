-- A list table that agrees with one in its n elements and m lists, and is blank in the elements and lists taken in, keeps the rules and has the same lists.
use mathlib.Core.Path.{◌≡◌, refl, sym, ◌∙◌, ap, subst}
use mathlib.Core.Logic.{◌⊎◌, inl, inr, ⊎_elim}
use Prim.Native.Nat.{ℕ, zero, suc, ◌+◌, ◌≤◌, ◌<◌}
use native.Mathlib.Omega.{arith}
use mathlib.Core.List.{List, [], ◌∷◌, ◌++◌}
use Rattle.list_in_table.specs.Rules.{none, View, Rules, Held, Blank, First, After, Final, Before, Empty, Full, walk, list_of}
use Rattle.list_in_table.proofs.Laws.{held_in}
use Rattle.list_in_table.proofs.Same.{below}

pub record Agrees (n m : ℕ) (S S' : View) : Type 0 where
  pub home : (e : ℕ) → e < n → S'.home e ≡ S.home e
  pub place : (e : ℕ) → e < n → S'.place e ≡ S.place e
  pub prev : (e : ℕ) → e < n → S'.prev e ≡ S.prev e
  pub next : (e : ℕ) → e < n → S'.next e ≡ S.next e
  pub count : (i : ℕ) → i < m → S'.count i ≡ S.count i
  pub last : (i : ℕ) → i < m → S'.last i ≡ S.last i

module _ {n m : ℕ} {S S' : View} (R : Rules n m S) (A : Agrees n m S S') where
  module _ {n' m' : ℕ} (nl : n ≤ n') (ml : m ≤ m') where
    more-blank : (e : ℕ) → e < n → Blank n m S e → Blank n' m' S' e
    more-blank e l b =
        record {
          home_none = A.home e l ∙ b.home_none;
          place_none = A.place e l ∙ b.place_none;
          prev_none = A.prev e l ∙ b.prev_none;
          next_none = A.next e l ∙ b.next_none;
        }

    more-held : (e : ℕ) → e < n → Held n m S e → Held n' m' S' e
    more-held e l h =
        let eh = A.home e l in
        let ep = A.place e l in
        let ev = A.prev e l in
        let ex = A.next e l in
        let ec : S'.count (S'.home e) ≡ S.count (S.home e) = ap S'.count eh ∙ A.count (S.home e) h.home_lt in
        let el : S'.last (S'.home e) ≡ S.last (S.home e) = ap S'.last eh ∙ A.last (S.home e) h.home_lt in
        record {
          home_lt = (let q = h.home_lt in omega arith);
          place_lt = (let q = h.place_lt in omega arith);
          back =
              ⊎_elim (λ (f : First n m S e). inl (record { at_zero = ep ∙ f.at_zero; no_prev = ev ∙ f.no_prev }))
              (λ (a : After n m S e).
              inr
              (record {
                prev_lt = (let q = a.prev_lt in omega arith);
                prev_home = ap S'.home ev ∙ A.home (S.prev e) a.prev_lt ∙ a.prev_home ∙ sym eh;
                prev_place = ap (λ (x : ℕ). S'.place x + 1) ev ∙ ap (λ (x : ℕ). x + 1) (A.place (S.prev e) a.prev_lt) ∙ a.prev_place ∙ sym ep;
                prev_next = ap S'.next ev ∙ A.next (S.prev e) a.prev_lt ∙ a.prev_next;
              }))
              h.back;
          fore =
              ⊎_elim
              (λ (f : Final n m S e). inl (record { at_end = ap (λ (x : ℕ). x + 1) ep ∙ f.at_end ∙ sym ec; is_last = el ∙ f.is_last; no_next = ex ∙ f.no_next }))
              (λ (b : Before n m S e).
              inr
              (record {
                next_lt = (let q = b.next_lt in omega arith);
                next_home = ap S'.home ex ∙ A.home (S.next e) b.next_lt ∙ b.next_home ∙ sym eh;
                next_place = ap S'.place ex ∙ A.place (S.next e) b.next_lt ∙ b.next_place ∙ ap (λ (x : ℕ). x + 1) (sym ep);
                next_prev = ap S'.prev ex ∙ A.prev (S.next e) b.next_lt ∙ b.next_prev;
              }))
              h.fore;
        }

    more-list : (i : ℕ) → i < m → Empty n m S i ⊎ Full n m S i → Empty n' m' S' i ⊎ Full n' m' S' i
    more-list i l o =
        let ec = A.count i l in
        let el = A.last i l in
        ⊎_elim (λ (x : Empty n m S i). inl (record { no_count = ec ∙ x.no_count; no_last = el ∙ x.no_last }))
        (λ (f : Full n m S i).
        inr
        (record {
          last_lt = (let q = f.last_lt in omega arith);
          last_home = ap S'.home el ∙ A.home (S.last i) f.last_lt ∙ f.last_home;
          last_place = ap (λ (x : ℕ). S'.place x + 1) el ∙ ap (λ (x : ℕ). x + 1) (A.place (S.last i) f.last_lt) ∙ f.last_place ∙ sym ec;
        }))
        o

    pub rules-more : n' ≤ none → m' ≤ none → ((e : ℕ) → n ≤ e → e < n' → Blank n' m' S' e) → ((i : ℕ) → m ≤ i → i < m' → Empty n' m' S' i) → Rules n' m' S'
    rules-more ns ms B E =
        record {
          n_small = ns;
          m_small = ms;
          elem = λ e l.
              below e n (λ h. ⊎_elim (λ (b : Blank n m S e). inl (more-blank e h b)) (λ (k : Held n m S e). inr (more-held e h k)) (R.elem e h)) (λ h. inl (B e h l));
          list = λ i l. below i m (λ h. more-list i h (R.list i h)) (λ h. inl (E i h l));
        }

  walk_same : (i : ℕ) → i < m → (k q : ℕ) → q < n → S.home q ≡ i → S.place q + 1 ≡ k → walk S'.prev k q ≡ walk S.prev k q
  walk_same i il zero q ql h e = refl
  walk_same i il (suc k) q ql h e =
      ap (λ (x : List ℕ). x ++ (q ∷ []))
      (⊎_elim
      (λ (f : First n m S q). let z : k ≡ 0 = (let y = f.at_zero in omega arith) in subst (λ (x : ℕ). walk S'.prev x (S'.prev q) ≡ walk S.prev x (S.prev q)) (sym z) refl)
      (λ (a : After n m S q).
      ap (walk S'.prev k) (A.prev q ql) ∙ walk_same i il k (S.prev q) a.prev_lt (a.prev_home ∙ h) (let z = a.prev_place in omega arith))
      (held_in R q i ql il h).back)

  pub list_same : (i : ℕ) → i < m → list_of S' i ≡ list_of S i
  unfolding list_of
  list_same i il =
      ap (λ (c : ℕ). walk S'.prev c (S'.last i)) (A.count i il) ∙ ap (walk S'.prev (S.count i)) (A.last i il)
      ∙ ⊎_elim
      (λ (o : Empty n m S i). subst (λ (x : ℕ). walk S'.prev x (S.last i) ≡ walk S.prev x (S.last i)) (sym o.no_count) refl)
      (λ (f : Full n m S i). walk_same i il (S.count i) (S.last i) f.last_lt f.last_home f.last_place)
      (R.list i il)
