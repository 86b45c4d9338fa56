-- Two tables that both keep the rules and have the same lists are the same, word for word.
use mathlib.Core.Path.{◌≡◌, refl, sym, ◌∙◌, ap, subst}
use mathlib.Core.Logic.{⊎_elim}
use Prim.Native.Nat.{ℕ, zero, suc, ◌+◌, ◌-◌, ◌*◌, ◌≤◌, ◌<◌}
use native.Mathlib.Omega.{arith}
use mathlib.Core.Bool.{Bool, true, false}
use lib.Dec.{ltb}
use borrow.Author.Tests.{ltb-true, ltb-false}
use mathlib.Core.List.{List}
use lib.ListN.{length, get_or}
use lib.Seq.{ext_get_or}
use Rattle.list_in_table.specs.Rules.{View, Rules, Held, Blank, First, After, Final, Before, Empty, Full, list_of}
use Rattle.list_in_table.specs.Table.{view, Wf}
use Rattle.list_in_table.proofs.Laws.{held_in, either}
use Rattle.list_in_table.proofs.Order.{At, length-list, list_at, list-of}

pub below : {A : Type 0} (a b : ℕ) → (a < b → A) → (b ≤ a → A) → A
below {A} a b f g = go (ltb a b) refl
  where
    go : (t : Bool) → ltb a b ≡ t → A
    go true e = f (ltb-true a b e)
    go false e = g (ltb-false a b e)

-- an element of S is where S' has it
module _ {n m : ℕ} {S S' : View} (R : Rules n m S) (R' : Rules n m S') (L : (i : ℕ) → i < m → list_of S i ≡ list_of S' i) where
  pub same_count : (i : ℕ) → i < m → S.count i ≡ S'.count i
  same_count i l = sym (length-list R i l) ∙ ap length (L i l) ∙ length-list R' i l

  found : (e : ℕ) → e < n → Held n m S e → At n S' (S.home e) (S.place e) e
  found e el h =
      let i = S.home e in
      let p = S.place e in
      let c = same_count i h.home_lt in
      let pl : p < S.count i = h.place_lt in
      let q : get_or (list_of S' i) p 0 ≡ e = ap (λ (x : List ℕ). get_or x p 0) (sym (L i h.home_lt)) ∙ list-of R i h.home_lt e el refl in
      subst (λ (x : ℕ). At n S' i p x) q (list_at R' i h.home_lt p (omega arith))

  -- what stands at p in the list i
  pub same_at : (i p x y : ℕ) → i < m → x < n → y < n → S.home x ≡ i → S.place x ≡ p → S'.home y ≡ i → S'.place y ≡ p → x ≡ y
  same_at i p x y il xl yl hx px hy py =
      sym (list-of R i il x xl hx) ∙ ap (λ (k : ℕ). get_or (list_of S i) k 0) (px ∙ sym py)
      ∙ ap (λ (l : List ℕ). get_or l (S'.place y) 0) (L i il) ∙ list-of R' i il y yl hy

pub record Alike (S S' : View) (e : ℕ) : Type 0 where
  pub home : S.home e ≡ S'.home e
  pub place : S.place e ≡ S'.place e
  pub prev : S.prev e ≡ S'.prev e
  pub next : S.next e ≡ S'.next e

module _ {n m : ℕ} {S S' : View} (R : Rules n m S) (R' : Rules n m S') (L : (i : ℕ) → i < m → list_of S i ≡ list_of S' i) where
  held-alike : (e : ℕ) → e < n → Held n m S e → Alike S S' e
  held-alike e el h =
      let a : At n S' (S.home e) (S.place e) e = found R R' L e el h in
      let hi : S'.home e ≡ S.home e = a.home_is in
      let pi : S'.place e ≡ S.place e = a.place_is in
      let c : S.count (S.home e) ≡ S'.count (S.home e) = same_count R R' L (S.home e) h.home_lt in
      let h' : Held n m S' e = held_in R' e (S.home e) el h.home_lt hi in
      let ch : S'.count (S'.home e) ≡ S'.count (S.home e) = ap S'.count hi in
      record {
        home = sym hi;
        place = sym pi;
        prev =
            ⊎_elim
            (λ (f : First n m S e).
            ⊎_elim (λ (f' : First n m S' e). f.no_prev ∙ sym f'.no_prev)
            (λ (g' : After n m S' e). absurd (let x = f.at_zero in let y = g'.prev_place in omega arith))
            h'.back)
            (λ (g : After n m S e).
            ⊎_elim (λ (f' : First n m S' e). absurd (let x = f'.at_zero in let y = g.prev_place in omega arith))
            (λ (g' : After n m S' e).
            same_at R R' L (S.home e) (S.place e - 1) (S.prev e) (S'.prev e) h.home_lt g.prev_lt g'.prev_lt g.prev_home
            (let y = g.prev_place in omega arith) (g'.prev_home ∙ hi) (let y = g'.prev_place in omega arith))
            h'.back)
            h.back;
        next =
            ⊎_elim
            (λ (f : Final n m S e).
            ⊎_elim (λ (f' : Final n m S' e). f.no_next ∙ sym f'.no_next)
            (λ (g' : Before n m S' e).
            absurd
            (let k : Held n m S' (S'.next e) = held_in R' (S'.next e) (S.home e) g'.next_lt h.home_lt (g'.next_home ∙ hi) in
            let kl = k.place_lt in
            let kc : S'.count (S'.home (S'.next e)) ≡ S'.count (S.home e) = ap S'.count (g'.next_home ∙ hi) in
            let x = f.at_end in
            let y = g'.next_place in
            omega arith))
            h'.fore)
            (λ (g : Before n m S e).
            let k : Held n m S (S.next e) = held_in R (S.next e) (S.home e) g.next_lt h.home_lt g.next_home in
            let kl = k.place_lt in
            let kc : S.count (S.home (S.next e)) ≡ S.count (S.home e) = ap S.count g.next_home in
            let y = g.next_place in
            ⊎_elim (λ (f' : Final n m S' e). absurd (let x = f'.at_end in omega arith))
            (λ (g' : Before n m S' e).
            same_at R R' L (S.home e) (S.place e + 1) (S.next e) (S'.next e) h.home_lt g.next_lt g'.next_lt g.next_home g.next_place
            (g'.next_home ∙ hi) (g'.next_place ∙ ap (λ (x : ℕ). x + 1) pi))
            h'.fore)
            h.fore;
      }

  pub same-last : (i : ℕ) → i < m → S.last i ≡ S'.last i
  same-last i il =
      let c = same_count R R' L i il in
      ⊎_elim
      (λ (o : Empty n m S i).
      ⊎_elim (λ (o' : Empty n m S' i). o.no_last ∙ sym o'.no_last)
      (λ (f' : Full n m S' i). absurd (let x = o.no_count in let y = f'.last_place in omega arith))
      (R'.list i il))
      (λ (f : Full n m S i).
      ⊎_elim (λ (o' : Empty n m S' i). absurd (let x = o'.no_count in let y = f.last_place in omega arith))
      (λ (f' : Full n m S' i).
      same_at R R' L i (S.count i - 1) (S.last i) (S'.last i) il f.last_lt f'.last_lt f.last_home (let y = f.last_place in omega arith)
      f'.last_home (let y = f'.last_place in omega arith))
      (R'.list i il))
      (R.list i il)

module _ {n m : ℕ} {S S' : View} (R : Rules n m S) (R' : Rules n m S') (L : (i : ℕ) → i < m → list_of S i ≡ list_of S' i) where
  pub same-elem : (e : ℕ) → e < n → Alike S S' e
  same-elem e el =
      ⊎_elim
      (λ (b : Blank n m S e).
      ⊎_elim
      (λ (b' : Blank n m S' e).
      record {
        home = b.home_none ∙ sym b'.home_none;
        place = b.place_none ∙ sym b'.place_none;
        prev = b.prev_none ∙ sym b'.prev_none;
        next = b.next_none ∙ sym b'.next_none;
      })
      (λ (h' : Held n m S' e).
      let a = held-alike R' R (λ i l. sym (L i l)) e el h' in
      record { home = sym a.home; place = sym a.place; prev = sym a.prev; next = sym a.next })
      (R'.elem e el))
      (λ (h : Held n m S e). held-alike R R' L e el h)
      (R.elem e el)

-- rows of four words, and of two
pub rows4 : (P : ℕ → Type 0) (n : ℕ) → ((s : ℕ) → s < n → P (4 * s) × P (4 * s + 1) × P (4 * s + 2) × P (4 * s + 3)) → (j : ℕ) → j < 4 * n → P j
rows4 P zero h j l = absurd (omega arith)
rows4 P (suc n) h j l =
    let r = h n (omega arith) in
    either j (4 * n) (λ e. subst P (sym e) r.0)
    (λ d0. either j (4 * n + 1) (λ e. subst P (sym e) r.1)
    (λ d1. either j (4 * n + 2) (λ e. subst P (sym e) r.2)
    (λ d2. either j (4 * n + 3) (λ e. subst P (sym e) r.3)
    (λ d3. rows4 P n (λ s sl. h s (omega arith)) j (omega arith)))))

pub rows2 : (P : ℕ → Type 0) (n : ℕ) → ((s : ℕ) → s < n → P (2 * s) × P (2 * s + 1)) → (j : ℕ) → j < 2 * n → P j
rows2 P zero h j l = absurd (omega arith)
rows2 P (suc n) h j l =
    let r = h n (omega arith) in
    either j (2 * n) (λ e. subst P (sym e) r.0)
    (λ d0. either j (2 * n + 1) (λ e. subst P (sym e) r.1)
    (λ d1. rows2 P n (λ s sl. h s (omega arith)) j (omega arith)))

module _ (t u : List ℕ) (n m : ℕ) (w : Wf t 0 (4 * n) n m) (w' : Wf u 0 (4 * n) n m) (lt : length t ≡ 4 * n + 2 * m) (lu : length u ≡ 4 * n + 2 * m)
    (L : (i : ℕ) → i < m → list_of (view t 0 (4 * n)) i ≡ list_of (view u 0 (4 * n)) i) where
  abbrev Eq : ℕ → Type 0
  Eq j = get_or t j 0 ≡ get_or u j 0

  elems : (j : ℕ) → j < 4 * n → Eq j
  elems =
      rows4 Eq n
      (λ s sl.
      let a = same-elem w.rules w'.rules L s sl in
      let e : 0 + 4 * s ≡ 4 * s = omega arith in
      (subst Eq e a.home, subst (λ (x : ℕ). Eq (x + 1)) e a.place, subst (λ (x : ℕ). Eq (x + 2)) e a.prev, subst (λ (x : ℕ). Eq (x + 3)) e a.next))

  ends : (j : ℕ) → j < 2 * m → Eq (4 * n + j)
  ends =
      rows2 (λ j. Eq (4 * n + j)) m
      (λ i il. (same_count w.rules w'.rules L i il, (let e : 4 * n + 2 * i + 1 ≡ 4 * n + (2 * i + 1) = omega arith in subst Eq e (same-last w.rules w'.rules L i il))))

  pub same-table : t ≡ u
  same-table =
      ext_get_or 0 t u (lt ∙ sym lu)
      (λ j l.
      below j (4 * n) (λ a. elems j a)
      (λ b. let e : 4 * n + (j - 4 * n) ≡ j = omega arith in subst Eq e (ends (j - 4 * n) (omega arith))))
