-- What the rules of a table give of an element and its neighbours.
use mathlib.Core.Path.{◌≡◌}
use mathlib.Core.Logic.{◌≢◌, ⊎_elim}
use Prim.Native.Nat.{ℕ, ◌+◌, ◌*◌, ◌≤◌, ◌<◌}
use native.Mathlib.Omega.{arith}
use native.Mathlib.Decide.{ℕ_discrete}
use mathlib.Core.List.{List}
use Prim.Native.Nat.{◌^◌}
use mir.Val.{Fits}
use mir.Syntax.{w64}
use lib.ListN.{length}
use Rattle.list_in_table.specs.Table.{view, RemoveReady}
use Rattle.list_in_table.specs.Rules.{none, View, Rules, Held, After, Final, Before, Full}

pub either : {A : Type 0} (a b : ℕ) → (a ≡ b → A) → (a ≢ b → A) → A
either {A} a b f g = go (ℕ_discrete a b)
  where
    go : Dec (a ≡ b) → A
    go (yes p) = f p
    go (no q) = g q

module _ {n m : ℕ} {S : View} (R : Rules n m S) where
  -- an element that is not blank is held
  pub held : (e : ℕ) → e < n → S.home e ≢ none → Held n m S e
  held e l h = ⊎_elim (λ b. absurd (h b.home_none)) (λ k. k) (R.elem e l)

  pub held_in : (e i : ℕ) → e < n → i < m → S.home e ≡ i → Held n m S e
  held_in e i l k h = held e l (let s : m ≤ none = R.m_small in omega arith)

  -- a list that is not empty has a last element
  pub full : (i : ℕ) → i < m → S.count i ≢ 0 → Full n m S i
  full i l h = ⊎_elim (λ o. absurd (h o.no_count)) (λ f. f) (R.list i l)

  -- a list's last is none or an element
  pub last_lt : (i : ℕ) → i < m → S.last i ≢ none → S.last i < n
  last_lt i l h = ⊎_elim (λ o. absurd (h o.no_last)) (λ f. f.last_lt) (R.list i l)

  pub prev_lt : (e : ℕ) → Held n m S e → S.prev e ≢ none → S.prev e < n
  prev_lt e k h = ⊎_elim (λ f. absurd (h f.no_prev)) (λ a. a.prev_lt) k.back

  -- the last of e's list
  pub end : (e : ℕ) → Held n m S e → Full n m S (S.home e)
  end e k = full (S.home e) k.home_lt (let h : S.place e < S.count (S.home e) = k.place_lt in omega arith)

  -- where e is not the last, there is one after it
  pub before : (e : ℕ) → Held n m S e → S.last (S.home e) ≢ e → Before n m S e
  before e k h = ⊎_elim (λ f. absurd (h f.is_last)) (λ b. b) k.fore

  -- and one before the last
  pub after-end : (e : ℕ) → Held n m S e → S.last (S.home e) ≢ e → After n m S (S.last (S.home e))
  after-end e k h =
      let b : Before n m S e = before e k h in
      let f : Full n m S (S.home e) = end e k in
      let kq : Held n m S (S.last (S.home e)) = held_in (S.last (S.home e)) (S.home e) f.last_lt k.home_lt f.last_home in
      let kx : Held n m S (S.next e) = held_in (S.next e) (S.home e) b.next_lt k.home_lt b.next_home in
      let l : S.place (S.next e) < S.count (S.home e) = rw b.next_home at kx.place_lt in
      ⊎_elim (λ o. absurd (omega arith)) (λ a. a) kq.back

  -- the last has none after it
  pub last-final : (e : ℕ) → e < n → Held n m S e → S.last (S.home e) ≡ e → Final n m S e
  last-final e l k q =
      ⊎_elim (λ f. f)
      (λ b.
      let kx : Held n m S (S.next e) = held_in (S.next e) (S.home e) b.next_lt k.home_lt b.next_home in
      let h : S.place (S.next e) < S.count (S.home e) = rw b.next_home at kx.place_lt in
      let f : Full n m S (S.home e) = end e k in
      let p : S.place e + 1 ≡ S.count (S.home e) = rw q at f.last_place in
      let x = b.next_place in
      absurd (omega arith))
      k.fore

-- what swap_remove reads, in bounds
pub record Known (t : List ℕ) (b z e n m : ℕ) : Type 0 where
  pub e_lt : e < n
  pub n_small : n ≤ none
  pub m_small : m ≤ none
  pub elems_below : b + 4 * n ≤ z
  pub lists_below : z + 2 * m ≤ length t
  pub home_lt : (view t b z).home e < m
  pub count_pos : 0 < (view t b z).count ((view t b z).home e)
  pub last_lt : (view t b z).last ((view t b z).home e) < n
  pub prev_ok : (view t b z).prev e ≢ none → (view t b z).prev e < n

pub known : {t : List ℕ} {b z e : ℕ} (r : RemoveReady t b z e) → Known t b z e r.n r.m
known {t} {b} {z} {e} r =
    let R = r.wf.rules in
    let k : Held r.n r.m (view t b z) e = held R e r.elem_lt r.elem_held in
    record {
      e_lt = r.elem_lt;
      n_small = R.n_small;
      m_small = R.m_small;
      elems_below = r.wf.elems_below;
      lists_below = r.wf.lists_below;
      home_lt = k.home_lt;
      count_pos = (let h : (view t b z).place e < (view t b z).count ((view t b z).home e) = k.place_lt in omega arith);
      last_lt = (end R e k).last_lt;
      prev_ok = prev_lt R e k;
    }

pub record Inner (t : List ℕ) (b z e n m : ℕ) : Type 0 where
  pub next_lt : (view t b z).next e < n
  pub prev_last : (view t b z).prev ((view t b z).last ((view t b z).home e)) < n

pub inner : {t : List ℕ} {b z e : ℕ} (r : RemoveReady t b z e) → (view t b z).last ((view t b z).home e) ≢ e → Inner t b z e r.n r.m
inner {t} {b} {z} {e} r h =
    let R = r.wf.rules in
    let k : Held r.n r.m (view t b z) e = held R e r.elem_lt r.elem_held in
    record { next_lt = (before R e k h).next_lt; prev_last = (after-end R e k h).prev_lt }

-- an element's address: what the code's arithmetic asks
module _ (b n L k : ℕ) (kl : k < n) (room : b + 4 * n ≤ L) (good : L * 4 < 2 ^ 63) where
  pub fits-mul : Fits w64 (4 * k)
  fits-mul = omega arith

  pub fits-add : Fits w64 (b + 4 * k)
  fits-add = omega arith

  pub fits_word : (f : ℕ) → f < 4 → Fits w64 (b + 4 * k + f)
  fits_word f h = omega arith

  pub fits-index : (f : ℕ) → f < 4 → Fits w64 ((b + 4 * k + f) * 4)
  fits-index f h = omega arith
