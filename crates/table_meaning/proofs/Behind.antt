-- A removal stores nothing behind the extents.
use mathlib.Core.Path.{◌≡◌, ◌∙◌}
use mathlib.Core.Logic.{◌⊎◌, ◌≢◌, ⊎_elim}
use Prim.Native.Nat.{ℕ, ◌+◌, ◌-◌, ◌*◌, ◌≤◌, ◌<◌}
use native.Mathlib.Omega.{arith}
use mathlib.Core.List.{List, [], ◌∷◌}
use borrow.Author.Tests.{eq-eqb, ne_eqb}
use lib.ListN.{get_or, set}
use lib.Seq.{get_or-set_other}
use Rattle.list_in_table.specs.Rules.{none}
use Rattle.list_in_table.specs.Word.{writes, miss}
use Rattle.list_in_table.specs.Table.{removed, next_set, RemoveReady}
use Rattle.list_in_table.proofs.Laws.{either, known, inner, Known, Inner}
use Rattle.list_in_table.proofs.Words.{next-other}

module _ {t : List ℕ} {b z e : ℕ} (R : RemoveReady t b z e) (j : ℕ) (h : b + 4 * R.n ≤ j) (o : (j < z) ⊎ (z + 2 * R.m ≤ j)) where
  abbrev a : ℕ
  a = b + 4 * e

  abbrev i : ℕ
  i = get_or t a 0

  abbrev p : ℕ
  p = get_or t (a + 1) 0

  abbrev v : ℕ
  v = get_or t (a + 2) 0

  abbrev x : ℕ
  x = get_or t (a + 3) 0

  abbrev y : ℕ
  y = z + 2 * i

  abbrev c : ℕ
  c = get_or t y 0

  abbrev q : ℕ
  q = get_or t (y + 1) 0

  abbrev r : ℕ
  r = b + 4 * q

  abbrev w : ℕ
  w = get_or t (r + 2) 0

  abbrev ss : List (ℕ × ℕ)
  ss = (a, none) ∷ (a + 1, none) ∷ (a + 2, none) ∷ (a + 3, none) ∷ (y, c - 1) ∷ []

  abbrev us : List (ℕ × ℕ)
  us = (r + 1, p) ∷ (r + 2, v) ∷ []

  abbrev zs : List (ℕ × ℕ)
  zs = (r + 3, x) ∷ (b + 4 * x + 2, q) ∷ (b + 4 * w + 3, none) ∷ (y + 1, w) ∷ []

  abbrev s : List ℕ
  s = writes t ss

  K : Known t b z e R.n R.m
  K = known R

  -- it is neither a word of an element in use nor of a list in use
  apart-elem : (k f : ℕ) → k < R.n → f < 4 → j ≢ b + 4 * k + f
  apart-elem k f l g = omega arith

  apart-list : (f : ℕ) → f < 2 → j ≢ y + f
  apart-list f g =
      let il : i < R.m = K.home_lt in
      ⊎_elim (λ (d : j < z). omega arith) (λ (d : z + 2 * R.m ≤ j). omega arith) o

  el : e < R.n
  el = K.e_lt

  ql : q < R.n
  ql = K.last_lt

  s-is : get_or s j 0 ≡ get_or t j 0
  s-is = let k = el in let d0 = apart-list 0 (omega arith) in miss t ss j (omega arith)

  v-apart : v ≢ none → j ≢ b + 4 * v + 3
  v-apart d = apart-elem v 3 (K.prev_ok d) (omega arith)

  abbrev u : List ℕ
  u = next_set (writes s us) b v q

  u-is : get_or u j 0 ≡ get_or t j 0
  u-is = let k = ql in next-other (writes s us) b v q j v-apart ∙ miss s us j (omega arith) ∙ s-is

  pub remove-behind : get_or (removed t b z e) j 0 ≡ get_or t j 0
  unfolding removed
  remove-behind =
      either q e
      (λ g. rw (eq-eqb q e g) (next-other (set s (y + 1) v) b v none j v-apart ∙ get_or-set_other s (y + 1) j v 0 (apart-list 1 (omega arith)) ∙ s-is))
      (λ d.
      rw (ne_eqb q e d)
      (either w e (λ g. rw (eq-eqb w e g) u-is)
      (λ d2.
      let I : Inner t b z e R.n R.m = inner R d in
      let xl : x < R.n = I.next_lt in
      let wl : w < R.n = I.prev_last in
      let k = ql in
      let d1 = apart-list 1 (omega arith) in
      rw (ne_eqb w e d2) (miss u zs j (omega arith) ∙ u-is))))
