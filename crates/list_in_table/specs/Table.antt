-- A table in one list of words: element e's record is the four words at b + 4 * e, list i's the two at z + 2 * i.
use Rattle.std.specs.Prelude.{◌≡◌, ◌≢◌, ℕ, ◌+◌, ◌-◌, ◌*◌, ◌≤◌, ◌<◌, List, [], ◌∷◌, length, get_or, set, eqb}
use Rattle.list_in_table.specs.Word.{writes}
use Rattle.list_in_table.specs.Rules.{none, View, Rules}
use Rattle.def_kinds.specs.Choice.{pick}

abbrev pub view : List ℕ → ℕ → ℕ → View
view t b z =
    record {
      home = λ e. get_or t (b + 4 * e) 0;
      place = λ e. get_or t (b + 4 * e + 1) 0;
      prev = λ e. get_or t (b + 4 * e + 2) 0;
      next = λ e. get_or t (b + 4 * e + 3) 0;
      count = λ i. get_or t (z + 2 * i) 0;
      last = λ i. get_or t (z + 2 * i + 1) 0;
    }

-- the elements lie before the lists, and both inside t
pub record Wf (t : List ℕ) (b z n m : ℕ) : Type 0 where
  pub elems_below : b + 4 * n ≤ z
  pub lists_below : z + 2 * m ≤ length t
  pub rules : Rules n m (view t b z)

-- t with v as the next of k, or t itself where k is none
abbrev pub next_set : List ℕ → ℕ → ℕ → ℕ → List ℕ
next_set t b k v = pick (eqb k none) t (set t (b + 4 * k + 3) v)

-- t after e, which is in no list, is put last in the list i
unfoldable pub pushed : List ℕ → ℕ → ℕ → ℕ → ℕ → List ℕ
pushed t b z i e =
    let a = b + 4 * e in
    let y = z + 2 * i in
    let c = get_or t y 0 in
    let l = get_or t (y + 1) 0 in
    next_set (writes t ((a, i) ∷ (a + 1, c) ∷ (a + 2, l) ∷ (a + 3, none) ∷ (y, c + 1) ∷ (y + 1, e) ∷ [])) b l e

-- t after e is taken out of its list, whose last element takes its place
unfoldable pub removed : List ℕ → ℕ → ℕ → ℕ → List ℕ
removed t b z e =
    let a = b + 4 * e in
    let i = get_or t a 0 in
    let p = get_or t (a + 1) 0 in
    let v = get_or t (a + 2) 0 in
    let x = get_or t (a + 3) 0 in
    let y = z + 2 * i in
    let c = get_or t y 0 in
    let q = get_or t (y + 1) 0 in
    let r = b + 4 * q in
    let w = get_or t (r + 2) 0 in
    let s = writes t ((a, none) ∷ (a + 1, none) ∷ (a + 2, none) ∷ (a + 3, none) ∷ (y, c - 1) ∷ []) in
    let u = next_set (writes s ((r + 1, p) ∷ (r + 2, v) ∷ [])) b v q in
    pick (eqb q e)
    (next_set (set s (y + 1) v) b v none)
    (pick (eqb w e) u (writes u ((r + 3, x) ∷ (b + 4 * x + 2, q) ∷ (b + 4 * w + 3, none) ∷ (y + 1, w) ∷ [])))

pub record PushReady (t : List ℕ) (b z i e : ℕ) : Type 0 where
  pub n : ℕ
  pub m : ℕ
  pub wf : Wf t b z n m
  pub list_lt : i < m
  pub elem_lt : e < n
  pub elem_blank : get_or t (b + 4 * e) 0 ≡ none

pub record RemoveReady (t : List ℕ) (b z e : ℕ) : Type 0 where
  pub n : ℕ
  pub m : ℕ
  pub wf : Wf t b z n m
  pub elem_lt : e < n
  pub elem_held : get_or t (b + 4 * e) 0 ≢ none

-- the sizes alone: what an audit of any contents asks
pub record Room (t : List ℕ) (b z n m : ℕ) : Type 0 where
  pub elems_below : b + 4 * n ≤ z
  pub lists_below : z + 2 * m ≤ length t
  pub n_small : n ≤ none
  pub m_small : m ≤ none
