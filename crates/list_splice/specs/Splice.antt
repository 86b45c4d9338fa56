-- One list put behind another, in the words of a table.
use Rattle.std.specs.Prelude.{◌≢◌, ℕ, zero, suc, ◌+◌, ◌*◌, ◌<◌, List, [], ◌∷◌, get_or, set, eqb}
use Rattle.list_in_table.specs.Word.{writes}
use Rattle.list_in_table.specs.Rules.{none}
use Rattle.list_in_table.specs.Table.{Wf, next_set}
use Rattle.def_kinds.specs.Choice.{pick}

-- the k elements that end in q go to the list h, at the places from c on; with the first of them, or f where k is 0
unfoldable pub relabel : ℕ → ℕ → ℕ → ℕ → List ℕ → ℕ → ℕ → List ℕ × ℕ
relabel b h c zero t q f = (t, f)
relabel b h c (suc k) t q f = relabel b h c k (set (set t (b + 4 * q) h) (b + 4 * q + 1) (c + k)) (get_or t (b + 4 * q + 2) 0) q

-- t after the list s is put behind the list g
unfoldable pub spliced : List ℕ → ℕ → ℕ → ℕ → ℕ → List ℕ
spliced t b z g s =
    let y = z + 2 * g in
    let x = z + 2 * s in
    let c = get_or t y 0 in
    let l = get_or t (y + 1) 0 in
    let d = get_or t x 0 in
    let e = get_or t (x + 1) 0 in
    let r = relabel b g c d t e none in
    pick (eqb d 0)
    t
    (writes (next_set (set r.0 (b + 4 * r.1 + 2) l) b l r.1) ((y, c + d) ∷ (y + 1, e) ∷ (x, 0) ∷ (x + 1, none) ∷ []))

pub record SpliceReady (t : List ℕ) (b z g s : ℕ) : Type 0 where
  pub n : ℕ
  pub m : ℕ
  pub wf : Wf t b z n m
  pub big_lt : g < m
  pub small_lt : s < m
  pub differ : g ≢ s
