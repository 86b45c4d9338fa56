-- The last element in use hands its place in its list to one that is in no list.
use Rattle.std.specs.Prelude.{◌≡◌, ◌≢◌, ℕ, ◌+◌, ◌*◌, ◌<◌, List, [], ◌∷◌, get_or, set, eqb}
use Rattle.list_in_table.specs.Rules.{none}
use Rattle.list_in_table.specs.Word.{writes}
use Rattle.list_in_table.specs.Table.{Wf, next_set}
use Rattle.def_kinds.specs.Choice.{pick}

-- t with v as the one before x, or as the last of the list i where x is none
abbrev pub back_set : List ℕ → ℕ → ℕ → ℕ → ℕ → ℕ → List ℕ
back_set t b z i x v = pick (eqb x none) (set t (z + 2 * i + 1) v) (set t (b + 4 * x + 2) v)

-- t after the element f, the last in use, hands its place to g, which is in no list. The words of f, which is not in use any more, are as they were
unfoldable pub renamed : List ℕ → ℕ → ℕ → ℕ → ℕ → List ℕ
renamed t b z f g =
    let a = b + 4 * f in
    let r = b + 4 * g in
    let i = get_or t a 0 in
    let p = get_or t (a + 1) 0 in
    let v = get_or t (a + 2) 0 in
    let x = get_or t (a + 3) 0 in
    back_set (next_set (writes t ((r, i) ∷ (r + 1, p) ∷ (r + 2, v) ∷ (r + 3, x) ∷ [])) b v g) b z i x g

pub record RenameReady (t : List ℕ) (b z f g : ℕ) : Type 0 where
  pub m : ℕ
  pub wf : Wf t b z (f + 1) m
  pub to_lt : g < f
  pub to_blank : get_or t (b + 4 * g) 0 ≡ none
  pub from_held : get_or t (b + 4 * f) 0 ≢ none
