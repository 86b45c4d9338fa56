-- The rows of two islands after three stores.
use mathlib.Core.Path.{◌≡◌}
use mathlib.Core.List.{List, [], ◌∷◌}
use Prim.Native.Nat.{ℕ, ◌+◌, ◌*◌}
use lib.ListN.{get_or, set}
use Rattle.list_in_table.specs.Word.{writes}
use Rattle.list_in_buffer.specs.Part.{Put}
use Rattle.def_kinds.specs.declared.Sizes.{Sizes}
use Rattle.def_state.specs.Links.{add_counts}
use Rattle.table_meaning.specs.declared.Table.TheVariants.{Rows}
use Rattle.table_meaning.specs.Layout.{tables, rows_at, rows_span}
use Rattle.table_words.proofs.Laws.{then-put}
use Rattle.core_laws.specs.Merging.{both_asleep, rows_mixed}

pub mixed : (Z : Sizes) (g s n a : ℕ) {t t1 t2 t3 : List ℕ} → n ≡ add_counts (get_or (tables Z t).rows (3 * g) 0) (get_or (tables Z t).rows (3 * s) 0)
    → a ≡ both_asleep (get_or (tables Z t).rows (3 * g + 2) 0) (get_or (tables Z t).rows (3 * s + 2) 0) → Put (rows_at Z) (rows_span Z) t t1 (set (tables Z t).rows (3 * g) n)
    → Put (rows_at Z) (rows_span Z) t1 t2 (set (tables Z t1).rows (3 * g + 2) a)
    → Put (rows_at Z) (rows_span Z) t2 t3 (writes (tables Z t2).rows ((3 * s, 0) ∷ (3 * s + 1, 0) ∷ (3 * s + 2, 0) ∷ []))
    → Put (rows_at Z) (rows_span Z) t t3 (rows_mixed (tables Z t).rows g s)
unfolding rows_mixed
mixed Z g s n a p q A B C =
    let D = then-put Z Rows (λ x. writes x ((3 * s, 0) ∷ (3 * s + 1, 0) ∷ (3 * s + 2, 0) ∷ [])) (then-put Z Rows (λ x. set x (3 * g + 2) a) A B) C in
    rw (p, q) at D
