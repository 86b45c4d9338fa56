-- The loop has copied the first words of the entry, as many as it has made turns.
use Rattle.std.proofs.Common.{ℕ, length, get_or, ◌≡◌, ◌<◌}
use Rattle.lesson_cells.proofs.Table.row.Given as goal

abbrev pub invariant-loop-field : goal.invariant-loop-field
invariant-loop-field g l = (length l.cell-items ≡ g.row.WIDTH) × ((k : ℕ) → k < l.field → get_or l.cell-items k 0 ≡ get_or l.words k 0)
