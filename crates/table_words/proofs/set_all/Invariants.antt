use Rattle.std.specs.Prelude.{◌≡◌, length, drop}
use Rattle.list_in_table.specs.Word.{writes, after, numbered}
use Rattle.list_in_buffer.specs.Part.{Put}
use Rattle.table_meaning.specs.Layout.{tables, total, table_at, table_span, table_of}
use Rattle.table_words.proofs.set_all.Given as goal

abbrev pub invariant-loop-i : goal.invariant-loop-i
invariant-loop-i l =
    (length l.t ≡ total l.z)
    × Put (table_at l.z l.k) (table_span l.z l.k) l.initial.t l.t (table_of l.k (tables l.z l.t))
    × (writes (table_of l.k (tables l.z l.t)) (after l.j l.i (drop l.i l.words)) ≡ writes (table_of l.k (tables l.z l.initial.t)) (numbered l.j l.words))
