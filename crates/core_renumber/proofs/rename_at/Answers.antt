-- `core_renumber::rename_at` meets its contract: a table by its name is the part where it lies. Assumes nothing.
use Rattle.table_words.proofs.Laws.{fits, part_at}
use Rattle.core_renumber.proofs.rename_at.Goals as goal

pub rename_in-requires : goal.rename_in-requires
rename_in-requires c = (fits c.args.z c.args.k c.args.t.now c.part_of-p.ensures.0 c.part_of-p.ensures.1 c.requires.0, (rw (part_at c.args.z c.args.k c.args.t.now c.part_of-p.ensures.0 c.part_of-p.ensures.1, c.ends_at-b.ensures) c.requires.1))
