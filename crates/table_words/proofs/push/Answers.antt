use Rattle.table_words.proofs.Laws.{fits, part_at}
use Rattle.table_words.proofs.push.Goals as goal

pub push_in-requires : goal.push_in-requires
push_in-requires c = (fits c.args.z c.args.k c.args.t.now c.part_of-p.ensures.0 c.part_of-p.ensures.1 c.requires.0, (rw (part_at c.args.z c.args.k c.args.t.now c.part_of-p.ensures.0 c.part_of-p.ensures.1, c.ends_at-b.ensures) c.requires.1))
