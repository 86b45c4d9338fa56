use Rattle.core_merge.proofs.Laws.{mixed}
use Rattle.core_merge.proofs.mix_rows.Goals as goal

pub returns : goal.returns
returns c =
    mixed c.args.z c.args.big c.args.small c.add_counts-count.result c.both_asleep-asleep.result
    (rw (c.get-big_count.ensures.0, c.get-small_count.ensures.0) at c.add_counts-count.ensures)
    (rw (c.get-big_asleep.ensures.0, c.get-small_asleep.ensures.0) at c.both_asleep-asleep.ensures)
    c.set.ensures
    c.set-2.ensures
    c.set_all.ensures
