use Rattle.list_in_table.specs.Table.{removed}
use Rattle.list_in_buffer.proofs.Laws.{put-lent}
use Rattle.list_in_buffer.proofs.remove_in.Goals as goal

pub returns : goal.returns
returns c = put-lent (λ s. removed s 0 c.args.ends c.args.e) c.args.p.at c.args.p.long c.args.t.now c.requires.0 c.swap_remove.auto.t c.swap_remove.ensures
