use Rattle.list_in_table.specs.Table.{pushed}
use Rattle.list_in_buffer.proofs.Laws.{put-lent}
use Rattle.list_in_buffer.proofs.push_in.Goals as goal

pub returns : goal.returns
returns c = put-lent (λ s. pushed s 0 c.args.ends c.args.i c.args.e) c.args.p.at c.args.p.long c.args.t.now c.requires.0 c.push_last.auto.t c.push_last.ensures
