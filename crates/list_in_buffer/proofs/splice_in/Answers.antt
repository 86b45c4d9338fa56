use Rattle.list_splice.specs.Splice.{spliced}
use Rattle.list_in_buffer.proofs.Laws.{put-lent}
use Rattle.list_in_buffer.proofs.splice_in.Goals as goal

pub returns : goal.returns
returns c = put-lent (λ s. spliced s 0 c.args.ends c.args.big c.args.small) c.args.p.at c.args.p.long c.args.t.now c.requires.0 c.splice.auto.t c.splice.ensures
