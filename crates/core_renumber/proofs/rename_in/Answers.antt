-- `core_renumber::rename_in` meets its contract: a part lent and given back is a Put. Assumes nothing.
use Rattle.list_rename.specs.Renamed.{renamed}
use Rattle.list_in_buffer.proofs.Laws.{put-lent}
use Rattle.core_renumber.proofs.rename_in.Goals as goal

pub returns : goal.returns
returns c = put-lent (λ s. renamed s 0 c.args.ends c.args.from c.args.to) c.args.p.at c.args.p.long c.args.t.now c.requires.0 c.rename.auto.t c.rename.ensures
