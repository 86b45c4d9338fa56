use Rattle.table_meaning.specs.Layout.{tables}
use Rattle.core_joint.proofs.Laws.{keyed}
use Rattle.core_joint.proofs.find_place.Goals as goal

pub returns : goal.returns
returns c = keyed c.args.z (tables c.args.z c.args.t.now) c.args.key c.from.ensures c.find_words.result c.find_words.ensures
