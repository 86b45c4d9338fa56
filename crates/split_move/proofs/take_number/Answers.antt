use native.Mathlib.Omega.{arith}
use mathlib.Core.Path.{◌∙◌}
use Rattle.split_move.proofs.Number.{number_lt, number-ready, ready-some, number-taken}
use Rattle.split_move.proofs.take_number.Goals as goal

pub remove-requires : goal.remove-requires
remove-requires c = (c.make_ready.ensures.moves.sound.long, number-ready c.last-i.result c.make_ready.ensures.moves.sound (ready-some c.make_ready.ensures) c.last-i.ensures.0)

pub set-requires : goal.set-requires
set-requires c = (c.remove.ensures.same_length ∙ c.make_ready.ensures.moves.sound.long, (let a = number_lt c.last-i.result c.make_ready.ensures.moves.sound (ready-some c.make_ready.ensures) c.last-i.ensures.0 in let b = c.make_ready.ensures.moves.sound.loose.islands_le in omega arith))

pub returns : goal.returns
returns c = number-taken c.last-i.result c.args.asleep c.make_ready.ensures c.last-i.ensures.0 c.requires.1 c.remove.ensures c.set.ensures
