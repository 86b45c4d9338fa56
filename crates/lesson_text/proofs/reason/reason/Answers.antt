-- What stands before the first " (os error " has none in it.
use Rattle.std.proofs.Common.{codes, arith}
use Rattle.lesson_text.proofs.Mark.{lacks_mark}
use Rattle.lesson_text.proofs.reason.reason.Goals as goal

pub returns-in-Ok-clause-bare : goal.returns-in-Ok-clause-bare
returns-in-Ok-clause-bare c = lacks_mark (codes " (os error ") c.in-Ok.text.now c.before-in-Ok.result.now (omega arith) c.before-in-Ok.ensures
