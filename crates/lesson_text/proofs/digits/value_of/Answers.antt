use Rattle.std.proofs.Common.{rules}
use Rattle.std.proofs.lemmas.Str.{IsUtf8-from_ascii}
use Rattle.std.proofs.lemmas.Fmt.{IsAscii-from_digits}
use Rattle.lesson_text.proofs.Decimal.{own, read}
use Rattle.lesson_text.proofs.digits.value_of.Goals as goal

-- A word of digits is text.
pub returns-in_default : goal.returns-in_default
returns-in_default c = λ some d. absurd ((c.in_default.ensures.cases).0 (IsUtf8-from_ascii c.args.word.now (IsAscii-from_digits c.args.word.now (own.to c.args.word.now d))))

pub returns : goal.returns
returns c = search (rules, read c.args.word.now c.parse.result)
