-- The loop has added the first bytes of the text, as many as it has made turns.
use Rattle.std.proofs.Common.{take}
use Rattle.lesson_text.specs.Added.{Added}
use Rattle.lesson_text.proofs.Output.bytes.Given as goal

abbrev pub invariant-loop-b : goal.invariant-loop-b
invariant-loop-b g l = Added g.row.ROOM l.initial.self.waiting.items (take l.b-index l.s) l.self.waiting.items
