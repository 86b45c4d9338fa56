-- The loop has read no more numbers than the list has room for.
use Rattle.std.proofs.Common.{length, ◌≤◌}
use Rattle.lesson_command.proofs.words.read_numbers.Given as goal

abbrev pub invariant-loop-word : goal.invariant-loop-word
invariant-loop-word l = l.count ≤ length l.list
