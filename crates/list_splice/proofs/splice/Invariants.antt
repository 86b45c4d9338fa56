use Rattle.list_splice.specs.Splice.{SpliceReady}
use Rattle.list_splice.proofs.Walk.{Walk}
use Rattle.list_splice.proofs.splice.Given as goal

abbrev pub invariant-loop-left : goal.invariant-loop-left
invariant-loop-left l = (r : SpliceReady l.initial.t l.base l.ends l.big l.small) × Walk l.initial.t l.base l.ends l.big l.small r l.t l.left l.element l.front
