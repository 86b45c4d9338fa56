use Rattle.split_label.proofs.Chain.{Passed}
use Rattle.split_label.proofs.join_links.Given as goal

abbrev pub invariant-loop-left : goal.invariant-loop-left
invariant-loop-left l = Passed l.z l.t l.links.chain l.links.words l.links.size l.links.bodies l.i l.initial.parent l.parent l.size l._left l.link l.joins
