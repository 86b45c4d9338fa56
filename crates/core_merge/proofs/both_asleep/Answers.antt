use Rattle.std.proofs.Common.{arith}
use Rattle.std.proofs.lemmas.Bool.Decides.{nat_tests}
use Rattle.core_laws.specs.Merging.{both_asleep}
use Rattle.core_merge.proofs.both_asleep.Goals as goal
use Rattle.core_merge.proofs.both_asleep.Goals.{then-a-eq1, else-a-eq1}

pub returns : goal.returns
unfolding both_asleep
returns c = elim c.if-a-eq1.branch [ then-a-eq1 w ↦ grind (arith, nat_tests) | else-a-eq1 w ↦ grind (arith, nat_tests) ]
