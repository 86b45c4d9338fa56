use Rattle.std.proofs.Common.{arith}
use Rattle.std.proofs.lemmas.Bool.Decides.{nat_tests}
use Rattle.def_state.specs.Split.{denial}
use Rattle.split_island.proofs.denial.Goals as goal

pub returns : goal.returns
unfolding denial
returns c = grind (arith, nat_tests)
