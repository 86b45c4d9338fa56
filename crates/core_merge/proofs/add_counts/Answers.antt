use Rattle.std.proofs.Common.{arith}
use Rattle.std.proofs.lemmas.Bool.Decides.{nat_tests}
use Rattle.def_state.specs.Links.{add_counts}
use Rattle.core_merge.proofs.add_counts.Goals as goal

pub returns : goal.returns
unfolding add_counts
returns c = grind (arith, nat_tests)
