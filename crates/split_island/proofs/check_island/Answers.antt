use mathlib.Core.Path.{◌∙◌, ap}
use Rattle.def_state.specs.Split.{denial as denial_of}
use Rattle.split_island.proofs.Check.{checked-steps}
use Rattle.split_island.proofs.check_island.Goals as goal

pub returns : goal.returns
returns c = checked-steps c.args.i c.denial-until.result c.requires.0 c.requires.1 (c.denial-until.ensures ∙ ap denial_of c.get-stamp.ensures.0) c.set_all.ensures
