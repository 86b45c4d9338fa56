use mathlib.Core.Path.{◌∙◌}
use Rattle.core_laws.proofs.Put.{bit-from}
use Rattle.core_sleep.proofs.Asleep.{rested}
use Rattle.core_sleep.proofs.rest.Goals as goal

pub returns : goal.returns
returns c =
    let P = rw (c.from.ensures ∙ bit-from c.args.asleep) at c.set.ensures in
    rested c.args.i c.args.asleep c.requires.0 c.requires.1 P
