use mathlib.Core.Path.{sym, ◌∙◌}
use Rattle.core_sleep.proofs.Asleep.{wake-dead, woken}
use Rattle.core_sleep.proofs.wake_on.Goals as goal

pub returns-then-not-is_live : goal.returns-then-not-is_live
returns-then-not-is_live c = wake-dead c.args.i c.requires (sym c.is_live.ensures.says ∙ c.if-not-is_live.true)

pub returns : goal.returns
returns c = woken c.args.i c.requires (sym c.is_live.ensures.says ∙ c.if-not-is_live.false) c.rest.ensures
