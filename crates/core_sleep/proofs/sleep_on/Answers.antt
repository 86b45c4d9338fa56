use mathlib.Core.Path.{sym, ◌∙◌}
use Rattle.core_sleep.proofs.Asleep.{sleep-dead, slept}
use Rattle.core_sleep.proofs.sleep_on.Goals as goal

pub returns-then-not-is_live : goal.returns-then-not-is_live
returns-then-not-is_live c = sleep-dead c.args.i c.requires (sym c.is_live.ensures.says ∙ c.if-not-is_live.true)

pub returns : goal.returns
returns c = slept c.args.i c.requires (sym c.is_live.ensures.says ∙ c.if-not-is_live.false) c.rest.ensures c.clear_pending_split_of.ensures.steps
