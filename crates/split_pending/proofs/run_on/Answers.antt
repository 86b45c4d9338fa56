use mathlib.Core.Path.{sym, ◌∙◌}
use Rattle.split_pending.proofs.Pending.{cleared-steps, run_none, run-dead, run-asleep, run-done}
use Rattle.split_pending.proofs.run_on.Goals as goal

pub returns-in_default : goal.returns-in_default
returns-in_default c = run_none c.requires.0 c.in_default.ensures

pub is_live-requires : goal.is_live-requires
is_live-requires c = (cleared-steps c.requires.0 c.set_all.ensures).does.sound

pub returns-then-not-is_live : goal.returns-then-not-is_live
returns-then-not-is_live c = run-dead c.requires.0 c.in-Some.i c.in-Some.ensures.0 c.in-Some.ensures.1 (cleared-steps c.requires.0 c.set_all.ensures) (sym c.is_live.ensures.says ∙ c.if-not-is_live.true)

pub returns-then-asleep-eq1 : goal.returns-then-asleep-eq1
returns-then-asleep-eq1 c = run-asleep c.requires.0 c.in-Some.i c.in-Some.ensures.0 c.in-Some.ensures.1 (cleared-steps c.requires.0 c.set_all.ensures) (c.is_live.ensures.lives c.if-not-is_live.false) (sym c.get-asleep.ensures.0 ∙ c.if-asleep-eq1.true)

pub split_live-requires : goal.split_live-requires
split_live-requires c = record { sound = (cleared-steps c.requires.0 c.set_all.ensures).does.sound; lives = (c.is_live.ensures.lives c.if-not-is_live.false); few = c.requires.1; bodies = c.count-bodies.ensures.0 }

pub returns : goal.returns
returns c = run-done c.requires.0 c.in-Some.i c.in-Some.ensures.0 c.in-Some.ensures.1 (cleared-steps c.requires.0 c.set_all.ensures) (c.is_live.ensures.lives c.if-not-is_live.false) (λ e. c.if-asleep-eq1.false (c.get-asleep.ensures.0 ∙ e)) c.split_live.ensures
