use mathlib.Core.Path.{sym, ◌∙◌}
use Rattle.core_scan.proofs.Observe.{observe-dead, observe-shut, observe-noted}
use Rattle.core_scan.proofs.observe_on.Goals as goal

pub returns-then-not-is_live : goal.returns-then-not-is_live
returns-then-not-is_live c = observe-dead c.args.i c.args.eligible c.requires (sym c.is_live.ensures.says ∙ c.if-not-is_live.true)

pub returns-then-get-ne1 : goal.returns-then-get-ne1
returns-then-get-ne1 c = observe-shut c.args.i c.args.eligible c.requires (sym c.is_live.ensures.says ∙ c.if-not-is_live.false) (λ e. c.if-get-ne1.true (c.get.ensures.0 ∙ e))

pub returns-then-home : goal.returns-then-home
returns-then-home c = observe-noted c.args.i c.args.eligible c.requires (sym c.is_live.ensures.says ∙ c.if-not-is_live.false) (sym c.get.ensures.0 ∙ c.if-get-ne1.false) c.observe_first.ensures

pub returns-else-home : goal.returns-else-home
returns-else-home c = observe-noted c.args.i c.args.eligible c.requires (sym c.is_live.ensures.says ∙ c.if-not-is_live.false) (sym c.get.ensures.0 ∙ c.if-get-ne1.false) c.observe_again.ensures
