-- `core_renumber::renumber_on` meets its contract: each way out is a law of the step. Assumes nothing.
use mathlib.Core.Path.{sym, ◌∙◌}
use native.Mathlib.Omega.{arith}
use Rattle.core_laws.proofs.Renumber.{edge-unknown, edge-linked, edge-not-last, shrunk}
use Rattle.core_renumber.proofs.renumber_on.Goals as goal

pub returns-then-removed-tracked : goal.returns-then-removed-tracked
returns-then-removed-tracked c = edge-unknown c.args.removed c.args.last c.requires (let e = c.get-tracked.ensures.0 in omega arith)

pub returns-then-home : goal.returns-then-home
returns-then-home c = edge-linked c.args.removed c.args.last c.requires (let e = c.get-tracked.ensures.0 in omega (arith, c.if-removed-tracked.false)) (let e = c.home-home.ensures.0 in λ h. c.if-home.true (e ∙ h))

pub returns-then-last_edge-last : goal.returns-then-last_edge-last
returns-then-last_edge-last c = edge-not-last c.args.removed c.args.last c.requires (let e = c.get-tracked.ensures.0 in omega (arith, c.if-removed-tracked.false)) (cc) (let e = c.get-tracked.ensures.0 in let h = c.if-removed-tracked.false in let d = c.if-last_edge-last.true in omega arith)

pub returns-then-home-2 : goal.returns-then-home-2
returns-then-home-2 c = shrunk c.args.removed c.args.last c.requires (let e = c.get-tracked.ensures.0 in omega (arith, c.if-removed-tracked.false)) (sym c.home-home.ensures.0 ∙ c.if-home.false) (let e = c.get-tracked.ensures.0 in let h = c.if-removed-tracked.false in let d = c.if-last_edge-last.false in omega arith) (sym c.home.ensures.0 ∙ c.if-home-2.true) c.set.ensures
