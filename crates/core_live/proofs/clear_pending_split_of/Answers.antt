use native.Mathlib.Omega.{arith}
use Rattle.core_laws.proofs.Leave.{unpended, not-pending}
use Rattle.core_live.proofs.Live.{was-pending, was-another}
use Rattle.core_live.proofs.clear_pending_split_of.Goals as goal

pub returns-then-eq : goal.returns-then-eq
returns-then-eq c = let p = was-pending c.pending.result _ c.pending.ensures c.if-eq.ensures in unpended c.args.i c.requires p.0 (omega (arith, p.1)) c.set_all.ensures

pub returns-else-eq : goal.returns-else-eq
returns-else-eq c = let d = was-another c.pending.result _ c.pending.ensures c.if-eq.ensures in not-pending c.args.i c.requires (λ a. omega (arith, d a))
