-- `core_resolve::resolve_on` meets its contract. The loop has counted the first k entries, in order (`Counts`).
use native.Mathlib.Omega.{arith}
use mathlib.Core.Path.{◌≡◌, sym, ◌∙◌}
use Rattle.def_kinds.specs.Answers.{Nothing}
use Rattle.core_laws.proofs.Then.{refused}
use Rattle.core_laws.proofs.Resolve.{counts_step, resolve-none, resolved}
use Rattle.core_resolve.proofs.resolve_on.Goals as goal

pub returns-then-entries-eq0 : goal.returns-then-entries-eq0
returns-then-entries-eq0 c = refused _ Nothing c.requires (resolve-none c.args.z c.args.t.now (sym c.get-entries.ensures.0 ∙ c.if-entries-eq0.true))

pub loop-k-preserved : goal.loop-k-preserved
loop-k-preserved c =
    let a = c.handle_at-first.ensures in
    let b = c.handle_at-second.ensures in
    let D = rw (a.0, a.1, b.0, b.1) at c.count_entry.ensures in
    counts_step c.loop-k.k (omega (arith, c.get-entries.ensures.0, c.loop-k-test.true)) c.loop-k.invariant D

pub returns : goal.returns
returns c =
    let q : c.loop-k.k ≡ c.get-entries.result = omega (arith, c.loop-k-test.false, c.loop-k.auto.k-end) in
    resolved c.loop-k.k (q ∙ c.get-entries.ensures.0) (λ e. c.if-entries-eq0.false (sym q ∙ e)) c.loop-k.invariant c.set.ensures
