use mathlib.Core.Path.{sym, ◌∙◌}
use borrow.Author.Tests.{eq-eqb}
use Rattle.std.proofs.Common.{arith}
use Rattle.std.proofs.lemmas.Bool.Decides.{nat_tests}
use Rattle.core_finish.proofs.Restful.{may-words, rest-whole}
use Rattle.core_finish.proofs.may_sleep.Goals as goal
use Rattle.core_finish.proofs.may_sleep.Goals.{then-fit-eq1, else-fit-eq1, then-bodies-ne0, else-bodies-ne0}

pub returns-then-removals-eq0 : goal.returns-then-removals-eq0
returns-then-removals-eq0 c =
    let m = may-words c.args.i c.requires.0 c.requires.1 _ _ _ _ c.get-fit.ensures.0 c.count-bodies.ensures.0 c.get-asleep.ensures.0 c.get-removals.ensures.0 in
    let a = c.if-asleep-ne1.true in
    let u = c.if-removals-eq0.true in
    eq-eqb _ 0 u
    ∙ sym (m ∙ rest-whole c.get-fit.result c.count-bodies.result c.get-asleep.result c.get-removals.result a.0 a.1 (omega (arith, a.2)) (omega (arith, u)))

pub returns-else-removals-eq0 : goal.returns-else-removals-eq0
returns-else-removals-eq0 c =
    let m = may-words c.args.i c.requires.0 c.requires.1 _ _ _ _ c.get-fit.ensures.0 c.count-bodies.ensures.0 c.get-asleep.ensures.0 c.get-removals.ensures.0 in
    rw m (grind (arith, nat_tests, c.if-asleep-ne1.true))

pub returns-else-asleep-ne1 : goal.returns-else-asleep-ne1
returns-else-asleep-ne1 c =
    let m = may-words c.args.i c.requires.0 c.requires.1 _ _ _ _ c.get-fit.ensures.0 c.count-bodies.ensures.0 c.get-asleep.ensures.0 c.get-removals.ensures.0 in
    elim c.if-fit-eq1.branch [
      | then-fit-eq1 w ↦ elim c.if-bodies-ne0.branch [ then-bodies-ne0 v ↦ grind (arith, nat_tests) | else-bodies-ne0 v ↦ grind (arith, nat_tests) ]
      | else-fit-eq1 w ↦ elim c.if-bodies-ne0.branch [ then-bodies-ne0 v ↦ grind (arith, nat_tests) | else-bodies-ne0 v ↦ grind (arith, nat_tests) ]
    ]
