-- `core_remove::remove_on` meets its contract, by what the island of the body says of its slot.
use native.Mathlib.Omega.{arith}
use mathlib.Core.Path.{sym, ◌∙◌}
use Rattle.core_remove.proofs.Laws.{nowhere, housed, island_in, peopled, left-alone, left-others}
use Rattle.core_remove.proofs.remove_on.Goals as goal

pub returns-in_default : goal.returns-in_default
returns-in_default c = nowhere c.args.h.slot.0 c.args.h.generation c.requires c.in_default.ensures

pub count-requires : goal.count-requires
count-requires c = (c.requires.long, island_in c.args.h.slot.0 c.args.h.generation c.requires c.in-Some.i c.in-Some.ensures.0 c.in-Some.ensures.1)

pub remove_only-requires : goal.remove_only-requires
remove_only-requires c =
    let e = c.in-Some.ensures in
    let s = c.args.h.slot.0 in
    let g = c.args.h.generation in
    (c.requires, housed s g c.requires c.in-Some.i e.0 e.1, sym c.count.ensures.0 ∙ c.if-count-eq1.true)

pub leave_some-requires : goal.leave_some-requires
leave_some-requires c =
    let e = c.in-Some.ensures in
    let s = c.args.h.slot.0 in
    let g = c.args.h.generation in
    (c.requires, housed s g c.requires c.in-Some.i e.0 e.1, omega (arith, peopled s g c.requires c.in-Some.i e.0 e.1, c.count.ensures.0, c.if-count-eq1.false))

pub returns-then-count-eq1 : goal.returns-then-count-eq1
returns-then-count-eq1 c =
    let e = c.in-Some.ensures in
    left-alone c.args.h.slot.0 c.args.h.generation c.requires c.in-Some.i e.0 e.1 (sym c.count.ensures.0 ∙ c.if-count-eq1.true) c.remove_only.ensures

pub returns-else-count-eq1 : goal.returns-else-count-eq1
returns-else-count-eq1 c =
    let e = c.in-Some.ensures in
    let p = peopled c.args.h.slot.0 c.args.h.generation c.requires c.in-Some.i e.0 e.1 in
    left-others c.args.h.slot.0 c.args.h.generation c.requires c.in-Some.i e.0 e.1 (omega (arith, p, c.count.ensures.0, c.if-count-eq1.false)) c.leave_some.ensures
