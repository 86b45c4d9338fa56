-- `split_forest::join` meets its contract: `Merge` has what each way out does to the forest. Assumes nothing.
use native.Mathlib.Omega.{arith}
use Rattle.split_forest.proofs.Merge.{joins-under, second-ready, seen-a, seen_b, lifted-one, lifted-less, lifted-else}
use Rattle.split_forest.proofs.join.Goals as goal

pub returns-then-share_parent : goal.returns-then-share_parent
returns-then-share_parent c = joins-under c.requires (c.share_parent.ensures.0 c.if-share_parent.true)

pub lift-root_b-requires : goal.lift-root_b-requires
lift-root_b-requires c = second-ready c.requires c.lift-root_a.ensures

pub returns-then-root_a-root_b : goal.returns-then-root_a-root_b
returns-then-root_a-root_b c = lifted-one c.requires c.lift-root_a.ensures c.lift-root_b.ensures c.if-root_a-root_b.true

pub bounds-size-root_a : goal.bounds-size-root_a
bounds-size-root_a c = (seen-a c.requires c.lift-root_a.ensures c.lift-root_b.ensures).1

pub bounds-size-root_b : goal.bounds-size-root_b
bounds-size-root_b c = (seen_b c.requires c.lift-root_a.ensures c.lift-root_b.ensures).1

pub overflow_add-both : goal.overflow_add-both
overflow_add-both c =
    let u = (seen-a c.requires c.lift-root_a.ensures c.lift-root_b.ensures).2 in
    let v = (seen_b c.requires c.lift-root_a.ensures c.lift-root_b.ensures).2 in
    omega arith

pub hang-requires : goal.hang-requires
hang-requires c = ((seen-a c.requires c.lift-root_a.ensures c.lift-root_b.ensures).0, (seen_b c.requires c.lift-root_a.ensures c.lift-root_b.ensures).1)

pub returns-then-size_a-size_b : goal.returns-then-size_a-size_b
returns-then-size_a-size_b c = rw (c.hang.ensures.0, c.hang.ensures.1) (lifted-less c.requires c.lift-root_a.ensures c.lift-root_b.ensures c.if-root_a-root_b.false c.if-size_a-size_b.true)

pub hang-requires-else-size_a-size_b : goal.hang-requires-else-size_a-size_b
hang-requires-else-size_a-size_b c = ((seen_b c.requires c.lift-root_a.ensures c.lift-root_b.ensures).0, (seen-a c.requires c.lift-root_a.ensures c.lift-root_b.ensures).1)

pub returns-else-size_a-size_b : goal.returns-else-size_a-size_b
returns-else-size_a-size_b c = rw (c.hang-else-size_a-size_b.ensures.0, c.hang-else-size_a-size_b.ensures.1) (lifted-else c.requires c.lift-root_a.ensures c.lift-root_b.ensures c.if-root_a-root_b.false c.if-size_a-size_b.false)
