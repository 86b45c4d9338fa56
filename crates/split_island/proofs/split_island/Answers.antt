use borrow.Author.Rules.{rules}
use Rattle.split_island.proofs.Check.{split-whole, split_parts}
use Rattle.split_island.proofs.split_island.Goals as goal
use Rattle.split_island.proofs.split_island.Goals.{then-shape-gt1, else-shape-gt1}

pub check_island-requires : goal.check_island-requires
check_island-requires c = elim c.if-shape-gt1.branch [ then-shape-gt1 w ↦ rw w.t-is (search rules) | else-shape-gt1 w ↦ rw w.t-is (search rules) ]

pub returns : goal.returns
returns c =
    let n = c.label_island-shape.result.components in
    let q = c.label_island-shape.ensures.components_are in
    elim c.if-shape-gt1.branch [
      | then-shape-gt1 w ↦ split_parts c.args.i n q w.if-shape-gt1.true w.part_island.ensures (rw w.t-is at c.check_island.ensures)
      | else-shape-gt1 w ↦ split-whole c.args.i n q w.if-shape-gt1.false (rw w.t-is at c.check_island.ensures)
    ]
