-- `core_body::put_on` meets its contract: each way out is a law of the step, and what the slot's words are decides which.
use native.Mathlib.Omega.{arith}
use Rattle.core_body.proofs.Placing.{puts-far, puts-new-absent, puts-new, puts-taken, puts_low, puts-absent, puts-old}
use Rattle.core_body.proofs.put_on.Goals as goal
use Rattle.core_body.proofs.put_on.Goals.{then-h-lowest-via-then-h-lowest, then-h-lowest-via-else-h-lowest+then-h-eq-NONE-2}

pub returns-then-s-z : goal.returns-then-s-z
returns-then-s-z c = let F = c.args.flags in puts-far c.args.h.slot.0 c.args.h.generation F.fixed F.enabled F.sleeping c.requires c.if-s-z.true

pub returns-then-h-eq-NONE : goal.returns-then-h-eq-NONE
returns-then-h-eq-NONE c =
    let F = c.args.flags in
    puts-new-absent c.args.h.slot.0 c.args.h.generation F.fixed F.enabled F.sleeping c.requires c.if-s-z.false (omega (arith, c.get-in_use.ensures.0, c.if-s-in_use.true)) c.if-h-eq-NONE.true

pub returns-then-s-in_use : goal.returns-then-s-in_use
returns-then-s-in_use c =
    let F = c.args.flags in
    puts-new c.args.h.slot.0 c.args.h.generation F.fixed F.enabled F.sleeping c.requires c.if-s-z.false (omega (arith, c.get-in_use.ensures.0, c.if-s-in_use.true)) c.if-h-eq-NONE.false c.grow_slots.ensures c.fill.ensures

pub returns-then-standing : goal.returns-then-standing
returns-then-standing c =
    let F = c.args.flags in
    puts-taken c.args.h.slot.0 c.args.h.generation F.fixed F.enabled F.sleeping c.requires c.if-s-z.false (omega (arith, c.get-in_use.ensures.0, c.if-s-in_use.false)) c.get-standing.result c.get-standing.ensures.0 c.if-standing.true

pub returns-then-h-lowest : goal.returns-then-h-lowest
returns-then-h-lowest c =
    let F = c.args.flags in
    elim c.then-h-lowest.branch [
      | then-h-lowest-via-then-h-lowest x ↦
          puts_low c.args.h.slot.0 c.args.h.generation F.fixed F.enabled F.sleeping c.requires c.if-s-z.false (omega (arith, c.get-in_use.ensures.0, c.if-s-in_use.false)) c.get-standing.result c.get-standing.ensures.0 c.if-standing.false c.get-lowest.result c.get-lowest.ensures.0 x.if-h-lowest.true
      | then-h-lowest-via-else-h-lowest+then-h-eq-NONE-2 x ↦
          puts-absent c.args.h.slot.0 c.args.h.generation F.fixed F.enabled F.sleeping c.requires c.if-s-z.false (omega (arith, c.get-in_use.ensures.0, c.if-s-in_use.false)) c.get-standing.result c.get-standing.ensures.0 c.if-standing.false c.get-lowest.result c.get-lowest.ensures.0 x.if-h-lowest.false x.if-h-eq-NONE-2.true
    ]

pub returns : goal.returns
returns c =
    let F = c.args.flags in
    puts-old c.args.h.slot.0 c.args.h.generation F.fixed F.enabled F.sleeping c.requires c.if-s-z.false (omega (arith, c.get-in_use.ensures.0, c.if-s-in_use.false)) c.get-standing.result c.get-standing.ensures.0 c.if-standing.false c.get-lowest.result c.get-lowest.ensures.0 c.if-h-lowest.false c.if-h-eq-NONE-2.false c.fill-2.ensures
