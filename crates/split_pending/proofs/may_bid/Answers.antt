use native.Mathlib.Omega.{arith}
use mathlib.Core.Path.{sym, ◌∙◌, ap}
use mathlib.Core.Bool.{not}
use mathlib.Core.Logic.{◌≢◌}
use Prim.Native.Nat.{◌*◌}
use lib.ListN.{get_or}
use borrow.Author.Tests.{eq-eqb, le-leb, lt-leb}
use Rattle.list_in_table.proofs.Same.{below}
use Rattle.table_meaning.specs.Layout.{tables}
use Rattle.split_pending.proofs.Pending.{bid-dead, bid-none, bid-denied, bid-yes}
use Rattle.split_pending.proofs.may_bid.Goals as goal

pub returns-then-not-is_live : goal.returns-then-not-is_live
returns-then-not-is_live c = bid-dead c.args.i c.requires (sym c.is_live.ensures.says ∙ c.if-not-is_live.true)

pub returns-then-removals-ne0 : goal.returns-then-removals-ne0
returns-then-removals-ne0 c =
    let L = c.is_live.ensures.lives c.if-not-is_live.false in
    let some : get_or (tables c.args.z c.args.t.now).rows (3 * c.args.i) 0 ≢ 0 = λ e. c.if-removals-ne0.true (c.get-removals.ensures.0 ∙ e) in
    below c.get-stamp.result c.get-until.result
    (λ l. lt-leb c.get-until.result c.get-stamp.result l ∙ bid-denied c.args.i c.requires L some (omega (arith, c.get-until.ensures.0, c.get-stamp.ensures.0)))
    (λ l. le-leb c.get-until.result c.get-stamp.result l ∙ bid-yes c.args.i c.requires L some (omega (arith, c.get-until.ensures.0, c.get-stamp.ensures.0)))

pub returns-else-removals-ne0 : goal.returns-else-removals-ne0
returns-else-removals-ne0 c =
    ap not (eq-eqb c.get-removals.result 0 c.if-removals-ne0.false)
    ∙ bid-none c.args.i c.requires (c.is_live.ensures.lives c.if-not-is_live.false) (sym c.get-removals.ensures.0 ∙ c.if-removals-ne0.false)
