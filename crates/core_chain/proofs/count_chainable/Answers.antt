-- `core_chain::count_chainable` meets its contract: the chain keeps the places of the handles that a chain links. Assumes nothing.
use borrow.Author.Rules.{rules}
use borrow.Author.Tests.{tests}
use native.Mathlib.Omega.{arith}
use mathlib.Core.Path.{◌∙◌}
use Prim.Native.Nat.{ℕ, ◌*◌, ◌/◌}
use lib.ListN.{length}
use Rattle.std.proofs.lemmas.Iterator.{YieldsList-from_range}
use Rattle.std.proofs.lemmas.Iterator.Consumers.{YieldsList-from_filter, count_from_yields_List}
use Rattle.def_state.specs.Chain.{chainable}
use Rattle.table_meaning.specs.Decode.{handle_at, world_of}
use Rattle.core_chain.proofs.Laws.{chained-count}
use Rattle.core_chain.proofs.count_chainable.Goals as goal

pub returns : goal.returns
returns c =
    let w = world_of c.args.z c.args.t.now in
    let n = length c.args.list.now / 2 in
    count_from_yields_List c.filter.result c.count.result c.count.ensures.ran (YieldsList-from_filter _ (λ (k : ℕ). chainable w (handle_at c.args.list.now (2 * k))) (YieldsList-from_range 0 n n c.filter.ensures.source (omega arith)) c.filter.ensures.closure (λ x r q k. search (rules, tests)))
    ∙ chained-count w c.args.list.now 0 n
