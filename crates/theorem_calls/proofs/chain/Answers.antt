-- `theorem_calls::chain` meets its contract, by the law of its call.
use Rattle.core_laws.specs.Chaining.{handles_from}
use lib.ListN.{length}
use Prim.Native.Nat.{◌/◌, ◌%◌}
use Rattle.theorem_calls.proofs.Rows.{chain_next, told-next}
use Rattle.theorem_calls.proofs.chain.Goals as goal

pub returns : goal.returns
returns c =
    let x = c.ashwoodrung_chain in
    let a = c.args in
    told-next (λ r. chain_next (a.multibody / 4294967296) (a.multibody % 4294967296) (handles_from a.list.now 0 (length a.list.now / 2))) x.ensures
