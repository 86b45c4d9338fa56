-- `theorem_calls::unjoint_chain` meets its contract, by the law of its call.
use Rattle.def_state.specs.World.{chain}
use Prim.Native.Nat.{◌/◌, ◌%◌}
use Rattle.theorem_calls.proofs.Rows.{unjoint-next, told-next}
use Rattle.theorem_calls.proofs.unjoint_chain.Goals as goal

pub returns : goal.returns
returns c =
    let x = c.ashwoodrung_unjoint_chain in
    let a = c.args in
    told-next (λ r. unjoint-next (chain (a.multibody / 4294967296) (a.multibody % 4294967296) a.ordinal)) x.ensures
