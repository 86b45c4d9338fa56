-- `core_joint::joint_room` meets its contract. There are no more free places than places in use, so the sum is at most all places. Assumes nothing.
use native.Mathlib.Omega.{arith}
use Rattle.core_laws.proofs.GrowPlace.{joint-room, spare-le}
use Rattle.core_joint.proofs.joint_room.Goals as goal

pub overflow_add-result : goal.overflow_add-result
overflow_add-result c = omega (arith, c.get-in_use.ensures.0, c.count-spare.ensures.0, spare-le c.requires, c.requires.good.joints_le)

pub returns : goal.returns
returns c =
    let e = joint-room c.requires in
    (omega (arith, c.get-in_use.ensures.0, c.count-spare.ensures.0, e), omega arith)
