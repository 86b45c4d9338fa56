use native.Mathlib.Omega.{arith}
use Rattle.split_island.proofs.Part.{few-bodies}
use Rattle.split_island.proofs.split_live.Goals as goal

pub split_sized-requires-else-n-le-FEW : goal.split_sized-requires-else-n-le-FEW
split_sized-requires-else-n-le-FEW c =
    (c.requires, (let a = few-bodies c.args.i c.requires.sound c.requires.lives in let b = c.requires.few in let q = c.requires.bodies in omega arith), omega arith)
