-- `core_chain::old_length` meets its contract. The invariant: the old length is what the loop has passed and what is left from there on.
-- The measure is how many joint links are left. Assumes nothing.
use native.Mathlib.Omega.{arith}
use Prim.Native.Nat.{◌/◌, ◌%◌}
use Rattle.def_kinds.specs.declared.JointKey.TheVariants.{Chain}
use Rattle.table_meaning.specs.Layout.{tables}
use Rattle.core_laws.specs.Places.{PlaceHas, NoPlaceHas}
use Rattle.core_chain.proofs.Laws.{old-start, old-end, old-missing, old-turn, nothing-there, something-there}
use Rattle.core_chain.proofs.old_length.Goals as goal

pub loop-ordinal-init : goal.loop-ordinal-init
loop-ordinal-init c = (omega arith, old-start c.args.z c.args.t.now (c.args.multibody / 4294967296) (c.args.multibody % 4294967296))

pub loop-ordinal-preserved : goal.loop-ordinal-preserved
loop-ordinal-preserved c =
    let T = tables c.args.z c.args.t.now in
    let key = Chain c.args.multibody c.loop-ordinal.ordinal in
    let A = something-there (NoPlaceHas c.args.z T key) (PlaceHas c.args.z T key) c.find_place.result c.find_place.ensures c.if-is_none.ensures in
    (omega arith, old-turn c.args.z c.args.t.now (c.args.multibody / 4294967296) (c.args.multibody % 4294967296) c.loop-ordinal.ordinal c.requires c.loop-ordinal.invariant.1 A.0 (omega arith) A.1)

pub returns-then-ordinal-z : goal.returns-then-ordinal-z
returns-then-ordinal-z c = (old-end c.args.z c.args.t.now (c.args.multibody / 4294967296) (c.args.multibody % 4294967296) c.loop-ordinal.ordinal c.loop-ordinal.invariant.1 (omega arith), omega arith)

pub returns-then-is_none : goal.returns-then-is_none
returns-then-is_none c =
    let T = tables c.args.z c.args.t.now in
    let key = Chain c.args.multibody c.loop-ordinal.ordinal in
    let n = nothing-there (NoPlaceHas c.args.z T key) (PlaceHas c.args.z T key) c.find_place.result c.find_place.ensures c.if-is_none.ensures in
    (old-missing c.args.z c.args.t.now (c.args.multibody / 4294967296) (c.args.multibody % 4294967296) c.loop-ordinal.ordinal c.requires c.loop-ordinal.invariant.1 n, omega arith)
