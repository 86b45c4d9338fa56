-- `core_body::grow_slots` meets its contract. The loop has grown the table to n slots.
use native.Mathlib.Omega.{arith}
use mathlib.Core.Path.{◌≡◌, sym}
use Rattle.core_laws.proofs.GrowSlot.{grow-none, grow-then}
use Rattle.table_meaning.proofs.Frame.{larger-refl}
use Rattle.core_body.proofs.grow_slots.Goals as goal

pub loop-n-init : goal.loop-n-init
loop-n-init c = (record { does = grow-none _ c.requires.0 (omega (arith, c.get-in_use.ensures.0)); slots = sym c.get-in_use.ensures.0; larger = larger-refl _ }, omega (arith, c.get-in_use.ensures.0))

pub loop-n-preserved : goal.loop-n-preserved
loop-n-preserved c = (grow-then _ c.loop-n.invariant.1 c.loop-n.invariant.0 c.grow_slot.ensures, omega (arith, c.loop-n.invariant.1))

pub returns : goal.returns
returns c =
    let q : c.loop-n.n ≡ c.args.k = omega (arith, c.loop-n-test.false, c.loop-n.auto.n-end, c.get-in_use.ensures.0, c.requires.1) in
    rw (← q) c.loop-n.invariant.0
