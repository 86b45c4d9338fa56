use native.Mathlib.Omega.{arith}
use mathlib.Core.Path.{sym, ◌∙◌}
use Rattle.def_kinds.specs.Answers.{Nothing}
use Rattle.def_state.specs.Bodies.{retire}
use Rattle.table_meaning.specs.Decode.{world_of}
use Rattle.core_laws.specs.Steps.{handle}
use Rattle.core_laws.proofs.Then.{refused}
use Rattle.core_laws.proofs.Names.{named_is}
use Rattle.core_laws.proofs.Emptied.{retire-no, retired}
use Rattle.core_remove.proofs.retire_on.Goals as goal

pub returns-then-not-is_named : goal.returns-then-not-is_named
returns-then-not-is_named c = refused (retire (handle c.args.h.slot.0 c.args.h.generation)) Nothing c.requires (retire-no (world_of c.args.z c.args.t.now) c.args.h.slot.0 c.args.h.generation (sym c.is_named.ensures ∙ c.if-not-is_named.true))

pub empty_slot-requires : goal.empty_slot-requires
empty_slot-requires c =
    let n = sym c.is_named.ensures ∙ c.if-not-is_named.false in
    let m = named_is c.args.z c.args.t.now c.args.h.slot.0 c.args.h.generation n in
    let R = c.remove_on.ensures in
    (R.does.sound, (let l = m.slot_lt in let e = R.slots in omega arith), R.gone n, (let d = m.not_absent in omega arith))

pub returns : goal.returns
returns c =
    let n = sym c.is_named.ensures ∙ c.if-not-is_named.false in
    retired c.args.h.slot.0 c.args.h.generation n c.remove_on.ensures.does c.empty_slot.ensures
