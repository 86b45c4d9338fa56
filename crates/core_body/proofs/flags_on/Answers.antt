use native.Mathlib.Omega.{arith}
use mathlib.Core.Path.{sym, ◌∙◌}
use Rattle.table_meaning.specs.Decode.{world_of}
use Rattle.core_laws.specs.Steps.{handle}
use Rattle.core_laws.proofs.Then.{refused}
use Rattle.core_laws.proofs.Names.{named_is, room-named}
use Rattle.core_laws.proofs.Put.{flags-no, flags-yes}
use Rattle.def_kinds.specs.Answers.{Nothing}
use Rattle.core_body.proofs.flags_on.Goals as goal

pub returns-then-not-is_named : goal.returns-then-not-is_named
returns-then-not-is_named c = refused _ Nothing c.requires (flags-no (handle c.args.h.slot.0 c.args.h.generation) c.args.flags.fixed c.args.flags.enabled c.args.flags.sleeping (world_of c.args.z c.args.t.now) (sym c.is_named.ensures ∙ c.if-not-is_named.true))

pub get-lowest-requires : goal.get-lowest-requires
get-lowest-requires c = (c.requires.long, (let l = room-named _ _ _ _ c.requires (sym c.is_named.ensures ∙ c.if-not-is_named.false) in omega arith))

pub fill-requires : goal.fill-requires
fill-requires c = let n = named_is c.args.z c.args.t.now c.args.h.slot.0 c.args.h.generation (sym c.is_named.ensures ∙ c.if-not-is_named.false) in (c.requires, n.slot_lt, (let d = n.not_absent in omega arith))

pub returns : goal.returns
returns c =
    let y = sym c.is_named.ensures ∙ c.if-not-is_named.false in
    flags-yes c.args.h.slot.0 c.args.h.generation c.args.flags.fixed c.args.flags.enabled c.args.flags.sleeping y (named_is c.args.z c.args.t.now c.args.h.slot.0 c.args.h.generation y).slot_lt (rw c.get-lowest.ensures.0 at c.fill.ensures)
