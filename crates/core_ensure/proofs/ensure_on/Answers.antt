use mathlib.Core.Path.{sym, ◌∙◌}
use Rattle.core_laws.proofs.GrowIsland.{room-left}
use Rattle.core_laws.proofs.Loose.{sound-loose}
use Rattle.core_laws.proofs.Found.{joins, ensure-no, ready-waits, ensured}
use Rattle.core_ensure.proofs.ensure_on.Goals as goal

pub returns-then-not-may_join : goal.returns-then-not-may_join
returns-then-not-may_join c = ensure-no c.args.h.slot.0 c.args.h.generation c.requires (sym c.may_join.ensures ∙ c.if-not-may_join.true)

pub make_ready-requires : goal.make_ready-requires
make_ready-requires c =
    let J = joins c.args.h.slot.0 c.args.h.generation c.requires (sym c.may_join.ensures ∙ c.if-not-may_join.false) in
    (sound-loose c.requires, (λ e. room-left c.args.h.slot.0 c.requires e J.name.slot_lt J.no_member))

pub found_island-requires : goal.found_island-requires
found_island-requires c =
    let W = ready-waits c.args.h.slot.0 c.args.h.generation c.requires (sym c.may_join.ensures ∙ c.if-not-may_join.false) (c.make_ready.ensures.steps c.requires) in
    ((c.make_ready.ensures.steps c.requires).does.sound, W.slot_lt, W.no_member, W.not_vacant, W.number, W.sleeping_flag)

pub returns : goal.returns
returns c = ensured c.args.h.slot.0 c.args.h.generation c.requires (sym c.may_join.ensures ∙ c.if-not-may_join.false) (c.make_ready.ensures.steps c.requires) c.found_island.ensures
