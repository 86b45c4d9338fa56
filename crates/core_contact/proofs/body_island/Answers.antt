use mathlib.Core.Path.{sym, ◌∙◌}
use Rattle.core_laws.proofs.Names.{room-named}
use Rattle.core_laws.proofs.Unlink.{island-unnamed, island-named}
use Rattle.core_contact.proofs.body_island.Goals as goal

pub returns-then-not-is_named : goal.returns-then-not-is_named
returns-then-not-is_named c = island-unnamed c.args.h.slot.0 c.args.h.generation _ (sym c.is_named.ensures ∙ c.if-not-is_named.true)

pub home-i-requires : goal.home-i-requires
home-i-requires c = (c.requires.long, room-named _ _ _ _ c.requires (sym c.is_named.ensures ∙ c.if-not-is_named.false))

pub returns-then-i : goal.returns-then-i
returns-then-i c = island-named c.args.h.slot.0 c.args.h.generation c.requires (sym c.is_named.ensures ∙ c.if-not-is_named.false) ∙ sym c.home-i.ensures.0 ∙ c.if-i.true

pub returns-else-i : goal.returns-else-i
returns-else-i c = (c.home-i.ensures.0 ∙ sym (island-named c.args.h.slot.0 c.args.h.generation c.requires (sym c.is_named.ensures ∙ c.if-not-is_named.false)), c.if-i.false)
