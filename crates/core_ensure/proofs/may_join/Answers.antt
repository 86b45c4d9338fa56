-- `core_ensure::may_join` meets its contract: a body that a chain links, and that is in no island.
use mathlib.Core.Path.{sym, ◌∙◌}
use Rattle.core_laws.proofs.Names.{room-named}
use Rattle.core_laws.proofs.Found.{chainable-named, join_yes, join_not}
use Rattle.core_ensure.proofs.may_join.Goals as goal

pub home-requires : goal.home-requires
home-requires c = (c.requires.long, room-named _ _ _ _ c.requires (chainable-named _ _ (sym c.is_chainable.ensures ∙ c.if-is_chainable.true)))

pub returns-then-is_chainable : goal.returns-then-is_chainable
returns-then-is_chainable c = rw c.home.ensures.0 (sym (join_yes c.args.h.slot.0 c.args.h.generation c.requires (sym c.is_chainable.ensures ∙ c.if-is_chainable.true)))

pub returns-else-is_chainable : goal.returns-else-is_chainable
returns-else-is_chainable c = c.if-is_chainable.false ∙ sym (join_not c.args.h.slot.0 c.args.h.generation c.requires (sym c.is_chainable.ensures ∙ c.if-is_chainable.false))
