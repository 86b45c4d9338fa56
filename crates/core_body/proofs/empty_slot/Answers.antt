use mathlib.Core.Path.{refl}
use mathlib.Core.Logic.{inl}
use Prim.Native.Nat.{◌+◌}
use Rattle.list_in_table.specs.Rules.{none}
use Rattle.core_laws.proofs.Slot.{stood}
use Rattle.core_body.proofs.empty_slot.Goals as goal

pub returns : goal.returns
returns c = stood c.args.h.slot.0 none (c.args.h.generation + 1) 0 0 0 c.requires.0 c.requires.1 (inl (record { no_generation = refl; not_fixed = refl; not_enabled = refl; not_sleeping = refl; no_member = c.requires.2 })) c.set_all.ensures
