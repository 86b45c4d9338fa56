use mathlib.Core.Path.{◌∙◌}
use mathlib.Core.Logic.{inl}
use Rattle.core_laws.proofs.Reset.{emptied}
use Rattle.core_reset.proofs.reset_of.Goals as goal

pub returns : goal.returns
returns c = inl (emptied (c.if-t-long.false ∙ c.buffer_long-long.ensures) c.requires c.set_all.ensures c.set_all-2.ensures (rw c.ends_at-islands.ensures at c.set_all-3.ensures) (rw c.ends_at-joints.ensures at c.set_all-4.ensures) (rw c.ends_at-islands.ensures at c.set_all-5.ensures))
