use Rattle.core_laws.proofs.GrowIsland.{blanked}
use Rattle.core_ensure.proofs.blank_island.Goals as goal

pub returns : goal.returns
returns c = blanked c.args.z c.args.m c.requires.0 (rw c.ends_at-bodies.ensures at c.set_all.ensures) (rw c.ends_at-contacts.ensures at c.set_all-2.ensures) (rw c.ends_at-joints.ensures at c.set_all-3.ensures) c.set_all-4.ensures c.set_all-5.ensures c.set.ensures c.set_all-6.ensures
