-- `core_joint::grow_place` meets its contract. The words of the place are blanked, then it is freed: the law of `GrowPlace`. Assumes nothing.
use mathlib.Core.Path.{◌∙◌}
use Rattle.core_laws.proofs.GrowPlace.{place-push_ready, place-grown}
use Rattle.core_joint.proofs.grow_place.Goals as goal

pub push-requires : goal.push-requires
push-requires c = (c.set_all-4.ensures.same_length ∙ c.set_all-3.ensures.same_length ∙ c.set_all-2.ensures.same_length ∙ c.set_all.ensures.same_length ∙ c.requires.0.long, place-push_ready c.args.p c.requires.0 c.requires.1 c.requires.2 c.requires.3 c.set_all.ensures c.set_all-2.ensures c.set_all-3.ensures c.set_all-4.ensures)

pub returns : goal.returns
returns c = place-grown c.args.p c.requires.0 c.requires.1 c.requires.2 c.requires.3 c.set_all.ensures c.set_all-2.ensures c.set_all-3.ensures c.set_all-4.ensures c.push.ensures c.set.ensures
