use native.Mathlib.Omega.{arith}
use mathlib.Core.Path.{◌∙◌}
use Rattle.core_laws.proofs.Found.{found-fits, found-remove_ready, found-push_ready, founded}
use Rattle.core_ensure.proofs.found_island.Goals as goal

pub remove-requires : goal.remove-requires
remove-requires c = (c.requires.0.long, found-remove_ready c.last-i.result c.requires.0 c.requires.4 c.last-i.ensures.0)

pub push-requires : goal.push-requires
push-requires c = (c.remove.ensures.same_length ∙ c.requires.0.long, found-push_ready c.last-i.result c.requires.0 c.requires.4 c.last-i.ensures.0 c.args.s c.requires.1 c.requires.2 c.remove.ensures)

pub set-requires : goal.set-requires
set-requires c = (c.push.ensures.same_length ∙ c.remove.ensures.same_length ∙ c.requires.0.long, (let h = found-fits c.last-i.result c.requires.0 c.requires.4 c.last-i.ensures.0 in omega arith))

pub returns : goal.returns
returns c =
    let P = rw c.get-asleep.ensures.0 at c.set.ensures in
    founded c.args.s c.last-i.result _ c.requires.0 c.requires.1 c.requires.2 c.requires.3 c.requires.4 c.last-i.ensures.0 c.requires.5 c.remove.ensures c.push.ensures P
