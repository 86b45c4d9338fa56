-- `core_joint::push_joint` meets its contract. The four stores are those of the law of `PushJoint`. Assumes nothing.
use native.Mathlib.Omega.{arith}
use mathlib.Core.Path.{◌∙◌}
use Rattle.table_meaning.specs.Keys.{words_of}
use Rattle.core_laws.proofs.KeyWords.{key-ruled, words-key}
use Rattle.core_laws.proofs.PushJoint.{spare-last, push-joint-ready, joint-is-pushed}
use Rattle.core_joint.proofs.push_joint.Goals as goal

pub remove-requires : goal.remove-requires
remove-requires c = (c.requires.0.long, (spare-last c.last-p.result c.requires.0 c.requires.1 c.last-p.ensures.0).ready)

pub push-requires : goal.push-requires
push-requires c = (c.remove.ensures.same_length ∙ c.requires.0.long, push-joint-ready c.last-p.result c.requires.0 c.requires.1 c.last-p.ensures.0 c.args.i c.requires.2 c.remove.ensures)

pub set_all-requires : goal.set_all-requires
set_all-requires c = (c.push.ensures.same_length ∙ c.remove.ensures.same_length ∙ c.requires.0.long, (let h = (spare-last c.last-p.result c.requires.0 c.requires.1 c.last-p.ensures.0).room_lt in omega arith))

pub set_all-requires-2 : goal.set_all-requires-2
set_all-requires-2 c = (c.set_all.ensures.same_length ∙ c.push.ensures.same_length ∙ c.remove.ensures.same_length ∙ c.requires.0.long, (let h = (spare-last c.last-p.result c.requires.0 c.requires.1 c.last-p.ensures.0).room_lt in omega arith))

pub returns : goal.returns
returns c =
    let k = words_of c.args.key in
    let C = rw c.from-words.ensures at c.set_all.ensures in
    rw (words-key c.args.key) at (joint-is-pushed c.last-p.result c.requires.0 c.requires.1 c.last-p.ensures.0 c.args.i k.kind k.first k.second k.third c.args.first.slot.0 c.args.first.generation c.args.second.slot.0 c.args.second.generation c.requires.2 c.requires.3 (key-ruled c.args.key) c.requires.4 c.remove.ensures c.push.ensures C c.set_all-2.ensures)
