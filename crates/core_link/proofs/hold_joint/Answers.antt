use native.Mathlib.Omega.{arith}
use mathlib.Core.Path.{◌∙◌}
use Rattle.table_meaning.specs.Keys.{key_is, words_of}
use Rattle.core_laws.specs.Steps.{handle}
use Rattle.core_laws.proofs.KeyWords.{key-ruled, words-key}
use Rattle.core_laws.proofs.JointKeys.{home-unlinked}
use Rattle.core_laws.proofs.GrowPlace.{room-place, place-is-ready}
use Rattle.core_laws.proofs.Link.{place-held}
use Rattle.core_laws.proofs.LinkJoint.{ready-lives, ready-home}
use Rattle.core_link.proofs.hold_joint.Goals as goal

pub ready_place-requires : goal.ready_place-requires
ready_place-requires c = (c.requires.0, room-place c.requires.0 c.requires.3 c.requires.4)

pub push_joint-requires : goal.push_joint-requires
push_joint-requires c =
    let A = c.ready_place.ensures in
    let L = ready-lives c.args.i c.requires.0 A c.requires.2 in
    let K = words_of c.args.key in
    (A.does.sound, (place-is-ready A).some, L.in_use, (let s = L.some in omega arith), home-unlinked K.kind K.first K.second K.third A.does.sound (key-ruled c.args.key) (rw (words-key c.args.key) (ready-home (key_is c.args.key) A ∙ c.requires.1)))

pub returns : goal.returns
returns c = place-held c.args.i (key_is c.args.key) (handle c.args.first.slot.0 c.args.first.generation) (handle c.args.second.slot.0 c.args.second.generation) c.ready_place.ensures c.push_joint.ensures
