-- `core_joint::unlink_joint_on` meets its contract. Each way out is a case of `unlink_joint`, by the laws of `UnlinkJoint`. Assumes nothing.
use native.Mathlib.Omega.{arith}
use Prim.Native.Nat.{◌+◌, ◌*◌}
use Rattle.table_meaning.specs.Keys.{words_of}
use Rattle.table_meaning.specs.Layout.{tables}
use Rattle.core_laws.proofs.KeyWords.{key-ruled, words-key}
use Rattle.core_laws.proofs.Loose.{sound-loose}
use Rattle.core_laws.proofs.UnlinkJoint.{unlinks-none, unlinks-full, unlinks-self, unlinks-some}
use Rattle.core_joint.proofs.Laws.{ends-are}
use Rattle.core_joint.proofs.unlink_joint_on.Goals as goal

pub returns-in_default : goal.returns-in_default
returns-in_default c =
    let K = words_of c.args.key in
    rw (words-key c.args.key) at (unlinks-none K.kind K.first K.second K.third c.requires (key-ruled c.args.key) c.in_default.ensures)

pub take_joint-requires : goal.take_joint-requires
take_joint-requires c = (sound-loose c.requires, c.in-Some.ensures.place_lt, c.in-Some.ensures.keyed.linked)

pub returns-then-eq : goal.returns-then-eq
returns-then-eq c =
    let K = words_of c.args.key in
    let p = c.in-Some.p in
    let same = ends-are (tables c.args.z c.args.t.now).keys (8 * p + 4) (8 * p + 6) _ _ _ _ c.handle_at-first.ensures c.handle_at-second.ensures c.if-eq.ensures in
    rw (words-key c.args.key) at (unlinks-self K.kind K.first K.second K.third c.requires (key-ruled c.args.key) p c.in-Some.ensures same (c.take_joint.ensures.taken c.requires))

pub returns-then-get-z : goal.returns-then-get-z
returns-then-get-z c =
    let K = words_of c.args.key in
    let p = c.in-Some.p in
    let same = ends-are (tables c.args.z c.args.t.now).keys (8 * p + 4) (8 * p + 6) _ _ _ _ c.handle_at-first.ensures c.handle_at-second.ensures c.if-eq.ensures in
    rw (words-key c.args.key) at (unlinks-full K.kind K.first K.second K.third c.requires (key-ruled c.args.key) p c.in-Some.ensures same (omega (arith, c.get.ensures.0, c.if-get-z.true)))

pub take_joint-requires-2 : goal.take_joint-requires-2
take_joint-requires-2 c = (sound-loose c.requires, c.in-Some.ensures.place_lt, c.in-Some.ensures.keyed.linked)

pub returns : goal.returns
returns c =
    let K = words_of c.args.key in
    let p = c.in-Some.p in
    let a = c.handle_at-first in
    let b = c.handle_at-second in
    let same = ends-are (tables c.args.z c.args.t.now).keys (8 * p + 4) (8 * p + 6) _ _ _ _ a.ensures b.ensures c.if-eq.ensures in
    rw (words-key c.args.key) at
    (unlinks-some K.kind K.first K.second K.third c.requires (key-ruled c.args.key) p c.in-Some.ensures a.result.slot.0 a.result.generation b.result.slot.0 b.result.generation a.ensures.0 a.ensures.1 b.ensures.0 b.ensures.1 same
    (omega (arith, c.get.ensures.0, c.if-get-z.false)) (c.take_joint-2.ensures.taken c.requires) c.push_entry.ensures)
