use native.Mathlib.Omega.{arith}
use mathlib.Core.Path.{◌≡◌, sym, ◌∙◌, ap}
use mathlib.Core.Logic.{◌≢◌}
use Rattle.list_in_table.specs.Rules.{none}
use Rattle.def_state.specs.Links.{joint_room, merge_islands}
use Rattle.table_meaning.specs.Decode.{world_of}
use Rattle.table_meaning.specs.Keys.{key_is}
use Rattle.def_kinds.specs.Answers.{Nothing, JointsFull}
use Rattle.core_laws.specs.Steps.{handle}
use Rattle.core_laws.proofs.Then.{refused}
use Rattle.core_laws.proofs.Link.{joint-old, joint-loose, joint-full, merged-room}
use Rattle.core_laws.proofs.LinkJoint.{merge-unlinked, joint-linked}
use Rattle.core_link.proofs.Laws.{found, unfound, home-none, ends-some}
use Rattle.core_link.proofs.link_joint_on.Goals as goal

pub returns-then-is_some : goal.returns-then-is_some
returns-then-is_some c =
    let h = handle c.args.first.slot.0 c.args.first.generation in
    let k = handle c.args.second.slot.0 c.args.second.generation in
    refused _ Nothing c.requires (joint-old c.args.z (key_is c.args.key) h k (world_of c.args.z c.args.t.now) (found c.args.key c.requires c.find_place.result c.find_place.ensures (sym c.is_some.ensures ∙ c.if-is_some.true)))

pub returns-in_default : goal.returns-in_default
returns-in_default c =
    let h = handle c.args.first.slot.0 c.args.first.generation in
    let k = handle c.args.second.slot.0 c.args.second.generation in
    let n = home-none c.args.key c.requires (unfound c.args.key c.requires c.find_place.result c.find_place.ensures (sym c.is_some.ensures ∙ c.if-is_some.false)) in
    refused _ Nothing c.requires (joint-loose c.args.z (key_is c.args.key) h k (world_of c.args.z c.args.t.now) n c.in_default.ensures)

pub returns-then-joint_room-eq0 : goal.returns-then-joint_room-eq0
returns-then-joint_room-eq0 c =
    let h = handle c.args.first.slot.0 c.args.first.generation in
    let k = handle c.args.second.slot.0 c.args.second.generation in
    let n = home-none c.args.key c.requires (unfound c.args.key c.requires c.find_place.result c.find_place.ensures (sym c.is_some.ensures ∙ c.if-is_some.false)) in
    refused _ JointsFull c.requires (joint-full c.args.z (key_is c.args.key) h k (world_of c.args.z c.args.t.now) n (ends-some h k c.in-Some.ensures) (sym c.joint_room.ensures.0 ∙ c.if-joint_room-eq0.true))

pub hold_joint-requires : goal.hold_joint-requires
hold_joint-requires c =
    let M = c.merge_islands-island.ensures in
    let T = M.steps.does.sound in
    let n = unfound c.args.key c.requires c.find_place.result c.find_place.ensures (sym c.is_some.ensures ∙ c.if-is_some.false) in
    let x = merged-room c.args.z c.in-Some.a c.in-Some.b (world_of c.args.z c.args.t.now) in
    let y : joint_room c.args.z (world_of c.args.z _) ≡ joint_room c.args.z (merge_islands c.in-Some.a c.in-Some.b (world_of c.args.z c.args.t.now)) = ap (joint_room c.args.z) M.steps.does.after in
    (T, home-none c.args.key T (merge-unlinked M.stays n), record { in_use = M.in_use; some = M.live }, (λ e. c.if-joint_room-eq0.false (c.joint_room.ensures.0 ∙ sym x ∙ sym y ∙ e)), c.joint_room.ensures.1)

pub returns : goal.returns
returns c =
    let M = c.merge_islands-island.ensures in
    let h = handle c.args.first.slot.0 c.args.first.generation in
    let k = handle c.args.second.slot.0 c.args.second.generation in
    let n = home-none c.args.key c.requires (unfound c.args.key c.requires c.find_place.result c.find_place.ensures (sym c.is_some.ensures ∙ c.if-is_some.false)) in
    let d : c.merge_islands-island.result ≢ none = (λ q. (let a = M.in_use in let b = M.steps.does.sound.good.members_wf.rules.m_small in omega arith)) in
    joint-linked c.args.z c.args.t.now (key_is c.args.key) h k n c.in-Some.a c.in-Some.b _ c.in-Some.ensures d M (λ e. c.if-joint_room-eq0.false (c.joint_room.ensures.0 ∙ e)) c.hold_joint.ensures
