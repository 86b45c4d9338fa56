-- `core_chain::refresh_on` meets its contract. Each way out is a case of `refresh_multibody_chain`, by the laws of `Laws`. Assumes nothing.
use native.Mathlib.Omega.{arith}
use Prim.Native.Nat.{◌/◌, ◌%◌}
use lib.ListN.{length}
use Rattle.core_chain.proofs.Laws.{call_long, call-full, call-journal, call-done}
use Rattle.core_chain.proofs.refresh_on.Goals as goal

pub returns-then-list-z : goal.returns-then-list-z
returns-then-list-z c = call_long c.args.z c.args.t.now (c.args.multibody / 4294967296) (c.args.multibody % 4294967296) c.args.list.now (length c.args.list.now / 2) c.requires c.if-list-z.true

pub returns-then-room-from : goal.returns-then-room-from
returns-then-room-from c = call-full c.args.z c.args.t.now (c.args.multibody / 4294967296) (c.args.multibody % 4294967296) c.args.list.now (length c.args.list.now / 2) c.requires c.old_length-old.result c.count_chainable-new.result c.joint_room.result (omega (arith, c.if-list-z.false)) c.old_length-old.ensures.0 c.count_chainable-new.ensures c.joint_room.ensures.0 (omega (arith, c.from-room.ensures, c.from.ensures, c.if-room-from.true))

pub returns-then-from-entries : goal.returns-then-from-entries
returns-then-from-entries c = call-journal c.args.z c.args.t.now (c.args.multibody / 4294967296) (c.args.multibody % 4294967296) c.args.list.now (length c.args.list.now / 2) c.requires c.old_length-old.result c.count_chainable-new.result c.joint_room.result (omega (arith, c.if-list-z.false)) c.old_length-old.ensures.0 c.count_chainable-new.ensures c.joint_room.ensures.0 c.get.result (omega (arith, c.if-room-from.false)) c.get.ensures.0 (omega (arith, c.from-entries.ensures, c.from-2.ensures, c.from-3.ensures, c.if-from-entries.true))

pub returns : goal.returns
returns c = call-done c.args.z c.args.t.now (c.args.multibody / 4294967296) (c.args.multibody % 4294967296) c.args.list.now (length c.args.list.now / 2) c.requires c.old_length-old.result c.count_chainable-new.result c.joint_room.result (omega (arith, c.if-list-z.false)) c.old_length-old.ensures.0 c.count_chainable-new.ensures c.joint_room.ensures.0 c.get.result (omega (arith, c.if-room-from.false)) c.get.ensures.0 (omega (arith, c.if-from-entries.false)) c.unlink_chain.ensures c.link_chain.ensures
