-- `core_body::is_chainable` meets its contract. A body that is not named is not chained; else its two flags decide, by the words of its slot. Assumes nothing.
use native.Mathlib.Omega.{arith}
use mathlib.Core.Path.{sym, ◌∙◌}
use mathlib.Core.Bool.{false≢true}
use Rattle.core_body.proofs.Laws.{chain-absent, slot-in, chain-fixed, chain-enabled}
use Rattle.core_body.proofs.is_chainable.Goals as goal
use Rattle.core_body.proofs.is_chainable.Goals.{then-is_named, else-is_named}

pub get-requires : goal.get-requires
get-requires c = (c.requires.long, (let n = slot-in c.args.z c.args.t.now c.args.h.slot.0 c.args.h.generation (sym c.is_named.ensures ∙ c.if-is_named.true) in let m = c.requires.good.slots_le in omega arith))

pub get-requires-then-get-ne1 : goal.get-requires-then-get-ne1
get-requires-then-get-ne1 c =
    elim c.if-is_named.branch [
      | then-is_named w ↦ (c.requires.long, (let n = slot-in c.args.z c.args.t.now c.args.h.slot.0 c.args.h.generation (sym c.is_named.ensures ∙ w.if-is_named.true) in let m = c.requires.good.slots_le in omega arith))
      | else-is_named w ↦ absurd (false≢true (sym w.if-is_named.false ∙ sym w.value-is ∙ c.if-get-ne1.true))
    ]

pub returns-then-get-ne1 : goal.returns-then-get-ne1
returns-then-get-ne1 c =
    elim c.if-is_named.branch [
      | then-is_named w ↦ chain-enabled c.args.z c.args.t.now c.args.h.slot.0 c.args.h.generation (sym c.is_named.ensures ∙ w.if-is_named.true) w.get.result w.get.ensures.0 _ c.get-then-get-ne1.ensures.0 (sym w.value-is ∙ c.if-get-ne1.true)
      | else-is_named w ↦ absurd (false≢true (sym w.if-is_named.false ∙ sym w.value-is ∙ c.if-get-ne1.true))
    ]

pub returns-else-get-ne1 : goal.returns-else-get-ne1
returns-else-get-ne1 c =
    elim c.if-is_named.branch [
      | then-is_named w ↦ c.if-get-ne1.false ∙ chain-fixed c.args.z c.args.t.now c.args.h.slot.0 c.args.h.generation (sym c.is_named.ensures ∙ w.if-is_named.true) w.get.result w.get.ensures.0 (sym w.value-is ∙ c.if-get-ne1.false)
      | else-is_named w ↦ c.if-get-ne1.false ∙ chain-absent c.args.z c.args.t.now c.args.h.slot.0 c.args.h.generation (sym c.is_named.ensures ∙ w.if-is_named.false)
    ]
