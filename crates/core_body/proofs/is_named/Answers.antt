-- `core_body::is_named` meets its contract: each of the three tests as the definition has it.
use native.Mathlib.Omega.{arith}
use mathlib.Core.Path.{sym, ◌∙◌}
use mathlib.Core.Bool.{false≢true}
use borrow.Author.Tests.{eq-eqb, ltb-true, ltb-false}
use Rattle.core_laws.proofs.Names.{absent-named, far-named, word-named}
use Rattle.core_body.proofs.is_named.Goals as goal
use Rattle.core_body.proofs.is_named.Goals.{then-h-ne-NONE, else-h-ne-NONE}

pub returns-then-s-get : goal.returns-then-s-get
returns-then-s-get c =
    elim c.if-h-ne-NONE.branch [
      | then-h-ne-NONE w ↦
          let l = ltb-true _ _ (sym w.value-is ∙ c.if-s-get.true) in
          rw c.get-then-s-get.ensures.0 (word-named c.args.z c.args.t.now c.args.h.slot.0 c.args.h.generation (omega (arith, w.get.ensures.0, l)) w.if-h-ne-NONE.true)
      | else-h-ne-NONE w ↦
          let k = sym w.value-is ∙ c.if-s-get.true in
          absurd (false≢true (rw (eq-eqb _ _ w.if-h-ne-NONE.false) at k))
    ]

pub returns-else-s-get : goal.returns-else-s-get
returns-else-s-get c =
    elim c.if-h-ne-NONE.branch [
      | then-h-ne-NONE w ↦
          let l = ltb-false _ _ (sym w.value-is ∙ c.if-s-get.false) in
          c.if-s-get.false ∙ far-named c.args.z c.args.t.now c.args.h.slot.0 c.args.h.generation (omega (arith, w.get.ensures.0, l))
      | else-h-ne-NONE w ↦ c.if-s-get.false ∙ absent-named c.args.z c.args.t.now c.args.h.slot.0 c.args.h.generation w.if-h-ne-NONE.false
    ]
