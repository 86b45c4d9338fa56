use native.Mathlib.Omega.{arith}
use mathlib.Core.Path.{sym, ◌∙◌}
use Prim.Native.Nat.{◌*◌}
use Rattle.table_meaning.specs.Layout.{tables}
use Rattle.split_move.proofs.Node.{node-far, node-absent, node-stale, node-else, node-here, place-word}
use Rattle.split_move.proofs.node_at.Goals as goal
use Rattle.split_move.proofs.node_at.Goals.{then-s-in_use-via-then-s-in_use, then-s-in_use-via-else-s-in_use+then-generation, then-live-generation-via-then-live-generation, then-live-generation-via-else-live-generation+then-home-i}

pub returns-then-s-in_use : goal.returns-then-s-in_use
returns-then-s-in_use c =
    let T = tables c.args.z c.args.t.now in
    elim c.then-s-in_use.branch [
      | then-s-in_use-via-then-s-in_use w ↦ sym (node-far c.args.z T c.args.i c.args.h.slot.0 c.args.h.generation (omega (arith, c.get-in_use.ensures.0, w.if-s-in_use.true)))
      | then-s-in_use-via-else-s-in_use+then-generation w ↦
          sym (node-absent c.args.z T c.args.i c.args.h.slot.0 c.args.h.generation (omega (arith, c.get-in_use.ensures.0, w.if-s-in_use.false)) w.if-generation.true)
    ]

pub returns-then-live-generation : goal.returns-then-live-generation
returns-then-live-generation c =
    let T = tables c.args.z c.args.t.now in
    elim c.then-live-generation.branch [
      | then-live-generation-via-then-live-generation w ↦
          sym
          (node-stale c.args.z T c.args.i c.args.h.slot.0 c.args.h.generation (omega (arith, c.get-in_use.ensures.0, c.if-s-in_use.false)) c.if-generation.false
          (λ e. w.if-live-generation.true (c.get-live.ensures.0 ∙ e)))
      | then-live-generation-via-else-live-generation+then-home-i w ↦
          sym
          (node-else c.args.z T c.args.i c.args.h.slot.0 c.args.h.generation (omega (arith, c.get-in_use.ensures.0, c.if-s-in_use.false)) c.if-generation.false
          (sym c.get-live.ensures.0 ∙ w.if-live-generation.false)
          (λ e. w.if-home-i.true (c.home-home.ensures.0 ∙ e)))
    ]

pub returns-then-place : goal.returns-then-place
returns-then-place c =
    let T = tables c.args.z c.args.t.now in
    sym
    (node-here c.args.z T c.args.i c.args.h.slot.0 c.args.h.generation (omega (arith, c.get-in_use.ensures.0, c.if-s-in_use.false)) c.if-generation.false
    (sym c.get-live.ensures.0 ∙ c.if-live-generation.false)
    (sym c.home-home.ensures.0 ∙ c.if-home-i.false))
    ∙ sym (c.get-place.ensures.0 ∙ place-word T.members (4 * c.args.z.slots) c.args.h.slot.0)
    ∙ c.if-place.true

pub returns-else-place : goal.returns-else-place
returns-else-place c =
    let T = tables c.args.z c.args.t.now in (
      c.get-place.ensures.0
          ∙ place-word T.members (4 * c.args.z.slots) c.args.h.slot.0
          ∙ node-here c.args.z T c.args.i c.args.h.slot.0 c.args.h.generation (omega (arith, c.get-in_use.ensures.0, c.if-s-in_use.false)) c.if-generation.false
          (sym c.get-live.ensures.0 ∙ c.if-live-generation.false)
          (sym c.home-home.ensures.0 ∙ c.if-home-i.false),
      c.if-place.false,
    )
