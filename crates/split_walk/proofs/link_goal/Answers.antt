use mathlib.Core.Path.{sym}
use Rattle.core_laws.specs.Steps.{handle}
use Rattle.split_walk.specs.Walk.{goes}
use Rattle.split_walk.proofs.Goal.{goal-neither, member-lt, first-goes, second-goes}
use Rattle.split_walk.proofs.link_goal.Goals as goal
use Rattle.split_walk.proofs.link_goal.Goals.{in-Some, in-None+in_ok-place-in-None}

pub returns-in_err-place-in-None : goal.returns-in_err-place-in-None
returns-in_err-place-in-None c = rw c.from_residual.ensures (sym (goal-neither (goes c.args.goals.now) _ _ c.in-None.ensures c.in_err-place-in-None.ensures))

pub bounds-goals-place : goal.bounds-goals-place
bounds-goals-place c =
    let first = handle c.args.first.slot.0 c.args.first.generation in
    let second = handle c.args.second.slot.0 c.args.second.generation in
    elim c.match-node_at.branch [
      | in-Some w ↦ rw w.place-is (member-lt c.args.base c.args.goals.now c.requires w.in-Some.place first w.in-Some.ensures)
      | in-None+in_ok-place-in-None w ↦ rw w.place-is (member-lt c.args.base c.args.goals.now c.requires w.in_ok-place-in-None.place second w.in_ok-place-in-None.ensures)
    ]

pub returns : goal.returns
returns c =
    let first = handle c.args.first.slot.0 c.args.first.generation in
    let second = handle c.args.second.slot.0 c.args.second.generation in
    elim c.match-node_at.branch [
      | in-Some w ↦ rw w.place-is (first-goes c.args.base c.args.goals.now c.requires w.in-Some.place first w.in-Some.ensures second)
      | in-None+in_ok-place-in-None w ↦
          rw w.place-is (second-goes c.args.base c.args.goals.now c.requires w.in_ok-place-in-None.place second w.in_ok-place-in-None.ensures first w.in-None.ensures)
    ]
