-- The loop's invariant is `Passed`: of the list, the first `left` links are left, and e is the last of those.
use native.Mathlib.Omega.{arith}
use Rattle.split_label.proofs.Chain.{passed_start, passed_over, pair-in, prev-in, passed-more, passed-all, word_fits, one_more, no_more}
use Rattle.split_label.proofs.join_links.Goals as goal
use Rattle.split_label.proofs.join_links.Goals.{then-join_link, else-join_link}

pub loop-left-init : goal.loop-left-init
loop-left-init c = passed_start c.requires.1 c.requires.0 c.count-count.ensures.0 c.last-link.ensures.0

pub overflow_mul-at : goal.overflow_mul-at
overflow_mul-at c = let m = word_fits c.args.z c.args.t.now c.args.links.words _ c.requires.0.sound.long (pair-in c.requires.1 c.loop-left.invariant c.loop-left-test.true) in omega arith

pub overflow_add-at : goal.overflow_add-at
overflow_add-at c = let m = word_fits c.args.z c.args.t.now c.args.links.words _ c.requires.0.sound.long (pair-in c.requires.1 c.loop-left.invariant c.loop-left-test.true) in omega arith

pub join_link-requires : goal.join_link-requires
join_link-requires c = (passed_over c.requires.1 c.loop-left.invariant c.requires.0, pair-in c.requires.1 c.loop-left.invariant c.loop-left-test.true)

pub get-link-requires : goal.get-link-requires
get-link-requires c = (c.requires.0.sound.long, prev-in c.requires.1 c.loop-left.invariant c.loop-left-test.true)

pub loop-left-preserved : goal.loop-left-preserved
loop-left-preserved c =
    passed-more c.requires.1 c.loop-left.invariant c.loop-left-test.true c.join_link.result c.join_link.ensures c.join_link.auto.parent c.join_link.auto.size c.get-link.ensures.0 (elim c.if-join_link.branch [
      | then-join_link w ↦ one_more c.loop-left.joins w.if-join_link.true w.joins-is
      | else-join_link w ↦ no_more c.loop-left.joins w.if-join_link.false w.joins-is
    ])

pub returns : goal.returns
returns c = passed-all c.requires.1 c.loop-left.invariant (omega (arith, c.loop-left-test.false))
