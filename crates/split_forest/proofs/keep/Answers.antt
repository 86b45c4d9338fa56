-- `split_forest::keep` meets its contract. The loop's invariant: `top` and `best` are the most, and the first with it, of the sizes passed. Assumes nothing.
use mathlib.Core.Path.{◌≡◌, sym, ap, ◌∙◌}
use Prim.Native.Nat.{ℕ, ◌+◌}
use mathlib.Core.List.{List}
use native.Mathlib.Omega.{arith}
use lib.ListN.{length}
use Rattle.split_forest.specs.Forest.{at, root_of}
use Rattle.def_state.specs.Connected.{label, weight, most, first}
use Rattle.split_forest.proofs.Climb.{root-lt}
use Rattle.split_forest.proofs.Largest.{scan-more, scan-less, most-none, most-same, size-weight, keep_is}
use Rattle.split_forest.proofs.keep.Goals as goal
use Rattle.split_forest.proofs.keep.Goals.{then-top-s, else-top-s}

pub loop-k-init : goal.loop-k-init
loop-k-init c = (sym (most-none _).0, sym (most-none _).1)

pub bounds-size-r : goal.bounds-size-r
unfolding root_of
bounds-size-r c =
    let K = c.requires in
    let k = root-lt K.forest c.loop-k.k (omega arith) in
    let e = c.root_of-r.ensures in
    let l = K.as_long in
    omega arith

pub loop-k-preserved : goal.loop-k-preserved
unfolding root_of
loop-k-preserved c =
    let parent : List ℕ = c.args.parent.now in
    let size : List ℕ = c.args.size.now in
    let v = c.loop-k.invariant in
    let e = ap (at size) c.root_of-r.ensures in
    let f : ℕ → ℕ = λ k. at size (root_of (at parent) k) in
    let r : (c.if-top-s.top ≡ most f (c.loop-k.k + 1)) × (c.if-top-s.best ≡ first f (c.loop-k.k + 1)) =
    elim c.if-top-s.branch [
      | then-top-s w ↦ scan-more f c.loop-k.k e v.0 v.1 w.if-top-s.true w.best-is w.top-is
      | else-top-s w ↦ scan-less f c.loop-k.k e v.0 v.1 w.if-top-s.false w.best-is w.top-is
    ] in
    r

pub returns : goal.returns
returns c =
    λ ls G.
    let F = c.requires.forest in
    let v = c.loop-k.invariant in
    let size : List ℕ = c.args.size.now in
    let parent : List ℕ = c.args.parent.now in
    let f : ℕ → ℕ = λ k. at size (root_of (at parent) k) in
    let e : c.loop-k.k ≡ length parent = omega arith in
    v.1 ∙ ap (first f) e ∙ (most-same f (weight (label ls (length parent))) (length parent) (size-weight F G)).1
    ∙ keep_is ls (length parent) G.inside
