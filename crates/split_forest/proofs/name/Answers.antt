-- `split_forest::name` meets its contract. The loop's invariant, whatever links the roots name the groups of: `Come`, and the labels passed are right.
-- Assumes nothing.
use mathlib.Core.Path.{◌≡◌, refl, sym, ◌∙◌}
use Prim.Native.Nat.{ℕ, ◌≤◌, ◌<◌}
use native.Mathlib.Omega.{arith}
use lib.ListN.{length}
use lib.Seq.{ext_get_or}
use Rattle.def_state.specs.Connected.{label}
use Rattle.split_forest.specs.Forest.{at, root_of, Led}
use Rattle.split_forest.proofs.Cases.{set_below}
use Rattle.split_forest.proofs.Climb.{climb-lt}
use Rattle.split_forest.proofs.Paths.{name-lt}
use Rattle.split_forest.proofs.Labels.{length_label}
use Rattle.split_forest.proofs.Leaders.{come-none, led}
use Rattle.split_forest.proofs.name.Goals as goal

pub loop-i-init : goal.loop-i-init
loop-i-init c =
    λ ls G.
    (come-none (at (label ls (length c.args.parent.now))) _ _ c.fill.new.self (name-lt G) (λ j l. c.fill.ensures.clones j 0 (omega arith) refl), λ j l. absurd (omega arith))

pub lead-requires : goal.lead-requires
lead-requires c =
    let e = c.root_of-r.ensures in
    let k = climb-lt _ _ c.requires.within 12 c.loop-i.i (omega arith) in
    omega arith

pub loop-i-preserved : goal.loop-i-preserved
unfolding root_of
loop-i-preserved c =
    let n : ℕ = length c.args.parent.now in
    let small : n ≤ 4096 = c.requires.n_small in
    let il : c.loop-i.i < n = omega arith in
    let long : length c.loop-i.first ≡ n = omega arith in
    let E : Led c.loop-i.first c.lead.new.first (root_of (at c.args.parent.now) c.loop-i.i) c.loop-i.i c.lead.result =
    rw c.root_of-r.ensures at c.lead.ensures in
    λ ls G.
    let h = c.loop-i.invariant ls G in
    let r = led G small il long h.0 E in
    (r.1, rw r.0 (set_below (at (label ls n)) c.loop-i.labels c.loop-i.i (omega arith) h.1))

pub returns : goal.returns
returns c =
    λ ls G.
    let n : ℕ = length c.args.parent.now in
    ext_get_or 0 c.loop-i.labels (label ls n) (c.loop-i.auto.labels ∙ c.requires.labels_long ∙ sym (length_label ls n)) (λ k l. (c.loop-i.invariant ls G).1 k (omega arith))
