-- `core_finish::count_restful` meets its contract. The loop has passed the end of the list: found, and those that may sleep among what is left, make all.
use Prim.Native.Nat.{◌*◌}
use lib.ListN.{get_or}
use native.Mathlib.Omega.{arith}
use mathlib.Core.Path.{◌≡◌, sym, ◌∙◌, ap}
use mathlib.Core.Logic.{◌≢◌}
use Prim.Native.Nat.{ℕ, ◌+◌, ◌-◌}
use lib.ListN.{length}
use Rattle.table_meaning.specs.Layout.{tables, scan_in}
use Rattle.core_finish.specs.Restful.{restful_to}
use Rattle.core_finish.proofs.Restful.{stands-last, stands-prev, restful-le, restful-all, restful-none, counted-yes, counted-no, turn-less}
use Rattle.core_finish.proofs.count_restful.Goals as goal
use Rattle.core_finish.proofs.count_restful.Goals.{then-may_sleep, else-may_sleep}

pub loop-init : goal.loop-init
loop-init c =
    let Z = c.args.z in
    let t = c.args.t.now in
    let p : c.count-waiting.result - 0 ≡ (scan_in Z (tables Z t)).count 0 = omega (arith, c.count-waiting.ensures.0) in
    let r = c.last-island.ensures.0 in
    rw (p, r) (stands-last c.requires, (let a = ap length (restful-all Z t) in omega arith))

pub overflow_add-found : goal.overflow_add-found
overflow_add-found c =
    let Z = c.args.z in
    let t = c.args.t.now in
    let a = counted-yes Z t (c.count-waiting.result - c.loop.counter) c.loop.island c.loop.found (omega (arith, c.loop-test.true)) (sym c.may_sleep.ensures ∙ c.if-may_sleep.true) c.loop.invariant.1 in
    let b = restful-le c.requires in
    omega arith

pub loop-preserved : goal.loop-preserved
loop-preserved c =
    let Z = c.args.z in
    let t = c.args.t.now in
    let left = c.count-waiting.result - c.loop.counter in
    let d : left ≢ 0 = omega (arith, c.loop-test.true) in
    let e = c.loop.island in
    let n : 4 * e + 2 ≡ 0 + 4 * e + 2 = omega arith in
    let g : c.get-island.result ≡ (scan_in Z (tables Z t)).prev e = c.get-island.ensures.0 ∙ ap (λ (j : ℕ). get_or (tables Z t).scan j 0) n in (
      rw (g, turn-less) (stands-prev c.requires left e (c.loop.invariant.0 d)),
      elim c.if-may_sleep.branch [
        | then-may_sleep w ↦ rw (g, turn-less, w.found-is) (counted-yes Z t left e c.loop.found d (sym c.may_sleep.ensures ∙ w.if-may_sleep.true) c.loop.invariant.1)
        | else-may_sleep w ↦ rw (g, turn-less, w.found-is) (counted-no Z t left e c.loop.found d (sym c.may_sleep.ensures ∙ w.if-may_sleep.false) c.loop.invariant.1)
      ],
    )

pub returns : goal.returns
returns c =
    let Z = c.args.z in
    let t = c.args.t.now in
    let z : c.count-waiting.result - c.loop.counter ≡ 0 = omega (arith, c.loop-test.false) in
    let a : length (restful_to Z t (c.count-waiting.result - c.loop.counter) c.loop.island) ≡ 0 = ap (λ (n : ℕ). length (restful_to Z t n c.loop.island)) z ∙ ap length (restful-none Z t c.loop.island) in
    let b = c.loop.invariant.1 in
    omega arith
