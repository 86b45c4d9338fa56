-- `core_finish::write_restful` meets its contract. The loop has passed the end of the list, and what may sleep of it stands in the output from k on (`Written`).
use Prim.Native.Nat.{◌*◌}
use lib.ListN.{length, get_or}
use native.Mathlib.Omega.{arith}
use mathlib.Core.Path.{◌≡◌, ◌∙◌, ap}
use Prim.Native.Nat.{ℕ, ◌+◌, ◌-◌}
use Rattle.table_meaning.specs.Layout.{tables, scan_in}
use Rattle.core_finish.proofs.Restful.{written_start, written-room, written-more, written_whole, turn-less}
use Rattle.core_finish.proofs.write_restful.Goals as goal

pub loop-init : goal.loop-init
loop-init c = written_start (length c.args.out.now) (c.count-waiting.result - 0) c.last-island.result c.requires.0 c.requires.1 (omega arith) (omega (arith, c.count-waiting.ensures.0)) c.last-island.ensures.0

pub write_one-front-requires : goal.write_one-front-requires
write_one-front-requires c = (c.requires.0, (c.loop.invariant.stands (omega (arith, c.loop-test.true))).lt, λ h. written-room c.loop.invariant (omega (arith, c.loop-test.true)) h)

pub loop-preserved : goal.loop-preserved
loop-preserved c =
    let Z = c.args.z in
    let t = c.args.t.now in
    let e = c.loop.island in
    let n : 4 * e + 2 ≡ 0 + 4 * e + 2 = omega arith in
    let g : c.get-island.result ≡ (scan_in Z (tables Z t)).prev e = c.get-island.ensures.0 ∙ ap (λ (j : ℕ). get_or (tables Z t).scan j 0) n in
    rw (g, turn-less) (written-more c.write_one-front.result c.requires.0 c.loop.invariant (omega (arith, c.loop-test.true)) c.write_one-front.ensures)

pub returns : goal.returns
returns c = written_whole (omega (arith, c.loop-test.false)) c.requires.1 c.loop.invariant
