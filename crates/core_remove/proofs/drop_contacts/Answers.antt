-- `core_remove::drop_contacts` meets its contract. The loop keeps: what it has dropped and the links that are there yet are `links`, and dropping those clears the list of the tables at the start.
use native.Mathlib.Omega.{arith}
use Rattle.core_laws.proofs.DropContact.{cleared-none, cleared_more}
use Rattle.core_remove.proofs.drop_contacts.Goals as goal

pub loop-preserved : goal.loop-preserved
loop-preserved c =
    let D = c.drop_contact.ensures in (
      D.steps.does.sound,
      (let l = D.steps.larger.islands in omega (arith, c.loop.invariant.1)),
      (let f = D.fewer in omega (arith, c.loop.invariant.2, c.loop-test.true)),
      λ u h. c.loop.invariant.3 u (cleared_more c.args.i D h),
    )

pub returns : goal.returns
returns c = c.loop.invariant.3 _ (cleared-none c.args.i c.loop.invariant.0 c.loop.invariant.1 (omega (arith, c.loop.invariant.2, c.loop-test.false)))
