-- `core_renumber::hand_over` meets its contract, by the law of the three tables that it changes. Assumes nothing.
use Rattle.core_laws.proofs.Renumber.{handed}
use Rattle.core_renumber.proofs.hand_over.Goals as goal

pub returns : goal.returns
returns c =
    let a = c.handle_at-first.result in
    let b = c.handle_at-second.result in
    handed c.args.removed c.args.last a.slot.0 a.generation b.slot.0 b.generation c.requires c.handle_at-first.ensures c.handle_at-second.ensures c.rename_at.ensures c.set_all.ensures c.set.ensures
