-- `table_audit::keys_differ` meets its contract. Assumes nothing.
use borrow.Author.Rules.{rules}
use borrow.Author.Tests.{tests}
use mathlib.Core.Path.{refl}
use Rattle.table_meaning.specs.Layout.{tables, joints_in}
use Rattle.table_audit.specs.Parts.{New}
use Rattle.list_audit.proofs.Laws.{all-below}
use Rattle.table_audit.proofs.Laws.{is_same, all-differ, all_new}
use Rattle.table_audit.proofs.keys_differ.Goals as goal

pub returns : goal.returns
returns c =
    let T = tables c.args.z c.args.t.now in
    let home = (joints_in c.args.z T).home in
    is_same (all-differ home T.keys c.args.n) (all_new home T.keys c.args.n)
    (all-below _ _ c.args.n (New home T.keys) _ c.all.ensures.ran refl (λ x b q k. search (rules, tests)))
