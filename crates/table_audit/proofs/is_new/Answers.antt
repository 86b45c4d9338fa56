-- `table_audit::is_new` meets its contract. Assumes nothing.
use borrow.Author.Rules.{rules}
use borrow.Author.Tests.{tests}
use mathlib.Core.Path.{refl}
use Rattle.table_meaning.specs.Layout.{tables, joints_in}
use Rattle.table_audit.specs.Parts.{Other}
use Rattle.list_audit.proofs.Laws.{all-below}
use Rattle.table_audit.proofs.is_new.Goals as goal

pub returns-else-home : goal.returns-else-home
returns-else-home c =
    let T = tables c.args.z c.args.t.now in
    let home = (joints_in c.args.z T).home in
    let a = all-below _ _ c.args.p (Other home T.keys c.args.p) _ c.all.ensures.ran refl (λ x b q k. search (rules, tests)) in
    ((λ e l. a.0 e), (λ n. a.1 (n (search (rules, tests)))))
