-- `core_joint::find_words` meets its contract: the chain asks of each place in use whether it is linked with the key. Assumes nothing.
use borrow.Author.Rules.{rules}
use borrow.Author.Tests.{tests}
use Rattle.std.proofs.lemmas.Iterator.{first_from_Range}
use Rattle.table_meaning.specs.Layout.{tables}
use Rattle.core_laws.specs.Places.{LinkedAs}
use Rattle.core_joint.proofs.Laws.{placed}
use Rattle.core_joint.proofs.find_words.Goals as goal

pub returns : goal.returns
returns c =
    let T = tables c.args.z c.args.t.now in
    let w = c.args.key in
    placed c.args.z T w c.get-in_use.ensures.0 c.find.result
    (first_from_Range _ _ _ c.find.result (λ p. LinkedAs c.args.z T w.kind w.first w.second w.third p) (λ p. LinkedAs c.args.z T w.kind w.first w.second w.third p → ⊥) c.find.ensures.ran
    (λ x q k. search (rules, tests))
    (λ x q k. search (rules, tests)))
