-- `list_audit::audit` meets its contract: the first chain asks the rule of each element, the second that of each list. Assumes nothing.
use borrow.Author.Rules.{rules}
use borrow.Author.Tests.{tests}
use mathlib.Core.Path.{refl}
use mathlib.Core.Logic.{◌⊎◌}
use Rattle.list_in_table.specs.Rules.{Blank, Held, Empty, Full}
use Rattle.list_in_table.specs.Table.{view}
use Rattle.list_audit.proofs.Laws.{all-below}
use Rattle.list_audit.proofs.audit.Goals as goal

pub returns-then-all : goal.returns-then-all
returns-then-all c =
    let S = view c.args.t.now c.args.base c.args.ends in
    let es = all-below _ _ c.args.n (λ e. Blank c.args.n c.args.m S e ⊎ Held c.args.n c.args.m S e) _ c.all.ensures.ran refl (λ x b q k. search (rules, tests)) in
    let ls = all-below _ _ c.args.m (λ i. Empty c.args.n c.args.m S i ⊎ Full c.args.n c.args.m S i) _ c.all-then-all.ensures.ran refl (λ x b q k. search (rules, tests)) in (
      (λ e. record {
        elems_below = c.requires.elems_below;
        lists_below = c.requires.lists_below;
        rules = record { n_small = c.requires.n_small; m_small = c.requires.m_small; elem = es.0 c.if-all.true; list = ls.0 e };
      }),
      (λ w. ls.1 w.rules.list),
    )
