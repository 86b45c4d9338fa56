use native.Mathlib.Omega.{arith}
use mathlib.Core.Path.{sym, ◌∙◌}
use mathlib.Core.Logic.{inl, inr}
use Rattle.core_laws.proofs.Leave.{one-more}
use Rattle.core_laws.proofs.Unlink.{island-lives, island-same, island-other}
use Rattle.core_laws.proofs.Resolve.{counted_none, counted-some}
use Rattle.core_resolve.proofs.count_entry.Goals as goal

pub returns-in_default : goal.returns-in_default
returns-in_default c = counted_none c.args.first.slot.0 c.args.first.generation c.args.second.slot.0 c.args.second.generation c.requires (inl c.in_default.ensures)

pub get-removals-requires : goal.get-removals-requires
get-removals-requires c =
    let e = c.in-Some.ensures in
    let L = rw (sym e.0) at (island-lives c.args.first.slot.0 c.args.first.generation c.requires (λ x. e.1 (e.0 ∙ x))) in
    (c.requires.long, (let a = L.in_use in let b = c.requires.good.islands_le in omega arith))

pub set-requires : goal.set-requires
set-requires c =
    let e = c.in-Some.ensures in
    let L = rw (sym e.0) at (island-lives c.args.first.slot.0 c.args.first.generation c.requires (λ x. e.1 (e.0 ∙ x))) in
    (c.requires.long, (let a = L.in_use in let b = c.requires.good.islands_le in omega arith))

pub returns-then-eq : goal.returns-then-eq
returns-then-eq c =
    let e = c.in-Some.ensures in
    let L = rw (sym e.0) at (island-lives c.args.first.slot.0 c.args.first.generation c.requires (λ x. e.1 (e.0 ∙ x))) in
    let P = rw (c.saturating_add.ensures ∙ one-more c.get-removals.result c.get-removals.ensures.1, c.get-removals.ensures.0) at c.set.ensures in
    counted-some c.args.first.slot.0 c.args.first.generation c.args.second.slot.0 c.args.second.generation c.in-Some.i c.requires e.0 (island-same c.body_island-2.result c.in-Some.i c.body_island-2.ensures c.if-eq.ensures) e.1 L.in_use L.some P

pub returns-else-eq : goal.returns-else-eq
returns-else-eq c =
    let e = c.in-Some.ensures in
    counted_none c.args.first.slot.0 c.args.first.generation c.args.second.slot.0 c.args.second.generation c.requires (inr (λ q. island-other c.body_island-2.result c.in-Some.i c.body_island-2.ensures c.if-eq.ensures e.1 (e.0 ∙ q)))
