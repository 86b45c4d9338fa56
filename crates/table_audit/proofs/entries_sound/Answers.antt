-- `table_audit::entries_sound` meets its contract: each chain asks one rule of each entry. Assumes nothing.
use borrow.Author.Rules.{rules}
use borrow.Author.Tests.{tests}
use mathlib.Core.Path.{refl}
use Prim.Native.Nat.{ℕ, ◌<◌}
use Rattle.list_in_table.specs.Rules.{Is}
use Rattle.list_audit.proofs.Laws.{all-below}
use Rattle.table_meaning.specs.Layout.{tables}
use Rattle.table_meaning.specs.Sound.{SlotAt, IslandAt, SeenAt, EdgeAt, JointAt}
use Rattle.table_audit.proofs.Laws.{and-yes, and-no, is-ruled}
use Rattle.table_audit.proofs.entries_sound.Goals as goal
use Rattle.table_audit.proofs.entries_sound.Goals.{then-all, else-all, then-all-2, else-all-2, then-all-3, else-all-3}

pub returns-then-all-4 : goal.returns-then-all-4
returns-then-all-4 c =
    let Z = c.args.z in
    let T = tables Z c.args.t.now in
    let U = c.args.used in
    let slots = all-below _ _ U.slots (SlotAt Z T) _ c.all.ensures.ran refl (λ x b q k. search (rules, tests)) in
    let islands : Is c.if-all.value (((s : ℕ) → s < U.slots → SlotAt Z T s) × ((k : ℕ) → k < U.islands → IslandAt Z T k)) =
    elim c.if-all.branch [ then-all w ↦ and-yes slots w.if-all.true (all-below _ _ U.islands (IslandAt Z T) _ w.all-then-all.ensures.ran refl (λ x b q k. search (rules, tests))) w.value-is | else-all w ↦ and-no slots w.if-all.false w.value-is ] in
    let seen : Is c.if-all-2.value ((((s : ℕ) → s < U.slots → SlotAt Z T s) × ((k : ℕ) → k < U.islands → IslandAt Z T k)) × ((k : ℕ) → k < U.islands → SeenAt Z T k)) =
    elim c.if-all-2.branch [ then-all-2 w ↦ and-yes islands w.if-all-2.true (all-below _ _ U.islands (SeenAt Z T) _ w.all-then-all-2.ensures.ran refl (λ x b q k. search (rules, tests))) w.value-is | else-all-2 w ↦ and-no islands w.if-all-2.false w.value-is ] in
    let edges : Is c.if-all-3.value (((((s : ℕ) → s < U.slots → SlotAt Z T s) × ((k : ℕ) → k < U.islands → IslandAt Z T k)) × ((k : ℕ) → k < U.islands → SeenAt Z T k)) × ((k : ℕ) → k < U.edges → EdgeAt Z T k)) =
    elim c.if-all-3.branch [ then-all-3 w ↦ and-yes seen w.if-all-3.true (all-below _ _ U.edges (EdgeAt Z T) _ w.all-then-all-3.ensures.ran refl (λ x b q k. search (rules, tests))) w.value-is | else-all-3 w ↦ and-no seen w.if-all-3.false w.value-is ] in
    is-ruled (and-yes edges c.if-all-4.true (all-below _ _ U.joints (JointAt Z T) _ c.all-then-all-4.ensures.ran refl (λ x b q k. search (rules, tests))) refl)

pub returns-else-all-4 : goal.returns-else-all-4
returns-else-all-4 c =
    let Z = c.args.z in
    let T = tables Z c.args.t.now in
    let U = c.args.used in
    let slots = all-below _ _ U.slots (SlotAt Z T) _ c.all.ensures.ran refl (λ x b q k. search (rules, tests)) in
    let islands : Is c.if-all.value (((s : ℕ) → s < U.slots → SlotAt Z T s) × ((k : ℕ) → k < U.islands → IslandAt Z T k)) =
    elim c.if-all.branch [ then-all w ↦ and-yes slots w.if-all.true (all-below _ _ U.islands (IslandAt Z T) _ w.all-then-all.ensures.ran refl (λ x b q k. search (rules, tests))) w.value-is | else-all w ↦ and-no slots w.if-all.false w.value-is ] in
    let seen : Is c.if-all-2.value ((((s : ℕ) → s < U.slots → SlotAt Z T s) × ((k : ℕ) → k < U.islands → IslandAt Z T k)) × ((k : ℕ) → k < U.islands → SeenAt Z T k)) =
    elim c.if-all-2.branch [ then-all-2 w ↦ and-yes islands w.if-all-2.true (all-below _ _ U.islands (SeenAt Z T) _ w.all-then-all-2.ensures.ran refl (λ x b q k. search (rules, tests))) w.value-is | else-all-2 w ↦ and-no islands w.if-all-2.false w.value-is ] in
    let edges : Is c.if-all-3.value (((((s : ℕ) → s < U.slots → SlotAt Z T s) × ((k : ℕ) → k < U.islands → IslandAt Z T k)) × ((k : ℕ) → k < U.islands → SeenAt Z T k)) × ((k : ℕ) → k < U.edges → EdgeAt Z T k)) =
    elim c.if-all-3.branch [ then-all-3 w ↦ and-yes seen w.if-all-3.true (all-below _ _ U.edges (EdgeAt Z T) _ w.all-then-all-3.ensures.ran refl (λ x b q k. search (rules, tests))) w.value-is | else-all-3 w ↦ and-no seen w.if-all-3.false w.value-is ] in
    is-ruled (and-no edges c.if-all-4.false refl)
