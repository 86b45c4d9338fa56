-- `table_audit::tables_sound` meets its contract. The parts hold just where the tables are well formed, at the extents that were read. Assumes nothing.
use mathlib.Core.Path.{refl}
use Rattle.list_in_table.specs.Rules.{Is}
use Rattle.table_meaning.specs.Layout.{tables}
use Rattle.table_audit.specs.Parts.{Within, Chained, Ruled, HeadAt}
use Rattle.table_audit.proofs.Laws.{and-yes, and-no, is-sound}
use Rattle.table_audit.proofs.tables_sound.Goals as goal
use Rattle.table_audit.proofs.tables_sound.Goals.{then-extents_fit, else-extents_fit, then-chains_sound, else-chains_sound, then-entries_sound, else-entries_sound}

pub returns-then-is_head : goal.returns-then-is_head
returns-then-is_head c =
    let Z = c.args.z in
    let T = tables Z c.args.t.now in
    let U = c.args.used in
    let a : Is c.if-extents_fit.value (Within Z U × Chained Z T U) =
    elim c.if-extents_fit.branch [ then-extents_fit w ↦ and-yes c.extents_fit.ensures w.if-extents_fit.true w.chains_sound.ensures w.value-is | else-extents_fit w ↦ and-no c.extents_fit.ensures w.if-extents_fit.false w.value-is ] in
    let b : Is c.if-chains_sound.value ((Within Z U × Chained Z T U) × Ruled Z T U) =
    elim c.if-chains_sound.branch [ then-chains_sound w ↦ and-yes a w.if-chains_sound.true w.entries_sound.ensures w.value-is | else-chains_sound w ↦ and-no a w.if-chains_sound.false w.value-is ] in
    let d : Is c.if-entries_sound.value (((Within Z U × Chained Z T U) × Ruled Z T U) × HeadAt Z T) =
    elim c.if-entries_sound.branch [ then-entries_sound w ↦ and-yes b w.if-entries_sound.true w.is_head.ensures w.value-is | else-entries_sound w ↦ and-no b w.if-entries_sound.false w.value-is ] in
    is-sound c.requires.1 c.requires.0 (and-yes d c.if-is_head.true c.keys_differ.ensures refl)

pub returns-else-is_head : goal.returns-else-is_head
returns-else-is_head c =
    let Z = c.args.z in
    let T = tables Z c.args.t.now in
    let U = c.args.used in
    let a : Is c.if-extents_fit.value (Within Z U × Chained Z T U) =
    elim c.if-extents_fit.branch [ then-extents_fit w ↦ and-yes c.extents_fit.ensures w.if-extents_fit.true w.chains_sound.ensures w.value-is | else-extents_fit w ↦ and-no c.extents_fit.ensures w.if-extents_fit.false w.value-is ] in
    let b : Is c.if-chains_sound.value ((Within Z U × Chained Z T U) × Ruled Z T U) =
    elim c.if-chains_sound.branch [ then-chains_sound w ↦ and-yes a w.if-chains_sound.true w.entries_sound.ensures w.value-is | else-chains_sound w ↦ and-no a w.if-chains_sound.false w.value-is ] in
    let d : Is c.if-entries_sound.value (((Within Z U × Chained Z T U) × Ruled Z T U) × HeadAt Z T) =
    elim c.if-entries_sound.branch [ then-entries_sound w ↦ and-yes b w.if-entries_sound.true w.is_head.ensures w.value-is | else-entries_sound w ↦ and-no b w.if-entries_sound.false w.value-is ] in
    is-sound c.requires.1 c.requires.0 (and-no d c.if-is_head.false refl)
