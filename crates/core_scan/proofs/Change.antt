-- The scan's list and its words change, and nothing else.
use mathlib.Core.Path.{◌≡◌, refl}
use mathlib.Core.List.{List, map}
use Prim.Native.Nat.{ℕ, ◌*◌, ◌<◌}
use lib.ListN.{length, get_or}
use Rattle.list_in_table.specs.Rules.{View, list_of}
use Rattle.list_in_table.specs.Table.{view, Wf}
use Rattle.def_kinds.specs.declared.Sizes.{Sizes}
use Rattle.def_state.specs.World.{Observed, done}
use Rattle.def_state.specs.Fields.{scan_set}
use Rattle.table_meaning.specs.Layout.{Tables, tables, total, scan_put, fit_put, Extents, extents, scan_in}
use Rattle.table_meaning.specs.Decode.{observed_at, decode}
use Rattle.table_meaning.specs.Rule.{ScanRule, HeadRule}
use Rattle.table_meaning.specs.Sound.{Good, Sound}
use Rattle.table_meaning.specs.Does.{RowsKept, ChainKept, SameBehind}
use Rattle.table_meaning.proofs.Frame.{larger-refl, kept_then, kept-scan, kept-fit}
use Rattle.core_laws.specs.Steps.{Steps}
use Rattle.core_laws.proofs.Good.{world_is}
use Rattle.core_laws.proofs.At.{steps-at}

module _ (Z : Sizes) (X : Extents) (T : Tables) (C F : List ℕ) where
  -- C is the scan's list now, and F its words
  abbrev pub changed : Tables
  changed = fit_put (scan_put T C) F

  abbrev S : View
  S = view C 0 (4 * Z.islands)

  -- what that asks
  pub record Change : Type 0 where
    pub wf : Wf C 0 (4 * Z.islands) X.islands 1
    pub seen : (k : ℕ) → k < X.islands → ScanRule (S.home k) (get_or F k 0)
    pub head : HeadRule (get_or T.head 5 0) (get_or T.head 6 0) (get_or T.head 8 0) (S.count 0)
    pub scan_kept : ChainKept Z.islands X.islands 1 T.scan C
    pub fit_kept : RowsKept X.islands T.fit F

  change-good : Good Z X T → Change → Good Z X changed
  change-good G D =
      record {
        enough = G.enough;
        slots_le = G.slots_le;
        islands_le = G.islands_le;
        edges_le = G.edges_le;
        joints_le = G.joints_le;
        journal_le = G.journal_le;
        members_wf = G.members_wf;
        freed_wf = G.freed_wf;
        contacts_wf = G.contacts_wf;
        joints_wf = G.joints_wf;
        spare_wf = G.spare_wf;
        scan_wf = D.wf;
        slot = G.slot;
        island = G.island;
        seen = D.seen;
        edge = G.edge;
        joint = G.joint;
        distinct = G.distinct;
        head = D.head;
      }

  change-kept : Change → SameBehind Z X T changed
  change-kept D = kept_then (larger-refl X) (kept-scan D.scan_kept) (kept-fit D.fit_kept)

  change-world : (os : List Observed) → map (observed_at F) (list_of S 0) ≡ os
      → decode Z X changed ≡ scan_set (decode Z X T) (decode Z X T).sleep_scan_stamp (decode Z X T).scanning os
  change-world os e = world_is refl refl refl refl refl refl refl refl refl refl e

-- the step: what was observed becomes g of it
pub change-steps : {Z : Sizes} {t : List ℕ} (t' C F : List ℕ) (g : List Observed → List Observed) → Sound Z t → length t' ≡ total Z
    → tables Z t' ≡ changed Z (extents (tables Z t)) (tables Z t) C F → Change Z (extents (tables Z t)) (tables Z t) C F
    → map (observed_at F) (list_of (view C 0 (4 * Z.islands)) 0) ≡ g (map (observed_at (tables Z t).fit) (list_of (scan_in Z (tables Z t)) 0))
    → Steps Z (λ w. done (scan_set w w.sleep_scan_stamp w.scanning (g w.sleep_scan_touched))) t t'
change-steps {Z} {t} t' C F g S l e D o =
    let T = tables Z t in
    let X = extents T in
    steps-at t' (λ w. scan_set w w.sleep_scan_stamp w.scanning (g w.sleep_scan_touched)) X (changed Z X T C F) e refl l (change-good Z X T C F S.good D)
    (change-world Z X T C F (g (map (observed_at T.fit) (list_of (scan_in Z T) 0))) o)
    (change-kept Z X T C F D)
    (larger-refl X)
