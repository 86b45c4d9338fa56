-- No less in use than before.
use Rattle.std.specs.Prelude.{◌≤◌}
use Rattle.table_meaning.specs.Layout.{Extents}

-- no extent of Y is below that of X
pub record Larger (X Y : Extents) : Type 0 where
  pub slots : X.slots ≤ Y.slots
  pub islands : X.islands ≤ Y.islands
  pub edges : X.edges ≤ Y.edges
  pub joints : X.joints ≤ Y.joints
  pub journal : X.journal ≤ Y.journal
