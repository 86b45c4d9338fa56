-- The tables that links are no part of, one change after another.
use mathlib.Core.Path.{◌≡◌, refl, ◌∙◌}
use Rattle.table_meaning.specs.Layout.{Tables, extents}
use Rattle.core_laws.specs.Drops.{Stays}

pub stays-refl : (T : Tables) → Stays T T
stays-refl T = record { head = refl; slots = refl; members = refl; rows = refl; freed = refl; journal = refl; scan = refl; fit = refl }

pub stays_then : {T U W : Tables} → Stays T U → Stays U W → Stays T W
stays_then A B =
    record {
      head = B.head ∙ A.head;
      slots = B.slots ∙ A.slots;
      members = B.members ∙ A.members;
      rows = B.rows ∙ A.rows;
      freed = B.freed ∙ A.freed;
      journal = B.journal ∙ A.journal;
      scan = B.scan ∙ A.scan;
      fit = B.fit ∙ A.fit;
    }

-- as much is in use as before
pub stays-extents : {T U : Tables} → Stays T U → extents U ≡ extents T
stays-extents A = rw A.head
