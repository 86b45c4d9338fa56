-- The buffer's tables after one of them was put.
use mathlib.Core.Path.{◌≡◌, refl}
use mathlib.Core.Logic.{inl, inr}
use mathlib.Core.List.{List}
use Prim.Native.Nat.{ℕ, ◌+◌, ◌*◌, ◌≤◌}
use native.Mathlib.Omega.{arith}
use lib.ListN.{length}
use Rattle.list_in_buffer.specs.Part.{part, Put}
use Rattle.list_in_buffer.proofs.Laws.{length_part}
use Rattle.def_kinds.specs.declared.Sizes.{Sizes}
use Rattle.table_meaning.specs.declared.Table.{Table}
use Rattle.table_meaning.specs.declared.Table.TheVariants.{Head, Slots, Members, Rows, Freed, Contacts, Touches, Joints, Keys, Spare, Journal, Scan, Fit}
use Rattle.table_meaning.specs.Layout.{Tables, tables, total, table_at, table_span, table_of, table_put, room, list_room, head_at, head_span, head_put, slots_at, slots_span, slots_put, members_at, members_span, members_put, rows_at, rows_span, rows_put, freed_at, freed_span, freed_put, contacts_at, contacts_span, contacts_put, touches_at, touches_span, touches_put, joints_at, joints_span, joints_put, keys_at, keys_span, keys_put, spare_at, spare_span, spare_put, journal_at, journal_span, journal_put, scan_at, scan_span, scan_put, fit_at, fit_span, fit_put}

-- the tables' lengths
pub record Sized (Z : Sizes) (T : Tables) : Type 0 where
  pub head_length : length T.head ≡ head_span Z
  pub slots_length : length T.slots ≡ slots_span Z
  pub members_length : length T.members ≡ members_span Z
  pub rows_length : length T.rows ≡ rows_span Z
  pub freed_length : length T.freed ≡ freed_span Z
  pub contacts_length : length T.contacts ≡ contacts_span Z
  pub touches_length : length T.touches ≡ touches_span Z
  pub joints_length : length T.joints ≡ joints_span Z
  pub keys_length : length T.keys ≡ keys_span Z
  pub spare_length : length T.spare ≡ spare_span Z
  pub journal_length : length T.journal ≡ journal_span Z
  pub scan_length : length T.scan ≡ scan_span Z
  pub fit_length : length T.fit ≡ fit_span Z

pub sized : (Z : Sizes) (t : List ℕ) → length t ≡ total Z → Sized Z (tables Z t)
sized Z t l =
    record {
      head_length = length_part t (head_at Z) (head_span Z) (omega arith);
      slots_length = length_part t (slots_at Z) (slots_span Z) (omega arith);
      members_length = length_part t (members_at Z) (members_span Z) (omega arith);
      rows_length = length_part t (rows_at Z) (rows_span Z) (omega arith);
      freed_length = length_part t (freed_at Z) (freed_span Z) (omega arith);
      contacts_length = length_part t (contacts_at Z) (contacts_span Z) (omega arith);
      touches_length = length_part t (touches_at Z) (touches_span Z) (omega arith);
      joints_length = length_part t (joints_at Z) (joints_span Z) (omega arith);
      keys_length = length_part t (keys_at Z) (keys_span Z) (omega arith);
      spare_length = length_part t (spare_at Z) (spare_span Z) (omega arith);
      journal_length = length_part t (journal_at Z) (journal_span Z) (omega arith);
      scan_length = length_part t (scan_at Z) (scan_span Z) (omega arith);
      fit_length = length_part t (fit_at Z) (fit_span Z) (omega arith);
    }

module _ (Z : Sizes) (t t' ys : List ℕ) (long : length t ≡ total Z) where
  pub put-head : Put (head_at Z) (head_span Z) t t' ys → tables Z t' ≡ head_put (tables Z t) ys
  put-head P =
      rw (
        P.here,
        P.apart (slots_at Z) (slots_span Z) (omega arith) (inr (omega arith)),
        P.apart (members_at Z) (members_span Z) (omega arith) (inr (omega arith)),
        P.apart (rows_at Z) (rows_span Z) (omega arith) (inr (omega arith)),
        P.apart (freed_at Z) (freed_span Z) (omega arith) (inr (omega arith)),
        P.apart (contacts_at Z) (contacts_span Z) (omega arith) (inr (omega arith)),
        P.apart (touches_at Z) (touches_span Z) (omega arith) (inr (omega arith)),
        P.apart (joints_at Z) (joints_span Z) (omega arith) (inr (omega arith)),
        P.apart (keys_at Z) (keys_span Z) (omega arith) (inr (omega arith)),
        P.apart (spare_at Z) (spare_span Z) (omega arith) (inr (omega arith)),
        P.apart (journal_at Z) (journal_span Z) (omega arith) (inr (omega arith)),
        P.apart (scan_at Z) (scan_span Z) (omega arith) (inr (omega arith)),
        P.apart (fit_at Z) (fit_span Z) (omega arith) (inr (omega arith)),
      )

  pub put-slots : Put (slots_at Z) (slots_span Z) t t' ys → tables Z t' ≡ slots_put (tables Z t) ys
  put-slots P =
      rw (
        P.apart (head_at Z) (head_span Z) (omega arith) (inl (omega arith)),
        P.here,
        P.apart (members_at Z) (members_span Z) (omega arith) (inr (omega arith)),
        P.apart (rows_at Z) (rows_span Z) (omega arith) (inr (omega arith)),
        P.apart (freed_at Z) (freed_span Z) (omega arith) (inr (omega arith)),
        P.apart (contacts_at Z) (contacts_span Z) (omega arith) (inr (omega arith)),
        P.apart (touches_at Z) (touches_span Z) (omega arith) (inr (omega arith)),
        P.apart (joints_at Z) (joints_span Z) (omega arith) (inr (omega arith)),
        P.apart (keys_at Z) (keys_span Z) (omega arith) (inr (omega arith)),
        P.apart (spare_at Z) (spare_span Z) (omega arith) (inr (omega arith)),
        P.apart (journal_at Z) (journal_span Z) (omega arith) (inr (omega arith)),
        P.apart (scan_at Z) (scan_span Z) (omega arith) (inr (omega arith)),
        P.apart (fit_at Z) (fit_span Z) (omega arith) (inr (omega arith)),
      )

  pub put-members : Put (members_at Z) (members_span Z) t t' ys → tables Z t' ≡ members_put (tables Z t) ys
  put-members P =
      rw (
        P.apart (head_at Z) (head_span Z) (omega arith) (inl (omega arith)),
        P.apart (slots_at Z) (slots_span Z) (omega arith) (inl (omega arith)),
        P.here,
        P.apart (rows_at Z) (rows_span Z) (omega arith) (inr (omega arith)),
        P.apart (freed_at Z) (freed_span Z) (omega arith) (inr (omega arith)),
        P.apart (contacts_at Z) (contacts_span Z) (omega arith) (inr (omega arith)),
        P.apart (touches_at Z) (touches_span Z) (omega arith) (inr (omega arith)),
        P.apart (joints_at Z) (joints_span Z) (omega arith) (inr (omega arith)),
        P.apart (keys_at Z) (keys_span Z) (omega arith) (inr (omega arith)),
        P.apart (spare_at Z) (spare_span Z) (omega arith) (inr (omega arith)),
        P.apart (journal_at Z) (journal_span Z) (omega arith) (inr (omega arith)),
        P.apart (scan_at Z) (scan_span Z) (omega arith) (inr (omega arith)),
        P.apart (fit_at Z) (fit_span Z) (omega arith) (inr (omega arith)),
      )

  pub put-rows : Put (rows_at Z) (rows_span Z) t t' ys → tables Z t' ≡ rows_put (tables Z t) ys
  put-rows P =
      rw (
        P.apart (head_at Z) (head_span Z) (omega arith) (inl (omega arith)),
        P.apart (slots_at Z) (slots_span Z) (omega arith) (inl (omega arith)),
        P.apart (members_at Z) (members_span Z) (omega arith) (inl (omega arith)),
        P.here,
        P.apart (freed_at Z) (freed_span Z) (omega arith) (inr (omega arith)),
        P.apart (contacts_at Z) (contacts_span Z) (omega arith) (inr (omega arith)),
        P.apart (touches_at Z) (touches_span Z) (omega arith) (inr (omega arith)),
        P.apart (joints_at Z) (joints_span Z) (omega arith) (inr (omega arith)),
        P.apart (keys_at Z) (keys_span Z) (omega arith) (inr (omega arith)),
        P.apart (spare_at Z) (spare_span Z) (omega arith) (inr (omega arith)),
        P.apart (journal_at Z) (journal_span Z) (omega arith) (inr (omega arith)),
        P.apart (scan_at Z) (scan_span Z) (omega arith) (inr (omega arith)),
        P.apart (fit_at Z) (fit_span Z) (omega arith) (inr (omega arith)),
      )

  pub put-freed : Put (freed_at Z) (freed_span Z) t t' ys → tables Z t' ≡ freed_put (tables Z t) ys
  put-freed P =
      rw (
        P.apart (head_at Z) (head_span Z) (omega arith) (inl (omega arith)),
        P.apart (slots_at Z) (slots_span Z) (omega arith) (inl (omega arith)),
        P.apart (members_at Z) (members_span Z) (omega arith) (inl (omega arith)),
        P.apart (rows_at Z) (rows_span Z) (omega arith) (inl (omega arith)),
        P.here,
        P.apart (contacts_at Z) (contacts_span Z) (omega arith) (inr (omega arith)),
        P.apart (touches_at Z) (touches_span Z) (omega arith) (inr (omega arith)),
        P.apart (joints_at Z) (joints_span Z) (omega arith) (inr (omega arith)),
        P.apart (keys_at Z) (keys_span Z) (omega arith) (inr (omega arith)),
        P.apart (spare_at Z) (spare_span Z) (omega arith) (inr (omega arith)),
        P.apart (journal_at Z) (journal_span Z) (omega arith) (inr (omega arith)),
        P.apart (scan_at Z) (scan_span Z) (omega arith) (inr (omega arith)),
        P.apart (fit_at Z) (fit_span Z) (omega arith) (inr (omega arith)),
      )

  pub put-contacts : Put (contacts_at Z) (contacts_span Z) t t' ys → tables Z t' ≡ contacts_put (tables Z t) ys
  put-contacts P =
      rw (
        P.apart (head_at Z) (head_span Z) (omega arith) (inl (omega arith)),
        P.apart (slots_at Z) (slots_span Z) (omega arith) (inl (omega arith)),
        P.apart (members_at Z) (members_span Z) (omega arith) (inl (omega arith)),
        P.apart (rows_at Z) (rows_span Z) (omega arith) (inl (omega arith)),
        P.apart (freed_at Z) (freed_span Z) (omega arith) (inl (omega arith)),
        P.here,
        P.apart (touches_at Z) (touches_span Z) (omega arith) (inr (omega arith)),
        P.apart (joints_at Z) (joints_span Z) (omega arith) (inr (omega arith)),
        P.apart (keys_at Z) (keys_span Z) (omega arith) (inr (omega arith)),
        P.apart (spare_at Z) (spare_span Z) (omega arith) (inr (omega arith)),
        P.apart (journal_at Z) (journal_span Z) (omega arith) (inr (omega arith)),
        P.apart (scan_at Z) (scan_span Z) (omega arith) (inr (omega arith)),
        P.apart (fit_at Z) (fit_span Z) (omega arith) (inr (omega arith)),
      )

  pub put-touches : Put (touches_at Z) (touches_span Z) t t' ys → tables Z t' ≡ touches_put (tables Z t) ys
  put-touches P =
      rw (
        P.apart (head_at Z) (head_span Z) (omega arith) (inl (omega arith)),
        P.apart (slots_at Z) (slots_span Z) (omega arith) (inl (omega arith)),
        P.apart (members_at Z) (members_span Z) (omega arith) (inl (omega arith)),
        P.apart (rows_at Z) (rows_span Z) (omega arith) (inl (omega arith)),
        P.apart (freed_at Z) (freed_span Z) (omega arith) (inl (omega arith)),
        P.apart (contacts_at Z) (contacts_span Z) (omega arith) (inl (omega arith)),
        P.here,
        P.apart (joints_at Z) (joints_span Z) (omega arith) (inr (omega arith)),
        P.apart (keys_at Z) (keys_span Z) (omega arith) (inr (omega arith)),
        P.apart (spare_at Z) (spare_span Z) (omega arith) (inr (omega arith)),
        P.apart (journal_at Z) (journal_span Z) (omega arith) (inr (omega arith)),
        P.apart (scan_at Z) (scan_span Z) (omega arith) (inr (omega arith)),
        P.apart (fit_at Z) (fit_span Z) (omega arith) (inr (omega arith)),
      )

  pub put-joints : Put (joints_at Z) (joints_span Z) t t' ys → tables Z t' ≡ joints_put (tables Z t) ys
  put-joints P =
      rw (
        P.apart (head_at Z) (head_span Z) (omega arith) (inl (omega arith)),
        P.apart (slots_at Z) (slots_span Z) (omega arith) (inl (omega arith)),
        P.apart (members_at Z) (members_span Z) (omega arith) (inl (omega arith)),
        P.apart (rows_at Z) (rows_span Z) (omega arith) (inl (omega arith)),
        P.apart (freed_at Z) (freed_span Z) (omega arith) (inl (omega arith)),
        P.apart (contacts_at Z) (contacts_span Z) (omega arith) (inl (omega arith)),
        P.apart (touches_at Z) (touches_span Z) (omega arith) (inl (omega arith)),
        P.here,
        P.apart (keys_at Z) (keys_span Z) (omega arith) (inr (omega arith)),
        P.apart (spare_at Z) (spare_span Z) (omega arith) (inr (omega arith)),
        P.apart (journal_at Z) (journal_span Z) (omega arith) (inr (omega arith)),
        P.apart (scan_at Z) (scan_span Z) (omega arith) (inr (omega arith)),
        P.apart (fit_at Z) (fit_span Z) (omega arith) (inr (omega arith)),
      )

  pub put-keys : Put (keys_at Z) (keys_span Z) t t' ys → tables Z t' ≡ keys_put (tables Z t) ys
  put-keys P =
      rw (
        P.apart (head_at Z) (head_span Z) (omega arith) (inl (omega arith)),
        P.apart (slots_at Z) (slots_span Z) (omega arith) (inl (omega arith)),
        P.apart (members_at Z) (members_span Z) (omega arith) (inl (omega arith)),
        P.apart (rows_at Z) (rows_span Z) (omega arith) (inl (omega arith)),
        P.apart (freed_at Z) (freed_span Z) (omega arith) (inl (omega arith)),
        P.apart (contacts_at Z) (contacts_span Z) (omega arith) (inl (omega arith)),
        P.apart (touches_at Z) (touches_span Z) (omega arith) (inl (omega arith)),
        P.apart (joints_at Z) (joints_span Z) (omega arith) (inl (omega arith)),
        P.here,
        P.apart (spare_at Z) (spare_span Z) (omega arith) (inr (omega arith)),
        P.apart (journal_at Z) (journal_span Z) (omega arith) (inr (omega arith)),
        P.apart (scan_at Z) (scan_span Z) (omega arith) (inr (omega arith)),
        P.apart (fit_at Z) (fit_span Z) (omega arith) (inr (omega arith)),
      )

  pub put-spare : Put (spare_at Z) (spare_span Z) t t' ys → tables Z t' ≡ spare_put (tables Z t) ys
  put-spare P =
      rw (
        P.apart (head_at Z) (head_span Z) (omega arith) (inl (omega arith)),
        P.apart (slots_at Z) (slots_span Z) (omega arith) (inl (omega arith)),
        P.apart (members_at Z) (members_span Z) (omega arith) (inl (omega arith)),
        P.apart (rows_at Z) (rows_span Z) (omega arith) (inl (omega arith)),
        P.apart (freed_at Z) (freed_span Z) (omega arith) (inl (omega arith)),
        P.apart (contacts_at Z) (contacts_span Z) (omega arith) (inl (omega arith)),
        P.apart (touches_at Z) (touches_span Z) (omega arith) (inl (omega arith)),
        P.apart (joints_at Z) (joints_span Z) (omega arith) (inl (omega arith)),
        P.apart (keys_at Z) (keys_span Z) (omega arith) (inl (omega arith)),
        P.here,
        P.apart (journal_at Z) (journal_span Z) (omega arith) (inr (omega arith)),
        P.apart (scan_at Z) (scan_span Z) (omega arith) (inr (omega arith)),
        P.apart (fit_at Z) (fit_span Z) (omega arith) (inr (omega arith)),
      )

  pub put-journal : Put (journal_at Z) (journal_span Z) t t' ys → tables Z t' ≡ journal_put (tables Z t) ys
  put-journal P =
      rw (
        P.apart (head_at Z) (head_span Z) (omega arith) (inl (omega arith)),
        P.apart (slots_at Z) (slots_span Z) (omega arith) (inl (omega arith)),
        P.apart (members_at Z) (members_span Z) (omega arith) (inl (omega arith)),
        P.apart (rows_at Z) (rows_span Z) (omega arith) (inl (omega arith)),
        P.apart (freed_at Z) (freed_span Z) (omega arith) (inl (omega arith)),
        P.apart (contacts_at Z) (contacts_span Z) (omega arith) (inl (omega arith)),
        P.apart (touches_at Z) (touches_span Z) (omega arith) (inl (omega arith)),
        P.apart (joints_at Z) (joints_span Z) (omega arith) (inl (omega arith)),
        P.apart (keys_at Z) (keys_span Z) (omega arith) (inl (omega arith)),
        P.apart (spare_at Z) (spare_span Z) (omega arith) (inl (omega arith)),
        P.here,
        P.apart (scan_at Z) (scan_span Z) (omega arith) (inr (omega arith)),
        P.apart (fit_at Z) (fit_span Z) (omega arith) (inr (omega arith)),
      )

  pub put-scan : Put (scan_at Z) (scan_span Z) t t' ys → tables Z t' ≡ scan_put (tables Z t) ys
  put-scan P =
      rw (
        P.apart (head_at Z) (head_span Z) (omega arith) (inl (omega arith)),
        P.apart (slots_at Z) (slots_span Z) (omega arith) (inl (omega arith)),
        P.apart (members_at Z) (members_span Z) (omega arith) (inl (omega arith)),
        P.apart (rows_at Z) (rows_span Z) (omega arith) (inl (omega arith)),
        P.apart (freed_at Z) (freed_span Z) (omega arith) (inl (omega arith)),
        P.apart (contacts_at Z) (contacts_span Z) (omega arith) (inl (omega arith)),
        P.apart (touches_at Z) (touches_span Z) (omega arith) (inl (omega arith)),
        P.apart (joints_at Z) (joints_span Z) (omega arith) (inl (omega arith)),
        P.apart (keys_at Z) (keys_span Z) (omega arith) (inl (omega arith)),
        P.apart (spare_at Z) (spare_span Z) (omega arith) (inl (omega arith)),
        P.apart (journal_at Z) (journal_span Z) (omega arith) (inl (omega arith)),
        P.here,
        P.apart (fit_at Z) (fit_span Z) (omega arith) (inr (omega arith)),
      )

  pub put_fit : Put (fit_at Z) (fit_span Z) t t' ys → tables Z t' ≡ fit_put (tables Z t) ys
  put_fit P =
      rw (
        P.apart (head_at Z) (head_span Z) (omega arith) (inl (omega arith)),
        P.apart (slots_at Z) (slots_span Z) (omega arith) (inl (omega arith)),
        P.apart (members_at Z) (members_span Z) (omega arith) (inl (omega arith)),
        P.apart (rows_at Z) (rows_span Z) (omega arith) (inl (omega arith)),
        P.apart (freed_at Z) (freed_span Z) (omega arith) (inl (omega arith)),
        P.apart (contacts_at Z) (contacts_span Z) (omega arith) (inl (omega arith)),
        P.apart (touches_at Z) (touches_span Z) (omega arith) (inl (omega arith)),
        P.apart (joints_at Z) (joints_span Z) (omega arith) (inl (omega arith)),
        P.apart (keys_at Z) (keys_span Z) (omega arith) (inl (omega arith)),
        P.apart (spare_at Z) (spare_span Z) (omega arith) (inl (omega arith)),
        P.apart (journal_at Z) (journal_span Z) (omega arith) (inl (omega arith)),
        P.apart (scan_at Z) (scan_span Z) (omega arith) (inl (omega arith)),
        P.here,
      )

  -- whichever it was
  pub put-table : (k : Table) → Put (table_at Z k) (table_span Z k) t t' ys → tables Z t' ≡ table_put k (tables Z t) ys
  put-table Head P = put-head P
  put-table Slots P = put-slots P
  put-table Members P = put-members P
  put-table Rows P = put-rows P
  put-table Freed P = put-freed P
  put-table Contacts P = put-contacts P
  put-table Touches P = put-touches P
  put-table Joints P = put-joints P
  put-table Keys P = put-keys P
  put-table Spare P = put-spare P
  put-table Journal P = put-journal P
  put-table Scan P = put-scan P
  put-table Fit P = put_fit P

-- a table lies in the buffer; the words of its elements and of its lists lie in it; and what it is a part of
pub inside : (Z : Sizes) (k : Table) → table_at Z k + table_span Z k ≤ total Z
inside Z Head = omega arith
inside Z Slots = omega arith
inside Z Members = omega arith
inside Z Rows = omega arith
inside Z Freed = omega arith
inside Z Contacts = omega arith
inside Z Touches = omega arith
inside Z Joints = omega arith
inside Z Keys = omega arith
inside Z Spare = omega arith
inside Z Journal = omega arith
inside Z Scan = omega arith
inside Z Fit = omega arith

pub part-is : (Z : Sizes) (k : Table) (t : List ℕ) → part t (table_at Z k) (table_span Z k) ≡ table_of k (tables Z t)
part-is Z Head t = refl
part-is Z Slots t = refl
part-is Z Members t = refl
part-is Z Rows t = refl
part-is Z Freed t = refl
part-is Z Contacts t = refl
part-is Z Touches t = refl
part-is Z Joints t = refl
part-is Z Keys t = refl
part-is Z Spare t = refl
part-is Z Journal t = refl
part-is Z Scan t = refl
part-is Z Fit t = refl

pub chain-long : (Z : Sizes) (k : Table) → 4 * room Z k + 2 * list_room Z k ≤ table_span Z k
chain-long Z Head = omega arith
chain-long Z Slots = omega arith
chain-long Z Members = omega arith
chain-long Z Rows = omega arith
chain-long Z Freed = omega arith
chain-long Z Contacts = omega arith
chain-long Z Touches = omega arith
chain-long Z Joints = omega arith
chain-long Z Keys = omega arith
chain-long Z Spare = omega arith
chain-long Z Journal = omega arith
chain-long Z Scan = omega arith
chain-long Z Fit = omega arith
