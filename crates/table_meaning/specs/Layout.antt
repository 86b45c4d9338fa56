-- Where each table lies in the buffer, for given sizes. A buffer is a list of 32-bit words.
--
-- A chain table of n elements in m lists has four words an element (home: its list, place: its index there, prev and next: its neighbours), and
-- behind them two words a list (count, and its last element). 4294967295 stands for none; an element in no list has it in all four words.
--
-- In use are the slots, islands, edges, joint places and journal entries below the extents in the head. An entry in use that holds nothing is blank as
-- said below; what lies behind an extent is no part of the state: nobody reads it, and no call changes it but by taking it in.
use Rattle.std.specs.Prelude.{List, [], ◌∷◌, ℕ, ◌+◌, ◌*◌, get_or}
use Rattle.list_in_table.specs.Rules.{none, View}
use Rattle.list_in_table.specs.Table.{view}
use Rattle.list_in_buffer.specs.Part.{part}
use Rattle.def_kinds.specs.declared.Sizes.{Sizes}
use Rattle.table_meaning.specs.declared.Table.{Table}
use Rattle.table_meaning.specs.declared.Table.TheVariants.{Head, Slots, Members, Rows, Freed, Contacts, Touches, Joints, Keys, Spare, Journal, Scan, Fit}

module _ (Z : Sizes) where
  -- head: nine words: slots in use, islands in use (the next never used number), the tracked length, joint places in use, the journal's length; is a split pending (0 or 1), and of which island (0 where none is); the scan's stamp, and whether it is open (0 or 1)
  abbrev pub head_at : ℕ
  head_at = 0

  abbrev pub head_span : ℕ
  head_span = 9

  -- slots: five words a slot: generation (4294967295: no live body), lowest allowed generation, fixed, enabled, sleeping (0 or 1)
  abbrev pub slots_at : ℕ
  slots_at = 9

  abbrev pub slots_span : ℕ
  slots_span = 5 * Z.slots

  -- members: the islands' lists of bodies: a chain table, slots in islands
  abbrev pub members_at : ℕ
  members_at = 9 + 5 * Z.slots

  abbrev pub members_span : ℕ
  members_span = 4 * Z.slots + 2 * Z.islands

  -- rows: three words an island: constraint_remove_count, split_denied_until, sleeping
  abbrev pub rows_at : ℕ
  rows_at = 9 + 9 * Z.slots + 2 * Z.islands

  abbrev pub rows_span : ℕ
  rows_span = 3 * Z.islands

  -- freed: the free stack: a chain table, island numbers in one list
  abbrev pub freed_at : ℕ
  freed_at = 9 + 9 * Z.slots + 5 * Z.islands

  abbrev pub freed_span : ℕ
  freed_span = 4 * Z.islands + 2

  -- contacts: the islands' lists of contact links: a chain table, edge numbers in islands
  abbrev pub contacts_at : ℕ
  contacts_at = 11 + 9 * Z.slots + 9 * Z.islands

  abbrev pub contacts_span : ℕ
  contacts_span = 4 * Z.edges + 2 * Z.islands

  -- touches: four words an edge: slot and generation of the link's first body, of its second. All 4294967295 where the edge is not linked
  abbrev pub touches_at : ℕ
  touches_at = 11 + 9 * Z.slots + 11 * Z.islands + 4 * Z.edges

  abbrev pub touches_span : ℕ
  touches_span = 4 * Z.edges

  -- joints: the islands' lists of joint links: a chain table, joint places in islands
  abbrev pub joints_at : ℕ
  joints_at = 11 + 9 * Z.slots + 11 * Z.islands + 8 * Z.edges

  abbrev pub joints_span : ℕ
  joints_span = 4 * Z.joints + 2 * Z.islands

  -- keys: eight words a joint place: the key's kind (0 impulse, 1 chain), then index, generation and 0, or the multibody's high and low 32 bits and the ordinal; then two handles as in touches. All 4294967295 where the place is free
  abbrev pub keys_at : ℕ
  keys_at = 11 + 9 * Z.slots + 13 * Z.islands + 8 * Z.edges + 4 * Z.joints

  abbrev pub keys_span : ℕ
  keys_span = 8 * Z.joints

  -- spare: the free joint places: a chain table, joint places in one list
  abbrev pub spare_at : ℕ
  spare_at = 11 + 9 * Z.slots + 13 * Z.islands + 8 * Z.edges + 12 * Z.joints

  abbrev pub spare_span : ℕ
  spare_span = 4 * Z.joints + 2

  -- journal: four words an entry: two handles
  abbrev pub journal_at : ℕ
  journal_at = 13 + 9 * Z.slots + 13 * Z.islands + 8 * Z.edges + 16 * Z.joints

  abbrev pub journal_span : ℕ
  journal_span = 4 * Z.journal

  -- scan: the islands observed in the open scan, in order: a chain table, island numbers in one list
  abbrev pub scan_at : ℕ
  scan_at = 13 + 9 * Z.slots + 13 * Z.islands + 8 * Z.edges + 16 * Z.joints + 4 * Z.journal

  abbrev pub scan_span : ℕ
  scan_span = 4 * Z.islands + 2

  -- fit: one word an island: 1 while it is in the scan's list and all observations of it were eligible, else 0
  abbrev pub fit_at : ℕ
  fit_at = 15 + 9 * Z.slots + 17 * Z.islands + 8 * Z.edges + 16 * Z.joints + 4 * Z.journal

  abbrev pub fit_span : ℕ
  fit_span = Z.islands

  abbrev pub total : ℕ
  total = 15 + 9 * Z.slots + 18 * Z.islands + 8 * Z.edges + 16 * Z.joints + 4 * Z.journal

-- the tables apart
pub record Tables : Type 0 where
  pub head : List ℕ
  pub slots : List ℕ
  pub members : List ℕ
  pub rows : List ℕ
  pub freed : List ℕ
  pub contacts : List ℕ
  pub touches : List ℕ
  pub joints : List ℕ
  pub keys : List ℕ
  pub spare : List ℕ
  pub journal : List ℕ
  pub scan : List ℕ
  pub fit : List ℕ

abbrev pub tables : Sizes → List ℕ → Tables
tables Z t =
    record {
      head = part t (head_at Z) (head_span Z);
      slots = part t (slots_at Z) (slots_span Z);
      members = part t (members_at Z) (members_span Z);
      rows = part t (rows_at Z) (rows_span Z);
      freed = part t (freed_at Z) (freed_span Z);
      contacts = part t (contacts_at Z) (contacts_span Z);
      touches = part t (touches_at Z) (touches_span Z);
      joints = part t (joints_at Z) (joints_span Z);
      keys = part t (keys_at Z) (keys_span Z);
      spare = part t (spare_at Z) (spare_span Z);
      journal = part t (journal_at Z) (journal_span Z);
      scan = part t (scan_at Z) (scan_span Z);
      fit = part t (fit_at Z) (fit_span Z);
    }

-- one table set anew
module _ (T : Tables) (x : List ℕ) where
  abbrev pub head_put : Tables
  head_put =
      record {
        head = x;
        slots = T.slots;
        members = T.members;
        rows = T.rows;
        freed = T.freed;
        contacts = T.contacts;
        touches = T.touches;
        joints = T.joints;
        keys = T.keys;
        spare = T.spare;
        journal = T.journal;
        scan = T.scan;
        fit = T.fit;
      }

  abbrev pub slots_put : Tables
  slots_put =
      record {
        head = T.head;
        slots = x;
        members = T.members;
        rows = T.rows;
        freed = T.freed;
        contacts = T.contacts;
        touches = T.touches;
        joints = T.joints;
        keys = T.keys;
        spare = T.spare;
        journal = T.journal;
        scan = T.scan;
        fit = T.fit;
      }

  abbrev pub members_put : Tables
  members_put =
      record {
        head = T.head;
        slots = T.slots;
        members = x;
        rows = T.rows;
        freed = T.freed;
        contacts = T.contacts;
        touches = T.touches;
        joints = T.joints;
        keys = T.keys;
        spare = T.spare;
        journal = T.journal;
        scan = T.scan;
        fit = T.fit;
      }

  abbrev pub rows_put : Tables
  rows_put =
      record {
        head = T.head;
        slots = T.slots;
        members = T.members;
        rows = x;
        freed = T.freed;
        contacts = T.contacts;
        touches = T.touches;
        joints = T.joints;
        keys = T.keys;
        spare = T.spare;
        journal = T.journal;
        scan = T.scan;
        fit = T.fit;
      }

  abbrev pub freed_put : Tables
  freed_put =
      record {
        head = T.head;
        slots = T.slots;
        members = T.members;
        rows = T.rows;
        freed = x;
        contacts = T.contacts;
        touches = T.touches;
        joints = T.joints;
        keys = T.keys;
        spare = T.spare;
        journal = T.journal;
        scan = T.scan;
        fit = T.fit;
      }

  abbrev pub contacts_put : Tables
  contacts_put =
      record {
        head = T.head;
        slots = T.slots;
        members = T.members;
        rows = T.rows;
        freed = T.freed;
        contacts = x;
        touches = T.touches;
        joints = T.joints;
        keys = T.keys;
        spare = T.spare;
        journal = T.journal;
        scan = T.scan;
        fit = T.fit;
      }

  abbrev pub touches_put : Tables
  touches_put =
      record {
        head = T.head;
        slots = T.slots;
        members = T.members;
        rows = T.rows;
        freed = T.freed;
        contacts = T.contacts;
        touches = x;
        joints = T.joints;
        keys = T.keys;
        spare = T.spare;
        journal = T.journal;
        scan = T.scan;
        fit = T.fit;
      }

  abbrev pub joints_put : Tables
  joints_put =
      record {
        head = T.head;
        slots = T.slots;
        members = T.members;
        rows = T.rows;
        freed = T.freed;
        contacts = T.contacts;
        touches = T.touches;
        joints = x;
        keys = T.keys;
        spare = T.spare;
        journal = T.journal;
        scan = T.scan;
        fit = T.fit;
      }

  abbrev pub keys_put : Tables
  keys_put =
      record {
        head = T.head;
        slots = T.slots;
        members = T.members;
        rows = T.rows;
        freed = T.freed;
        contacts = T.contacts;
        touches = T.touches;
        joints = T.joints;
        keys = x;
        spare = T.spare;
        journal = T.journal;
        scan = T.scan;
        fit = T.fit;
      }

  abbrev pub spare_put : Tables
  spare_put =
      record {
        head = T.head;
        slots = T.slots;
        members = T.members;
        rows = T.rows;
        freed = T.freed;
        contacts = T.contacts;
        touches = T.touches;
        joints = T.joints;
        keys = T.keys;
        spare = x;
        journal = T.journal;
        scan = T.scan;
        fit = T.fit;
      }

  abbrev pub journal_put : Tables
  journal_put =
      record {
        head = T.head;
        slots = T.slots;
        members = T.members;
        rows = T.rows;
        freed = T.freed;
        contacts = T.contacts;
        touches = T.touches;
        joints = T.joints;
        keys = T.keys;
        spare = T.spare;
        journal = x;
        scan = T.scan;
        fit = T.fit;
      }

  abbrev pub scan_put : Tables
  scan_put =
      record {
        head = T.head;
        slots = T.slots;
        members = T.members;
        rows = T.rows;
        freed = T.freed;
        contacts = T.contacts;
        touches = T.touches;
        joints = T.joints;
        keys = T.keys;
        spare = T.spare;
        journal = T.journal;
        scan = x;
        fit = T.fit;
      }

  abbrev pub fit_put : Tables
  fit_put =
      record {
        head = T.head;
        slots = T.slots;
        members = T.members;
        rows = T.rows;
        freed = T.freed;
        contacts = T.contacts;
        touches = T.touches;
        joints = T.joints;
        keys = T.keys;
        spare = T.spare;
        journal = T.journal;
        scan = T.scan;
        fit = x;
      }

-- how many of each thing are in use
pub record Extents : Type 0 where
  pub slots : ℕ
  pub islands : ℕ
  pub edges : ℕ
  pub joints : ℕ
  pub journal : ℕ

abbrev pub extents : Tables → Extents
extents T =
    record {
      slots = get_or T.head 0 0;
      islands = get_or T.head 1 0;
      edges = get_or T.head 2 0;
      joints = get_or T.head 3 0;
      journal = get_or T.head 4 0;
    }

-- the six chain tables
module _ (Z : Sizes) (T : Tables) where
  abbrev pub members_in : View
  members_in = view T.members 0 (4 * Z.slots)

  abbrev pub contacts_in : View
  contacts_in = view T.contacts 0 (4 * Z.edges)

  abbrev pub joints_in : View
  joints_in = view T.joints 0 (4 * Z.joints)

  abbrev pub freed_in : View
  freed_in = view T.freed 0 (4 * Z.islands)

  abbrev pub spare_in : View
  spare_in = view T.spare 0 (4 * Z.joints)

  abbrev pub scan_in : View
  scan_in = view T.scan 0 (4 * Z.islands)

-- the words of an element in no list, of a list of no element
abbrev pub elem_words : ℕ → List (ℕ × ℕ)
elem_words j = (j, none) ∷ (j + 1, none) ∷ (j + 2, none) ∷ (j + 3, none) ∷ []

abbrev pub list_words : ℕ → List (ℕ × ℕ)
list_words j = (j, 0) ∷ (j + 1, none) ∷ []

-- ---- a table by its name

abbrev pub table_at : Sizes → Table → ℕ
table_at Z Head = head_at Z
table_at Z Slots = slots_at Z
table_at Z Members = members_at Z
table_at Z Rows = rows_at Z
table_at Z Freed = freed_at Z
table_at Z Contacts = contacts_at Z
table_at Z Touches = touches_at Z
table_at Z Joints = joints_at Z
table_at Z Keys = keys_at Z
table_at Z Spare = spare_at Z
table_at Z Journal = journal_at Z
table_at Z Scan = scan_at Z
table_at Z Fit = fit_at Z

abbrev pub table_span : Sizes → Table → ℕ
table_span Z Head = head_span Z
table_span Z Slots = slots_span Z
table_span Z Members = members_span Z
table_span Z Rows = rows_span Z
table_span Z Freed = freed_span Z
table_span Z Contacts = contacts_span Z
table_span Z Touches = touches_span Z
table_span Z Joints = joints_span Z
table_span Z Keys = keys_span Z
table_span Z Spare = spare_span Z
table_span Z Journal = journal_span Z
table_span Z Scan = scan_span Z
table_span Z Fit = fit_span Z

abbrev pub table_of : Table → Tables → List ℕ
table_of Head T = T.head
table_of Slots T = T.slots
table_of Members T = T.members
table_of Rows T = T.rows
table_of Freed T = T.freed
table_of Contacts T = T.contacts
table_of Touches T = T.touches
table_of Joints T = T.joints
table_of Keys T = T.keys
table_of Spare T = T.spare
table_of Journal T = T.journal
table_of Scan T = T.scan
table_of Fit T = T.fit

abbrev pub table_put : Table → Tables → List ℕ → Tables
table_put Head T x = head_put T x
table_put Slots T x = slots_put T x
table_put Members T x = members_put T x
table_put Rows T x = rows_put T x
table_put Freed T x = freed_put T x
table_put Contacts T x = contacts_put T x
table_put Touches T x = touches_put T x
table_put Joints T x = joints_put T x
table_put Keys T x = keys_put T x
table_put Spare T x = spare_put T x
table_put Journal T x = journal_put T x
table_put Scan T x = scan_put T x
table_put Fit T x = fit_put T x

-- how many elements a chain table has room for, and how many lists; 0 for a table that is none
abbrev pub room : Sizes → Table → ℕ
room Z Head = 0
room Z Slots = 0
room Z Members = Z.slots
room Z Rows = 0
room Z Freed = Z.islands
room Z Contacts = Z.edges
room Z Touches = 0
room Z Joints = Z.joints
room Z Keys = 0
room Z Spare = Z.joints
room Z Journal = 0
room Z Scan = Z.islands
room Z Fit = 0

abbrev pub list_room : Sizes → Table → ℕ
list_room Z Head = 0
list_room Z Slots = 0
list_room Z Members = Z.islands
list_room Z Rows = 0
list_room Z Freed = 1
list_room Z Contacts = Z.islands
list_room Z Touches = 0
list_room Z Joints = Z.islands
list_room Z Keys = 0
list_room Z Spare = 1
list_room Z Journal = 0
list_room Z Scan = 1
list_room Z Fit = 0

abbrev pub chain_in : Sizes → Table → Tables → View
chain_in Z k T = view (table_of k T) 0 (4 * room Z k)
