-- What a call does with a buffer of any contents.
use Rattle.std.specs.Prelude.{◌≡◌, ◌⊎◌, ◌≢◌, List, ℕ, ◌+◌, ◌*◌, ◌≤◌, ◌<◌, length, get_or}
use Rattle.def_kinds.specs.declared.Sizes.{Sizes}
use Rattle.def_kinds.specs.Answers.{Answer, Done, BadTables}
use Rattle.def_state.specs.World.{World, empty_world, Step}
use Rattle.table_meaning.specs.Layout.{Tables, tables, total, Extents, extents}
use Rattle.table_meaning.specs.Decode.{world_of}
use Rattle.table_meaning.specs.Sound.{Sound}

-- y is x from the word k on
abbrev pub RowsKept : (k : ℕ) (x y : List ℕ) → Type 0
RowsKept k x y = (j : ℕ) → k ≤ j → get_or y j 0 ≡ get_or x j 0

-- y is x behind the first n elements and m lists of a chain table with room for N elements
pub record ChainKept (N n m : ℕ) (x y : List ℕ) : Type 0 where
  pub elems : (j : ℕ) → 4 * n ≤ j → j < 4 * N → get_or y j 0 ≡ get_or x j 0
  pub ends : (j : ℕ) → 4 * N + 2 * m ≤ j → get_or y j 0 ≡ get_or x j 0

-- T and U have the same words behind the extents X
pub record SameBehind (Z : Sizes) (X : Extents) (T U : Tables) : Type 0 where
  pub slots : RowsKept (5 * X.slots) T.slots U.slots
  pub members : ChainKept Z.slots X.slots X.islands T.members U.members
  pub rows : RowsKept (3 * X.islands) T.rows U.rows
  pub freed : ChainKept Z.islands X.islands 1 T.freed U.freed
  pub contacts : ChainKept Z.edges X.edges X.islands T.contacts U.contacts
  pub touches : RowsKept (4 * X.edges) T.touches U.touches
  pub joints : ChainKept Z.joints X.joints X.islands T.joints U.joints
  pub keys : RowsKept (8 * X.joints) T.keys U.keys
  pub spare : ChainKept Z.joints X.joints 1 T.spare U.spare
  pub journal : RowsKept (4 * X.journal) T.journal U.journal
  pub scan : ChainKept Z.islands X.islands 1 T.scan U.scan
  pub fit : RowsKept X.islands T.fit U.fit

-- the answer r and the words t' are those of the step f on the state that t holds; behind the extents after it t' is t
pub record Does (Z : Sizes) (f : World → Step) (t : List ℕ) (r : Answer) (t' : List ℕ) : Type 0 where
  pub sound : Sound Z t'
  pub answer : r ≡ (f (world_of Z t)).answer
  pub after : world_of Z t' ≡ (f (world_of Z t)).after
  pub frame : SameBehind Z (extents (tables Z t')) (tables Z t) (tables Z t')

pub record Refuses (Z : Sizes) (t : List ℕ) (r : Answer) (t' : List ℕ) : Type 0 where
  pub unsound : Sound Z t → ⊥
  pub nine : r ≡ BadTables
  pub same : t' ≡ t

-- a host call, on any words: the step where the tables are well formed, and else answer 9 and nothing changes
abbrev pub Called : (Z : Sizes) (f : World → Step) (t : List ℕ) (r : Answer) (t' : List ℕ) → Type 0
Called Z f t r t' = (Sound Z t × Does Z f t r t') ⊎ Refuses Z t r t'

-- a question to the tables, which changes nothing: f of the state, or the refusal n
abbrev pub Asks : {A : Type 0} (Z : Sizes) (f : World → A) (n : A) (t : List ℕ) (r : A) → Type 0
Asks Z f n t r = (Sound Z t × (r ≡ f (world_of Z t))) ⊎ ((Sound Z t → ⊥) × (r ≡ n))

-- reset: 9 for a wrong length only, and else the empty state, whatever the words were
pub record Emptied (Z : Sizes) (t : List ℕ) (r : Answer) (t' : List ℕ) : Type 0 where
  pub right : length t ≡ total Z
  pub zero : r ≡ Done
  pub sound : Sound Z t'
  pub after : world_of Z t' ≡ empty_world
  pub frame : SameBehind Z (extents (tables Z t')) (tables Z t) (tables Z t')

pub record Wrong (Z : Sizes) (t : List ℕ) (r : Answer) (t' : List ℕ) : Type 0 where
  pub wrong : length t ≢ total Z
  pub nine : r ≡ BadTables
  pub same : t' ≡ t

abbrev pub Reset : (Z : Sizes) (t : List ℕ) (r : Answer) (t' : List ℕ) → Type 0
Reset Z t r t' = Emptied Z t r t' ⊎ Wrong Z t r t'
