-- Document 01's own words for well formed tables, sentence by sentence, and the rules that this layout of the words asks besides.
-- A law (Proper of proofs) says that both together are Good, whose rules each look at one entry and its neighbours alone.
use Rattle.std.specs.Prelude.{◌≡◌, ◌≢◌, List, ℕ, ◌+◌, ◌*◌, ◌≤◌, ◌<◌, length, get_or}
use Rattle.list_in_table.specs.Rules.{none, View, list_of}
use Rattle.def_kinds.specs.declared.Sizes.{Sizes}
use Rattle.def_state.specs.World.{Key}
use Rattle.table_meaning.specs.Layout.{Tables, Extents, members_in, contacts_in, joints_in, freed_in, spare_in, scan_in}
use Rattle.table_meaning.specs.Decode.{key_of}

-- of n elements in m lists: who names a list and a place is there, and who is there names it
pub record Listed (n m : ℕ) (S : View) : Type 0 where
  -- an element that names a list (its home) names one in use, and a place whose list holds it there
  pub names_list : (e : ℕ) → e < n → S.home e ≢ none → S.home e < m
  pub names_place : (e : ℕ) → e < n → S.home e ≢ none → S.place e < length (list_of S (S.home e))
  pub holds : (e : ℕ) → e < n → S.home e ≢ none → get_or (list_of S (S.home e)) (S.place e) 0 ≡ e
  -- a listed element is in use, and names that very list and place
  pub listed_lt : (i p : ℕ) → i < m → p < length (list_of S i) → get_or (list_of S i) p 0 < n
  pub listed_home : (i p : ℕ) → i < m → p < length (list_of S i) → S.home (get_or (list_of S i) p 0) ≡ i
  pub listed_place : (i p : ℕ) → i < m → p < length (list_of S i) → S.place (get_or (list_of S i) p 0) ≡ p

-- x is in the list
pub record Found (xs : List ℕ) (x : ℕ) : Type 0 where
  pub at : ℕ
  pub inside : at < length xs
  pub is : get_or xs at 0 ≡ x

module _ (Z : Sizes) (T : Tables) where
  -- the bodies of island i, the free stack (its top last) and the waiting scan list
  abbrev pub bodies_of : ℕ → List ℕ
  bodies_of i = list_of (members_in Z T) i

  abbrev pub free_stack : List ℕ
  free_stack = list_of (freed_in Z T) 0

  abbrev pub scan_list : List ℕ
  scan_list = list_of (scan_in Z T) 0

abbrev pub generation_at : Tables → ℕ → ℕ
generation_at T s = get_or T.slots (5 * s) 0

abbrev pub key_at : Tables → ℕ → Key
key_at T p = key_of (get_or T.keys (8 * p) 0) (get_or T.keys (8 * p + 1) 0) (get_or T.keys (8 * p + 2) 0) (get_or T.keys (8 * p + 3) 0)

-- Document 01, "The part taken": "Well formed means: .."
pub record Proper (Z : Sizes) (X : Extents) (T : Tables) : Type 0 where
  -- "every member body names an island and a place whose list holds it there; every listed body .. names that very place"
  pub members : Listed X.slots X.islands (members_in Z T)
  -- "every listed body is live"
  pub listed_live : (i p : ℕ) → i < X.islands → p < length (bodies_of Z T i) → generation_at T (get_or (bodies_of Z T i) p 0) < none
  -- "the same for contact links by edge number"
  pub contacts : Listed X.edges X.islands (contacts_in Z T)
  -- "and joint links by key": here by the place that the key table gives the key
  pub joints : Listed X.joints X.islands (joints_in Z T)
  -- the island that a link names is live: it has a body
  pub contacts_live : (i : ℕ) → i < X.islands → 0 < length (list_of (contacts_in Z T) i) → 0 < length (bodies_of Z T i)
  pub joints_live : (i : ℕ) → i < X.islands → 0 < length (list_of (joints_in Z T) i) → 0 < length (bodies_of Z T i)
  -- "no key twice"
  pub key_once : (p q : ℕ) → p < X.joints → q < X.joints → (joints_in Z T).home p ≢ none → (joints_in Z T).home q ≢ none → key_at T p ≡ key_at T q → p ≡ q
  -- "no live island empty": a number in use that is not in the free stack has a body
  pub no_empty : (i : ℕ) → i < X.islands → ((p : ℕ) → p < length (free_stack Z T) → get_or (free_stack Z T) p 0 ≢ i) → 0 < length (bodies_of Z T i)
  -- "the free stack holds, exactly once and nothing else, each number below the next never used island number that is not live"
  pub free_once : (p q : ℕ) → p < length (free_stack Z T) → q < length (free_stack Z T) → get_or (free_stack Z T) p 0 ≡ get_or (free_stack Z T) q 0 → p ≡ q
  pub free_below : (p : ℕ) → p < length (free_stack Z T) → get_or (free_stack Z T) p 0 < X.islands
  pub free_not_live : (p : ℕ) → p < length (free_stack Z T) → length (bodies_of Z T (get_or (free_stack Z T) p 0)) ≡ 0
  pub free_all : (i : ℕ) → i < X.islands → length (bodies_of Z T i) ≡ 0 → Found (free_stack Z T) i
  -- "all numbers in range": what is in use fits its size, and each body can have an island of its own
  pub enough : Z.slots ≤ Z.islands
  pub slots_le : X.slots ≤ Z.slots
  pub islands_le : X.islands ≤ Z.islands
  pub edges_le : X.edges ≤ Z.edges
  pub joints_le : X.joints ≤ Z.joints
  pub journal_le : X.journal ≤ Z.journal
  -- "a live generation below 4,294,967,295"
  pub generation_lt : (s : ℕ) → s < X.slots → generation_at T s ≢ none → generation_at T s < none
  -- a flag is 0 or 1: fixed, enabled, sleeping; an island's sleeping; a key's kind; whether a split is pending, whether the scan is open; "a pending split is any number"
  pub fixed_flag : (s : ℕ) → s < X.slots → get_or T.slots (5 * s + 2) 0 ≤ 1
  pub enabled_flag : (s : ℕ) → s < X.slots → get_or T.slots (5 * s + 3) 0 ≤ 1
  pub sleeping_flag : (s : ℕ) → s < X.slots → get_or T.slots (5 * s + 4) 0 ≤ 1
  pub asleep_flag : (i : ℕ) → i < X.islands → get_or T.rows (3 * i + 2) 0 ≤ 1
  pub kind_flag : (p : ℕ) → p < X.joints → (joints_in Z T).home p ≢ none → get_or T.keys (8 * p) 0 ≤ 1
  pub pending_flag : get_or T.head 5 0 ≤ 1
  pub scanning_flag : get_or T.head 8 0 ≤ 1
  -- "the waiting scan list names no number twice"; it names islands in use
  pub scan_once : (p q : ℕ) → p < length (scan_list Z T) → q < length (scan_list Z T) → get_or (scan_list Z T) p 0 ≡ get_or (scan_list Z T) q 0 → p ≡ q
  pub scan_below : (p : ℕ) → p < length (scan_list Z T) → get_or (scan_list Z T) p 0 < X.islands

-- ---- what the layout asks besides: each word is the one that stands for what the lists say, and what stands for nothing is blank

-- the other words of a chain table are those that its lists say
pub record Threaded (n m : ℕ) (S : View) : Type 0 where
  -- 4294967295 is the number of no element and no list
  pub n_small : n ≤ none
  pub m_small : m ≤ none
  -- a list's count and its last
  pub count_is : (i : ℕ) → i < m → S.count i ≡ length (list_of S i)
  pub last_is : (i p : ℕ) → i < m → p + 1 ≡ length (list_of S i) → S.last i ≡ get_or (list_of S i) p 0
  pub last_none : (i : ℕ) → i < m → length (list_of S i) ≡ 0 → S.last i ≡ none
  -- a listed element's neighbours
  pub prev_is : (i p : ℕ) → i < m → p + 1 < length (list_of S i) → S.prev (get_or (list_of S i) (p + 1) 0) ≡ get_or (list_of S i) p 0
  pub prev_none : (i : ℕ) → i < m → 0 < length (list_of S i) → S.prev (get_or (list_of S i) 0 0) ≡ none
  pub next_is : (i p : ℕ) → i < m → p + 1 < length (list_of S i) → S.next (get_or (list_of S i) p 0) ≡ get_or (list_of S i) (p + 1) 0
  pub next_none : (i p : ℕ) → i < m → p + 1 ≡ length (list_of S i) → S.next (get_or (list_of S i) p 0) ≡ none
  -- an element in no list is blank
  pub place_blank : (e : ℕ) → e < n → S.home e ≡ none → S.place e ≡ none
  pub prev_blank : (e : ℕ) → e < n → S.home e ≡ none → S.prev e ≡ none
  pub next_blank : (e : ℕ) → e < n → S.home e ≡ none → S.next e ≡ none

pub record Tidy (Z : Sizes) (X : Extents) (T : Tables) : Type 0 where
  -- the six chain tables hold the words of their lists
  pub members_long : 4 * Z.slots + 2 * X.islands ≤ length T.members
  pub freed_long : 4 * Z.islands + 2 ≤ length T.freed
  pub contacts_long : 4 * Z.edges + 2 * X.islands ≤ length T.contacts
  pub joints_long : 4 * Z.joints + 2 * X.islands ≤ length T.joints
  pub spare_long : 4 * Z.joints + 2 ≤ length T.spare
  pub scan_long : 4 * Z.islands + 2 ≤ length T.scan
  -- their words are those that the lists say
  pub members_linked : Threaded X.slots X.islands (members_in Z T)
  pub freed_linked : Threaded X.islands 1 (freed_in Z T)
  pub contacts_linked : Threaded X.edges X.islands (contacts_in Z T)
  pub joints_linked : Threaded X.joints X.islands (joints_in Z T)
  pub spare_linked : Threaded X.joints 1 (spare_in Z T)
  pub scan_linked : Threaded X.islands 1 (scan_in Z T)
  -- the free stack, the free joint places and the scan's list are kept by home and place too
  pub freed_listed : Listed X.islands 1 (freed_in Z T)
  pub spare_listed : Listed X.joints 1 (spare_in Z T)
  pub scan_listed : Listed X.islands 1 (scan_in Z T)
  -- the free joint places are those that are not linked
  pub spare_free : (p : ℕ) → p < X.joints → (joints_in Z T).home p ≡ none → (spare_in Z T).home p ≡ 0
  pub spare_not : (p : ℕ) → p < X.joints → (joints_in Z T).home p ≢ none → (spare_in Z T).home p ≡ none
  -- a slot with no live body has no flag
  pub vacant_fixed : (s : ℕ) → s < X.slots → generation_at T s ≡ none → get_or T.slots (5 * s + 2) 0 ≡ 0
  pub vacant_enabled : (s : ℕ) → s < X.slots → generation_at T s ≡ none → get_or T.slots (5 * s + 3) 0 ≡ 0
  pub vacant_sleeping : (s : ℕ) → s < X.slots → generation_at T s ≡ none → get_or T.slots (5 * s + 4) 0 ≡ 0
  -- a number that is not live has count 0, denial 0 and does not sleep
  pub freed_removals : (i : ℕ) → i < X.islands → length (bodies_of Z T i) ≡ 0 → get_or T.rows (3 * i) 0 ≡ 0
  pub freed_denial : (i : ℕ) → i < X.islands → length (bodies_of Z T i) ≡ 0 → get_or T.rows (3 * i + 1) 0 ≡ 0
  pub freed_awake : (i : ℕ) → i < X.islands → length (bodies_of Z T i) ≡ 0 → get_or T.rows (3 * i + 2) 0 ≡ 0
  -- an edge that is not linked is blank
  pub edge_blank : (e f : ℕ) → e < X.edges → f < 4 → (contacts_in Z T).home e ≡ none → get_or T.touches (4 * e + f) 0 ≡ none
  -- a joint place that is free is blank; an impulse key has no third word
  pub joint_blank : (p f : ℕ) → p < X.joints → f < 8 → (joints_in Z T).home p ≡ none → get_or T.keys (8 * p + f) 0 ≡ none
  pub impulse_third : (p : ℕ) → p < X.joints → (joints_in Z T).home p ≢ none → get_or T.keys (8 * p) 0 ≡ 0 → get_or T.keys (8 * p + 3) 0 ≡ 0
  -- fit is 0 or 1, and 0 for an island that was not observed
  pub fit_flag : (i : ℕ) → i < X.islands → get_or T.fit i 0 ≤ 1
  pub fit_blank : (i : ℕ) → i < X.islands → (scan_in Z T).home i ≡ none → get_or T.fit i 0 ≡ 0
  -- where no split is pending its number is 0; a scan that is not open has no list
  pub no_number : get_or T.head 5 0 ≡ 0 → get_or T.head 6 0 ≡ 0
  pub no_scan : get_or T.head 8 0 ≡ 0 → length (scan_list Z T) ≡ 0
