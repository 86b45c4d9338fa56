-- The rule of each entry in use, over the words that it reads. An entry that holds nothing is blank.
use Rattle.std.specs.Prelude.{◌≡◌, ◌⊎◌, ◌≢◌, ℕ, ◌≤◌, ◌<◌}
use Rattle.list_in_table.specs.Rules.{none}

-- a slot: its five words, and the home of its body
pub record Vacant (generation fixed enabled sleeping home : ℕ) : Type 0 where
  pub no_generation : generation ≡ none
  pub not_fixed : fixed ≡ 0
  pub not_enabled : enabled ≡ 0
  pub not_sleeping : sleeping ≡ 0
  pub no_member : home ≡ none

pub record Filled (generation fixed enabled sleeping : ℕ) : Type 0 where
  pub generation_lt : generation < none
  pub fixed_flag : fixed ≤ 1
  pub enabled_flag : enabled ≤ 1
  pub sleeping_flag : sleeping ≤ 1

abbrev pub SlotRule : (generation fixed enabled sleeping home : ℕ) → Type 0
SlotRule g f e z h = Vacant g f e z h ⊎ Filled g f e z

-- an island: how many bodies, contact links and joint links it has, its three words, and its home in the free stack
pub record Live (bodies sleeping freed : ℕ) : Type 0 where
  pub some : 0 < bodies
  pub sleeping_flag : sleeping ≤ 1
  pub not_freed : freed ≡ none

pub record Freed (bodies contacts joints removals denied sleeping freed : ℕ) : Type 0 where
  pub no_body : bodies ≡ 0
  pub no_contact : contacts ≡ 0
  pub no_joint : joints ≡ 0
  pub no_removals : removals ≡ 0
  pub no_denial : denied ≡ 0
  pub not_sleeping : sleeping ≡ 0
  pub in_stack : freed ≡ 0

abbrev pub IslandRule : (bodies contacts joints removals denied sleeping freed : ℕ) → Type 0
IslandRule b c j r d z f = Live b z f ⊎ Freed b c j r d z f

-- an island in the scan: its home in the scan's list, and its word
pub record Unseen (home fit : ℕ) : Type 0 where
  pub not_listed : home ≡ none
  pub no_fit : fit ≡ 0

pub record Seen (home fit : ℕ) : Type 0 where
  pub listed : home ≢ none
  pub fit_flag : fit ≤ 1

abbrev pub ScanRule : (home fit : ℕ) → Type 0
ScanRule h f = Unseen h f ⊎ Seen h f

-- an edge: its home, and the four words of its link
pub record Untouched (home slot1 generation1 slot2 generation2 : ℕ) : Type 0 where
  pub not_linked : home ≡ none
  pub no_slot1 : slot1 ≡ none
  pub no_generation1 : generation1 ≡ none
  pub no_slot2 : slot2 ≡ none
  pub no_generation2 : generation2 ≡ none

abbrev pub EdgeRule : (home slot1 generation1 slot2 generation2 : ℕ) → Type 0
EdgeRule h a b c d = Untouched h a b c d ⊎ (h ≢ none)

-- a joint place: its homes among the links and among the free places, and its eight words. The link's two handles may be any numbers
pub record Unkeyed (home spare kind a b c slot1 generation1 slot2 generation2 : ℕ) : Type 0 where
  pub not_linked : home ≡ none
  pub in_stack : spare ≡ 0
  pub no_kind : kind ≡ none
  pub no_a : a ≡ none
  pub no_b : b ≡ none
  pub no_c : c ≡ none
  pub no_slot1 : slot1 ≡ none
  pub no_generation1 : generation1 ≡ none
  pub no_slot2 : slot2 ≡ none
  pub no_generation2 : generation2 ≡ none

pub record Keyed (home spare kind c : ℕ) : Type 0 where
  pub linked : home ≢ none
  pub not_spare : spare ≡ none
  pub key : ((kind ≡ 0) × (c ≡ 0)) ⊎ (kind ≡ 1)

abbrev pub JointRule : (home spare kind a b c slot1 generation1 slot2 generation2 : ℕ) → Type 0
JointRule h s k a b c s1 g1 s2 g2 = Unkeyed h s k a b c s1 g1 s2 g2 ⊎ Keyed h s k c

-- the head's words 5, 6 and 8, and how many islands are in the scan's list
pub record HeadRule (pending number scanning seen : ℕ) : Type 0 where
  pub split : ((pending ≡ 0) × (number ≡ 0)) ⊎ (pending ≡ 1)
  pub scan : ((scanning ≡ 0) × (seen ≡ 0)) ⊎ (scanning ≡ 1)
