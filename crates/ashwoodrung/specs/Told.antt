-- What C and Rust programs see of a call: numbers.
use Rattle.std.specs.Prelude.{◌≡◌, Bool, not, List, ℕ, ◌+◌, ◌*◌, eqb, Option, None, Some, Result, Ok, Err}
use Rattle.std.specs.Result.{result_unwrap_or}
use Rattle.def_kinds.specs.declared.Island.{Island}
use Rattle.def_kinds.specs.declared.Refusal.{Refusal}
use Rattle.def_kinds.specs.Answers.{Answer, answer_of}
use Rattle.def_kinds.specs.Number.{number, rig}
use Rattle.def_state.specs.World.{World, Step}
use Rattle.table_meaning.specs.Does.{Called, Asks, Reset}
use Rattle.table_meaning.specs.Decode.{bit_of}
use Rattle.core_finish.specs.Listing.{Finish}
use Rattle.host_calls.specs.Refusal.{refused_island, refused_bid}

-- a flag: 0 is no, any other number is yes
abbrev pub is_set : ℕ → Bool
is_set x = not (eqb x 0)

-- r is the number of the answer that the call f gives
abbrev pub Told : (f : World → Step) (t : List ℕ) (r : ℕ) (t' : List ℕ) → Type 0
Told f t r t' = (a : Answer) × (r ≡ number a) × Called rig f t a t'

abbrev pub ToldReset : (t : List ℕ) (r : ℕ) (t' : List ℕ) → Type 0
ToldReset t r t' = (a : Answer) × (r ≡ number a) × Reset rig t a t'

-- an answer and a value in one number of 64 bits: the answer is its high half
abbrev pub packed : (answer value : ℕ) → ℕ
packed answer value = answer * 4294967296 + value

-- the number of an island; none: the number of no island
abbrev pub island_word : Option Island → ℕ
island_word None = 4294967295
island_word (Some i) = i.0

-- the value that is told beside the answer to "whose island": a refusal has the number of no island
abbrev pub island_told : Result (Option Island) Refusal → ℕ
island_told (Ok i) = island_word i
island_told (Err refusal) = 4294967295

abbrev pub ToldIsland : (f : World → Result (Option Island) Refusal) (t : List ℕ) (r : ℕ) → Type 0
ToldIsland f t r = (a : Result (Option Island) Refusal) × (r ≡ packed (number (answer_of a)) (island_told a)) × Asks rig f refused_island t a

-- beside the answer to "may it bid": a refusal has 0
abbrev pub bid_told : Result Bool Refusal → ℕ
bid_told (Ok bids) = bit_of bids
bid_told (Err refusal) = 0

abbrev pub ToldBid : (f : World → Result Bool Refusal) (t : List ℕ) (r : ℕ) → Type 0
ToldBid f t r = (a : Result Bool Refusal) × (r ≡ packed (number (answer_of a)) (bid_told a)) × Asks rig f refused_bid t a

-- beside the answer of finish: the list's length, and 0 where it is refused
abbrev pub ToldList : (t out : List ℕ) (r : ℕ) (t' out' : List ℕ) → Type 0
ToldList t out r t' out' = (a : Result ℕ Refusal) × (r ≡ packed (number (answer_of a)) (result_unwrap_or a 0)) × Finish rig t out (answer_of a) (result_unwrap_or a 0) t' out'
