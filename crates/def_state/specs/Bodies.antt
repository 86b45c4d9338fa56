-- The body table (added): put, flags, retire, and asking a body's island.
use Rattle.std.specs.Prelude.{Option, Some, None, Result, Ok, Bool, false, ◌++◌, ℕ, ◌+◌, ◌-◌, length, set, replicate, eqb, ltb, leb}
use Rattle.def_kinds.specs.Choice.{pick}
use Rattle.def_kinds.specs.declared.Sizes.{Sizes}
use Rattle.def_kinds.specs.Answers.{Nothing, OverSize, SlotTaken, BadGeneration}
use Rattle.def_kinds.specs.declared.Island.{Island as IslandNumber}
use Rattle.def_kinds.specs.declared.Refusal.{Refusal}
use Rattle.def_state.specs.Plain.{top}
use Rattle.def_state.specs.World.{Handle, Body, absent_body, World, Step, done, gives, body_of, named, body_island}
use Rattle.def_state.specs.Fields.{bodies_set}
use Rattle.def_state.specs.Membership.{remove}

-- at least k slots, those taken in vacant
unfoldable pub grown : ℕ → World → World
grown k w = bodies_set w (w.bodies ++ replicate (k - length w.bodies) absent_body)

-- the body of handle h with these flags, where the slot held b before
abbrev pub filled : Handle → Bool → Bool → Bool → Body → Body
filled h f e z b = record { generation = h.generation; lowest = b.lowest; fixed = f; enabled = e; sleeping = z }

unfoldable pub placed : Handle → Bool → Bool → Bool → World → World
placed h f e z w = bodies_set w (set (grown (h.slot + 1) w).bodies h.slot (filled h f e z (body_of w h.slot)))

-- put: a slot over its size, a slot taken, a generation not allowed; else the body stands in its slot, a member of nothing
unfoldable pub put : Sizes → Handle → Bool → Bool → Bool → World → Step
put Z h f e z w =
    pick (leb Z.slots h.slot) (gives OverSize w)
    (pick (eqb (body_of w h.slot).generation top)
    (pick (ltb h.generation (body_of w h.slot).lowest) (gives BadGeneration w)
    (pick (eqb h.generation top) (gives BadGeneration w) (done (placed h f e z w))))
    (gives SlotTaken w))

-- changing flags touches no membership
unfoldable pub flags : Handle → Bool → Bool → Bool → World → Step
flags h f e z w =
    pick (named w h) (done (bodies_set w (set w.bodies h.slot (filled h f e z (body_of w h.slot))))) (gives Nothing w)

-- a slot that holds nothing, with the lowest generation that may come next
abbrev pub vacated : ℕ → Body
vacated g = record { generation = top; lowest = g + 1; fixed = false; enabled = false; sleeping = false }

unfoldable pub vacate : Handle → World → World
vacate h w = bodies_set w (set w.bodies h.slot (vacated h.generation))

-- retire: out of its island, if it is in one; then the slot is free
unfoldable pub retire : Handle → World → Step
retire h w = pick (named w h) (done (vacate h (remove h w).after)) (gives Nothing w)

-- the island with this number; top: none
abbrev pub numbered : ℕ → Option IslandNumber
numbered i = pick (eqb i top) None (Some (record { 0 = i }))

-- a body's island: never refused; the island, or none
unfoldable pub island : Handle → World → Result (Option IslandNumber) Refusal
island h w = Ok (numbered (body_island w h))
