-- persistent.rs: alloc_island, free_island, ensure_body, remove_body; global_split.rs: clear_pending_split_of, which freeing asks.
use Rattle.std.specs.Prelude.{Bool, false, List, [], ◌∷◌, ◌++◌, map, reverse, ℕ, length, eqb}
use Rattle.std.proofs.Math.Option.{Option, none, some}
use Rattle.def_kinds.specs.Choice.{pick}
use Rattle.def_kinds.specs.Answers.{Nothing}
use Rattle.def_state.specs.Plain.{top, empty, place_of, drop_last, last_of, swap_remove, more}
use Rattle.def_state.specs.World.{Handle, JointLink, Island, absent_island, World, Step, done, gives, body_of, island_at, named, island_of}
use Rattle.def_state.specs.Fields.{islands_set, free_set, places_set, split_set, island_set}

-- the number that alloc_island gives: the last freed, or the next unused
unfoldable pub new_number : World → ℕ
new_number w = pick (empty w.free_islands) (length w.islands) (last_of top w.free_islands)

-- alloc_island: the number is not free any more, and names an island
unfoldable pub alloc_island : World → World
alloc_island w =
    pick (empty w.free_islands) (islands_set w (w.islands ++ (absent_island ∷ []))) (free_set w (drop_last w.free_islands))

-- whom ensure_body takes: a live, enabled, non-fixed non-member
unfoldable pub may_join : World → Handle → Bool
may_join w h =
    pick (named w h)
    (pick (body_of w h.slot).fixed false (pick (body_of w h.slot).enabled (eqb (island_of w h.slot) top) false))
    false

-- an island of one body
abbrev pub singleton : ℕ → Bool → Island
singleton s z =
    record { bodies = s ∷ []; contact_links = []; joint_links = []; constraint_remove_count = 0; split_denied_until = 0; sleeping = z }

unfoldable pub joined : World → ℕ → World
joined w s = island_set (alloc_island w) (new_number w) (singleton s (body_of w s).sleeping)

-- ensure_body: a new island of its own, with its sleeping flag
unfoldable pub ensure : Handle → World → Step
ensure h w = pick (may_join w h) (done (joined w h.slot)) (gives Nothing w)

-- the places of the key table that an island's joint links have
abbrev pub places_of : Island → List ℕ
places_of a = map (λ (l : JointLink). l.place) a.joint_links

-- the pending split is that of i
abbrev pub waits : Option ℕ → ℕ → Bool
waits none i = false
waits (some j) i = eqb j i

-- clear_pending_split_of
unfoldable pub clear_pending_split_of : ℕ → World → World
clear_pending_split_of i w = split_set w (pick (waits w.split_island i) none w.split_island)

-- free_island, with the links that an emptied island drops: the key table's places come free from the last link to the first
unfoldable pub free_island : ℕ → World → World
free_island i w =
    let v = places_set w w.joint_places (w.free_places ++ reverse (places_of (island_at w i))) in
    clear_pending_split_of i (free_set (island_set v i absent_island) (w.free_islands ++ (i ∷ [])))

-- the island with these bodies left: one removal more
abbrev pub without : Island → List ℕ → Island
without a bs =
    record {
      bodies = bs;
      contact_links = a.contact_links;
      joint_links = a.joint_links;
      constraint_remove_count = more a.constraint_remove_count;
      split_denied_until = a.split_denied_until;
      sleeping = a.sleeping;
    }

-- remove_body_raw: the last body of the island takes the place; an island with no body left is freed
unfoldable pub left : World → ℕ → ℕ → World
left w s i =
    let a = island_at w i in
    let bs = swap_remove 0 a.bodies (place_of a.bodies s) in
    pick (empty bs) (free_island i w) (island_set w i (without a bs))

-- remove_body
unfoldable pub remove : Handle → World → Step
remove h w =
    pick (named w h)
    (pick (eqb (island_of w h.slot) top) (gives Nothing w) (done (left w h.slot (island_of w h.slot))))
    (gives Nothing w)
