-- persistent.rs: begin_sleep_scan, observe_body_for_sleep, finish_sleep_scan, mark_island_sleeping. Waking is added.
use Rattle.std.specs.Prelude.{Bool, true, false, ◌&&◌, ◌||◌, not, List, [], ◌∷◌, ℕ, ◌+◌, ◌%◌, length, eqb, ltb, leb}
use Rattle.def_kinds.specs.Choice.{pick}
use Rattle.def_kinds.specs.Answers.{Answer, Done, NoIsland, NoScan, TooShort}
use Rattle.def_state.specs.World.{Observed, World, Step, done, gives, island_at, live}
use Rattle.def_state.specs.Fields.{scan_set, island_set, sleeping_set}
use Rattle.def_state.specs.Membership.{clear_pending_split_of}

-- begin_sleep_scan: always opens anew; the stamp after 4294967295 is 0
unfoldable pub begin_sleep_scan : World → Step
begin_sleep_scan w = done (scan_set w ((w.sleep_scan_stamp + 1) % 4294967296) true [])

-- an island is listed at its first observation, and eligible while all its observations were
unfoldable pub observed : ℕ → Bool → List Observed → List Observed
observed i e [] = record { island = i; eligible = e } ∷ []
observed i e (o ∷ os) = pick (eqb o.island i) (record { island = i; eligible = o.eligible && e } ∷ os) (o ∷ observed i e os)

-- observe_body_for_sleep: 6 for a number not live, 7 where no scan is open
unfoldable pub observe_body_for_sleep : ℕ → Bool → World → Step
observe_body_for_sleep i e w =
    pick (live w i)
    (pick w.scanning (done (scan_set w w.sleep_scan_stamp true (observed i e w.sleep_scan_touched))) (gives NoScan w))
    (gives NoIsland w)

-- a live island, not sleeping, all of whose observations were eligible, with count 0 or at most one body
unfoldable pub sleepable : World → Observed → Bool
sleepable w o =
    let a = island_at w o.island in
    o.eligible && (live w o.island && (not a.sleeping && (eqb a.constraint_remove_count 0 || leb (length a.bodies) 1)))

unfoldable pub sleepables : World → List Observed → List ℕ
sleepables w [] = []
sleepables w (o ∷ os) = pick (sleepable w o) (o.island ∷ sleepables w os) (sleepables w os)

-- what finish gives: the answer, the islands that may sleep in order of first observation, and the state after
pub record Listing : Type 0 where
  pub answer : Answer
  pub listed : List ℕ
  pub after : World

-- finish_sleep_scan. room: the length of the output that the host lends
unfoldable pub finish_sleep_scan : ℕ → World → Listing
finish_sleep_scan room w =
    let list = sleepables w w.sleep_scan_touched in
    pick (not w.scanning) (record { answer = NoScan; listed = []; after = w })
    (pick (ltb room (length list)) (record { answer = TooShort; listed = []; after = w })
    (record { answer = Done; listed = list; after = scan_set w w.sleep_scan_stamp false [] }))

-- mark_island_sleeping: a split that waits for it is cleared
unfoldable pub mark_island_sleeping : ℕ → World → Step
mark_island_sleeping i w =
    pick (live w i) (done (clear_pending_split_of i (island_set w i (sleeping_set (island_at w i) true)))) (gives NoIsland w)

-- waking (added): clears the flag, and nothing else
unfoldable pub wake_island : ℕ → World → Step
wake_island i w = pick (live w i) (done (island_set w i (sleeping_set (island_at w i) false))) (gives NoIsland w)
