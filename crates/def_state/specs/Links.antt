-- persistent.rs: link_contact, link_joint, merge_islands, unlink_contact, unlink_joint, journal_removal, contact_edge_removed.
use Rattle.std.specs.Prelude.{Bool, false, ◌&&◌, ◌||◌, not, List, [], ◌∷◌, ◌++◌, map, ℕ, zero, suc, ◌+◌, ◌-◌, length, get_or, set, eqb, ltb, leb}
use Rattle.def_kinds.specs.Choice.{pick}
use Rattle.def_kinds.specs.declared.Sizes.{Sizes}
use Rattle.def_kinds.specs.Answers.{Nothing, OverSize, StillLinked, JointsFull, JournalFull}
use Rattle.def_state.specs.Plain.{top, empty, has, place_of, drop_last, last_of, swap_remove}
use Rattle.def_state.specs.World.{Handle, Key, impulse, chain, ContactLink, absent_contact, JointLink, absent_joint, Island, absent_island, World, Step, done, gives, island_at, body_island}
use Rattle.def_state.specs.Fields.{free_set, tracked_set, places_set, journal_set, island_set, contacts_set, joints_set}
use Rattle.def_state.specs.Membership.{clear_pending_split_of}

-- ---- what is linked, and where

abbrev pub edges_of : Island → List ℕ
edges_of a = map (λ (l : ContactLink). l.edge_id) a.contact_links

abbrev pub same_key : Key → Key → Bool
same_key (impulse i g) (impulse j h) = eqb i j && eqb g h
same_key (impulse i g) (chain u v o) = false
same_key (chain u v o) (impulse j h) = false
same_key (chain u v o) (chain x y p) = eqb u x && (eqb v y && eqb o p)

-- the place in its list of the link with this key; the list's length where there is none
unfoldable pub key_place : List JointLink → Key → ℕ
key_place [] k = 0
key_place (l ∷ ls) k = pick (same_key l.key k) 0 (suc (key_place ls k))

-- the island below k whose contact links have the edge, or top; the same for a joint's key (the Rust looks them up in contact_link_locs and joint_link_locs)
unfoldable pub contact_below : List Island → ℕ → ℕ → ℕ
contact_below is e zero = top
contact_below is e (suc k) = pick (has (edges_of (get_or is k absent_island)) e) k (contact_below is e k)

unfoldable pub joint_below : List Island → Key → ℕ → ℕ
joint_below is q zero = top
joint_below is q (suc k) =
    pick (ltb (key_place (get_or is k absent_island).joint_links q) (length (get_or is k absent_island).joint_links)) k (joint_below is q k)

unfoldable pub contact_home : World → ℕ → ℕ
contact_home w e = contact_below w.islands e (length w.islands)

unfoldable pub joint_home : World → Key → ℕ
joint_home w q = joint_below w.islands q (length w.islands)

-- ---- merge_islands

-- more bodies survives; equal, the first
unfoldable pub survivor : World → ℕ → ℕ → ℕ
survivor w a b = pick (leb (length (island_at w b).bodies) (length (island_at w a).bodies)) a b

-- counts add, and stop at the top
unfoldable pub add_counts : ℕ → ℕ → ℕ
add_counts x y = pick (ltb top (x + y)) top (x + y)

abbrev pub absorbed : Island → Island → Island
absorbed big small =
    record {
      bodies = big.bodies ++ small.bodies;
      contact_links = big.contact_links ++ small.contact_links;
      joint_links = big.joint_links ++ small.joint_links;
      constraint_remove_count = add_counts big.constraint_remove_count small.constraint_remove_count;
      split_denied_until = big.split_denied_until;
      sleeping = big.sleeping && small.sleeping;
    }

-- small is freed (free_island), its links being the other's now
unfoldable pub absorb : ℕ → ℕ → World → World
absorb big small w =
    let v = island_set (island_set w big (absorbed (island_at w big) (island_at w small))) small absent_island in
    clear_pending_split_of small (free_set v (w.free_islands ++ (small ∷ [])))

-- merge_islands: nothing where a and b are one island
unfoldable pub merge_islands : ℕ → ℕ → World → World
merge_islands a b w = pick (eqb a b) w (pick (eqb (survivor w a b) a) (absorb a b w) (absorb b a w))

-- the island that is to hold a link of these ends (top where neither is a member), and the state with them merged
unfoldable pub target : World → Handle → Handle → ℕ
target w h1 h2 =
    let a = body_island w h1 in
    let b = body_island w h2 in
    pick (eqb a top) b (pick (eqb b top) a (survivor w a b))

unfoldable pub merged : Handle → Handle → World → World
merged h1 h2 w =
    let a = body_island w h1 in
    let b = body_island w h2 in
    pick (eqb a top || eqb b top) w (merge_islands a b w)

-- ---- link_contact

unfoldable pub contact_pushed : ℕ → ContactLink → World → World
contact_pushed i l w = island_set w i (contacts_set (island_at w i) ((island_at w i).contact_links ++ (l ∷ [])))

-- the tracked length is at least k
unfoldable pub track : ℕ → World → World
track k w = tracked_set w (pick (ltb w.tracked k) k w.tracked)

-- link_contact: the length first, even where the answer is then 1; the link is appended after the merge
unfoldable pub link_contact : Sizes → ℕ → Handle → Handle → World → Step
link_contact Z e h1 h2 w =
    let v = track (e + 1) w in
    pick (leb Z.edges e) (gives OverSize w)
    (pick (not (eqb (contact_home v e) top)) (gives Nothing v)
    (pick (eqb (target v h1 h2) top) (gives Nothing v)
    (done (contact_pushed (target v h1 h2) (record { edge_id = e; body1 = h1; body2 = h2 }) (merged h1 h2 v)))))

-- ---- link_joint

unfoldable pub joint_pushed : ℕ → JointLink → World → World
joint_pushed i l w = island_set w i (joints_set (island_at w i) ((island_at w i).joint_links ++ (l ∷ [])))

-- a place of the key table: the last freed, or the next unused
unfoldable pub new_place : World → ℕ
new_place w = pick (empty w.free_places) w.joint_places (last_of top w.free_places)

unfoldable pub take_place : World → World
take_place w = pick (empty w.free_places) (places_set w (w.joint_places + 1) []) (places_set w w.joint_places (drop_last w.free_places))

-- how many joint links fit yet
unfoldable pub joint_room : Sizes → World → ℕ
joint_room Z w = Z.joints - w.joint_places + length w.free_places

-- link_joint: alike, without the length
unfoldable pub link_joint : Sizes → Key → Handle → Handle → World → Step
link_joint Z q h1 h2 w =
    pick (not (eqb (joint_home w q) top)) (gives Nothing w)
    (pick (eqb (target w h1 h2) top) (gives Nothing w)
    (pick (eqb (joint_room Z w) 0) (gives JointsFull w)
    (done (joint_pushed (target w h1 h2) (record { place = new_place w; key = q; body1 = h1; body2 = h2 }) (take_place (merged h1 h2 w))))))

-- ---- journal_removal

unfoldable pub same_handle : Handle → Handle → Bool
same_handle h k = eqb h.slot k.slot && eqb h.generation k.generation

-- journal_removal: a link from a body to itself never carried connectivity
unfoldable pub journal_removal : Handle → Handle → World → World
journal_removal h1 h2 w = pick (same_handle h1 h2) w (journal_set w (w.removal_journal ++ (record { body1 = h1; body2 = h2 } ∷ [])))

-- an entry is needed and none fits
unfoldable pub journal_refuses : Sizes → Handle → Handle → World → Bool
journal_refuses Z h1 h2 w = not (same_handle h1 h2) && leb Z.journal (length w.removal_journal)

-- ---- unlink_contact

unfoldable pub contact_removed : ℕ → ℕ → World → World
contact_removed i p w = island_set w i (contacts_set (island_at w i) (swap_remove absent_contact (island_at w i).contact_links p))

-- unlink_contact: swap removal, then a journal entry
unfoldable pub unlink_contact : Sizes → ℕ → World → Step
unlink_contact Z e w =
    let i = contact_home w e in
    let p = place_of (edges_of (island_at w i)) e in
    let l = get_or (island_at w i).contact_links p absent_contact in
    pick (eqb i top) (gives Nothing w)
    (pick (journal_refuses Z l.body1 l.body2 w) (gives JournalFull w)
    (done (journal_removal l.body1 l.body2 (contact_removed i p w))))

-- ---- unlink_joint

-- the link at place p of the island's list goes, and its place of the key table is free
unfoldable pub joint_removed : ℕ → ℕ → World → World
joint_removed i p w =
    let l = get_or (island_at w i).joint_links p absent_joint in
    let v = places_set w w.joint_places (w.free_places ++ (l.place ∷ [])) in
    island_set v i (joints_set (island_at w i) (swap_remove absent_joint (island_at w i).joint_links p))

-- unlink_joint: the same by key
unfoldable pub unlink_joint : Sizes → Key → World → Step
unlink_joint Z q w =
    let i = joint_home w q in
    let p = key_place (island_at w i).joint_links q in
    let l = get_or (island_at w i).joint_links p absent_joint in
    pick (eqb i top) (gives Nothing w)
    (pick (journal_refuses Z l.body1 l.body2 w) (gives JournalFull w)
    (done (journal_removal l.body1 l.body2 (joint_removed i p w))))

-- ---- contact_edge_removed

abbrev pub renamed : ℕ → ContactLink → ContactLink
renamed e l = record { edge_id = e; body1 = l.body1; body2 = l.body2 }

unfoldable pub renumbered : ℕ → ℕ → World → World
renumbered removed last w =
    let i = contact_home w last in
    let a = island_at w i in
    let p = place_of (edges_of a) last in
    pick (eqb i top) w (island_set w i (contacts_set a (set a.contact_links p (renamed removed (get_or a.contact_links p absent_contact)))))

-- contact_edge_removed: the edge `last` takes the number `removed`
unfoldable pub contact_edge_removed : ℕ → ℕ → World → Step
contact_edge_removed removed last w =
    pick (leb w.tracked removed) (gives Nothing w)
    (pick (not (eqb (contact_home w removed) top)) (gives StillLinked w)
    (pick (eqb w.tracked (last + 1)) (done (tracked_set (renumbered removed last w) last)) (gives Nothing w)))
