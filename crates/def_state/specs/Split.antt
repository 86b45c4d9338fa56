-- global_split.rs: split_island_now, schedule_split, run_pending_split; persistent.rs: split_allowed.
--
-- Beside global_split.rs, split_island_now:
-- - a node is a body's place in the island's list there and here; `node_of` gives none for an end that is no member, `node_of` gives top;
-- - the union pass (`uf.union`, contact links, then joint links) is `links_of`, the pairs that it joins; `uf.root`, flattened, is `labels_of`: there
--   the root that the joins left, here the least place of the component. Both say the same of two places: one component or not;
-- - `component_count` is `components`: places that are their own root, here their own label. The early return for one body or none is no case
--   of its own here: one body is one component, and what follows is the same (count 0, denial);
-- - `keep_root` is `keep_label`, the largest component. It differs on purpose where two are largest: there the one whose root has the lowest
--   place, here (01) the one with the earliest body (docs/DIFFERENCES.md);
-- - `root_island` is `goal`: the base for the kept component, and for the others the numbers that `alloc_island` gives while the places are
--   walked upward, so in the order of their first bodies: `new_numbers`, `new_islands`; `leads` says at which places one is taken;
-- - `contact_nodes`, `joint_nodes` (the node that a link goes with) are `link_goal`;
-- - the three passes from the highest place down are `contacts_leave`, `joints_leave`, `bodies_leave`. `contact_counts` and `joint_counts` only
--   reserve room: they have no counterpart.
use Rattle.std.specs.Prelude.{Bool, not, ◌&&◌, List, [], ◌∷◌, ◌++◌, ℕ, zero, suc, ◌+◌, ◌-◌, length, get_or, eqb, ltb, leb}
use Rattle.std.proofs.Math.Option.{Option, none, some}
use Rattle.def_kinds.specs.Choice.{pick}
use Rattle.def_kinds.specs.Answers.{Nothing, NoIsland}
use Rattle.def_state.specs.Plain.{top, place_of, swap_remove}
use Rattle.def_state.specs.World.{Handle, ContactLink, absent_contact, JointLink, absent_joint, Island, World, Step, done, gives, island_at, body_island, live}
use Rattle.def_state.specs.Fields.{split_set, island_set, joints_set, members_set}
use Rattle.def_state.specs.Membership.{new_number, alloc_island}
use Rattle.def_state.specs.Links.{contact_pushed, contact_removed, joint_pushed, joint_removed}
use Rattle.def_state.specs.Connected.{label, components, keep_label, tally}

-- ---- nodes: the places of the island's bodies

-- node_of: the place of a handle's body in the island i, or top where it is no member of i
unfoldable pub node_of : World → ℕ → Handle → ℕ
node_of w i h = pick (eqb (body_island w h) i) (place_of (island_at w i).bodies h.slot) top

-- the ends of the island's links that are both its members: contact links, then joint links
abbrev pub ends : ℕ → ℕ → List (ℕ × ℕ) → List (ℕ × ℕ)
ends a b ls = pick (eqb a top) ls (pick (eqb b top) ls ((a, b) ∷ ls))

unfoldable pub contact_ends : World → ℕ → List ContactLink → List (ℕ × ℕ) → List (ℕ × ℕ)
contact_ends w i [] ls = ls
contact_ends w i (l ∷ rest) ls = ends (node_of w i l.body1) (node_of w i l.body2) (contact_ends w i rest ls)

unfoldable pub joint_ends : World → ℕ → List JointLink → List (ℕ × ℕ)
joint_ends w i [] = []
joint_ends w i (l ∷ rest) = ends (node_of w i l.body1) (node_of w i l.body2) (joint_ends w i rest)

unfoldable pub links_of : World → ℕ → List (ℕ × ℕ)
links_of w i = contact_ends w i (island_at w i).contact_links (joint_ends w i (island_at w i).joint_links)

unfoldable pub labels_of : World → ℕ → List ℕ
labels_of w i = label (links_of w i) (length (island_at w i).bodies)

-- ---- where each component goes

-- the place j is the first of a component that leaves
unfoldable pub leads : List ℕ → ℕ → ℕ → Bool
leads L keep j = not (eqb j keep) && eqb (get_or L j 0) j

-- a new island with this sleeping flag: count 0, denial 0
abbrev pub new_island : Bool → Island
new_island z =
    record { bodies = []; contact_links = []; joint_links = []; constraint_remove_count = 0; split_denied_until = 0; sleeping = z }

-- k new islands with this sleeping flag, one after the other: their numbers, and the state after
unfoldable pub new_numbers : ℕ → Bool → World → List ℕ
new_numbers zero z w = []
new_numbers (suc k) z w = new_number w ∷ new_numbers k z (island_set (alloc_island w) (new_number w) (new_island z))

unfoldable pub new_islands : ℕ → Bool → World → World
new_islands zero z w = w
new_islands (suc k) z w = new_islands k z (island_set (alloc_island w) (new_number w) (new_island z))

-- the island of the component with label a: base for the kept one, and else the new numbers in the order of their first bodies
unfoldable pub goal : List ℕ → ℕ → ℕ → List ℕ → ℕ → ℕ
goal L keep base numbers a = pick (eqb a keep) base (get_or numbers (tally (leads L keep) a) top)

-- a link goes with its first end that is a member, else with its second; top: with neither
unfoldable pub link_goal : (ℕ → ℕ) → ℕ → ℕ → ℕ
link_goal g a b = pick (eqb a top) (pick (eqb b top) top (g b)) (g a)

-- ---- what leaves, from the highest place down, by swap removal

unfoldable pub contacts_leave : (Handle → ℕ) → (ℕ → ℕ) → ℕ → ℕ → World → World
contacts_leave node g base zero w = w
contacts_leave node g base (suc p) w =
    let l = get_or (island_at w base).contact_links p absent_contact in
    let to = link_goal g (node l.body1) (node l.body2) in
    contacts_leave node g base p
    (pick (eqb to base) w (pick (eqb to top) (contact_removed base p w) (contact_pushed to l (contact_removed base p w))))

-- a joint link that moves keeps its place of the key table
unfoldable pub joint_moved : ℕ → ℕ → ℕ → World → World
joint_moved base to p w =
    let l = get_or (island_at w base).joint_links p absent_joint in
    joint_pushed to l (island_set w base (joints_set (island_at w base) (swap_remove absent_joint (island_at w base).joint_links p)))

unfoldable pub joints_leave : (Handle → ℕ) → (ℕ → ℕ) → ℕ → ℕ → World → World
joints_leave node g base zero w = w
joints_leave node g base (suc p) w =
    let l = get_or (island_at w base).joint_links p absent_joint in
    let to = link_goal g (node l.body1) (node l.body2) in
    joints_leave node g base p (pick (eqb to base) w (pick (eqb to top) (joint_removed base p w) (joint_moved base to p w)))

unfoldable pub body_moved : ℕ → ℕ → ℕ → World → World
body_moved base to p w =
    let s = get_or (island_at w base).bodies p 0 in
    let v = island_set w base (members_set (island_at w base) (swap_remove 0 (island_at w base).bodies p)) in
    island_set v to (members_set (island_at v to) ((island_at v to).bodies ++ (s ∷ [])))

unfoldable pub bodies_leave : (ℕ → ℕ) → ℕ → ℕ → World → World
bodies_leave g base zero w = w
bodies_leave g base (suc p) w = bodies_leave g base p (pick (eqb (g p) base) w (body_moved base (g p) p w))

-- ---- the split

-- the stamp at which an island that is checked at this stamp may bid again (SPLIT_RETRY_COOLDOWN is 16)
unfoldable pub denial : ℕ → ℕ
denial stamp = pick (ltb top (stamp + 16)) top (stamp + 16)

-- count 0, denial set
unfoldable pub checked : ℕ → World → World
checked i w =
    let a = island_at w i in
    island_set w i
    (record {
      bodies = a.bodies;
      contact_links = a.contact_links;
      joint_links = a.joint_links;
      constraint_remove_count = 0;
      split_denied_until = denial w.sleep_scan_stamp;
      sleeping = a.sleeping;
    })

-- more than one component: new islands, then links, then bodies leave
unfoldable pub parted : ℕ → World → World
parted i w =
    let L = labels_of w i in
    let keep = keep_label L in
    let k = components L - 1 in
    let a = island_at w i in
    let g = goal L keep i (new_numbers k a.sleeping w) in
    let at : ℕ → ℕ = λ n. g (get_or L n 0) in
    let node = node_of w i in
    let v = new_islands k a.sleeping w in
    let v1 = contacts_leave node at i (length a.contact_links) v in
    let v2 = joints_leave node at i (length a.joint_links) v1 in
    bodies_leave at i (length a.bodies) v2

unfoldable pub split : ℕ → World → World
split i w = checked i (pick (leb (components (labels_of w i)) 1) w (parted i w))

-- split_island_now: 6 for a number not live
unfoldable pub split_island_now : ℕ → World → Step
split_island_now i w = pick (live w i) (done (split i w)) (gives NoIsland w)

-- ---- the waiting split

-- schedule_split: any number; it overwrites
unfoldable pub schedule_split : ℕ → World → Step
schedule_split i w = done (split_set w (some i))

abbrev pub run_split : Option ℕ → World → Step
run_split none w = gives Nothing w
run_split (some i) w = pick (live w i && not (island_at w i).sleeping) (done (split i w)) (gives Nothing w)

-- run_pending_split: it is cleared; a live, awake island is split
unfoldable pub run_pending_split : World → Step
run_pending_split w = run_split w.split_island (split_set w none)

-- ---- may this island bid

-- the island may not bid yet
unfoldable pub denied : Island → World → Bool
denied a w = ltb w.sleep_scan_stamp a.split_denied_until

-- split_allowed: a live island with a count, whose denial is over
unfoldable pub split_allowed : ℕ → World → Bool
split_allowed i w = live w i && (not (eqb (island_at w i).constraint_remove_count 0) && not (denied (island_at w i) w))
