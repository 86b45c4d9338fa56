-- The steps that the calls are made of. Each leaves the tables well formed.
use Rattle.std.specs.Prelude.{◌≡◌, Bool, List, [], ◌∷◌, ◌++◌, reverse, ℕ, ◌+◌, ◌*◌, length, set}
use Rattle.list_in_table.specs.Word.{writes}
use Rattle.def_kinds.specs.Choice.{pick}
use Rattle.def_kinds.specs.declared.Sizes.{Sizes}
use Rattle.def_kinds.specs.Answers.{Done}
use Rattle.def_state.specs.Plain.{top, empty, drop_last, last_of, swap_remove, place_of}
use Rattle.def_state.specs.World.{Handle, Body, absent_joint, absent_island, World, Step, done, island_at}
use Rattle.def_state.specs.Fields.{bodies_set, islands_set, free_set, places_set, island_set, contacts_set, joints_set}
use Rattle.def_state.specs.Bodies.{grown}
use Rattle.def_state.specs.Membership.{clear_pending_split_of, singleton, without, places_of}
use Rattle.table_meaning.specs.Layout.{Tables, tables, members_put, contacts_put, joints_put, rows_put, scan_put, fit_put, freed_put, elem_words, list_words, extents}
use Rattle.table_meaning.specs.Decode.{flag}
use Rattle.table_meaning.specs.Does.{Does}
use Rattle.table_meaning.specs.Larger.{Larger}

-- the handle of slot s and generation g
abbrev pub handle : ℕ → ℕ → Handle
handle s g = record { slot = s; generation = g }

-- the words of a slot at j
abbrev pub slot_words : (j generation lowest fixed enabled sleeping : ℕ) → List (ℕ × ℕ)
slot_words j g l f e z = (j, g) ∷ (j + 1, l) ∷ (j + 2, f) ∷ (j + 3, e) ∷ (j + 4, z) ∷ []

abbrev pub row_words : (j removals denied sleeping : ℕ) → List (ℕ × ℕ)
row_words j r d z = (j, r) ∷ (j + 1, d) ∷ (j + 2, z) ∷ []

-- at least k slots
unfoldable pub grow : ℕ → World → Step
grow k w = done (grown k w)

-- just k slots are in use after it, and of the rest no less than before
pub record Grew (Z : Sizes) (k : ℕ) (t t' : List ℕ) : Type 0 where
  pub does : Does Z (grow k) t Done t'
  pub slots : (extents (tables Z t')).slots ≡ k
  pub larger : Larger (extents (tables Z t)) (extents (tables Z t'))

-- the body with these words stands in the slot s
abbrev pub body_with : (generation lowest fixed enabled sleeping : ℕ) → Body
body_with g l f e z = record { generation = g; lowest = l; fixed = flag f; enabled = flag e; sleeping = flag z }

unfoldable pub stand : ℕ → Body → World → Step
stand s b w = done (bodies_set w (set w.bodies s b))

pub record Stood (Z : Sizes) (s g l f e z : ℕ) (t t' : List ℕ) : Type 0 where
  pub does : Does Z (stand s (body_with g l f e z)) t Done t'
  pub extents_same : extents (tables Z t') ≡ extents (tables Z t)

-- a step that lowers no extent
pub record Steps (Z : Sizes) (f : World → Step) (t t' : List ℕ) : Type 0 where
  pub does : Does Z f t Done t'
  pub larger : Larger (extents (tables Z t)) (extents (tables Z t'))

-- ---- islands

-- the words of an island that is taken in: no bodies, no links, not observed, in no list
abbrev pub island_blanked : Sizes → Tables → ℕ → Tables
island_blanked Z T m =
    let T1 = members_put T (writes T.members (list_words (4 * Z.slots + 2 * m))) in
    let T2 = contacts_put T1 (writes T1.contacts (list_words (4 * Z.edges + 2 * m))) in
    let T3 = joints_put T2 (writes T2.joints (list_words (4 * Z.joints + 2 * m))) in
    let T4 = rows_put T3 (writes T3.rows (row_words (3 * m) 0 0 0)) in
    let T5 = scan_put T4 (writes T4.scan (elem_words (4 * m))) in
    let T6 = fit_put T5 (set T5.fit m 0) in
    freed_put T6 (writes T6.freed (elem_words (4 * m)))

-- the next island number comes into use, freed
unfoldable pub one_island : World → World
one_island w = free_set (islands_set w (w.islands ++ (absent_island ∷ []))) (w.free_islands ++ (length w.islands ∷ []))

unfoldable pub grow_island : World → Step
grow_island w = done (one_island w)

-- there is a free number
unfoldable pub readied : World → World
readied w = pick (empty w.free_islands) (one_island w) w

unfoldable pub ready : World → Step
ready w = done (readied w)

-- the last freed number becomes an island of the body in slot s
unfoldable pub found : ℕ → Bool → World → Step
found s z w = done (island_set (free_set w (drop_last w.free_islands)) (last_of top w.free_islands) (singleton s z))

-- the body in slot s leaves the island i, in which others stay
unfoldable pub leave : ℕ → ℕ → World → Step
leave s i w =
    let a = island_at w i in
    done (island_set w i (without a (swap_remove 0 a.bodies (place_of a.bodies s))))

-- the island i, with one body left and no link, is freed
unfoldable pub leave_last : ℕ → World → Step
leave_last i w = done (free_set (island_set w i absent_island) (w.free_islands ++ (i ∷ [])))

unfoldable pub clear_pending : ℕ → World → Step
clear_pending i w = done (clear_pending_split_of i w)

-- ---- links of an island

-- the last contact link of the island goes
unfoldable pub drop_contact : ℕ → World → Step
drop_contact i w = done (island_set w i (contacts_set (island_at w i) (drop_last (island_at w i).contact_links)))

unfoldable pub drop_contacts : ℕ → World → Step
drop_contacts i w = done (island_set w i (contacts_set (island_at w i) []))

-- the last joint link of the island goes, and its place of the key table is free
unfoldable pub drop_joint : ℕ → World → Step
drop_joint i w =
    done
    (island_set (places_set w w.joint_places (w.free_places ++ ((last_of absent_joint (island_at w i).joint_links).place ∷ []))) i
    (joints_set (island_at w i) (drop_last (island_at w i).joint_links)))

-- all of them, from the last to the first
unfoldable pub drop_joints : ℕ → World → Step
drop_joints i w =
    done (island_set (places_set w w.joint_places (w.free_places ++ reverse (places_of (island_at w i)))) i (joints_set (island_at w i) []))
