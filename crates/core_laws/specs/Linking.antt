-- The steps that linking, unlinking, merging and renumbering are made of. Each leaves the tables well formed.
use Rattle.std.specs.Prelude.{[], ◌∷◌, ◌++◌, ℕ, ◌+◌}
use Rattle.def_kinds.specs.Choice.{pick}
use Rattle.def_state.specs.Plain.{top, empty, drop_last, last_of}
use Rattle.def_state.specs.World.{Handle, Key, ContactLink, World, Step, done}
use Rattle.def_state.specs.Fields.{places_set, journal_set}
use Rattle.def_state.specs.Links.{track, contact_pushed, contact_removed, joint_pushed, joint_removed, new_place, take_place, absorb}

-- ---- contact links

-- the tracked length is at least k
unfoldable pub tracking : ℕ → World → Step
tracking k w = done (track k w)

-- the edge e, which is not linked, is the last contact link of the island i
abbrev pub contact_of : (e slot1 generation1 slot2 generation2 : ℕ) → ContactLink
contact_of e a b c d = record { edge_id = e; body1 = record { slot = a; generation = b }; body2 = record { slot = c; generation = d } }

unfoldable pub contact_push : ℕ → ContactLink → World → Step
contact_push i l w = done (contact_pushed i l w)

-- the link at place p of the island i goes, by swap removal
unfoldable pub contact_remove : ℕ → ℕ → World → Step
contact_remove i p w = done (contact_removed i p w)

-- ---- the journal
unfoldable pub journalled : Handle → Handle → World → Step
journalled h1 h2 w = done (journal_set w (w.removal_journal ++ (record { body1 = h1; body2 = h2 } ∷ [])))

-- ---- joint links

-- there is a free place of the key table: the next unused one comes in where none is free
unfoldable pub place_readied : World → World
place_readied w = pick (empty w.free_places) (places_set w (w.joint_places + 1) (w.joint_places ∷ [])) w

unfoldable pub place_ready : World → Step
place_ready w = done (place_readied w)

-- the last freed place takes the link, the last joint link of the island i
unfoldable pub joint_push : ℕ → Key → Handle → Handle → World → Step
joint_push i q h1 h2 w =
    done
    (joint_pushed i (record { place = last_of top w.free_places; key = q; body1 = h1; body2 = h2 }) (places_set w w.joint_places (drop_last w.free_places)))

-- the link at place p of the island i goes, by swap removal, and its place of the key table is free
unfoldable pub joint_remove : ℕ → ℕ → World → Step
joint_remove i p w = done (joint_removed i p w)

-- ---- islands
unfoldable pub absorbs : ℕ → ℕ → World → Step
absorbs big small w = done (absorb big small w)

-- a place is taken for the link, the last joint link of the island i
unfoldable pub joint_hold : ℕ → Key → Handle → Handle → World → Step
joint_hold i q h1 h2 w = done (joint_pushed i (record { place = new_place w; key = q; body1 = h1; body2 = h2 }) (take_place w))
