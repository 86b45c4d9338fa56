-- What a split of island i does, by membership and not by order.
use Rattle.std.specs.Prelude.{◌≡◌, ◌⊎◌, ◌≢◌, ◌↔◌, true, ℕ}
use Rattle.def_state.specs.Plain.{top}
use Rattle.def_state.specs.World.{Handle, World, island_at, body_island, live}
use Rattle.def_state.specs.Split.{denial}
use Rattle.theorem_split.specs.Graph.{Path, Bond, Stands, Own, Whole}
use Rattle.theorem_split.specs.Fine.{Apart}

-- all but the islands and the free stacks is as it was
pub record Steady (w v : World) : Type 0 where
  pub table : v.bodies ≡ w.bodies
  pub tracked : v.tracked ≡ w.tracked
  pub joint_places : v.joint_places ≡ w.joint_places
  pub journal : v.removal_journal ≡ w.removal_journal
  pub pending : v.split_island ≡ w.split_island
  pub stamp : v.sleep_scan_stamp ≡ w.sleep_scan_stamp
  pub scanning : v.scanning ≡ w.scanning
  pub touched : v.sleep_scan_touched ≡ w.sleep_scan_touched

-- the link l stood in i, and j is where its first end that was a body of i is now; else its second
pub record Came (i : ℕ) (w v : World) (j : ℕ) (l : Bond) : Type 0 where
  pub stood : Stands w i l
  pub first : body_island w l.body1 ≡ i → body_island v l.body1 ≡ j
  pub second : body_island w l.body1 ≢ i → body_island w l.body2 ≡ i → body_island v l.body2 ≡ j

-- w before, v after
pub record Parted (i : ℕ) (w v : World) : Type 0 where
  pub apart : Apart v
  pub steady : Steady w v
  -- a body that was not in i is where it was; one of i is in some island
  pub stay : (h : Handle) → body_island w h ≢ i → body_island v h ≡ body_island w h
  pub some : (h : Handle) → body_island w h ≡ i → body_island v h ≢ top
  -- two bodies of i are together exactly if a path of its links joins them
  pub together : (a b : Handle) → body_island w a ≡ i → body_island w b ≡ i → (body_island v a ≡ body_island v b) ↔ Path (Own w i) a b
  -- another island is as it was, where it is live
  pub other : (j : ℕ) → j ≢ i → live w j ≡ true → island_at v j ≡ island_at w j
  -- links: those of other islands stand where they stood, those of i go with their first end in i, else with their second
  pub kept : (j : ℕ) (l : Bond) → j ≢ i → Stands w j l → Stands v j l
  pub first : (l : Bond) → Stands w i l → body_island w l.body1 ≡ i → Stands v (body_island v l.body1) l
  pub second : (l : Bond) → Stands w i l → body_island w l.body1 ≢ i → body_island w l.body2 ≡ i → Stands v (body_island v l.body2) l
  -- those with neither end in i stay where i was connected, and are dropped where it was not
  pub neither : (l : Bond) → Stands w i l → body_island w l.body1 ≢ i → body_island w l.body2 ≢ i
      → (Whole w i × Stands v i l) ⊎ ((Whole w i → ⊥) × ((j : ℕ) → Stands v j l → ⊥))
  pub from : (j : ℕ) (l : Bond) → Stands v j l → ((j ≢ i) × Stands w j l) ⊎ Came i w v j l
  -- an island with a body of i: count 0, sleeping as i was; denied where it is i
  pub count : (h : Handle) → body_island w h ≡ i → (island_at v (body_island v h)).constraint_remove_count ≡ 0
  pub sleeping : (h : Handle) → body_island w h ≡ i → (island_at v (body_island v h)).sleeping ≡ (island_at w i).sleeping
  pub denied : (island_at v i).split_denied_until ≡ denial w.sleep_scan_stamp
  pub free : (h : Handle) → body_island w h ≡ i → body_island v h ≢ i → (island_at v (body_island v h)).split_denied_until ≡ 0
