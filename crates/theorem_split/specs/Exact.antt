-- A split of island i is exact: w before, v after.
use Rattle.std.specs.Prelude.{◌≡◌, ◌≢◌, ◌↔◌, true, ℕ}
use Rattle.def_state.specs.Plain.{top}
use Rattle.def_state.specs.World.{Handle, World, island_at, body_island, live}
use Rattle.theorem_split.specs.Graph.{Path, Own, Whole}

-- a body is a member of some island in v exactly if it is in w
abbrev pub SameMembers : World → World → Type 0
SameMembers w v = (h : Handle) → (body_island v h ≢ top) ↔ (body_island w h ≢ top)

pub record Exact (i : ℕ) (w v : World) : Type 0 where
  -- a body is a member afterwards exactly if it was one before
  pub members : SameMembers w v
  -- a body that was not in i is where it was
  pub stay : (h : Handle) → body_island w h ≢ i → body_island v h ≡ body_island w h
  -- two bodies of i are together afterwards exactly if a path of its links, each between two of its bodies, joined them
  pub together : (a b : Handle) → body_island w a ≡ i → body_island w b ≡ i → (body_island v a ≡ body_island v b) ↔ Path (Own w i) a b
  -- each island that has a body of i is connected by its own links
  pub whole : (h : Handle) → body_island w h ≡ i → Whole v (body_island v h)
  -- no other existing island changes
  pub others : (j : ℕ) → j ≢ i → live w j ≡ true → island_at v j ≡ island_at w j
