-- What a call can do to a state, as far as islands, links, counts and the journal go: a few abstract changes.
use mathlib.Core.Path.{◌≡◌}
use mathlib.Core.Logic.{◌⊎◌, ◌≢◌, ◌↔◌}
use Prim.Native.Nat.{ℕ}
use Rattle.def_state.specs.Plain.{top}
use Rattle.def_state.specs.World.{Handle, Removal, World, empty_world, island_at, body_island}
use Rattle.theorem_split.specs.Graph.{In, Path, Name, Bond, Stands, Own, Whole, Joins}
use Rattle.theorem_split.specs.Exact.{SameMembers}
use Rattle.theorem_history.specs.Ties.{Event, nothing, unlinked, renumbered, leaving, splitting, wiped, new_bond, Alone}

abbrev pub count : World → ℕ → ℕ
count w j = (island_at w j).constraint_remove_count

-- a body that became a member was named by no link
abbrev pub EntersIn : World → World → Type 0
EntersIn w v = (h : Handle) → body_island w h ≡ top → body_island v h ≢ top → (j : ℕ) (l : Bond) → Stands w j l → (l.body1 ≢ h) × (l.body2 ≢ h)

-- a link that some island holds joins a and b, and both are members
pub record LinkedIn (w : World) (a b : Handle) : Type 0 where
  pub island : ℕ
  pub link : Bond
  pub stands : Stands w island link
  pub joins : Joins link a b
  pub first : body_island w a ≢ top
  pub second : body_island w b ≢ top

-- nobody becomes a member
abbrev pub Calm : World → World → Type 0
Calm w v = (h : Handle) → body_island w h ≡ top → body_island v h ≡ top

-- nothing of it changes
pub record Same (w v : World) : Type 0 where
  pub home : (h : Handle) → body_island v h ≡ body_island w h
  pub to : (j : ℕ) (l : Bond) → Stands w j l → Stands v j l
  pub from : (j : ℕ) (l : Bond) → Stands v j l → Stands w j l
  pub counts : (j : ℕ) → count v j ≡ count w j
  pub journal : v.removal_journal ≡ w.removal_journal

-- the body h becomes the only one of island n
pub record Entered (h : Handle) (n : ℕ) (w v : World) : Type 0 where
  pub some : n ≢ top
  pub out : body_island w h ≡ top
  pub new : body_island v h ≡ n
  pub empty : (k : Handle) → body_island w k ≢ n
  pub others : (k : Handle) → (k ≡ h → ⊥) → body_island v k ≡ body_island w k
  pub to : (j : ℕ) (l : Bond) → Stands w j l → Stands v j l
  pub from : (j : ℕ) (l : Bond) → Stands v j l → Stands w j l
  pub counts : (j : ℕ) → j ≢ n → count v j ≡ count w j
  pub journal : v.removal_journal ≡ w.removal_journal

-- the body h leaves its island, which keeps its links and is counted, or is empty and its links are dropped
pub record Left (h : Handle) (w v : World) : Type 0 where
  pub was : body_island w h ≢ top
  pub out : body_island v h ≡ top
  pub others : (k : Handle) → (k ≡ h → ⊥) → body_island v k ≡ body_island w k
  pub to : (j : ℕ) (l : Bond) → Stands w j l → Stands v j l ⊎ ((j ≡ body_island w h) × Alone w h)
  pub gone : Alone w h → (j : ℕ) (l : Bond) → Stands w (body_island w h) l → Stands v j l → ⊥
  pub from : (j : ℕ) (l : Bond) → Stands v j l → Stands w j l
  pub counted : ((k : Handle) → body_island v k ≢ body_island w h) ⊎ (count v (body_island w h) ≢ 0)
  pub counts : (j : ℕ) → j ≢ body_island w h → count v j ≡ count w j
  pub journal : v.removal_journal ≡ w.removal_journal

-- the link l is put into island `into`; the islands of its ends are one now
pub record Made (l : Bond) (w v : World) : Type 0 where
  pub into : ℕ
  pub in_some : into ≢ top
  -- the island that an island is part of now
  pub new : ℕ → ℕ
  pub new_top : new top ≡ top
  pub new_some : (j : ℕ) → j ≢ top → new j ≢ top
  pub home : (k : Handle) → body_island v k ≡ new (body_island w k)
  pub first : body_island w l.body1 ≢ top → new (body_island w l.body1) ≡ into
  pub second : body_island w l.body2 ≢ top → new (body_island w l.body2) ≡ into
  pub to : (j : ℕ) (k : Bond) → Stands w j k → Stands v (new j) k
  pub stands : Stands v into l
  pub from : (j : ℕ) (k : Bond) → Stands v j k → ((i : ℕ) × (new i ≡ j) × Stands w i k) ⊎ ((k ≡ l) × (j ≡ into))
  pub counts : (j : ℕ) → j ≢ top → count v (new j) ≡ 0 → count w j ≡ 0
  -- two islands become one only if they are those of the ends
  pub glue : (i j : ℕ) → i ≢ top → j ≢ top → new i ≡ new j
      → (i ≡ j) ⊎ (((i ≡ body_island w l.body1) × (j ≡ body_island w l.body2)) ⊎ ((i ≡ body_island w l.body2) × (j ≡ body_island w l.body1)))
  pub journal : v.removal_journal ≡ w.removal_journal

abbrev pub entry_of : Bond → Removal
entry_of l = record { body1 = l.body1; body2 = l.body2 }

-- a link of this name goes, and the journal has it unless it is a body's with itself
pub record Dropped (n : Name) (w v : World) : Type 0 where
  pub link : Bond
  pub named : link.name ≡ n
  pub home : (h : Handle) → body_island v h ≡ body_island w h
  pub to : (j : ℕ) (l : Bond) → Stands w j l → Stands v j l ⊎ (l ≡ link)
  pub from : (j : ℕ) (l : Bond) → Stands v j l → Stands w j l
  pub counts : (j : ℕ) → count v j ≡ count w j
  pub kept : (e : Removal) → In e w.removal_journal → In e v.removal_journal
  pub journal : (link.body1 ≡ link.body2) ⊎ In (entry_of link) v.removal_journal
  -- no other link has the name
  pub gone : (j : ℕ) (l : Bond) → Stands v j l → l.name ≢ n

-- the edge `last` takes the number `removed`
pub record Renumbered (removed last : ℕ) (w v : World) : Type 0 where
  pub home : (h : Handle) → body_island v h ≡ body_island w h
  pub to : (j : ℕ) (l : Bond) → Stands w j l → Stands v j (new_bond removed last l)
  pub from : (j : ℕ) (l : Bond) → Stands v j l → (k : Bond) × Stands w j k × (l ≡ new_bond removed last k)
  pub counts : (j : ℕ) → count v j ≡ count w j
  pub journal : v.removal_journal ≡ w.removal_journal

-- the journal is emptied; an island two of whose bodies an entry named is counted
pub record Resolved (w v : World) : Type 0 where
  pub home : (h : Handle) → body_island v h ≡ body_island w h
  pub to : (j : ℕ) (l : Bond) → Stands w j l → Stands v j l
  pub from : (j : ℕ) (l : Bond) → Stands v j l → Stands w j l
  pub counts : (j : ℕ) → count v j ≡ 0 → count w j ≡ 0
  pub counted : (e : Removal) → In e w.removal_journal → (j : ℕ) → j ≢ top → body_island w e.body1 ≡ j → body_island w e.body2 ≡ j → count v j ≢ 0

-- island i is split
pub record Halved (i : ℕ) (w v : World) : Type 0 where
  pub some : i ≢ top
  pub members : SameMembers w v
  pub stay : (h : Handle) → body_island w h ≢ i → body_island v h ≡ body_island w h
  pub together : (a b : Handle) → body_island w a ≡ i → body_island w b ≡ i → (body_island v a ≡ body_island v b) ↔ Path (Own w i) a b
  pub kept : (j : ℕ) (l : Bond) → j ≢ i → Stands w j l → Stands v j l
  pub first : (l : Bond) → Stands w i l → body_island w l.body1 ≡ i → Stands v (body_island v l.body1) l
  pub second : (l : Bond) → Stands w i l → body_island w l.body1 ≢ i → body_island w l.body2 ≡ i → Stands v (body_island v l.body2) l
  pub neither : (l : Bond) → Stands w i l → body_island w l.body1 ≢ i → body_island w l.body2 ≢ i
      → (Whole w i × Stands v i l) ⊎ ((Whole w i → ⊥) × ((j : ℕ) → Stands v j l → ⊥))
  pub from : (j : ℕ) (l : Bond) → Stands v j l
      → ((j ≢ i) × Stands w j l)
      ⊎ (Stands w i l × (body_island w l.body1 ≡ i → body_island v l.body1 ≡ j)
      × (body_island w l.body1 ≢ i → body_island w l.body2 ≡ i → body_island v l.body2 ≡ j))
  -- an island with none of i's bodies has the count that it had
  pub whole : (j : ℕ) → j ≢ top → (a b : Handle) → body_island w a ≡ i → body_island v a ≡ j → body_island v b ≡ j → Path (Own v j) a b
  pub apart : (a b : Handle) → body_island w a ≢ i → body_island v a ≡ body_island v b → body_island v a ≢ top → body_island w b ≢ i
  pub counts : (h : Handle) → body_island w h ≢ i → body_island w h ≢ top → count v (body_island w h) ≡ count w (body_island w h)
  pub journal : v.removal_journal ≡ w.removal_journal

pub data Change : Event → World → World → Type 0 where
  same : {w v : World} → Same w v → Change nothing w v
  entered : {w v : World} (h : Handle) (n : ℕ) → Entered h n w v → Change nothing w v
  left : {w v : World} (h : Handle) → Left h w v → Change (leaving h) w v
  -- h was in no island
  still : {w v : World} (h : Handle) → ((l : Bond) → Stands w (body_island w h) l → ⊥) → Same w v → Change (leaving h) w v
  linked : {l : Bond} {w v : World} → Made l w v → Change (Event.made l) w v
  dropped : {n : Name} {w v : World} → Dropped n w v → Change (unlinked n) w v
  renamed : {r k : ℕ} {w v : World} → Renumbered r k w v → Change (renumbered r k) w v
  resolved : {w v : World} → Resolved w v → Change nothing w v
  halved : {w v : World} (i : ℕ) → Halved i w v → Change (splitting i) w v
  fresh : {w v : World} → v ≡ empty_world → Change wiped w v
