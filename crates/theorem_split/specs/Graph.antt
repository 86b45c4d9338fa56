-- Elements of a list, the links of an island, and paths of links.
use Rattle.std.specs.Prelude.{◌≡◌, ◌⊎◌, List, ◌∷◌, ◌++◌, map, ℕ}
use Rattle.def_state.specs.World.{Handle, Key, ContactLink, JointLink, Island, World, island_at, body_island}

-- x is an element of the list
pub data In {A : Type 0} (x : A) : List A → Type 0 where
  here : {y : A} {ys : List A} → y ≡ x → In x (y ∷ ys)
  there : {y : A} {ys : List A} → In x ys → In x (y ∷ ys)

-- a path, as in any graph: steps of R lead from a to b
pub data Path {A : Type 0} (R : A → A → Type 0) : A → A → Type 0 where
  stop : {a : A} → Path R a a
  step : {a b c : A} → R a b → Path R b c → Path R a c

-- what names a link: an edge number, or a joint's key
pub data Name : Type 0 where
  edge : (e : ℕ) → Name
  joint : (q : Key) → Name

-- a link of either kind: its name, and both handles as they were given
pub record Bond : Type 0 where
  pub name : Name
  pub body1 : Handle
  pub body2 : Handle

abbrev pub of_contact : ContactLink → Bond
of_contact l = record { name = edge l.edge_id; body1 = l.body1; body2 = l.body2 }

abbrev pub of_joint : JointLink → Bond
of_joint l = record { name = joint l.key; body1 = l.body1; body2 = l.body2 }

abbrev pub bonds_of : Island → List Bond
bonds_of a = map of_contact a.contact_links ++ map of_joint a.joint_links

-- the link l stands in the lists of island i
abbrev pub Stands : World → ℕ → Bond → Type 0
Stands w i l = In l (bonds_of (island_at w i))

-- l joins a and b, in this order or the other
abbrev pub Joins : Bond → Handle → Handle → Type 0
Joins l a b = ((l.body1 ≡ a) × (l.body2 ≡ b)) ⊎ ((l.body1 ≡ b) × (l.body2 ≡ a))

-- a link of island i joins a and b, and both are bodies of i
pub record Own (w : World) (i : ℕ) (a b : Handle) : Type 0 where
  pub link : Bond
  pub stands : Stands w i link
  pub joins : Joins link a b
  pub first : body_island w a ≡ i
  pub second : body_island w b ≡ i

-- island j is connected by its own links, each between two of its bodies
abbrev pub Whole : World → ℕ → Type 0
Whole w j = (a b : Handle) → body_island w a ≡ j → body_island w b ≡ j → Path (Own w j) a b
