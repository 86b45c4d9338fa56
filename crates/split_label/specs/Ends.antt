-- A walk over the links of an island, and what it does to a forest.
use Rattle.std.specs.Prelude.{◌≡◌, List, [], ◌∷◌, map, ℕ, ◌+◌, ◌*◌, ◌≤◌, ◌<◌, length}
use Rattle.list_in_table.specs.Rules.{View, Rules, list_of}
use Rattle.def_kinds.specs.declared.Sizes.{Sizes}
use Rattle.def_state.specs.World.{Handle, World}
use Rattle.def_state.specs.Connected.{label, components}
use Rattle.def_state.specs.Split.{node_of, ends}
use Rattle.table_meaning.specs.declared.Table.{Table}
use Rattle.table_meaning.specs.Layout.{tables, table_span, list_room, chain_in, members_in}
use Rattle.table_meaning.specs.Decode.{handle_at}
use Rattle.table_meaning.specs.Sound.{Sound}
use Rattle.core_laws.specs.Lives.{Lives}
use Rattle.split_forest.specs.Groups.{Groups}
use Rattle.split_forest.specs.Forest.{root_of, Forest, Wood}

-- the two handles in the four words at j
abbrev pub pair_at : List ℕ → ℕ → Handle × Handle
pair_at x j = (handle_at x j, handle_at x (j + 2))

-- the pairs of the list i of a chain, whose element e has its pair at a * e + b of x
unfoldable pub pairs_in : View → List ℕ → (a b i : ℕ) → List (Handle × Handle)
pairs_in S x a b i = map (λ e. pair_at x (a * e + b)) (list_of S i)

-- the links ls, and before them the ends of those pairs that are both members of the island i
unfoldable pub pair_ends : World → ℕ → List (Handle × Handle) → List (ℕ × ℕ) → List (ℕ × ℕ)
pair_ends w i [] ls = ls
pair_ends w i (h ∷ hs) ls = ends (node_of w i h.0) (node_of w i h.1) (pair_ends w i hs ls)

-- p before, q and y after links were joined, of which r did something: where ls stood, f ls stands
pub record Goes (n : ℕ) (p q y : ℕ → ℕ) (f : List (ℕ × ℕ) → List (ℕ × ℕ)) (r : ℕ) : Type 0 where
  pub forest : Forest n q y
  pub groups : (ls : List (ℕ × ℕ)) → Groups ls n (root_of p) → Groups (f ls) n (root_of q)
  pub fewer : (ls : List (ℕ × ℕ)) → Groups ls n (root_of p) → components (label ls n) ≡ components (label (f ls) n) + r

-- a forest over the places of the live island i
pub record Over (Z : Sizes) (t : List ℕ) (i : ℕ) (parent size : List ℕ) : Type 0 where
  pub sound : Sound Z t
  pub lives : Lives Z t i
  pub wood : Wood parent size
  pub long : length parent ≡ (members_in Z (tables Z t)).count i

-- the list i of the chain table k can be walked, with the pairs in the table w
pub record Walks (Z : Sizes) (t : List ℕ) (k w : Table) (a b i : ℕ) : Type 0 where
  pub n : ℕ
  pub m : ℕ
  pub rules : Rules n m (chain_in Z k (tables Z t))
  pub list_lt : i < m
  pub lists : m ≤ list_room Z k
  pub elems : 4 * n ≤ table_span Z k
  pub words : (e : ℕ) → e < n → a * e + b + 4 ≤ table_span Z w
