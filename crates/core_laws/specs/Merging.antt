-- What it is that two islands are merged: the step, and what is known of the tables after it.
use Rattle.std.specs.Prelude.{◌≡◌, ◌≢◌, ◌&&◌, List, [], ◌∷◌, ℕ, ◌+◌, ◌*◌, ◌<◌, get_or, eqb}
use Rattle.list_in_table.specs.Rules.{none}
use Rattle.list_in_table.specs.Word.{writes}
use Rattle.def_kinds.specs.Choice.{pick}
use Rattle.def_kinds.specs.declared.Sizes.{Sizes}
use Rattle.def_state.specs.World.{Handle, done}
use Rattle.def_state.specs.Links.{survivor, add_counts, merge_islands, target, merged}
use Rattle.table_meaning.specs.Layout.{Tables, tables, extents, members_in, contacts_in, joints_in}
use Rattle.table_meaning.specs.Decode.{bit_of, flag, world_of}
use Rattle.table_meaning.specs.Sound.{Sound}
use Rattle.core_laws.specs.Steps.{Steps}
use Rattle.core_laws.specs.Linking.{absorbs}

-- asleep only if both sleep
unfoldable pub both_asleep : ℕ → ℕ → ℕ
both_asleep a b = bit_of (flag a && flag b)

-- the rows after s went into g: g's count and sleeping are those of both, s has none
unfoldable pub rows_mixed : List ℕ → ℕ → ℕ → List ℕ
rows_mixed x g s =
    writes x
    ((3 * g, add_counts (get_or x (3 * g) 0) (get_or x (3 * s) 0)) ∷ (3 * g + 2, both_asleep (get_or x (3 * g + 2) 0) (get_or x (3 * s + 2) 0)) ∷ (3 * s, 0) ∷ (3 * s + 1, 0) ∷ (3 * s + 2, 0) ∷ [])

-- two islands that are in use and live
pub record TwoLive (Z : Sizes) (a b : ℕ) (t : List ℕ) : Type 0 where
  pub sound : Sound Z t
  pub a_lt : a < (extents (tables Z t)).islands
  pub b_lt : b < (extents (tables Z t)).islands
  pub a_live : (members_in Z (tables Z t)).count a ≢ 0
  pub b_live : (members_in Z (tables Z t)).count b ≢ 0

-- what a merge leaves: as much in use, the words of the links and the journal, and which edges and joint places are not linked
pub record LinksStay (Z : Sizes) (T U : Tables) : Type 0 where
  pub extents_same : extents U ≡ extents T
  pub slots : U.slots ≡ T.slots
  pub touches : U.touches ≡ T.touches
  pub keys : U.keys ≡ T.keys
  pub spare : U.spare ≡ T.spare
  pub journal : U.journal ≡ T.journal
  pub scan : U.scan ≡ T.scan
  pub fit : U.fit ≡ T.fit
  pub edge_none : (e : ℕ) → e < (extents T).edges → (contacts_in Z T).home e ≡ none → (contacts_in Z U).home e ≡ none
  pub joint_none : (p : ℕ) → p < (extents T).joints → (joints_in Z T).home p ≡ none → (joints_in Z U).home p ≡ none

-- the island small went into big
pub record Absorbed (Z : Sizes) (big small : ℕ) (t t' : List ℕ) : Type 0 where
  pub steps : Steps Z (absorbs big small) t t'
  pub live : (members_in Z (tables Z t')).count big ≢ 0
  pub stays : LinksStay Z (tables Z t) (tables Z t')

-- the islands a and b are merged, where they are two; r is the one that is left
pub record MergeDone (Z : Sizes) (a b : ℕ) (t : List ℕ) (r : ℕ) (t' : List ℕ) : Type 0 where
  pub steps : Steps Z (λ w. done (merge_islands a b w)) t t'
  pub survivor : r ≡ pick (eqb a b) a (survivor (world_of Z t) a b)
  pub in_use : r < (extents (tables Z t')).islands
  pub live : (members_in Z (tables Z t')).count r ≢ 0
  pub stays : LinksStay Z (tables Z t) (tables Z t')

-- a link between these bodies goes into what the islands a and b are merged to; where one body alone is a member, both are its island
pub record LinkEnds (Z : Sizes) (h1 h2 : Handle) (t : List ℕ) (a b : ℕ) : Type 0 where
  pub live : TwoLive Z a b t
  pub target_is : target (world_of Z t) h1 h2 ≡ survivor (world_of Z t) a b
  pub merged_is : merged h1 h2 (world_of Z t) ≡ merge_islands a b (world_of Z t)
