-- Answers that are true just where a rule holds; keys that differ pairwise; soundness from its parts.
use mathlib.Core.Path.{◌≡◌, sym, ◌∙◌}
use mathlib.Core.Bool.{Bool, true, false, false≢true}
use mathlib.Core.List.{List}
use Prim.Native.Nat.{ℕ, ◌<◌}
use native.Mathlib.Omega.{arith}
use lib.ListN.{length}
use Rattle.list_in_table.specs.Rules.{Is}
use Rattle.def_kinds.specs.declared.Sizes.{Sizes}
use Rattle.table_meaning.specs.Layout.{Tables, tables, total, joints_in}
use Rattle.table_meaning.specs.Sound.{SlotAt, IslandAt, SeenAt, EdgeAt, JointAt, SameKey, Distinct, Good, Sound}
use Rattle.table_audit.specs.declared.Used.{Used}
use Rattle.table_audit.specs.Parts.{Extended, Within, Chained, Ruled, HeadAt, New}

-- ---- a chain of `&&`: w is what it answered up to here, v up to the part before, r the part's own answer
pub and-yes : {v w r : Bool} {A B : Type 0} → Is v A → v ≡ true → Is r B → w ≡ r → Is w (A × B)
and-yes i e j q = ((λ y. (i.0 e, j.0 (sym q ∙ y))), (λ p. q ∙ j.1 p.1))

pub and-no : {v w : Bool} {A B : Type 0} → Is v A → v ≡ false → w ≡ v → Is w (A × B)
and-no i e q = ((λ y. absurd (false≢true (sym e ∙ sym q ∙ y))), (λ p. absurd (false≢true (sym e ∙ i.1 p.0))))

-- the same answer to a rule that is equivalent
pub is_same : {r : Bool} {X Y : Type 0} → (X → Y) → (Y → X) → Is r X → Is r Y
is_same f g i = ((λ e. f (i.0 e)), (λ y. i.1 (g y)))

-- ---- keys

-- keys that differ pairwise

module _ (home : ℕ → ℕ) (keys : List ℕ) where
  same_back : {p q : ℕ} → SameKey keys p q → SameKey keys q p
  same_back s = record { kind = sym s.kind; a = sym s.a; b = sym s.b; c = sym s.c }

  module _ (n : ℕ) where
    pub all-differ : ((p : ℕ) → p < n → New home keys p) → Distinct home keys n
    all-differ all p q hp hq lp lq s =
        let f : q < p → ⊥ = λ l. all p hp lp q l lq s in
        let g : p < q → ⊥ = λ l. all q hq lq p l lp (same_back s) in
        omega arith

    pub all_new : Distinct home keys n → (p : ℕ) → p < n → New home keys p
    all_new d p hp lp q l lq s = let e : p ≡ q = d p q hp (omega arith) lp lq s in omega arith

-- the five chains over the entries are the rules
pub is-ruled :
    {Z : Sizes} {T : Tables} {U : Used} {r : Bool} →
    Is r
    ((((((s : ℕ) → s < U.slots → SlotAt Z T s) × ((i : ℕ) → i < U.islands → IslandAt Z T i)) × ((i : ℕ) → i < U.islands → SeenAt Z T i)) × ((e : ℕ) → e < U.edges → EdgeAt Z T e))
    × ((p : ℕ) → p < U.joints → JointAt Z T p)) →
    Is r (Ruled Z T U)
is-ruled i =
    is_same (λ ((((s, i), v), e), p). record { slot = s; island = i; seen = v; edge = e; joint = p })
    (λ R. ((((R.slot, R.island), R.seen), R.edge), R.joint)) i

-- ---- soundness from its parts

module _ {Z : Sizes} {t : List ℕ} {U : Used} (X : Extended (tables Z t) U) where
  good-at : Sound Z t → Good Z (record { slots = U.slots; islands = U.islands; edges = U.edges; joints = U.joints; journal = U.journal }) (tables Z t)
  good-at S = rw (X.slots_are, X.islands_are, X.edges_are, X.joints_are, X.journal_is) S.good

  pub within_of : Sound Z t → Within Z U
  within_of S =
      let G = good-at S in
      record {
        enough = G.enough;
        slots_le = G.slots_le;
        islands_le = G.islands_le;
        edges_le = G.edges_le;
        joints_le = G.joints_le;
        journal_le = G.journal_le;
      }

  pub chained-of : Sound Z t → Chained Z (tables Z t) U
  chained-of S =
      let G = good-at S in
      record {
        members_wf = G.members_wf;
        freed_wf = G.freed_wf;
        contacts_wf = G.contacts_wf;
        joints_wf = G.joints_wf;
        spare_wf = G.spare_wf;
        scan_wf = G.scan_wf;
      }

  pub ruled-of : Sound Z t → Ruled Z (tables Z t) U
  ruled-of S = let G = good-at S in record { slot = G.slot; island = G.island; seen = G.seen; edge = G.edge; joint = G.joint }

  pub distinct_of : Sound Z t → Distinct (joints_in Z (tables Z t)).home (tables Z t).keys U.joints
  distinct_of S = (good-at S).distinct

  pub sound-from :
      length t ≡ total Z →
      Within Z U →
      Chained Z (tables Z t) U →
      Ruled Z (tables Z t) U →
      HeadAt Z (tables Z t) →
      Distinct (joints_in Z (tables Z t)).home (tables Z t).keys U.joints →
      Sound Z t
  sound-from q W C R H D =
      let G : Good Z (record { slots = U.slots; islands = U.islands; edges = U.edges; joints = U.joints; journal = U.journal }) (tables Z t) =
      record {
        enough = W.enough;
        slots_le = W.slots_le;
        islands_le = W.islands_le;
        edges_le = W.edges_le;
        joints_le = W.joints_le;
        journal_le = W.journal_le;
        members_wf = C.members_wf;
        freed_wf = C.freed_wf;
        contacts_wf = C.contacts_wf;
        joints_wf = C.joints_wf;
        spare_wf = C.spare_wf;
        scan_wf = C.scan_wf;
        slot = R.slot;
        island = R.island;
        seen = R.seen;
        edge = R.edge;
        joint = R.joint;
        distinct = D;
        head = H;
      } in
      record { long = q; good = rw (← X.slots_are, ← X.islands_are, ← X.edges_are, ← X.joints_are, ← X.journal_is) G }

  -- the parts that the audit asks in turn are the whole
  pub is-sound :
      {r : Bool} →
      length t ≡ total Z →
      Is r
      ((((Within Z U × Chained Z (tables Z t) U) × Ruled Z (tables Z t) U) × HeadAt Z (tables Z t)) × Distinct (joints_in Z (tables Z t)).home (tables Z t).keys U.joints) →
      Is r (Sound Z t)
  is-sound q i =
      is_same (λ ((((w, c), r), h), d). sound-from q w c r h d)
      (λ S. ((((within_of S, chained-of S), ruled-of S), S.good.head), distinct_of S)) i
