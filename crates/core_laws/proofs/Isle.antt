-- An island whose words are as before; islands that change while all others stay; one island whose bodies, words and place in the free stack change.
use mathlib.Core.Path.{◌≡◌, refl, sym, ◌∙◌, ap, subst}
use mathlib.Core.Logic.{◌⊎◌, inl, inr, ◌≢◌, ⊎_elim}
use mathlib.Core.List.{List, [], ◌∷◌}
use Prim.Native.Nat.{ℕ, ◌+◌, ◌-◌, ◌*◌, ◌≤◌, ◌<◌}
use native.Mathlib.Omega.{arith}
use lib.ListN.{length, get_or, set}
use lib.Seq.{get_or-set_other}
use Rattle.list_in_table.specs.Rules.{none, list_of}
use Rattle.list_in_table.specs.Word.{writes, miss, hit}
use Rattle.list_in_table.specs.Table.{view, Wf}
use Rattle.list_in_table.proofs.Laws.{either}
use Rattle.def_kinds.specs.declared.Sizes.{Sizes}
use Rattle.def_state.specs.World.{Island}
use Rattle.def_state.specs.Fields.{islands_set, free_set}
use Rattle.table_meaning.specs.Layout.{Tables, members_put, contacts_put, joints_put, rows_put, freed_put, Extents, members_in, contacts_in, joints_in, freed_in, spare_in}
use Rattle.table_meaning.specs.Decode.{flag, tabulate, island_in, decode}
use Rattle.table_meaning.specs.Rule.{Vacant, Untouched, Unkeyed, Keyed}
use Rattle.table_meaning.specs.Sound.{SlotAt, IslandAt, EdgeAt, JointAt, Good}
use Rattle.table_meaning.specs.Does.{RowsKept, ChainKept, SameBehind}
use Rattle.table_meaning.proofs.Tab.{tabulate-set}
use Rattle.table_meaning.proofs.Chains.{chain-refl}
use Rattle.table_meaning.proofs.Frame.{larger-refl, kept_then, kept-members, kept-contacts, kept-joints, kept-rows, kept-freed}
use Rattle.core_laws.specs.Steps.{row_words}
use Rattle.core_laws.proofs.Good.{island-is, world_is, island-rule}

-- a word of a row other than i's
abbrev pub Aside : (i j : ℕ) → Type 0
Aside i j = (j < 3 * i) ⊎ (3 * i + 3 ≤ j)

pub aside : (i k j : ℕ) → k ≢ i → 3 * k ≤ j → j < 3 * k + 3 → Aside i j
aside i k j d a b = either (i - k) 0 (λ e. inr (omega arith)) (λ e. inl (omega arith))

-- one word of the row stored
pub set-aside : (x : List ℕ) (i a v : ℕ) → 3 * i ≤ a → a < 3 * i + 3 → (j : ℕ) → Aside i j → get_or (set x a v) j 0 ≡ get_or x j 0
set-aside x i a v l h j o = get_or-set_other x a j v 0 (⊎_elim (λ (p : j < 3 * i). (omega arith)) (λ (p : 3 * i + 3 ≤ j). (omega arith)) o)

-- the three words of a row
module _ (x : List ℕ) (i r d z : ℕ) where
  abbrev y : List ℕ
  y = writes x (row_words (3 * i) r d z)

  pub row-aside : (j : ℕ) → Aside i j → get_or y j 0 ≡ get_or x j 0
  row-aside j o = miss x (row_words (3 * i) r d z) j (⊎_elim (λ (p : j < 3 * i). omega arith) (λ (p : 3 * i + 3 ≤ j). omega arith) o)

  module _ (h : 3 * i + 2 < length x) where
    pub row-0 : get_or y (3 * i) 0 ≡ r
    row-0 = hit x [] (3 * i) r ((3 * i + 1, d) ∷ (3 * i + 2, z) ∷ []) (omega arith) (omega arith)

    pub row-1 : get_or y (3 * i + 1) 0 ≡ d
    row-1 = hit x ((3 * i, r) ∷ []) (3 * i + 1) d ((3 * i + 2, z) ∷ []) (omega arith) (omega arith)

    pub row-2 : get_or y (3 * i + 2) 0 ≡ z
    row-2 = hit x ((3 * i, r) ∷ (3 * i + 1, d) ∷ []) (3 * i + 2) z [] (omega arith) (omega arith)

-- an island whose words are as before
pub record Same (Z : Sizes) (T T' : Tables) (k : ℕ) : Type 0 where
  pub bodies : list_of (members_in Z T') k ≡ list_of (members_in Z T) k
  pub contacts : list_of (contacts_in Z T') k ≡ list_of (contacts_in Z T) k
  pub joints : list_of (joints_in Z T') k ≡ list_of (joints_in Z T) k
  pub body_count : (members_in Z T').count k ≡ (members_in Z T).count k
  pub contact_count : (contacts_in Z T').count k ≡ (contacts_in Z T).count k
  pub joint_count : (joints_in Z T').count k ≡ (joints_in Z T).count k
  pub removals : get_or T'.rows (3 * k) 0 ≡ get_or T.rows (3 * k) 0
  pub denied : get_or T'.rows (3 * k + 1) 0 ≡ get_or T.rows (3 * k + 1) 0
  pub sleeping : get_or T'.rows (3 * k + 2) 0 ≡ get_or T.rows (3 * k + 2) 0
  pub freed : (freed_in Z T').home k ≡ (freed_in Z T).home k

module _ {Z : Sizes} {T T' : Tables} {k : ℕ} (A : Same Z T T' k) where
  pub same-rule : IslandAt Z T k → IslandAt Z T' k
  same-rule = island-rule A.body_count A.contact_count A.joint_count A.removals A.denied A.sleeping A.freed

  -- the links' own words are not among them
  pub same-island : T'.touches ≡ T.touches → T'.keys ≡ T.keys → island_in Z T' k ≡ island_in Z T k
  same-island p q = island-is A.bodies (rw (p, A.contacts)) (rw (q, A.joints)) A.removals A.denied (ap flag A.sleeping)

-- ---- some islands change, those of D: their lists, their words and their places in the free stack. All others stay
module _ (Z : Sizes) (X : Extents) (T : Tables) (D : ℕ → Type 0) (M C J R F : List ℕ) where
  abbrev pub moved : Tables
  moved = freed_put (rows_put (joints_put (contacts_put (members_put T M) C) J) R) F

  pub record Moving : Type 0 where
    pub members_wf : Wf M 0 (4 * Z.slots) X.slots X.islands
    pub members_kept : ChainKept Z.slots X.slots X.islands T.members M
    pub contacts_wf : Wf C 0 (4 * Z.edges) X.edges X.islands
    pub contacts_kept : ChainKept Z.edges X.edges X.islands T.contacts C
    pub joints_wf : Wf J 0 (4 * Z.joints) X.joints X.islands
    pub joints_kept : ChainKept Z.joints X.joints X.islands T.joints J
    pub freed_wf : Wf F 0 (4 * Z.islands) X.islands 1
    pub freed_kept : ChainKept Z.islands X.islands 1 T.freed F
    -- a slot with no live body stays in no island
    pub vacant : (k : ℕ) → k < X.slots → get_or T.slots (5 * k) 0 ≡ none → (members_in Z T).home k ≡ none → (view M 0 (4 * Z.slots)).home k ≡ none
    -- the same edges and joint places are linked
    pub edge_none : (e : ℕ) → e < X.edges → (contacts_in Z T).home e ≡ none → (view C 0 (4 * Z.edges)).home e ≡ none
    pub edge_some : (e : ℕ) → e < X.edges → (contacts_in Z T).home e ≢ none → (view C 0 (4 * Z.edges)).home e ≢ none
    pub joint_none : (p : ℕ) → p < X.joints → (joints_in Z T).home p ≡ none → (view J 0 (4 * Z.joints)).home p ≡ none
    pub joint_some : (p : ℕ) → p < X.joints → (joints_in Z T).home p ≢ none → (view J 0 (4 * Z.joints)).home p ≢ none
    -- an island that is none of D
    pub other : (k : ℕ) → k < X.islands → (D k → ⊥) → Same Z T moved k

  module _ (C1 : Moving) where
    module _ (G : Good Z X T) where
      slots-good : (k : ℕ) → k < X.slots → SlotAt Z moved k
      slots-good k l =
          ⊎_elim
          (λ (x : Vacant (get_or T.slots (5 * k) 0) (get_or T.slots (5 * k + 2) 0) (get_or T.slots (5 * k + 3) 0) (get_or T.slots (5 * k + 4) 0) ((members_in Z T).home k)).
          inl
          (record {
            no_generation = x.no_generation;
            not_fixed = x.not_fixed;
            not_enabled = x.not_enabled;
            not_sleeping = x.not_sleeping;
            no_member = C1.vacant k l x.no_generation x.no_member;
          }))
          (λ x. inr x)
          (G.slot k l)

      edges-good : (e : ℕ) → e < X.edges → EdgeAt Z moved e
      edges-good e l =
          ⊎_elim
          (λ (x : Untouched ((contacts_in Z T).home e) (get_or T.touches (4 * e) 0) (get_or T.touches (4 * e + 1) 0) (get_or T.touches (4 * e + 2) 0) (get_or T.touches (4 * e + 3) 0)).
          inl
          (record {
            not_linked = C1.edge_none e l x.not_linked;
            no_slot1 = x.no_slot1;
            no_generation1 = x.no_generation1;
            no_slot2 = x.no_slot2;
            no_generation2 = x.no_generation2;
          }))
          (λ (x : (contacts_in Z T).home e ≢ none). inr (C1.edge_some e l x))
          (G.edge e l)

      joints-good : (p : ℕ) → p < X.joints → JointAt Z moved p
      joints-good p l =
          ⊎_elim
          (λ (x : Unkeyed ((joints_in Z T).home p) ((spare_in Z T).home p) (get_or T.keys (8 * p) 0) (get_or T.keys (8 * p + 1) 0) (get_or T.keys (8 * p + 2) 0) (get_or T.keys (8 * p + 3) 0) (get_or T.keys (8 * p + 4) 0) (get_or T.keys (8 * p + 5) 0) (get_or T.keys (8 * p + 6) 0) (get_or T.keys (8 * p + 7) 0)).
          inl
          (record {
            not_linked = C1.joint_none p l x.not_linked;
            in_stack = x.in_stack;
            no_kind = x.no_kind;
            no_a = x.no_a;
            no_b = x.no_b;
            no_c = x.no_c;
            no_slot1 = x.no_slot1;
            no_generation1 = x.no_generation1;
            no_slot2 = x.no_slot2;
            no_generation2 = x.no_generation2;
          }))
          (λ (x : Keyed ((joints_in Z T).home p) ((spare_in Z T).home p) (get_or T.keys (8 * p) 0) (get_or T.keys (8 * p + 3) 0)).
          inr (record { linked = C1.joint_some p l x.linked; not_spare = x.not_spare; key = x.key }))
          (G.joint p l)

      -- a joint place that is linked after it was linked before
      was-linked : (p : ℕ) → p < X.joints → (view J 0 (4 * Z.joints)).home p ≢ none → (joints_in Z T).home p ≢ none
      was-linked p l h e = h (C1.joint_none p l e)

      -- each island is one of D, for which the rule is shown anew, or none of them
      pub moved-good : ((k : ℕ) → k < X.islands → (IslandAt Z moved k) ⊎ (D k → ⊥)) → Good Z X moved
      moved-good r =
          record {
            enough = G.enough;
            slots_le = G.slots_le;
            islands_le = G.islands_le;
            edges_le = G.edges_le;
            joints_le = G.joints_le;
            journal_le = G.journal_le;
            members_wf = C1.members_wf;
            freed_wf = C1.freed_wf;
            contacts_wf = C1.contacts_wf;
            joints_wf = C1.joints_wf;
            spare_wf = G.spare_wf;
            scan_wf = G.scan_wf;
            slot = slots-good;
            island = λ k l. ⊎_elim (λ (x : IslandAt Z moved k). x) (λ (d : D k → ⊥). same-rule (C1.other k l d) (G.island k l)) (r k l);
            seen = G.seen;
            edge = edges-good;
            joint = joints-good;
            distinct = λ p q a b c d k. G.distinct p q a b (was-linked p a c) (was-linked q b d) k;
            head = G.head;
          }

    pub moved-world : (is : List Island) (fs : List ℕ) → tabulate X.islands (island_in Z moved) ≡ is → list_of (view F 0 (4 * Z.islands)) 0 ≡ fs
        → decode Z X moved ≡ free_set (islands_set (decode Z X T) is) fs
    moved-world is fs e f = world_is refl e f refl refl refl refl refl refl refl refl

    pub moved_same : (k : ℕ) → k < X.islands → (D k → ⊥) → island_in Z moved k ≡ island_in Z T k
    moved_same k l d = same-island (C1.other k l d) refl refl

    pub moved-kept : RowsKept (3 * X.islands) T.rows R → SameBehind Z X T moved
    moved-kept h =
        kept_then (larger-refl X) (kept-members C1.members_kept)
        (kept_then (larger-refl X) (kept-contacts C1.contacts_kept)
        (kept_then (larger-refl X) (kept-joints C1.joints_kept)
        (kept_then (larger-refl X) (kept-rows h) (kept-freed C1.freed_kept))))

-- ---- one island changes, but not its links: the bodies of the island i, its words and its place in the free stack; of the slots, the home of s alone
module _ (Z : Sizes) (X : Extents) (T : Tables) (s i : ℕ) (M R F : List ℕ) where
  abbrev pub changed : Tables
  changed = freed_put (rows_put (members_put T M) R) F

  pub record Change : Type 0 where
    pub members_wf : Wf M 0 (4 * Z.slots) X.slots X.islands
    pub members_kept : ChainKept Z.slots X.slots X.islands T.members M
    pub home_o : (k : ℕ) → k < X.slots → k ≢ s → (view M 0 (4 * Z.slots)).home k ≡ (members_in Z T).home k
    pub count_o : (k : ℕ) → k < X.islands → k ≢ i → (view M 0 (4 * Z.slots)).count k ≡ (members_in Z T).count k
    pub list_o : (k : ℕ) → k < X.islands → k ≢ i → list_of (view M 0 (4 * Z.slots)) k ≡ list_of (members_in Z T) k
    pub row_o : (j : ℕ) → Aside i j → get_or R j 0 ≡ get_or T.rows j 0
    pub freed_wf : Wf F 0 (4 * Z.islands) X.islands 1
    pub freed_kept : ChainKept Z.islands X.islands 1 T.freed F
    pub freed_o : (k : ℕ) → k < X.islands → k ≢ i → (view F 0 (4 * Z.islands)).home k ≡ (freed_in Z T).home k

  module _ (C : Change) where
    other : (k : ℕ) → k < X.islands → k ≢ i → Same Z T changed k
    other k l d =
        record {
          bodies = C.list_o k l d;
          contacts = refl;
          joints = refl;
          body_count = C.count_o k l d;
          contact_count = refl;
          joint_count = refl;
          removals = C.row_o (3 * k) (aside i k (3 * k) d (omega arith) (omega arith));
          denied = C.row_o (3 * k + 1) (aside i k (3 * k + 1) d (omega arith) (omega arith));
          sleeping = C.row_o (3 * k + 2) (aside i k (3 * k + 2) d (omega arith) (omega arith));
          freed = C.freed_o k l d;
        }

    pub change-good : Good Z X T → get_or T.slots (5 * s) 0 ≢ none → IslandAt Z changed i → Good Z X changed
    change-good G g r =
        moved-good Z X T (λ k. k ≡ i) M T.contacts T.joints R F
        (record {
          members_wf = C.members_wf;
          members_kept = C.members_kept;
          contacts_wf = G.contacts_wf;
          contacts_kept = chain-refl;
          joints_wf = G.joints_wf;
          joints_kept = chain-refl;
          freed_wf = C.freed_wf;
          freed_kept = C.freed_kept;
          vacant = λ k l v h. C.home_o k l (λ e. g (ap (λ (x : ℕ). get_or T.slots (5 * x) 0) (sym e) ∙ v)) ∙ h;
          edge_none = λ e l h. h;
          edge_some = λ e l h. h;
          joint_none = λ p l h. h;
          joint_some = λ p l h. h;
          other = other;
        })
        G
        (λ k l. either k i (λ e. inl (subst (IslandAt Z changed) (sym e) r)) (λ d. inr d))

    pub change-world : (v : Island) (fs : List ℕ) → island_in Z changed i ≡ v → list_of (view F 0 (4 * Z.islands)) 0 ≡ fs
        → decode Z X changed ≡ free_set (islands_set (decode Z X T) (set (decode Z X T).islands i v)) fs
    change-world v fs e f =
        world_is refl (tabulate-set X.islands i (island_in Z changed) (island_in Z T) v e (λ k l d. same-island (other k l d) refl refl)) f refl refl refl refl refl refl refl refl

    pub change-kept : i < X.islands → SameBehind Z X T changed
    change-kept l =
        kept_then (larger-refl X) (kept-members C.members_kept)
        (kept_then (larger-refl X) (kept-rows (λ j h. C.row_o j (inr (omega arith)))) (kept-freed C.freed_kept))
