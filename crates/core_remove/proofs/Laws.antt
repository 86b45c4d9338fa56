-- What it is, for the functions of this crate, that a body left its island: from the puts of each, and from one function after the other.
use mathlib.Core.Path.{◌≡◌, refl, sym, ◌∙◌, ap}
use mathlib.Core.Logic.{◌≢◌}
use mathlib.Core.Bool.{Bool, true, false, false≢true}
use mathlib.Core.List.{List, [], ◌∷◌}
use Prim.Native.Nat.{ℕ, ◌*◌, ◌<◌}
use native.Mathlib.Omega.{arith}
use borrow.Author.Tests.{eq-eqb, ne_eqb}
use lib.ListN.{length, get_or, set}
use Rattle.list_in_table.specs.Rules.{none, list_of}
use Rattle.list_in_table.specs.Word.{writes}
use Rattle.list_in_table.specs.Table.{view, removed, pushed}
use Rattle.list_in_table.proofs.Laws.{held}
use Rattle.list_in_table.proofs.Order.{length-list, list-of}
use Rattle.list_in_buffer.specs.Part.{Put}
use Rattle.def_kinds.specs.declared.Sizes.{Sizes}
use Rattle.def_kinds.specs.Answers.{Done, Nothing}
use Rattle.def_state.specs.Plain.{more}
use Rattle.def_state.specs.World.{Island, World, island_at, named, island_of, body_island}
use Rattle.def_state.specs.Membership.{left, remove}
use Rattle.def_state.specs.Bodies.{island}
use Rattle.def_kinds.specs.declared.Island.{Island as IslandNumber}
use Rattle.def_kinds.specs.declared.Refusal.{Refusal}
use Rattle.std.specs.Prelude.{Option, None, Some, Result, Ok, MatchOption, IsSomeAnd}
use Rattle.table_meaning.specs.Layout.{Tables, tables, total, Extents, extents, members_at, members_span, rows_at, rows_span, freed_at, freed_span, members_in, contacts_in, joints_in}
use Rattle.table_meaning.specs.Decode.{world_of}
use Rattle.table_meaning.specs.Sound.{Sound}
use Rattle.table_meaning.proofs.Puts.{put-members, put-rows, put-freed}
use Rattle.table_meaning.proofs.Chains.{taken}
use Rattle.table_meaning.proofs.Frame.{larger-refl, larger-then}
use Rattle.table_meaning.proofs.Unique.{islands-is}
use Rattle.core_laws.specs.Steps.{handle, row_words, leave, leave_last}
use Rattle.core_laws.specs.Drops.{Cleared, JointsCleared}
use Rattle.core_remove.specs.Housed.{Housed}
use Rattle.core_laws.specs.Leaves.{freeing, BodyLeft, Unpended, Removes}
use Rattle.core_laws.proofs.Then.{refused, does-as}
use Rattle.core_laws.proofs.Names.{named_is, island-at, home_is}
use Rattle.core_laws.proofs.Stays.{stays-extents}
use Rattle.core_laws.proofs.Leave.{home_lt, left-some, left-last}
use Rattle.core_laws.proofs.Unlink.{island-unnamed, island-named}
use Rattle.core_laws.proofs.Emptied.{removed-last, remove-no, remove-none, remove-some}

-- ---- the only element of a list
only : (xs : List ℕ) (p s : ℕ) → length xs ≡ 1 → p < length xs → get_or xs p 0 ≡ s → xs ≡ s ∷ []
only [] p s l h e = absurd (omega arith)
only (x ∷ []) p s l h e =
    let z : p ≡ 0 = omega arith in
    let q : x ≡ s = rw z at e in
    rw q
only (x ∷ y ∷ xs) p s l h e = absurd (omega arith)

-- ---- a body that is in an island
module _ {Z : Sizes} {t : List ℕ} (s i : ℕ) (S : Sound Z t) (sl : s < (extents (tables Z t)).slots) (hi : (members_in Z (tables Z t)).home s ≡ i) (d : i ≢ none) where
  abbrev T : Tables
  T = tables Z t

  -- it is in no island once it was taken out of its list, whatever else changed
  gone : (t' : List ℕ) → (tables Z t').members ≡ removed T.members 0 (4 * Z.slots) s → (members_in Z (tables Z t')).home s ≡ none
  gone t' e =
      ap (λ (x : List ℕ). (view x 0 (4 * Z.slots)).home s) e
      ∙ (taken Z.slots (extents T).slots (extents T).islands T.members S.good.members_wf s sl (λ h. d (sym hi ∙ h))).home_e

  place_lt : (members_in Z T).place s < (members_in Z T).count i
  place_lt = rw hi at (held S.good.members_wf.rules s sl (λ h. d (sym hi ∙ h))).place_lt

  -- the island has a body
  pub some-body : 0 < (members_in Z T).count i
  some-body = let p = place_lt in omega arith

  bodies-are : (island_at (world_of Z t) i).bodies ≡ list_of (members_in Z T) i
  unfolding world_of
  bodies-are = ap (λ (a : Island). a.bodies) (island-at Z (extents T) T i (home_lt s i S sl hi d))

  as_many : length (island_at (world_of Z t) i).bodies ≡ (members_in Z T).count i
  as_many = ap length bodies-are ∙ length-list S.good.members_wf.rules i (home_lt s i S sl hi d)

  alone : (members_in Z T).count i ≡ 1 → (island_at (world_of Z t) i).bodies ≡ s ∷ []
  alone c =
      only (island_at (world_of Z t) i).bodies ((members_in Z T).place s) s (as_many ∙ c) (let n = as_many in let p = place_lt in omega arith)
      (ap (λ (xs : List ℕ). get_or xs ((members_in Z T).place s) 0) bodies-are ∙ list-of S.good.members_wf.rules i (home_lt s i S sl hi d) s sl hi)

  -- leave_some
  pub others-stay : {t1 t2 : List ℕ} → 1 < (members_in Z T).count i → Put (members_at Z) (members_span Z) t t1 (removed T.members 0 (4 * Z.slots) s)
      → Put (rows_at Z) (rows_span Z) t1 t2 (set (tables Z t1).rows (3 * i) (more (get_or (tables Z t1).rows (3 * i) 0))) → BodyLeft Z (leave s i) s t t2
  others-stay {t1} {t2} c P Q =
      let e = put-rows Z t1 t2 _ (P.same_length ∙ S.long) Q in
      record {
        steps = left-some s i S sl hi d c P Q;
        gone = gone t2 (ap (λ (W : Tables). W.members) e ∙ P.here);
        slots = ap (λ (W : Tables). (extents W).slots) e ∙ ap (λ (W : Tables). (extents W).slots) (put-members Z t t1 _ S.long P);
      }

  -- leave_last
  pub none_stays : {t1 t2 t3 : List ℕ} → (members_in Z T).count i ≡ 1 → (contacts_in Z T).count i ≡ 0 → (joints_in Z T).count i ≡ 0
      → Put (members_at Z) (members_span Z) t t1 (removed T.members 0 (4 * Z.slots) s)
      → Put (rows_at Z) (rows_span Z) t1 t2 (writes (tables Z t1).rows (row_words (3 * i) 0 0 0))
      → Put (freed_at Z) (freed_span Z) t2 t3 (pushed (tables Z t2).freed 0 (4 * Z.islands) 0 i) → BodyLeft Z (leave_last i) s t t3
  none_stays {t1} {t2} {t3} c cc cj P Q R =
      let h1 : length t1 ≡ total Z = P.same_length ∙ S.long in
      let e2 = put-rows Z t1 t2 _ h1 Q in
      let e3 = put-freed Z t2 t3 _ (Q.same_length ∙ h1) R in
      record {
        steps = left-last s i S sl hi d c cc cj P Q R;
        gone = gone t3 (ap (λ (W : Tables). W.members) e3 ∙ ap (λ (W : Tables). W.members) e2 ∙ P.here);
        slots =
            ap (λ (W : Tables). (extents W).slots) e3 ∙ ap (λ (W : Tables). (extents W).slots) e2
            ∙ ap (λ (W : Tables). (extents W).slots) (put-members Z t t1 _ S.long P);
      }

-- ---- remove_only: the links first
module _ {Z : Sizes} {t t1 t2 : List ℕ} {i : ℕ} (A : Cleared Z i t t1) (B : JointsCleared Z i t1 t2) where
  same-extents : extents (tables Z t2) ≡ extents (tables Z t)
  same-extents = stays-extents B.stays ∙ stays-extents A.stays

  same-members : (tables Z t2).members ≡ (tables Z t).members
  same-members = B.stays.members ∙ A.stays.members

  -- what leave_last asks
  pub linkless : (s : ℕ) → Housed Z s i t → (members_in Z (tables Z t)).count i ≡ 1
      → Sound Z t2 × Housed Z s i t2 × ((members_in Z (tables Z t2)).count i ≡ 1) × ((contacts_in Z (tables Z t2)).count i ≡ 0) × ((joints_in Z (tables Z t2)).count i ≡ 0)
  linkless s H c = (
    B.steps.does.sound,
    record {
      slot_lt = (let h = H.slot_lt in let e = ap (λ (X : Extents). X.slots) same-extents in omega arith);
      home_is = ap (λ (x : List ℕ). (view x 0 (4 * Z.slots)).home s) same-members ∙ H.home_is;
      some = H.some;
    },
    ap (λ (x : List ℕ). (view x 0 (4 * Z.slots)).count i) same-members ∙ c,
    ap (λ (x : List ℕ). (view x 0 (4 * Z.edges)).count i) B.contacts.contacts ∙ A.none,
    B.none,
  )

  pub emptied : {t3 t4 : List ℕ} (s : ℕ) → i < (extents (tables Z t)).islands → BodyLeft Z (leave_last i) s t2 t3 → Unpended Z i t3 t4 → BodyLeft Z (freeing i) s t t4
  unfolding freeing
  emptied s il C D =
      record {
        steps =
            record {
              does = removed-last i (rw (islands-is Z t) il) A.steps B.steps C.steps D.steps;
              larger = larger-then A.steps.larger (larger-then B.steps.larger (larger-then C.steps.larger D.steps.larger));
            };
        gone = ap (λ (W : Tables). (view W.members 0 (4 * Z.slots)).home s) D.rest ∙ C.gone;
        slots = ap (λ (X : Extents). X.slots) D.extents_same ∙ C.slots ∙ ap (λ (X : Extents). X.slots) same-extents;
      }

-- ---- remove_on
freed-is : (w : World) (s g i : ℕ) → named w (handle s g) ≡ true → island_of w s ≡ i → i ≢ none → (island_at w i).bodies ≡ s ∷ [] → freeing i w ≡ remove (handle s g) w
unfolding remove left freeing
freed-is w s g i n e d b = rw (n, e, ne_eqb i none d, b)

module _ {Z : Sizes} {t : List ℕ} (s g : ℕ) (S : Sound Z t) where
  pub not_named : named (world_of Z t) (handle s g) ≡ false → Removes Z s g t Nothing t
  not_named n =
      record {
        does = refused (remove (handle s g)) Nothing S (remove-no (world_of Z t) s g n);
        larger = larger-refl (extents (tables Z t));
        slots = refl;
        gone = λ y. absurd (false≢true (sym n ∙ y));
      }

  module _ (n : named (world_of Z t) (handle s g) ≡ true) (sl : s < (extents (tables Z t)).slots) where
    pub no-island : (members_in Z (tables Z t)).home s ≡ none → Removes Z s g t Nothing t
    no-island e =
        record {
          does = refused (remove (handle s g)) Nothing S (remove-none (world_of Z t) s g n (home_is Z t s g S sl ∙ e));
          larger = larger-refl (extents (tables Z t));
          slots = refl;
          gone = λ y. e;
        }

    module _ {t' : List ℕ} (i : ℕ) (hi : (members_in Z (tables Z t)).home s ≡ i) (d : i ≢ none) where
      pub removed-only : (members_in Z (tables Z t)).count i ≡ 1 → BodyLeft Z (freeing i) s t t' → Removes Z s g t Done t'
      removed-only c L =
          record {
            does = does-as (freeing i) (remove (handle s g)) (freed-is (world_of Z t) s g i n (home_is Z t s g S sl ∙ hi) d (alone s i S sl hi d c)) L.steps.does;
            larger = L.steps.larger;
            slots = L.slots;
            gone = λ y. L.gone;
          }

      pub removed-some : 1 < (members_in Z (tables Z t)).count i → BodyLeft Z (leave s i) s t t' → Removes Z s g t Done t'
      removed-some c L =
          record {
            does = remove-some s g i n (home_is Z t s g S sl ∙ hi) d (rw (as_many s i S sl hi d) c) L.steps;
            larger = L.steps.larger;
            slots = L.slots;
            gone = λ y. L.gone;
          }

-- ---- from the island of a body, as `body_island` tells it
module _ {Z : Sizes} {t : List ℕ} (s g : ℕ) (S : Sound Z t) where
  -- the handle names no body, or one in no island
  pub nowhere : body_island (world_of Z t) (handle s g) ≡ none → Removes Z s g t Nothing t
  nowhere e = go (named (world_of Z t) (handle s g)) refl
    where
      go : (b : Bool) → named (world_of Z t) (handle s g) ≡ b → Removes Z s g t Nothing t
      go false n = not_named s g S n
      go true n = no-island s g S n (named_is Z t s g n).slot_lt (sym (island-named s g S n) ∙ e)

  module _ (i : ℕ) (e : i ≡ body_island (world_of Z t) (handle s g)) (d : i ≢ none) where
    is_named : named (world_of Z t) (handle s g) ≡ true
    is_named = go (named (world_of Z t) (handle s g)) refl
      where
        go : (b : Bool) → named (world_of Z t) (handle s g) ≡ b → named (world_of Z t) (handle s g) ≡ true
        go false n = absurd (d (e ∙ island-unnamed s g (world_of Z t) n))
        go true n = n

    pub housed : Housed Z s i t
    housed = record { slot_lt = (named_is Z t s g is_named).slot_lt; home_is = sym (island-named s g S is_named) ∙ sym e; some = d }

    -- room for the island's number, and a body in it
    pub island_in : i < Z.islands
    island_in = let h = home_lt s i S housed.slot_lt housed.home_is d in let m = S.good.islands_le in omega arith

    pub peopled : 0 < (members_in Z (tables Z t)).count i
    peopled = some-body s i S housed.slot_lt housed.home_is d

    pub left-alone : {t' : List ℕ} → (members_in Z (tables Z t)).count i ≡ 1 → BodyLeft Z (freeing i) s t t' → Removes Z s g t Done t'
    left-alone c L = removed-only s g S is_named housed.slot_lt i housed.home_is d c L

    pub left-others : {t' : List ℕ} → 1 < (members_in Z (tables Z t)).count i → BodyLeft Z (leave s i) s t t' → Removes Z s g t Done t'
    left-others c L = removed-some s g S is_named housed.slot_lt i housed.home_is d c L

-- ---- island_on: the island of a body, as `body_island` tells it, by its number
pub told : {P : ℕ → IslandNumber → Type 0} (w : World) (s g : ℕ) (b : Option ℕ) (r : Option IslandNumber) → MatchOption b (body_island w (handle s g) ≡ none) (λ i. (i ≡ body_island w (handle s g)) × (i ≢ none))
    → MatchOption b (r ≡ None) (λ i. IsSomeAnd r (P i)) → ((i : ℕ) (k : IslandNumber) → P i k → k ≡ record { 0 = i }) → ◌≡◌ {A = Result (Option IslandNumber) Refusal} (Ok r) (island (handle s g) w)
unfolding island
told w s g None r e m p = rw (m, eq-eqb _ none e)
told w s g (Some i) None e m p = absurd m
told w s g (Some i) (Some k) e m p = rw (p i k m, sym e.0, ne_eqb i none e.1)
