-- The island is checked: count 0, denial set; the split is that, after the parts where there are parts.
use mathlib.Core.Path.{◌≡◌, refl, sym, ap}
use mathlib.Core.Logic.{⊎_elim}
use mathlib.Core.Bool.{false}
use mathlib.Core.List.{List, [], ◌∷◌}
use Prim.Native.Nat.{ℕ, ◌+◌, ◌*◌, ◌≤◌, ◌<◌}
use native.Mathlib.Omega.{arith}
use lib.ListN.{length, get_or}
use borrow.Author.Tests.{le-leb, lt-leb}
use Rattle.list_in_table.specs.Word.{writes, miss, hit}
use Rattle.list_in_buffer.specs.Part.{Put}
use Rattle.def_kinds.specs.declared.Sizes.{Sizes}
use Rattle.def_kinds.specs.Answers.{Done, NoIsland}
use Rattle.def_state.specs.World.{Island, done, island_at, live}
use Rattle.def_state.specs.Fields.{island_set}
use Rattle.def_state.specs.Connected.{components}
use Rattle.def_state.specs.Split.{labels_of, denial, checked, split, split_island_now}
use Rattle.table_meaning.specs.Layout.{tables, rows_at, rows_span}
use Rattle.table_meaning.specs.Decode.{flag, world_of}
use Rattle.table_meaning.specs.Sound.{Sound}
use Rattle.table_meaning.specs.Does.{Does}
use Rattle.table_meaning.proofs.Puts.{sized}
use Rattle.table_meaning.proofs.Frame.{larger-then}
use Rattle.core_laws.specs.Steps.{Steps}
use Rattle.core_laws.specs.Lives.{Lives}
use Rattle.core_laws.proofs.Good.{island-is}
use Rattle.core_laws.proofs.Then.{refused, does-as, does-then}
use Rattle.core_laws.proofs.At.{steps-as}
use Rattle.core_laws.proofs.Isle.{Aside}
use Rattle.core_laws.proofs.Row.{row-steps}
use Rattle.core_live.proofs.Live.{lives-true}
use Rattle.split_island.specs.Part.{parting, checking, splitting, Parts}

-- ---- checked
abbrev check_as : ℕ → Island → Island
check_as d a =
    record {
      bodies = a.bodies;
      contact_links = a.contact_links;
      joint_links = a.joint_links;
      constraint_remove_count = 0;
      split_denied_until = d;
      sleeping = a.sleeping;
    }

pub checked-steps : {Z : Sizes} {t t' : List ℕ} (i d : ℕ) → Sound Z t → Lives Z t i → d ≡ denial (get_or (tables Z t).head 7 0)
    → Put (rows_at Z) (rows_span Z) t t' (writes (tables Z t).rows ((3 * i, 0) ∷ (3 * i + 1, d) ∷ [])) → Steps Z (checking i) t t'
unfolding checking checked world_of
checked-steps {Z} {t} {t'} i d S L q P =
    let T = tables Z t in
    let x = T.rows in
    let ws : List (ℕ × ℕ) = (3 * i, 0) ∷ (3 * i + 1, d) ∷ [] in
    let R = writes x ws in
    let K = sized Z t S.long in
    let l : 3 * i + 2 < length x = (let k = K.rows_length in let g = S.good.islands_le in let u = L.in_use in omega arith) in
    let o : (j : ℕ) → Aside i j → get_or R j 0 ≡ get_or x j 0 = λ j a. miss x ws j (⊎_elim (λ (p : j < 3 * i). omega arith) (λ (p : 3 * i + 3 ≤ j). omega arith) a) in
    let o2 : get_or R (3 * i + 2) 0 ≡ get_or x (3 * i + 2) 0 = miss x ws (3 * i + 2) (omega arith) in
    let z : get_or x (3 * i + 2) 0 ≤ 1 = ⊎_elim (λ f. f.sleeping_flag) (λ f. (let e = f.not_sleeping in omega arith)) (S.good.island i L.in_use) in
    steps-as (λ w. done (island_set w i (check_as d (island_at w i)))) (checking i)
    (ap (λ (k : ℕ). done (island_set (world_of Z t) i (check_as k (island_at (world_of Z t) i)))) q)
    (row-steps i R (check_as d) S L.in_use L.some o (rw o2 z)
    (island-is refl refl refl (hit x [] (3 * i) 0 ((3 * i + 1, d) ∷ []) (omega arith) (omega arith)) (hit x ((3 * i, 0) ∷ []) (3 * i + 1) d [] (omega arith) (omega arith)) (ap flag o2)) P)

-- ---- split
pub split-whole : {Z : Sizes} {t t' : List ℕ} (i c : ℕ) → c ≡ components (labels_of (world_of Z t) i) → c ≤ 1 → Steps Z (checking i) t t' → Steps Z (splitting i) t t'
unfolding checking splitting split
split-whole {Z} {t} i c q h D = steps-as (checking i) (splitting i) (let a = components (labels_of (world_of Z t) i) in rw (le-leb a 1 (omega arith))) D

pub split_parts : {Z : Sizes} {t t1 t2 : List ℕ} (i c : ℕ) → c ≡ components (labels_of (world_of Z t) i) → 1 < c → Parts Z i t t1 → Steps Z (checking i) t1 t2 → Steps Z (splitting i) t t2
unfolding checking splitting split parting
split_parts {Z} {t} i c q h A D =
    record {
      does =
          does-as (λ w. checking i (parting i w).after) (splitting i) (let a = components (labels_of (world_of Z t) i) in rw (lt-leb a 1 (omega arith)))
          (does-then (parting i) (checking i) D.larger A.steps.does D.does);
      larger = larger-then A.steps.larger D.larger;
    }

-- ---- a live island, by the words
module _ {Z : Sizes} {t : List ℕ} (i : ℕ) (S : Sound Z t) where
  pub split-none : live (world_of Z t) i ≡ false → Does Z (split_island_now i) t NoIsland t
  unfolding split_island_now
  split-none d = refused (split_island_now i) NoIsland S (rw d)

  module _ (L : Lives Z t i) where
    pub split_done : {t' : List ℕ} → Steps Z (splitting i) t t' → Does Z (split_island_now i) t Done t'
    unfolding split_island_now splitting
    split_done D = does-as (splitting i) (split_island_now i) (sym (rw (lives-true i S L))) D.does
