-- The waiting split; who may bid.
use mathlib.Core.Path.{◌≡◌, refl, sym, ◌∙◌, ap}
use mathlib.Core.Logic.{inl, inr, ◌≢◌}
use mathlib.Core.Bool.{true, false, not, ◌&&◌}
use mathlib.Core.Option.{none as nothing, some}
use mathlib.Core.List.{List, [], ◌∷◌}
use Prim.Native.Nat.{ℕ, ◌+◌, ◌*◌, ◌≤◌, ◌<◌}
use native.Mathlib.Omega.{arith}
use lib.ListN.{get_or}
use lib.Dec.{eqb}
use borrow.Author.Tests.{eq-eqb, ne_eqb, lt-ltb, le-ltb}
use Rattle.def_kinds.specs.Choice.{pick}
use Rattle.list_in_table.specs.Word.{writes}
use Rattle.list_in_buffer.specs.Part.{Put}
use Rattle.def_kinds.specs.declared.Sizes.{Sizes}
use Rattle.def_kinds.specs.Answers.{Done, Nothing}
use Rattle.def_state.specs.World.{Island, World, Step, done, gives, island_at, live}
use Rattle.def_state.specs.Fields.{split_set}
use Rattle.def_state.specs.Split.{split, schedule_split, run_pending_split, denied, split_allowed}
use Rattle.table_meaning.specs.Layout.{tables, head_at, head_span, extents}
use Rattle.table_meaning.specs.Decode.{island_in, world_of}
use Rattle.table_meaning.specs.Sound.{Sound}
use Rattle.table_meaning.specs.Does.{Does}
use Rattle.table_meaning.proofs.Frame.{kept_then}
use Rattle.core_laws.specs.Steps.{Steps}
use Rattle.core_laws.specs.Lives.{Lives}
use Rattle.core_laws.proofs.Then.{refused}
use Rattle.core_laws.proofs.Names.{island-at}
use Rattle.core_laws.proofs.Leave.{pending-put}
use Rattle.core_live.proofs.Live.{lives-true}
use Rattle.split_island.specs.Part.{splitting}

-- ---- a live island, by the words
module _ {Z : Sizes} {t : List ℕ} (i : ℕ) (S : Sound Z t) where
  module _ (l : i < (extents (tables Z t)).islands) where
    pub island-is-in : island_at (world_of Z t) i ≡ island_in Z (tables Z t) i
    unfolding world_of
    island-is-in = island-at Z (extents (tables Z t)) (tables Z t) i l

  -- ---- who may bid
  pub bid-dead : live (world_of Z t) i ≡ false → false ≡ split_allowed i (world_of Z t)
  unfolding split_allowed
  bid-dead d = rw d

  module _ (L : Lives Z t i) where
    count_is : (island_at (world_of Z t) i).constraint_remove_count ≡ get_or (tables Z t).rows (3 * i) 0
    count_is = ap (λ (a : Island). a.constraint_remove_count) (island-is-in L.in_use)

    denied-is : (island_at (world_of Z t) i).split_denied_until ≡ get_or (tables Z t).rows (3 * i + 1) 0
    denied-is = ap (λ (a : Island). a.split_denied_until) (island-is-in L.in_use)

    stamp_is : (world_of Z t).sleep_scan_stamp ≡ get_or (tables Z t).head 7 0
    unfolding world_of
    stamp_is = refl

    pub bid-none : get_or (tables Z t).rows (3 * i) 0 ≡ 0 → false ≡ split_allowed i (world_of Z t)
    unfolding split_allowed
    bid-none e = rw (lives-true i S L, eq-eqb (island_at (world_of Z t) i).constraint_remove_count 0 (count_is ∙ e))

    pub bid-denied : get_or (tables Z t).rows (3 * i) 0 ≢ 0 → get_or (tables Z t).head 7 0 < get_or (tables Z t).rows (3 * i + 1) 0 → false ≡ split_allowed i (world_of Z t)
    unfolding split_allowed denied
    bid-denied d h =
        let a = denied-is in
        let b = stamp_is in
        rw (lives-true i S L, ne_eqb (island_at (world_of Z t) i).constraint_remove_count 0 (λ e. d (sym count_is ∙ e)), lt-ltb (world_of Z t).sleep_scan_stamp (island_at (world_of Z t) i).split_denied_until (omega arith))

    pub bid-yes : get_or (tables Z t).rows (3 * i) 0 ≢ 0 → get_or (tables Z t).rows (3 * i + 1) 0 ≤ get_or (tables Z t).head 7 0 → true ≡ split_allowed i (world_of Z t)
    unfolding split_allowed denied
    bid-yes d h =
        let a = denied-is in
        let b = stamp_is in
        rw (lives-true i S L, ne_eqb (island_at (world_of Z t) i).constraint_remove_count 0 (λ e. d (sym count_is ∙ e)), le-ltb (world_of Z t).sleep_scan_stamp (island_at (world_of Z t) i).split_denied_until (omega arith))

-- ---- the waiting split
pub scheduled : {Z : Sizes} {t t' : List ℕ} (i : ℕ) → Sound Z t → Put (head_at Z) (head_span Z) t t' (writes (tables Z t).head ((5, 1) ∷ (5 + 1, i) ∷ [])) → Does Z (schedule_split i) t Done t'
unfolding schedule_split
scheduled i S P = (pending-put 1 i S (inr refl) P).does

-- it is cleared
abbrev pub cleared : World → Step
cleared w = done (split_set w nothing)

pub cleared-steps : {Z : Sizes} {t t' : List ℕ} → Sound Z t → Put (head_at Z) (head_span Z) t t' (writes (tables Z t).head ((5, 0) ∷ (5 + 1, 0) ∷ [])) → Steps Z cleared t t'
cleared-steps S P = pending-put 0 0 S (inl (refl, refl)) P

module _ {Z : Sizes} {t : List ℕ} (S : Sound Z t) where
  waits-none : get_or (tables Z t).head 5 0 ≢ 1 → (world_of Z t).split_island ≡ nothing
  unfolding world_of
  waits-none d = rw (ne_eqb (get_or (tables Z t).head 5 0) 1 d)

  waits-some : get_or (tables Z t).head 5 0 ≡ 1 → (world_of Z t).split_island ≡ some (get_or (tables Z t).head 6 0)
  unfolding world_of
  waits-some e = rw (eq-eqb (get_or (tables Z t).head 5 0) 1 e)

  pub run_none : get_or (tables Z t).head 5 0 ≢ 1 → Does Z run_pending_split t Nothing t
  unfolding run_pending_split
  run_none d =
      let e = waits-none d in
      refused run_pending_split Nothing S (rw e)

  -- it is of i, and cleared now
  module _ {t1 : List ℕ} (i : ℕ) (f : get_or (tables Z t).head 5 0 ≡ 1) (n : i ≡ get_or (tables Z t).head 6 0) (D : Steps Z cleared t t1) where
    waits-i : (world_of Z t).split_island ≡ some i
    waits-i = waits-some f ∙ ap some (sym n)

    run_by : run_pending_split (world_of Z t) ≡ pick (live (world_of Z t1) i && not (island_at (world_of Z t1) i).sleeping) (done (split i (world_of Z t1))) (gives Nothing (world_of Z t1))
    unfolding run_pending_split
    run_by = rw (waits-i, D.does.after)

    pub run-not : live (world_of Z t1) i && not (island_at (world_of Z t1) i).sleeping ≡ false → Does Z run_pending_split t Nothing t1
    run-not e =
        let q : run_pending_split (world_of Z t) ≡ gives Nothing (world_of Z t1) = run_by ∙ rw e in
        record {
          sound = D.does.sound;
          answer = sym (ap (λ (s : Step). s.answer) q);
          after = sym (ap (λ (s : Step). s.after) q);
          frame = D.does.frame;
        }

    pub run-dead : live (world_of Z t1) i ≡ false → Does Z run_pending_split t Nothing t1
    run-dead d = run-not (rw d)

    module _ (L : Lives Z t1 i) where
      asleep-is : (island_at (world_of Z t1) i).sleeping ≡ eqb (get_or (tables Z t1).rows (3 * i + 2) 0) 1
      asleep-is = ap (λ (a : Island). a.sleeping) (island-is-in i D.does.sound L.in_use)

      pub run-asleep : get_or (tables Z t1).rows (3 * i + 2) 0 ≡ 1 → Does Z run_pending_split t Nothing t1
      run-asleep e = run-not (rw (lives-true i D.does.sound L, asleep-is ∙ eq-eqb _ 1 e))

      pub run-done : {t2 : List ℕ} → get_or (tables Z t1).rows (3 * i + 2) 0 ≢ 1 → Steps Z (splitting i) t1 t2 → Does Z run_pending_split t Done t2
      unfolding splitting
      run-done e P =
          let q : live (world_of Z t1) i && not (island_at (world_of Z t1) i).sleeping ≡ true = rw (lives-true i D.does.sound L, asleep-is ∙ ne_eqb _ 1 e) in
          let r : run_pending_split (world_of Z t) ≡ done (split i (world_of Z t1)) = run_by ∙ rw q in
          record {
            sound = P.does.sound;
            answer = sym (ap (λ (s : Step). s.answer) r);
            after = P.does.after ∙ sym (ap (λ (s : Step). s.after) r);
            frame = kept_then P.larger D.does.frame P.does.frame;
          }
