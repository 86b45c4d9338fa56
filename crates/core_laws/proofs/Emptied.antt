-- The last body of an island leaves, with the island's links and number; and what remove and retire say where their tests are known.
use mathlib.Core.Path.{◌≡◌, refl, sym, ◌∙◌, ap}
use mathlib.Core.Logic.{◌≢◌}
use mathlib.Core.Bool.{true, false}
use mathlib.Core.List.{List, [], ◌∷◌, ◌++◌, reverse}
use Prim.Native.Nat.{ℕ, ◌+◌, ◌-◌, ◌≤◌, ◌<◌}
use native.Mathlib.Omega.{arith}
use borrow.Author.Tests.{eq-eqb, ne_eqb}
use lib.ListN.{length, get_or, set, length-set}
use lib.Seq.{set-set, get_or-set_same, length-take-le}
use Rattle.list_in_table.specs.Rules.{none}
use Rattle.def_kinds.specs.Choice.{pick}
use Rattle.list_in_table.proofs.Same.{below}
use Rattle.def_kinds.specs.declared.Sizes.{Sizes}
use Rattle.def_kinds.specs.Answers.{Answer, Done, Nothing}
use Rattle.def_state.specs.Plain.{empty, place_of, swap_remove}
use Rattle.def_state.specs.World.{Island, absent_island, World, done, gives, island_at, named, island_of}
use Rattle.def_state.specs.Fields.{island_set, contacts_set}
use Rattle.def_state.specs.Membership.{clear_pending_split_of, places_of, free_island, without, left, remove}
use Rattle.def_state.specs.Bodies.{vacate, retire}
use Rattle.table_meaning.specs.Layout.{tables, extents}
use Rattle.table_meaning.specs.Decode.{world_of}
use Rattle.table_meaning.specs.Does.{Does}
use Rattle.table_meaning.proofs.Tab.{get_d_beyond}
use Rattle.table_meaning.proofs.Frame.{larger-refl}
use Rattle.core_laws.specs.Steps.{handle, body_with, stand, Stood, Steps, leave, leave_last, clear_pending, drop_contacts, drop_joints}
use Rattle.core_laws.proofs.Good.{world_is}
use Rattle.core_laws.proofs.Then.{does-as, does-then}

-- ---- the island is freed
emptied-is : (i : ℕ) (w : World) → i < length w.islands → clear_pending i (leave_last i (drop_joints i (drop_contacts i w).after).after).after ≡ done (free_island i w)
unfolding clear_pending leave_last drop_joints drop_contacts free_island island_set clear_pending_split_of
emptied-is i w il =
    let a = contacts_set (island_at w i) [] in
    ap done
    (world_is refl (set-set (set w.islands i a) i _ absent_island ∙ set-set w.islands i a absent_island) refl refl refl
    (ap (λ (b : Island). w.free_places ++ reverse (places_of b)) (get_or-set_same w.islands i a absent_island il)) refl refl refl refl refl)

pub removed-last : {Z : Sizes} {t t1 t2 t3 t4 : List ℕ} (i : ℕ) → i < length (world_of Z t).islands → Steps Z (drop_contacts i) t t1 → Steps Z (drop_joints i) t1 t2 → Steps Z (leave_last i) t2 t3
    → Steps Z (clear_pending i) t3 t4 → Does Z (λ w. done (free_island i w)) t Done t4
removed-last {Z} {t} i il A B C D =
    does-as (λ w. clear_pending i (leave_last i (drop_joints i (drop_contacts i w).after).after).after) (λ w. done (free_island i w)) (emptied-is i (world_of Z t) il)
    (does-then (λ w. leave_last i (drop_joints i (drop_contacts i w).after).after) (clear_pending i) D.larger
    (does-then (λ w. drop_joints i (drop_contacts i w).after) (leave_last i) C.larger (does-then (drop_contacts i) (drop_joints i) B.larger A.does B.does) C.does) D.does)

-- ---- remove
not-empty : {A : Type 0} (xs : List A) → 0 < length xs → empty xs ≡ false
not-empty [] h = absurd (omega arith)
not-empty (x ∷ xs) h = refl

listed : (w : World) (s i : ℕ) → (island_at w i).bodies ≡ s ∷ [] → i < length w.islands
listed w s i b =
    below i (length w.islands) (λ l. l)
    (λ l. absurd (let n : length (island_at w i).bodies ≡ 0 = ap (λ (a : Island). length a.bodies) (get_d_beyond w.islands absent_island i l) in let m = ap length b in omega arith))

left-last : (w : World) (s i : ℕ) → (island_at w i).bodies ≡ s ∷ [] → left w s i ≡ free_island i w
unfolding left
left-last w s i b =
    ap
    (λ (bs : List ℕ).
    pick (empty (swap_remove 0 bs (place_of bs s))) (free_island i w) (island_set w i (without (island_at w i) (swap_remove 0 bs (place_of bs s)))))
    b

left-some : (w : World) (s i : ℕ) → 1 < length (island_at w i).bodies → left w s i ≡ (leave s i w).after
unfolding left leave
left-some w s i h =
    let bs = (island_at w i).bodies in
    let p = place_of bs s in
    let v = get_or bs (length bs - 1) 0 in
    let z : length bs - 1 ≤ length (set bs p v) = (let k = length-set bs p v in omega arith) in
    let n = length-take-le (length bs - 1) (set bs p v) z in
    rw (not-empty (swap_remove 0 bs p) (omega arith))

module _ (w : World) (s g : ℕ) where
  pub remove-no : named w (handle s g) ≡ false → remove (handle s g) w ≡ gives Nothing w
  unfolding remove
  remove-no n = rw n

  pub remove-none : named w (handle s g) ≡ true → island_of w s ≡ none → remove (handle s g) w ≡ gives Nothing w
  unfolding remove
  remove-none n e = rw (n, eq-eqb (island_of w s) none e)

  remove-left : (i : ℕ) → named w (handle s g) ≡ true → island_of w s ≡ i → i ≢ none → remove (handle s g) w ≡ done (left w s i)
  unfolding remove
  remove-left i n e d = rw (n, e, ne_eqb i none d)

  pub retire-no : named w (handle s g) ≡ false → retire (handle s g) w ≡ gives Nothing w
  unfolding retire
  retire-no n = rw n

module _ {Z : Sizes} {t : List ℕ} (s g i : ℕ) (n : named (world_of Z t) (handle s g) ≡ true) (e : island_of (world_of Z t) s ≡ i) (d : i ≢ none) where
  pub remove-some : {t1 : List ℕ} → 1 < length (island_at (world_of Z t) i).bodies → Steps Z (leave s i) t t1 → Does Z (remove (handle s g)) t Done t1
  unfolding leave
  remove-some h A =
      let w = world_of Z t in
      does-as (leave s i) (remove (handle s g)) (sym (remove-left w s g i n e d ∙ ap done (left-some w s i h))) A.does

-- ---- retire: whichever remove answered
pub retired : {Z : Sizes} {t t1 t2 : List ℕ} {r : Answer} (s g : ℕ) → named (world_of Z t) (handle s g) ≡ true → Does Z (remove (handle s g)) t r t1 → Stood Z s none (g + 1) 0 0 0 t1 t2
    → Does Z (retire (handle s g)) t Done t2
unfolding stand retire vacate
retired {Z} {t} {t1} s g n D E =
    let v = stand s (body_with none (g + 1) 0 0 0) in
    does-as (λ w. v (remove (handle s g) w).after) (retire (handle s g)) (sym (rw n))
    (does-then (remove (handle s g)) v (rw E.extents_same (larger-refl (extents (tables Z t1)))) D E.does)
