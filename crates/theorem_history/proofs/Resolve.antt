-- The resolver: the journal's entries are counted, then gone.
use mathlib.Core.Path.{◌≡◌, refl, sym, ◌∙◌, ap, subst}
use mathlib.Core.Logic.{◌≢◌}
use mathlib.Core.Bool.{Bool, not, ◌&&◌}
use mathlib.Core.List.{List, [], ◌∷◌, ◌++◌, map}
use Prim.Native.Nat.{ℕ, ◌<◌}
use lib.ListN.{length, get_or, set, length-set}
use lib.Seq.{get_or-set_same, get_or-set_other}
use lib.Dec.{eqb}
use borrow.Author.Tests.{eq-eqb, ne_eqb}
use Rattle.list_in_table.proofs.Laws.{either}
use Rattle.def_state.specs.Plain.{top, empty, more}
use Rattle.def_state.specs.World.{Handle, ContactLink, JointLink, Island, absent_island, Removal, World, Step, body_of, island_at, body_island}
use Rattle.def_state.specs.Fields.{journal_set, island_set, count_set}
use Rattle.def_state.specs.Resolver.{counted, count_all, resolve_removals}
use Rattle.theorem_split.specs.Graph.{In, here, there, of_contact, of_joint}
use Rattle.theorem_split.proofs.Homes.{in_use, member}
use Rattle.theorem_history.specs.Ties.{nothing}
use Rattle.theorem_history.proofs.Change.{count, Resolved, Change, same, resolved}
use Rattle.theorem_history.proofs.Basic.{ways, set-part, same_refl, home_same, named-same, slot_same}
use Rattle.theorem_history.proofs.Quit.{more-some}

-- the three lists of an island
pub record Lists : Type 0 where
  pub bodies : List ℕ
  pub contacts : List ContactLink
  pub joints : List JointLink

abbrev lists_of : Island → Lists
lists_of a = record { bodies = a.bodies; contacts = a.contact_links; joints = a.joint_links }

-- only counts change, and none falls to 0
record Counted (w u : World) : Type 0 where
  generations : (s : ℕ) → (body_of u s).generation ≡ (body_of w s).generation
  long : length u.islands ≡ length w.islands
  lists : (j : ℕ) → lists_of (island_at u j) ≡ lists_of (island_at w j)
  zeros : (j : ℕ) → count u j ≡ 0 → count w j ≡ 0

counted-home : (w u : World) → Counted w u → (h : Handle) → body_island u h ≡ body_island w h
counted-home w u C h =
    home_same w u h (named-same w u h (C.generations h.slot)) (slot_same w u C.long (λ j. ap (λ (l : Lists). l.bodies) (C.lists j)) h.slot)

counted-then : {w u v : World} → Counted w u → Counted u v → Counted w v
counted-then C D =
    record {
      generations = λ s. D.generations s ∙ C.generations s;
      long = D.long ∙ C.long;
      lists = λ j. D.lists j ∙ C.lists j;
      zeros = λ j e. C.zeros j (D.zeros j e);
    }

abbrev hit : Removal → World → Bool
hit r w = not (eqb (body_island w r.body1) top) && eqb (body_island w r.body1) (body_island w r.body2)

one_more : (w : World) (i : ℕ) → i < length w.islands → Counted w (island_set w i (count_set (island_at w i) (more (island_at w i).constraint_remove_count)))
unfolding island_set
one_more w i l =
    let N = count_set (island_at w i) (more (island_at w i).constraint_remove_count) in
    record {
      generations = λ s. refl;
      long = length-set w.islands i N;
      lists = set-part lists_of w.islands i N absent_island refl;
      zeros =
          λ j e.
          either j i
          (λ q.
          absurd
          (more-some (island_at w i).constraint_remove_count
          (sym (ap (λ (a : Island). a.constraint_remove_count) (get_or-set_same w.islands i N absent_island l))
          ∙ ap (λ (k : ℕ). (get_or (set w.islands i N) k absent_island).constraint_remove_count) (sym q)
          ∙ e)))
          (λ d. sym (ap (λ (a : Island). a.constraint_remove_count) (get_or-set_other w.islands i j N absent_island d)) ∙ e);
    }

none_more : (w : World) → Counted w w
none_more w = record { generations = λ s. refl; long = refl; lists = λ j. refl; zeros = λ j e. e }

home_lt : (w : World) (h : Handle) → body_island w h ≢ top → body_island w h < length w.islands
home_lt w h d = in_use w (body_island w h) (member w (body_island w h) h refl d).listed

counted_step : (r : Removal) (w : World) → Counted w (counted r w)
unfolding counted
counted_step r w =
    either (body_island w r.body1) top (λ e. rw (eq-eqb (body_island w r.body1) top e) (none_more w))
    (λ d.
    ways (λ (x : World). Counted w x) (hit r w) (λ e. one_more w (body_island w r.body1) (home_lt w r.body1 d)) (λ e. none_more w))

counted-hit : (r : Removal) (w : World) (j : ℕ) → j ≢ top → body_island w r.body1 ≡ j → body_island w r.body2 ≡ j → count (counted r w) j ≢ 0
unfolding counted island_set
counted-hit r w j t p q e =
    let i = body_island w r.body1 in
    let d : body_island w r.body1 ≢ top = λ z. t (sym p ∙ z) in
    let N = count_set (island_at w (body_island w r.body1)) (more (island_at w (body_island w r.body1)).constraint_remove_count) in
    let e' : (get_or (set w.islands (body_island w r.body1) N) j absent_island).constraint_remove_count ≡ 0 =
    rw (ne_eqb (body_island w r.body1) top d, eq-eqb (body_island w r.body1) (body_island w r.body2) (p ∙ sym q)) at e in
    more-some (island_at w (body_island w r.body1)).constraint_remove_count
    (sym (ap (λ (a : Island). a.constraint_remove_count) (get_or-set_same w.islands (body_island w r.body1) N absent_island (home_lt w r.body1 d)))
    ∙ ap (λ (k : ℕ). (get_or (set w.islands (body_island w r.body1) N) k absent_island).constraint_remove_count) p
    ∙ e')

counted-all : (rs : List Removal) (w : World) → Counted w (count_all rs w)
unfolding count_all
counted-all [] w = none_more w
counted-all (r ∷ rs) w = counted-then (counted_step r w) (counted-all rs (counted r w))

counted-each : (rs : List Removal) (w : World) (r : Removal) → In r rs → (j : ℕ) → j ≢ top → body_island w r.body1 ≡ j → body_island w r.body2 ≡ j → count (count_all rs w) j ≢ 0
unfolding count_all
counted-each [] w r i j t p q e = elim i [ ]
counted-each (x ∷ rs) w r (here z) j t p q e =
    counted-hit x w j t (ap (λ (y : Removal). body_island w y.body1) z ∙ p) (ap (λ (y : Removal). body_island w y.body2) z ∙ q)
    ((counted-all rs (counted x w)).zeros j e)
counted-each (x ∷ rs) w r (there i) j t p q e =
    let C = counted_step x w in
    counted-each rs (counted x w) r i j t (counted-home w (counted x w) C r.body1 ∙ p) (counted-home w (counted x w) C r.body2 ∙ q) e

emptied : (rs : List Removal) (w : World) → rs ≡ w.removal_journal → Resolved w (journal_set (count_all rs w) [])
emptied rs w e =
    let u = count_all rs w in
    let v = journal_set u [] in
    let C = counted-all rs w in
    let D : Counted w (journal_set (count_all rs w) []) = record { generations = C.generations; long = C.long; lists = C.lists; zeros = C.zeros } in
    record {
      home = counted-home w (journal_set (count_all rs w) []) D;
      to = λ j l s. subst (λ (x : Lists). In l (map of_contact x.contacts ++ map of_joint x.joints)) (sym (C.lists j)) s;
      from = λ j l s. subst (λ (x : Lists). In l (map of_contact x.contacts ++ map of_joint x.joints)) (C.lists j) s;
      counts = C.zeros;
      counted = λ r i j t p q. counted-each rs w r (subst (λ (x : List Removal). In r x) (sym e) i) j t p q;
    }

pub resolve-change : (w : World) → Change nothing w (resolve_removals w).after
unfolding resolve_removals
resolve-change w = ways (λ (s : Step). Change nothing w s.after) (empty w.removal_journal) (λ q. same (same_refl w)) (λ q. resolved (emptied w.removal_journal w refl))
