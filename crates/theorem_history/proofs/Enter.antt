-- Ensure: a body becomes the only one of a new island.
use mathlib.Core.Path.{◌≡◌, refl, sym, ◌∙◌, ap, subst}
use mathlib.Core.Logic.{◌≢◌}
use mathlib.Core.Bool.{true, false≢true}
use Prim.Native.Nat.{ℕ}
use native.Mathlib.Omega.{arith}
use borrow.Author.Tests.{eqb-true}
use Rattle.list_in_table.proofs.Laws.{either}
use Rattle.def_state.specs.Plain.{top}
use Rattle.def_state.specs.World.{Handle, Island, absent_island, World, body_of, island_at, named, island_of, body_island}
use Rattle.def_state.specs.Membership.{new_number, may_join, singleton, joined, ensure}
use Rattle.theorem_split.specs.Graph.{In, here, bonds_of, Stands}
use Rattle.theorem_split.specs.Fine.{Apart, Fine}
use Rattle.theorem_split.specs.Parted.{Steady}
use Rattle.theorem_split.proofs.Member.{none_in, in_one}
use Rattle.theorem_split.proofs.Homes.{bool, member, at_home, home-top, named-one, named_table}
use Rattle.theorem_split.proofs.Numbers.{Taken, takes, take-steady}
use Rattle.theorem_split.proofs.Split.{spare-none}
use Rattle.theorem_history.specs.Ties.{nothing}
use Rattle.theorem_history.proofs.Change.{Entered, Change, same, entered}
use Rattle.theorem_history.proofs.Basic.{same_refl}

-- a body's island is the same where the same lists have its slot
pub home_by : (w v : World) → Apart w → Apart v → (k : Handle) → named v k ≡ named w k
    → (named w k ≡ true → (j : ℕ) → In k.slot (island_at w j).bodies → In k.slot (island_at v j).bodies)
    → (named w k ≡ true → (j : ℕ) → In k.slot (island_at v j).bodies → In k.slot (island_at w j).bodies)
    → body_island v k ≡ body_island w k
home_by w v A B k e to from =
    bool (named w k)
    (λ n.
    either (body_island w k) top
    (λ q.
    either (body_island v k) top (λ o. o ∙ sym q)
    (λ o.
    absurd
    (o
    (sym (at_home w A (body_island v k) k (record { named_is = n; listed = from n (body_island v k) (member v (body_island v k) k refl o).listed }))
    ∙ q))))
    (λ d.
    at_home v B (body_island w k) k (record { named_is = e ∙ n; listed = to n (body_island w k) (member w (body_island w k) k refl d).listed })))
    (λ n. home-top v k (e ∙ n) ∙ sym (home-top w k n))

may-join : (w : World) (h : Handle) → may_join w h ≡ true → (named w h ≡ true) × (island_of w h.slot ≡ top)
unfolding may_join
may-join w h e =
    bool (named w h)
    (λ n. (
      n,
      bool (body_of w h.slot).fixed (λ f. absurd (false≢true (rw (n, f) at e)))
          (λ f.
          bool (body_of w h.slot).enabled (λ b. eqb-true (island_of w h.slot) top (rw (n, f, b) at e))
          (λ b. absurd (false≢true (rw (n, f, b) at e)))),
    ))
    (λ n. absurd (false≢true (rw n at e)))

out_of : (w : World) (h : Handle) → named w h ≡ true → island_of w h.slot ≡ top → body_island w h ≡ top
unfolding body_island
out_of w h n e = rw n e

module _ (w : World) (F : Fine w) (h : Handle) (B : Apart (joined w h.slot)) (n : named w h ≡ true) (o : island_of w h.slot ≡ top) where
  abbrev v : World
  v = joined w h.slot

  abbrev a : Island
  a = singleton h.slot (body_of w h.slot).sleeping

  T : Taken w (joined w h.slot) (new_number w) (singleton h.slot (body_of w h.slot).sleeping)
  unfolding joined
  T = takes w F.stack a

  S : Steady w (joined w h.slot)
  unfolding joined
  S = take-steady w (new_number w) a

  name : (k : Handle) → named v k ≡ named w k
  name = named_table w v S.table

  some : new_number w ≢ top
  some e = let l = T.in_use in let b = B.small in omega arith

  was : island_at w (new_number w) ≡ absent_island
  was = spare-none w F (new_number w) T.spare

  nobody : (s : ℕ) → In s (island_at w (new_number w)).bodies → ⊥
  nobody s m = none_in (subst (λ (x : Island). In s x.bodies) was m)

  pub joined-enters : Entered h (new_number w) w (joined w h.slot)
  joined-enters =
      record {
        some = some;
        out = out_of w h n o;
        new =
            at_home v B (new_number w) h
            (record { named_is = name h ∙ n; listed = subst (λ (x : Island). In h.slot x.bodies) (sym T.new) (here refl) });
        empty = λ k e. nobody k.slot (member w (new_number w) k e some).listed;
        others =
            λ k d.
            home_by w v F.apart B k (name k)
            (λ q j m.
            subst (λ (x : Island). In k.slot x.bodies)
            (sym (T.others j (λ p. nobody k.slot (subst (λ (i : ℕ). In k.slot (island_at w i).bodies) p m))))
            m)
            (λ q j m.
            either j (new_number w)
            (λ p.
            absurd
            (d
            (named-one w k h q n
            (sym (in_one (subst (λ (x : Island). In k.slot x.bodies) T.new (subst (λ (i : ℕ). In k.slot (island_at v i).bodies) p m)))))))
            (λ p. subst (λ (x : Island). In k.slot x.bodies) (T.others j p) m));
        to =
            λ j l s.
            either j (new_number w)
            (λ p. absurd (none_in (subst (λ (x : Island). In l (bonds_of x)) was (subst (λ (i : ℕ). Stands w i l) p s))))
            (λ p. subst (λ (x : Island). In l (bonds_of x)) (sym (T.others j p)) s);
        from =
            λ j l s.
            either j (new_number w)
            (λ p. absurd (none_in (subst (λ (x : Island). In l (bonds_of x)) T.new (subst (λ (i : ℕ). Stands v i l) p s))))
            (λ p. subst (λ (x : Island). In l (bonds_of x)) (T.others j p) s);
        counts = λ j d. ap (λ (x : Island). x.constraint_remove_count) (T.others j d);
        journal = S.journal;
      }

pub ensure-change : (w : World) → Fine w → (h : Handle) → Apart (ensure h w).after → Change nothing w (ensure h w).after
unfolding ensure
ensure-change w F h B =
    bool (may_join w h)
    (λ e.
    let m = may-join w h e in
    let B' : Apart (joined w h.slot) = rw e at B in
    rw e (entered h (new_number w) (joined-enters w F h B' m.0 m.1)))
    (λ e. rw e (same (same_refl w)))
