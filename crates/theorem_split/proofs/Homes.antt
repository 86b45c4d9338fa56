-- A body's island, by what the lists hold.
use mathlib.Core.Path.{◌≡◌, refl, sym, ◌∙◌, ap, subst}
use mathlib.Core.Logic.{◌≢◌}
use mathlib.Core.Bool.{Bool, true, false, false≢true}
use mathlib.Core.List.{List}
use Prim.Native.Nat.{ℕ, zero, suc, ◌<◌}
use native.Mathlib.Omega.{arith}
use lib.ListN.{length, get_or}
use borrow.Author.Tests.{eq-eqb, ne_eqb, eqb-true}
use Rattle.list_in_table.proofs.Laws.{either}
use Rattle.list_in_table.proofs.Same.{below}
use Rattle.table_meaning.proofs.Tab.{get_d_beyond}
use Rattle.def_state.specs.Plain.{top, has}
use Rattle.def_state.specs.World.{Handle, Island, absent_island, World, body_of, island_at, named, island_below, island_of, body_island}
use Rattle.theorem_split.specs.Graph.{In, Bond, bonds_of, Stands}
use Rattle.theorem_split.specs.Fine.{Apart}
use Rattle.theorem_split.proofs.Member.{none_in, in-has, has_in}

-- true or false
pub bool : {A : Type 0} (b : Bool) → (b ≡ true → A) → (b ≡ false → A) → A
bool true f g = f refl
bool false f g = g refl

-- an island that has something is one in use
pub in_use : (w : World) (i : ℕ) {s : ℕ} → In s (island_at w i).bodies → i < length w.islands
in_use w i {s} m =
    below i (length w.islands) (λ l. l)
    (λ l. absurd (none_in (subst (λ (a : Island). In s a.bodies) (get_d_beyond w.islands absent_island i l) m)))

pub stands-use : (w : World) (i : ℕ) (l : Bond) → Stands w i l → i < length w.islands
stands-use w i l m =
    below i (length w.islands) (λ k. k) (λ k. absurd (none_in (subst (λ (a : Island). In l (bonds_of a)) (get_d_beyond w.islands absent_island i k) m)))

-- the search finds an island that lists the slot
pub below-found : (is : List Island) (s k : ℕ) → island_below is s k ≢ top → In s (get_or is (island_below is s k) absent_island).bodies
unfolding island_below
below-found is s zero d = absurd (d refl)
below-found is s (suc k) d =
    bool (has (get_or is k absent_island).bodies s) (λ e. rw e (has_in (get_or is k absent_island).bodies s e)) (λ e. rw e (below-found is s k (rw e at d)))

-- and any that does, where only one does
pub below-finds : (is : List Island) (s i k : ℕ) → i < k → In s (get_or is i absent_island).bodies → ((j : ℕ) → In s (get_or is j absent_island).bodies → j ≡ i)
    → island_below is s k ≡ i
unfolding island_below
below-finds is s i zero l m o = absurd (omega arith)
below-finds is s i (suc k) l m o =
    bool (has (get_or is k absent_island).bodies s) (λ e. rw e (o k (has_in (get_or is k absent_island).bodies s e)))
    (λ e.
    rw e
    (below-finds is s i k
    (either i k (λ q. absurd (false≢true (sym e ∙ subst (λ (j : ℕ). has (get_or is j absent_island).bodies s ≡ true) q (in-has m)))) (λ d. omega arith))
    m
    o))

pub slot-listed : (w : World) (s i : ℕ) → island_of w s ≡ i → i ≢ top → In s (island_at w i).bodies
unfolding island_of
slot-listed w s i e d = rw e at (below-found w.islands s (length w.islands) (λ q. d (sym e ∙ q)))

pub listed-slot : (w : World) → Apart w → (s i : ℕ) → In s (island_at w i).bodies → island_of w s ≡ i
unfolding island_of
listed-slot w A s i m = below-finds w.islands s i (length w.islands) (in_use w i m) m (λ j k. A.once j i s k m)

-- ---- handles

-- h names a live body that is in island i
pub record Member (w : World) (i : ℕ) (h : Handle) : Type 0 where
  pub named_is : named w h ≡ true
  pub listed : In h.slot (island_at w i).bodies

pub member : (w : World) (i : ℕ) (h : Handle) → body_island w h ≡ i → i ≢ top → Member w i h
unfolding body_island
member w i h e d =
    bool (named w h) (λ n. record { named_is = n; listed = slot-listed w h.slot i (rw n at e) d }) (λ n. absurd (d (sym (rw n at e))))

pub at_home : (w : World) → Apart w → (i : ℕ) (h : Handle) → Member w i h → body_island w h ≡ i
unfolding body_island
at_home w A i h m = rw m.named_is (listed-slot w A h.slot i m.listed)

pub home-top : (w : World) (h : Handle) → named w h ≡ false → body_island w h ≡ top
unfolding body_island
home-top w h e = rw e

pub handle-same : (h k : Handle) → h.slot ≡ k.slot → h.generation ≡ k.generation → h ≡ k
handle-same h k e f = λ i. record { slot = e i; generation = f i }

-- a handle that names a body has its slot's generation, which is not top
pub named-generation : (w : World) (h : Handle) → named w h ≡ true → ((body_of w h.slot).generation ≡ h.generation) × (h.generation ≢ top)
unfolding named
named-generation w h p =
    either h.generation top (λ t. absurd (false≢true (rw (eq-eqb h.generation top t) at p)))
    (λ t. (eqb-true _ _ (rw (ne_eqb h.generation top t) at p), t))

-- a slot is named by one handle
pub named-one : (w : World) (h k : Handle) → named w h ≡ true → named w k ≡ true → h.slot ≡ k.slot → h ≡ k
named-one w h k p q e =
    handle-same h k e
    (sym (named-generation w h p).0 ∙ ap (λ (s : ℕ). (body_of w s).generation) e ∙ (named-generation w k q).0)

pub named_table : (w v : World) → v.bodies ≡ w.bodies → (h : Handle) → named v h ≡ named w h
unfolding named
named_table w v e h = rw e

-- the handle of a live slot
pub own_name : (w : World) (s : ℕ) → (body_of w s).generation ≢ top → named w (record { slot = s; generation = (body_of w s).generation }) ≡ true
unfolding named
own_name w s d = rw (ne_eqb (body_of w s).generation top d) (eq-eqb (body_of w s).generation (body_of w s).generation refl)
