-- A place hung directly under its own root: every place keeps its root, and the forest stands.
use mathlib.Core.Path.{◌≡◌, refl, sym, ap, ◌∙◌}
use mathlib.Core.Logic.{◌≢◌}
use Prim.Native.Nat.{ℕ, zero, suc, ◌≤◌, ◌<◌, ◌^◌}
use native.Mathlib.Nat.{pow-le-pow_right}
use native.Mathlib.Omega.{arith}
use mathlib.Core.List.{List}
use lib.ListN.{length, length-set}
use lib.Seq.{get_or-set_same, get_or-set_other}
use Rattle.list_in_table.proofs.Laws.{either}
use Rattle.split_forest.specs.Forest.{at, climb, root_of, Tall, Forest, Wood, Lifted}
use Rattle.split_forest.proofs.Tallies.{members-same}
use Rattle.split_forest.proofs.Climb.{climb-root, tall-root, tall-size, steps-root, root-top, root-lt, top-root}

-- a walk along q that ends where k steps along p end, and is no longer
record Shorter (p q : ℕ → ℕ) (k j : ℕ) : Type 0 where
  steps : ℕ
  few : steps ≤ k
  same : climb q steps j ≡ climb p k j

module _ {n : ℕ} {p z q : ℕ → ℕ} {i : ℕ} (F : Forest n p z) (il : i < n) (under : q i ≡ root_of p i) (other : (j : ℕ) → j ≢ i → q j ≡ p j) where
  -- the roots are the same places
  root-stays : (r : ℕ) → p r ≡ r → q r ≡ r
  unfolding root_of
  root-stays r e =
      either r i (λ w. ap q w ∙ under ∙ ap (climb p 12) (sym w) ∙ climb-root p 12 r e) (λ d. other r d ∙ e)

  root-was : (r : ℕ) → q r ≡ r → p r ≡ r
  root-was r e =
      either r i
      (λ w.
      let own : root_of p i ≡ r = sym under ∙ ap q (sym w) ∙ e in
      ap p (sym own) ∙ root-top F i il ∙ own)
      (λ d. sym (other r d) ∙ e)

  -- a walk to a root that comes by i is at that root with the next step
  shorter : (k j : ℕ) → j < n → p (climb p k j) ≡ climb p k j → Shorter p q k j
  unfolding climb
  shorter zero j l e = record { steps = 0; few = omega arith; same = refl }
  shorter (suc k) j l e =
      either j i
      (λ w.
      record { steps = 1; few = omega arith; same = ap q w ∙ under ∙ ap (root_of p) (sym w) ∙ sym (top-root F (suc k) j l e) })
      (λ d.
      let s = shorter k (p j) (F.within j l) e in
      record { steps = suc s.steps; few = (let m = s.few in omega arith); same = rw (other j d) s.same })

  walk : (j : ℕ) (l : j < n) → Shorter p q (F.tall j l).steps j
  walk j l = shorter (F.tall j l).steps j l (F.tall j l).top

  still-tall : (j : ℕ) → j < n → Tall q z j × (root_of q j ≡ root_of p j)
  still-tall j l =
      let t = F.tall j l in
      let s = walk j l in
      let few : 2 ^ s.steps ≤ 2 ^ t.steps = pow-le-pow_right {n = 2} (omega arith) {i = s.steps} {j = t.steps} s.few in
      let t' : Tall q z j =
      record {
        steps = s.steps;
        top = rw s.same (root-stays _ t.top);
        wide = rw s.same (let h = t.wide in omega arith);
      } in
      (t', tall-root t' (rw s.same (tall-size F j l)) ∙ s.same ∙ sym (steps-root F j l))

  pub lift-roots : (j : ℕ) → j < n → root_of q j ≡ root_of p j
  lift-roots j l = (still-tall j l).1

  pub lift-forest : Forest n q z
  lift-forest =
      record {
        n_small = F.n_small;
        within = λ j l. either j i (λ w. rw w (rw under (root-lt F i il))) (λ d. rw (other j d) (F.within j l));
        tall = λ j l. (still-tall j l).0;
        counted = λ r l e. F.counted r l (root-was r e) ∙ sym (members-same r lift-roots);
      }

-- the same of a forest in two lists
module _ {parent size zs : List ℕ} {i r : ℕ} (W : Wood parent size) (il : i < length parent) (E : Lifted parent zs i r) where
  under-root : at zs i ≡ root_of (at parent) i
  unfolding root_of
  under-root = rw E.under (get_or-set_same parent i r 0 il ∙ E.found)

  others : (j : ℕ) → j ≢ i → at zs j ≡ at parent j
  others j d = rw E.under (get_or-set_other parent i j r 0 d)

  pub lifted-long : length zs ≡ length parent
  lifted-long = rw E.under (simp length-set)

  pub lifted-roots : (j : ℕ) → j < length parent → root_of (at zs) j ≡ root_of (at parent) j
  lifted-roots = lift-roots W.forest il under-root others

  pub lifted-wood : Wood zs size
  lifted-wood =
      record {
        forest = rw lifted-long (lift-forest W.forest il under-root others);
        as_long = W.as_long ∙ sym lifted-long;
      }
