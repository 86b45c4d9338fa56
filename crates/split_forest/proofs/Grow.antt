-- A root hung under a root that is no smaller: the forest stands, and one name is turned into the other.
use mathlib.Core.Path.{◌≡◌, refl, sym, ap, ◌∙◌}
use mathlib.Core.Logic.{◌≢◌}
use Prim.Native.Nat.{ℕ, zero, suc, ◌+◌, ◌≤◌, ◌<◌, ◌^◌}
use native.Mathlib.Nat.{two-pow-succ}
use native.Mathlib.Omega.{arith}
use lib.Dec.{eqb}
use Rattle.def_kinds.specs.Choice.{pick}
use Rattle.list_in_table.proofs.Laws.{either}
use Rattle.split_forest.specs.Forest.{climb, root_of, Tall, Forest}
use Rattle.split_forest.proofs.Cases.{pick-eq, pick-ne}
use Rattle.split_forest.proofs.Paths.{Turned}
use Rattle.split_forest.proofs.Tallies.{members-le, members-to, members-stay}
use Rattle.split_forest.proofs.Climb.{climb-root, tall-root, steps-root, root-lt, size-le}

-- the parents after the root s is hung under the root b
pub record Hung (p q : ℕ → ℕ) (s b : ℕ) : Type 0 where
  pub root_s : p s ≡ s
  pub root_b : p b ≡ b
  pub apart : s ≢ b
  pub hung : q s ≡ b
  pub other : (j : ℕ) → j ≢ s → q j ≡ p j

module _ {p q : ℕ → ℕ} {s b : ℕ} (H : Hung p q s b) where
  b-top : q b ≡ b
  b-top = H.other b (λ e. H.apart (sym e)) ∙ H.root_b

  -- a walk that does not end at s is as it was
  walk-stay : (k i : ℕ) → climb p k i ≢ s → climb q k i ≡ climb p k i
  unfolding climb
  walk-stay zero i d = refl
  walk-stay (suc k) i d =
      let e : q i ≡ p i = H.other i (λ w. d (ap (climb p k) (ap p w ∙ H.root_s) ∙ climb-root p k s H.root_s)) in
      rw e (walk-stay k (p i) d)

  -- one that does takes a step more, to b
  walk-to : (k i : ℕ) → climb p k i ≡ s → climb q (suc k) i ≡ b
  unfolding climb
  walk-to zero i e = ap q e ∙ H.hung
  walk-to (suc k) i e =
      either i s (λ w. rw w (rw H.hung (rw b-top (climb-root q k b b-top))))
      (λ d. rw (H.other i d) (walk-to k (p i) e))

module _ {n : ℕ} {p z q y : ℕ → ℕ} {s b : ℕ} (F : Forest n p z) (H : Hung p q s b) (sl : s < n) (bl : b < n)
    (le : z s ≤ z b) (sum : y b ≡ z b + z s) (rest : (j : ℕ) → j ≢ b → y j ≡ z j)
  where
    both-le : z b + z s ≤ n
    both-le =
        let h : ℕ → ℕ = λ i. pick (eqb (root_of p i) s) b (root_of p i) in
        let T : Turned n (root_of p) h s b = record { to = λ i l e. pick-eq _ _ _ _ e; stay = λ i l d. pick-ne _ _ _ _ d } in
        let m = members-to T H.apart in
        let w = members-le h n b in
        let u = F.counted s sl H.root_s in
        let v = F.counted b bl H.root_b in
        omega arith

    -- from a place under s, and from any other
    tall-to : (i : ℕ) (l : i < n) → root_of p i ≡ s → Tall q y i × (root_of q i ≡ b)
    tall-to i l e =
        let t = F.tall i l in
        let k : ℕ = t.steps in
        let w : climb p k i ≡ s = sym (steps-root F i l) ∙ e in
        let c : climb q (suc k) i ≡ b = walk-to H k i w in
        let t' : Tall q y i =
        record {
          steps = suc k;
          top = rw c (b-top H);
          wide = rw c (let a : 2 ^ k ≤ z s = rw w at t.wide in let d = two-pow-succ k in omega arith);
        } in
        (t', tall-root t' (rw c (let s = both-le in let m = F.n_small in omega arith)) ∙ c)

    tall-stay : (i : ℕ) (l : i < n) → root_of p i ≢ s → Tall q y i × (root_of q i ≡ root_of p i)
    tall-stay i l d =
        let t = F.tall i l in
        let k : ℕ = t.steps in
        let r : root_of p i ≡ climb p k i = steps-root F i l in
        let d' : climb p k i ≢ s = λ w. d (r ∙ w) in
        let c : climb q k i ≡ climb p k i = walk-stay H k i d' in
        let g : (z (climb p k i) ≤ y (climb p k i)) × (y (climb p k i) ≤ 4096) =
        either (climb p k i) b (λ e. rw e (let s = both-le in let m = F.n_small in omega arith))
        (λ o.
        let u = rest _ o in
        let m = F.n_small in
        let x : climb p k i < n = rw r at (root-lt F i l) in
        let v = size-le F _ x t.top in
        omega arith) in
        let t' : Tall q y i =
        record {
          steps = k;
          top = rw c (H.other _ d' ∙ t.top);
          wide = rw c (let a = t.wide in let x = g.0 in omega arith);
        } in
        (t', tall-root t' (rw c g.1) ∙ c ∙ sym r)

    pub turned : Turned n (root_of p) (root_of q) s b
    turned = record { to = λ i l e. (tall-to i l e).1; stay = λ i l d. (tall-stay i l d).1 }

    pub grown : Forest n q y
    grown =
        record {
          n_small = F.n_small;
          within = λ i l. either i s (λ e. rw e (rw H.hung bl)) (λ d. rw (H.other i d) (F.within i l));
          tall = λ i l. either (root_of p i) s (λ e. (tall-to i l e).0) (λ d. (tall-stay i l d).0);
          counted =
              λ r l e.
              let ds : r ≢ s = λ w. H.apart (sym w ∙ sym e ∙ ap q w ∙ H.hung) in
              let e' : p r ≡ r = sym (H.other r ds) ∙ e in
              either r b
              (λ w. rw w (sum ∙ (let u = F.counted s sl H.root_s in let v = F.counted b bl H.root_b in let m = members-to turned H.apart in omega arith)))
              (λ db. rest r db ∙ F.counted r l e' ∙ sym (members-stay turned H.apart r ds db));
        }
