-- What a join does to a forest in two lists.
use mathlib.Core.Path.{◌≡◌, refl, sym, ap, ◌∙◌}
use mathlib.Core.Logic.{◌⊎◌, inl, inr, ◌≢◌, ⊎_elim}
use mathlib.Core.Bool.{Bool, true, false, false≢true}
use Prim.Native.Nat.{ℕ, ◌+◌, ◌≤◌, ◌<◌}
use native.Mathlib.Omega.{arith}
use mathlib.Core.List.{List}
use lib.ListN.{length, set}
use lib.Seq.{get_or-set_same, get_or-set_other}
use Rattle.split_forest.specs.Forest.{at, climb, root_of, Wood, RootReady, Lifted, JoinReady, JoinDone}
use Rattle.split_forest.proofs.Paths.{Turned, groups-alike, groups-more, joined_same, same-joined}
use Rattle.split_forest.proofs.Climb.{root-top, root-lt, parent-root, size-le}
use Rattle.split_forest.proofs.Grow.{Hung, turned, grown}
use Rattle.split_forest.proofs.SameRoots.{lifted-long, lifted-roots, lifted-wood}

module _ {parent size : List ℕ} {a b : ℕ} (J : JoinReady parent size a b) where
  -- what is known of a root
  seen : (i r : ℕ) → i < length parent → r ≡ climb (at parent) 12 i
      → (r < length parent) × (r < length size) × (at size r ≤ 4096) × (at parent r ≡ r)
  unfolding root_of
  seen i r l e =
      let F = J.wood.forest in
      let k : r < length parent = rw e (root-lt F i l) in
      let t : at parent r ≡ r = rw e (root-top F i l) in
      let m = J.wood.as_long in
      (k, omega arith, (let s = size-le F r k t in let n = F.n_small in omega arith), t)

  joins-same : climb (at parent) 12 a ≡ climb (at parent) 12 b → JoinDone (length parent) (at parent) (at parent) (at size) a b false
  unfolding root_of
  joins-same e =
      record {
        forest = J.wood.forest;
        groups =
            λ ls G.
            groups-more G (record { to = λ i l w. w; stay = λ i l w. refl }) a b J.a_lt J.b_lt (inl (refl, e));
        apart = λ ls G. ((λ w. absurd (false≢true w)), λ w. absurd (w ((same-joined G a b J.a_lt J.b_lt).0 e)));
      }

  -- two places under one parent have one root
  pub joins-under : at parent a ≡ at parent b → JoinDone (length parent) (at parent) (at parent) (at size) a b false
  unfolding root_of
  joins-under e =
      let F = J.wood.forest in
      joins-same (sym (parent-root F a J.a_lt) ∙ ap (climb (at parent) 12) e ∙ parent-root F b J.b_lt)

  -- s, one of the two roots, hung under t, the other
  module _ (s t : ℕ) (apart : s ≢ t) (le : at size s ≤ at size t)
      (ends : ((s ≡ root_of (at parent) a) × (t ≡ root_of (at parent) b)) ⊎ ((s ≡ root_of (at parent) b) × (t ≡ root_of (at parent) a)))
      (m : ℕ) (sum : m ≡ at size t + at size s)
    where
      known-s : (s < length parent) × (s < length size) × (at size s ≤ 4096) × (at parent s ≡ s)
      unfolding root_of
      known-s = ⊎_elim (λ e. seen a s J.a_lt e.0) (λ e. seen b s J.b_lt e.0) ends

      known-t : (t < length parent) × (t < length size) × (at size t ≤ 4096) × (at parent t ≡ t)
      unfolding root_of
      known-t = ⊎_elim (λ e. seen b t J.b_lt e.1) (λ e. seen a t J.a_lt e.1) ends

      hung : Hung (at parent) (at (set parent s t)) s t
      hung =
          record {
            root_s = known-s.3;
            root_b = known-t.3;
            apart = apart;
            hung = get_or-set_same parent s t 0 known-s.0;
            other = λ j d. get_or-set_other parent s j t 0 d;
          }

      sum-t : at (set size t m) t ≡ at size t + at size s
      sum-t = get_or-set_same size t m 0 known-t.1 ∙ sum

      T : Turned (length parent) (root_of (at parent)) (root_of (at (set parent s t))) s t
      T = turned J.wood.forest hung known-s.0 known-t.0 le sum-t (λ j d. get_or-set_other size t j m 0 d)

      joins-hung : JoinDone (length parent) (at parent) (at (set parent s t)) (at (set size t m)) a b true
      joins-hung =
          record {
            forest = grown J.wood.forest hung known-s.0 known-t.0 le sum-t (λ j d. get_or-set_other size t j m 0 d);
            groups = λ ls G. groups-more G T a b J.a_lt J.b_lt ends;
            apart =
                λ ls G.
                ((λ w j. (let k = joined_same G j in ⊎_elim (λ e. apart (e.0 ∙ k ∙ sym e.1)) (λ e. apart (e.0 ∙ sym k ∙ sym e.1)) ends)), λ w. refl);
          }

  module _ (r q : ℕ) (er : r ≡ climb (at parent) 12 a) (eq : q ≡ climb (at parent) 12 b) (d : r ≢ q) where
    joins-less : at size r < at size q → JoinDone (length parent) (at parent) (at (set parent r q)) (at (set size q (at size r + at size q))) a b true
    unfolding root_of
    joins-less l = joins-hung r q d (omega arith) (inl (er, eq)) (at size r + at size q) (omega arith)

    joins-else : at size q ≤ at size r → JoinDone (length parent) (at parent) (at (set parent q r)) (at (set size r (at size r + at size q))) a b true
    unfolding root_of
    joins-else l = joins-hung q r (λ e. d (sym e)) l (inr (eq, er)) (at size r + at size q) refl

-- once a hangs under its root, a walk from b can begin
pub second-ready : {parent size xs : List ℕ} {a b r : ℕ} → JoinReady parent size a b → Lifted parent xs a r → RootReady xs b
second-ready J A =
    record {
      within = (lifted-wood J.wood J.a_lt A).forest.within;
      place_lt = rw (lifted-long J.wood J.a_lt A) J.b_lt;
    }

-- a hung under its root r, then b under its root q; zs is the list that is left. What a join does to zs, it does to parent
module _ {parent size xs zs : List ℕ} {a b r q : ℕ} (J : JoinReady parent size a b) (A : Lifted parent xs a r) (B : Lifted xs zs b q) where
  wood-a : Wood xs size
  wood-a = lifted-wood J.wood J.a_lt A

  b_lt : b < length xs
  b_lt = (second-ready J A).place_lt

  long : length zs ≡ length parent
  long = lifted-long wood-a b_lt B ∙ lifted-long J.wood J.a_lt A

  roots : (j : ℕ) → j < length parent → root_of (at zs) j ≡ root_of (at parent) j
  roots j l =
      lifted-roots wood-a b_lt B j (rw (lifted-long J.wood J.a_lt A) l) ∙ lifted-roots J.wood J.a_lt A j l

  ready : JoinReady zs size a b
  ready = record { wood = lifted-wood wood-a b_lt B; a_lt = rw long J.a_lt; b_lt = rw long J.b_lt }

  root-a : r ≡ climb (at zs) 12 a
  unfolding root_of
  root-a = A.found ∙ sym (roots a J.a_lt)

  root_b : q ≡ climb (at zs) 12 b
  unfolding root_of
  root_b = B.found ∙ sym (lifted-roots wood-a b_lt B b b_lt)

  done : {p y : ℕ → ℕ} {t : Bool} → JoinDone (length zs) (at zs) p y a b t → JoinDone (length parent) (at parent) p y a b t
  done D =
      let D' = rw long at D in
      record {
        forest = D'.forest;
        groups = λ ls G. D'.groups ls (groups-alike roots G);
        apart = λ ls G. D'.apart ls (groups-alike roots G);
      }

  pub seen-a : (r < length zs) × (r < length size) × (at size r ≤ 4096) × (at zs r ≡ r)
  seen-a = seen ready a r ready.a_lt root-a

  pub seen_b : (q < length zs) × (q < length size) × (at size q ≤ 4096) × (at zs q ≡ q)
  seen_b = seen ready b q ready.b_lt root_b

  -- the ways out: one root; a's tree the smaller; b's tree no larger
  pub lifted-one : r ≡ q → JoinDone (length parent) (at parent) (at zs) (at size) a b false
  lifted-one e = done (joins-same ready (sym root-a ∙ e ∙ root_b))

  pub lifted-less : r ≢ q → at size r < at size q
      → JoinDone (length parent) (at parent) (at (set zs r q)) (at (set size q (at size r + at size q))) a b true
  lifted-less d l = done (joins-less ready r q root-a root_b d l)

  pub lifted-else : r ≢ q → at size q ≤ at size r
      → JoinDone (length parent) (at parent) (at (set zs q r)) (at (set size r (at size r + at size q))) a b true
  lifted-else d l = done (joins-else ready r q root-a root_b d l)
