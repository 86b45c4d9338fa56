-- New island numbers: they differ, and were free or never used.
use mathlib.Core.Path.{◌≡◌, refl, sym, ◌∙◌, ap, subst}
use mathlib.Core.Logic.{◌⊎◌, inl, inr, ◌≢◌, ⊎_elim}
use mathlib.Core.Bool.{Bool, true, false, false≢true}
use mathlib.Core.List.{List, [], ◌∷◌, ◌++◌}
use Prim.Native.Nat.{ℕ, zero, suc, ◌-◌, ◌≤◌, ◌<◌}
use native.Mathlib.Omega.{arith}
use lib.ListN.{length, get_or, set, length-set, length-append, get_or-append}
use lib.Seq.{get_or-set_same, get_or-set_other, get_or-take, length-take-le, get_or_at}
use Rattle.def_kinds.specs.Choice.{pick}
use Rattle.list_in_table.proofs.Laws.{either}
use Rattle.list_in_table.proofs.Same.{below}
use Rattle.table_meaning.proofs.Tab.{get_d_beyond}
use Rattle.def_state.specs.Plain.{top, empty, drop_last, last_of}
use Rattle.def_state.specs.World.{Island, absent_island, World, island_at}
use Rattle.def_state.specs.Fields.{islands_set, free_set, island_set}
use Rattle.def_state.specs.Membership.{new_number, alloc_island}
use Rattle.def_state.specs.Split.{new_island, new_numbers, new_islands}
use Rattle.theorem_split.specs.Graph.{In, here, there}
use Rattle.theorem_split.specs.Fine.{Stack}
use Rattle.theorem_split.specs.Parted.{Steady}
use Rattle.theorem_split.proofs.Member.{none_in, in-at, at_in}

-- the number n is free, or was never used
abbrev pub Spare : World → ℕ → Type 0
Spare w n = In n w.free_islands ⊎ (length w.islands ≤ n)

-- the number n is taken for an island that is a, and nothing else changes
pub record Taken (w v : World) (n : ℕ) (a : Island) : Type 0 where
  pub spare : Spare w n
  pub stack : Stack v
  pub used : Spare v n → ⊥
  pub fewer : (m : ℕ) → Spare v m → Spare w m
  pub new : island_at v n ≡ a
  pub others : (j : ℕ) → j ≢ n → island_at v j ≡ island_at w j
  pub in_use : n < length v.islands
  pub longer : length w.islands ≤ length v.islands

pub get_or-grown : (is : List Island) (j : ℕ) → get_or (is ++ (absent_island ∷ [])) j absent_island ≡ get_or is j absent_island
get_or-grown is j =
    below j (length is) (λ l. get_or-append is (absent_island ∷ []) absent_island j l)
    (λ l.
    either j (length is)
    (λ e. get_or_at is absent_island [] absent_island j (sym e) ∙ sym (get_d_beyond is absent_island j l))
    (λ d.
    get_d_beyond (is ++ (absent_island ∷ [])) absent_island j (let k = length-append is (absent_island ∷ []) in omega arith)
    ∙ sym (get_d_beyond is absent_island j l)))

-- ---- a stack's last, and the rest

default : (xs : List ℕ) (p : ℕ) → p < length xs → get_or xs p 0 ≡ get_or xs p top
default [] p l = absurd (omega arith)
default (x ∷ xs) zero l = refl
default (x ∷ xs) (suc p) l = default xs p (omega arith)

module _ (fs : List ℕ) (l : 0 < length fs) where
  last-in : In (last_of top fs) fs
  last-in = in-at top fs (length fs - 1) (omega arith)

  rest-long : length (drop_last fs) ≡ length fs - 1
  rest-long = length-take-le (length fs - 1) fs (omega arith)

  -- what stands at a place of the rest
  rest_at : (p : ℕ) → p < length (drop_last fs) → (p < length fs - 1) × (get_or (drop_last fs) p 0 ≡ get_or fs p 0)
  rest_at p h = let k : p < length fs - 1 = rw rest-long at h in (k, get_or-take (length fs - 1) fs p 0 k)

  rest_in : (m : ℕ) → In m (drop_last fs) → In m fs
  rest_in m k =
      let r = at_in 0 k in
      let t = rest_at r.place r.lt in
      let p = t.0 in
      subst (λ (x : ℕ). In x fs) (sym t.1 ∙ r.is) (in-at 0 fs r.place (omega arith))

  module _ (differ : (p q : ℕ) → p < length fs → q < length fs → get_or fs p 0 ≡ get_or fs q 0 → p ≡ q) where
    rest-differ : (p q : ℕ) → p < length (drop_last fs) → q < length (drop_last fs) → get_or (drop_last fs) p 0 ≡ get_or (drop_last fs) q 0 → p ≡ q
    rest-differ p q pl ql e =
        let x = rest_at p pl in
        let y = rest_at q ql in
        let a = x.0 in
        let b = y.0 in
        differ p q (omega arith) (omega arith) (sym x.1 ∙ e ∙ y.1)

    last-gone : In (last_of top fs) (drop_last fs) → ⊥
    last-gone k =
        let r = at_in 0 k in
        let t = rest_at r.place r.lt in
        let p = t.0 in
        let z = differ r.place (length fs - 1) (omega arith) (omega arith) (sym t.1 ∙ r.is ∙ sym (default fs (length fs - 1) (omega arith))) in
        omega arith

module _ (w : World) (S : Stack w) (a : Island) where
  -- no number is free
  grown : (fs : List ℕ) → w.free_islands ≡ fs → empty fs ≡ true → Taken w (island_set (islands_set w (w.islands ++ (absent_island ∷ []))) (length w.islands) a) (length w.islands) a
  unfolding island_set
  grown (f ∷ fs) e b = absurd (false≢true b)
  grown [] e b =
      let k : length (w.islands ++ (absent_island ∷ [])) ≡ suc (length w.islands) = length-append w.islands (absent_island ∷ []) ∙ (omega arith) in
      let K : length (set (w.islands ++ (absent_island ∷ [])) (length w.islands) a) ≡ suc (length w.islands) = length-set (w.islands ++ (absent_island ∷ [])) (length w.islands) a ∙ k in
      record {
        spare = inr (omega arith);
        stack =
            record {
              below = λ n i. absurd (none_in (subst (λ (l : List ℕ). In n l) e i));
              differ = λ p q l m o. S.differ p q l m o;
            };
        used = λ s. ⊎_elim (λ i. none_in (subst (λ (l : List ℕ). In (length w.islands) l) e i)) (λ l. (let x : suc (length w.islands) ≤ length w.islands = rw K at l in omega arith)) s;
        fewer = λ m s. ⊎_elim (λ i. inl i) (λ l. inr (let x : suc (length w.islands) ≤ m = rw K at l in omega arith)) s;
        new = get_or-set_same (w.islands ++ (absent_island ∷ [])) (length w.islands) a absent_island (rw k (omega arith));
        others = λ j d. get_or-set_other (w.islands ++ (absent_island ∷ [])) (length w.islands) j a absent_island d ∙ get_or-grown w.islands j;
        in_use = rw K (omega arith);
        longer = rw K (omega arith);
      }

  -- the last freed number
  popped : 0 < length w.free_islands → Taken w (island_set (free_set w (drop_last w.free_islands)) (last_of top w.free_islands) a) (last_of top w.free_islands) a
  unfolding island_set
  popped l =
      let nl : last_of top w.free_islands < length w.islands = S.below (last_of top w.free_islands) (last-in w.free_islands l) in
      let K : length (set w.islands (last_of top w.free_islands) a) ≡ length w.islands = length-set w.islands (last_of top w.free_islands) a in
      record {
        spare = inl (last-in w.free_islands l);
        stack =
            record {
              below = λ m k. rw K (S.below m (rest_in w.free_islands l m k));
              differ = rest-differ w.free_islands l S.differ;
            };
        used =
            λ s.
            ⊎_elim (λ k. last-gone w.free_islands l S.differ k)
            (λ k. (let x : length w.islands ≤ last_of top w.free_islands = rw K at k in omega arith))
            s;
        fewer = λ m s. ⊎_elim (λ k. inl (rest_in w.free_islands l m k)) (λ k. inr (rw K at k)) s;
        new = get_or-set_same w.islands (last_of top w.free_islands) a absent_island nl;
        others = λ j d. get_or-set_other w.islands (last_of top w.free_islands) j a absent_island d;
        in_use = rw K nl;
        longer = rw K (omega arith);
      }

  pub takes : Taken w (island_set (alloc_island w) (new_number w) a) (new_number w) a
  unfolding new_number alloc_island
  takes = cases w.free_islands refl
    where
      cases : (fs : List ℕ) → w.free_islands ≡ fs → Taken w (island_set (alloc_island w) (new_number w) a) (new_number w) a
      cases [] e =
          let q : empty w.free_islands ≡ true = ap (λ (x : List ℕ). empty x) e in
          rw q (grown w.free_islands refl q)
      cases (f ∷ fs) e =
          let q : empty w.free_islands ≡ false = ap (λ (x : List ℕ). empty x) e in
          rw q (popped (subst (λ (x : List ℕ). 0 < length x) (sym e) (omega arith)))

-- k new islands: their numbers ns, and the state after
pub record News (w v : World) (ns : List ℕ) (a : Island) : Type 0 where
  pub spare : (n : ℕ) → In n ns → Spare w n
  pub differ : (p q : ℕ) → p < length ns → q < length ns → get_or ns p top ≡ get_or ns q top → p ≡ q
  pub new : (n : ℕ) → In n ns → island_at v n ≡ a
  pub others : (j : ℕ) → (In j ns → ⊥) → island_at v j ≡ island_at w j
  pub in_use : (n : ℕ) → In n ns → n < length v.islands
  pub longer : length w.islands ≤ length v.islands

pub length-numbers : (k : ℕ) (z : Bool) (w : World) → length (new_numbers k z w) ≡ k
unfolding new_numbers
length-numbers zero z w = refl
length-numbers (suc k) z w = ap suc (length-numbers k z _)

-- one number taken, then the others
module _ (w v u : World) (n : ℕ) (ns : List ℕ) (a : Island) (T : Taken w v n a) (N : News v u ns a) where
  fresh : (m : ℕ) → In m ns → m ≢ n
  fresh m i e = T.used (subst (λ (x : ℕ). Spare v x) e (N.spare m i))

  spares : (m : ℕ) → In m (n ∷ ns) → Spare w m
  spares m (here e) = subst (λ (x : ℕ). Spare w x) e T.spare
  spares m (there i) = T.fewer m (N.spare m i)

  differs : (p q : ℕ) → p < suc (length ns) → q < suc (length ns) → get_or (n ∷ ns) p top ≡ get_or (n ∷ ns) q top → p ≡ q
  differs zero zero l m e = refl
  differs zero (suc q) l m e = absurd (fresh _ (in-at top ns q (omega arith)) (sym e))
  differs (suc p) zero l m e = absurd (fresh _ (in-at top ns p (omega arith)) e)
  differs (suc p) (suc q) l m e = ap suc (N.differ p q (omega arith) (omega arith) e)

  new-at : (m : ℕ) → In m (n ∷ ns) → island_at u m ≡ a
  new-at m (here e) = N.others m (λ i. fresh m i (sym e)) ∙ subst (λ (x : ℕ). island_at v x ≡ a) e T.new
  new-at m (there i) = N.new m i

  uses : (m : ℕ) → In m (n ∷ ns) → m < length u.islands
  uses m (here e) = let x : n < length v.islands = T.in_use in let y = N.longer in omega arith
  uses m (there i) = N.in_use m i

  one_more : News w u (n ∷ ns) a
  one_more =
      record {
        spare = spares;
        differ = differs;
        new = new-at;
        others = λ j d. N.others j (λ i. d (there i)) ∙ T.others j (λ e. d (here (sym e)));
        in_use = uses;
        longer = (let x = N.longer in let y = T.longer in omega arith);
      }

pub news : (k : ℕ) (z : Bool) (w : World) → Stack w → News w (new_islands k z w) (new_numbers k z w) (new_island z)
unfolding new_numbers new_islands
news zero z w S =
    record {
      spare = λ n i. absurd (none_in i);
      differ = λ p q l m e. absurd (omega arith);
      new = λ n i. absurd (none_in i);
      others = λ j d. refl;
      in_use = λ n i. absurd (none_in i);
      longer = omega arith;
    }
news (suc k) z w S =
    let v = island_set (alloc_island w) (new_number w) (new_island z) in
    let T = takes w S (new_island z) in
    one_more w v (new_islands k z v) (new_number w) (new_numbers k z v) (new_island z) T (news k z v T.stack)

-- ---- what new islands do not change

pub steady : {w v u : World} → Steady w v → Steady v u → Steady w u
steady a b =
    record {
      table = b.table ∙ a.table;
      tracked = b.tracked ∙ a.tracked;
      joint_places = b.joint_places ∙ a.joint_places;
      journal = b.journal ∙ a.journal;
      pending = b.pending ∙ a.pending;
      stamp = b.stamp ∙ a.stamp;
      scanning = b.scanning ∙ a.scanning;
      touched = b.touched ∙ a.touched;
    }

pub as_it_was : {w : World} → Steady w w
as_it_was = record { table = refl; tracked = refl; joint_places = refl; journal = refl; pending = refl; stamp = refl; scanning = refl; touched = refl }

pub take-steady : (w : World) (n : ℕ) (a : Island) → Steady w (island_set (alloc_island w) n a)
unfolding island_set alloc_island
take-steady w n a = go (empty w.free_islands)
  where
    go : (b : Bool) → Steady w (island_set (pick b (islands_set w (w.islands ++ (absent_island ∷ []))) (free_set w (drop_last w.free_islands))) n a)
    go true = record { table = refl; tracked = refl; joint_places = refl; journal = refl; pending = refl; stamp = refl; scanning = refl; touched = refl }
    go false = record { table = refl; tracked = refl; joint_places = refl; journal = refl; pending = refl; stamp = refl; scanning = refl; touched = refl }

pub news-steady : (k : ℕ) (z : Bool) (w : World) → Steady w (new_islands k z w)
unfolding new_islands
news-steady zero z w = as_it_was
news-steady (suc k) z w = steady (take-steady w (new_number w) (new_island z)) (news-steady k z (island_set (alloc_island w) (new_number w) (new_island z)))
