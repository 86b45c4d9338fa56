-- Remove and retire: a body leaves its island.
use mathlib.Core.Path.{◌≡◌, refl, sym, ◌∙◌, ap, subst}
use mathlib.Core.Logic.{◌⊎◌, inl, inr, ◌≢◌, ⊎_elim}
use mathlib.Core.Bool.{true, false, false≢true}
use mathlib.Core.List.{List, [], ◌∷◌}
use Prim.Native.Nat.{ℕ, ◌+◌, ◌<◌}
use native.Mathlib.Omega.{arith}
use lib.ListN.{length, get_or, set}
use lib.Seq.{get_or-set_same, get_or-set_other, set_out}
use lib.Dec.{eqb}
use borrow.Author.Tests.{eq-eqb, ne_eqb, eqb-false}
use Rattle.def_kinds.specs.Choice.{pick}
use Rattle.list_in_table.proofs.Laws.{either}
use Rattle.list_in_table.proofs.Same.{below}
use Rattle.table_meaning.proofs.Tab.{get_d_beyond}
use Rattle.def_state.specs.Plain.{top, empty, place_of, swap_remove, more}
use Rattle.def_state.specs.World.{Handle, Body, absent_body, Island, absent_island, World, Step, body_of, island_at, named, island_of, body_island}
use Rattle.def_state.specs.Fields.{bodies_set, island_set}
use Rattle.def_state.specs.Membership.{clear_pending_split_of, free_island, without, left, remove}
use Rattle.def_state.specs.Bodies.{vacated, vacate, retire}
use Rattle.theorem_split.specs.Graph.{In, here, Bond, bonds_of, Stands}
use Rattle.theorem_split.specs.Fine.{Apart, Fine}
use Rattle.theorem_split.proofs.Member.{none_in, swap-old, swap-cases, swap-gone}
use Rattle.theorem_split.proofs.Homes.{bool, in_use, stands-use, slot-listed, member, at_home, home-top, named-one, named_table, named-generation, own_name}
use Rattle.theorem_split.proofs.Bonds.{stands_one}
use Rattle.theorem_split.proofs.Ends.{place_in}
use Rattle.theorem_history.specs.Ties.{nothing, leaving, is_done, Alone}
use Rattle.theorem_history.proofs.Change.{count, Same, Left, Change, same, still}
use Rattle.theorem_history.proofs.Keep.{handle-either}
use Rattle.theorem_history.proofs.Basic.{ways, same_refl, home_same, named-same, slot_same}
use Rattle.theorem_history.proofs.Enter.{home_by}

-- what `left` does to the lists
record Removed (w v : World) (s i : ℕ) : Type 0 where
  list : (island_at v i).bodies ≡ swap_remove 0 (island_at w i).bodies (place_of (island_at w i).bodies s)
  other : (j : ℕ) → j ≢ i → island_at v j ≡ island_at w j
  table : v.bodies ≡ w.bodies
  journal : v.removal_journal ≡ w.removal_journal
  how : (island_at v i ≡ absent_island) ⊎ ((bonds_of (island_at v i) ≡ bonds_of (island_at w i)) × (count v i ≢ 0) × ((x : ℕ) × In x (island_at v i).bodies))

empty-is : (xs : List ℕ) → empty xs ≡ true → xs ≡ []
empty-is [] e = refl
empty-is (x ∷ xs) e = absurd (false≢true e)

some_in : (xs : List ℕ) → empty xs ≡ false → (x : ℕ) × In x xs
some_in [] e = absurd (false≢true (sym e))
some_in (x ∷ xs) e = (x, here refl)

pub more-some : (c : ℕ) → more c ≢ 0
unfolding more
more-some c = either c top (λ e. rw (eq-eqb c top e) (λ q. (let z : c ≡ 0 = q in omega arith))) (λ d. rw (ne_eqb c top d) (λ q. (let z : c + 1 ≡ 0 = q in omega arith)))

freed-as : (w : World) (s i : ℕ) → i < length w.islands → swap_remove 0 (island_at w i).bodies (place_of (island_at w i).bodies s) ≡ [] → Removed w (free_island i w) s i
unfolding free_island island_set clear_pending_split_of
freed-as w s i l e =
    let q : island_at (free_island i w) i ≡ absent_island = get_or-set_same w.islands i absent_island absent_island l in
    record {
      list = ap (λ (a : Island). a.bodies) q ∙ sym e;
      other = λ j d. get_or-set_other w.islands i j absent_island absent_island d;
      table = refl;
      journal = refl;
      how = inl q;
    }

kept-as : (w : World) (s i : ℕ) → i < length w.islands → (x : ℕ) × In x (swap_remove 0 (island_at w i).bodies (place_of (island_at w i).bodies s))
    → Removed w (island_set w i (without (island_at w i) (swap_remove 0 (island_at w i).bodies (place_of (island_at w i).bodies s)))) s i
unfolding island_set
kept-as w s i l m =
    let bs = swap_remove 0 (island_at w i).bodies (place_of (island_at w i).bodies s) in
    let q : get_or (set w.islands i (without (island_at w i) bs)) i absent_island ≡ without (island_at w i) bs = get_or-set_same w.islands i _ absent_island l in
    record {
      list = ap (λ (a : Island). a.bodies) q;
      other = λ j d. get_or-set_other w.islands i j _ absent_island d;
      table = refl;
      journal = refl;
      how =
          inr (
            ap bonds_of q,
            (λ z. more-some (island_at w i).constraint_remove_count (sym (ap (λ (a : Island). a.constraint_remove_count) q) ∙ z)),
            (m.0, subst (λ (xs : List ℕ). In m.0 xs) (sym (ap (λ (a : Island). a.bodies) q)) m.1),
          );
    }

removed : (w : World) (s i : ℕ) → i < length w.islands → Removed w (left w s i) s i
unfolding left
removed w s i l =
    let bs = swap_remove 0 (island_at w i).bodies (place_of (island_at w i).bodies s) in
    bool (empty bs) (λ e. rw e (freed-as w s i l (empty-is bs e))) (λ e. rw e (kept-as w s i l (some_in bs e)))

module _ (w v : World) (F : Fine w) (h : Handle) (n : named w h ≡ true) (o : island_of w h.slot ≢ top) (R : Removed w v h.slot (island_of w h.slot)) (B : Apart v) where
  abbrev i : ℕ
  i = island_of w h.slot

  abbrev xs : List ℕ
  xs = (island_at w i).bodies

  abbrev p : ℕ
  p = place_of xs h.slot

  at : In h.slot (island_at w i).bodies
  at = slot-listed w h.slot i refl o

  pl : p < length xs
  pl = (place_in at).0

  ps : get_or xs p 0 ≡ h.slot
  ps = (place_in at).1

  home-i : body_island w h ≡ i
  home-i = at_home w F.apart i h (record { named_is = n; listed = at })

  name : (k : Handle) → named v k ≡ named w k
  name = named_table w v R.table

  -- the slot is in no list
  gone : (j : ℕ) → In h.slot (island_at v j).bodies → ⊥
  gone j m =
      either j i
      (λ q.
      let m' : In h.slot (swap_remove 0 xs p) = subst (λ (x : List ℕ). In h.slot x) R.list (subst (λ (k : ℕ). In h.slot (island_at v k).bodies) q m) in
      swap-gone 0 xs p pl (λ k kl e. F.single i k p kl pl e) (subst (λ (x : ℕ). In x (swap_remove 0 xs p)) (sym ps) m'))
      (λ d. d (F.apart.once j i h.slot (subst (λ (a : Island). In h.slot a.bodies) (R.other j d) m) at))

  nobody : island_at v i ≡ absent_island → (k : Handle) → body_island v k ≢ i
  nobody e k q = none_in (subst (λ (a : Island). In k.slot a.bodies) e (member v i k q o).listed)

  -- it was alone where its island is freed
  alone : island_at v i ≡ absent_island → Alone w h
  alone e k q =
      let m = member w i k (q ∙ home-i) o in
      ⊎_elim (λ z. named-one w k h m.named_is n (z ∙ ps))
      (λ z. absurd (none_in (subst (λ (a : Island). In k.slot a.bodies) e (subst (λ (x : List ℕ). In k.slot x) (sym R.list) z))))
      (swap-cases 0 xs p pl m.listed)

  -- and was not where a body is left
  not-alone : (x : ℕ) → In x (island_at v i).bodies → Alone w h → ⊥
  not-alone x m a =
      let u : In x (island_at w i).bodies = swap-old 0 xs p pl (subst (λ (y : List ℕ). In x y) R.list m) in
      let k : Handle = record { slot = x; generation = (body_of w x).generation } in
      let e : body_island w k ≡ i = at_home w F.apart i k (record { named_is = own_name w x (F.alive i x u); listed = u }) in
      gone i (subst (λ (y : ℕ). In y (island_at v i).bodies) (ap (λ (y : Handle). y.slot) (a k (e ∙ sym home-i))) m)

  removed-left : Left h w v
  removed-left =
      record {
        was = λ q. o (sym home-i ∙ q);
        out = either (body_island v h) top (λ q. q) (λ d. absurd (gone (body_island v h) (member v (body_island v h) h refl d).listed));
        others =
            λ k d.
            home_by w v F.apart B k (name k)
            (λ q j m.
            either j i
            (λ r.
            subst (λ (y : ℕ). In k.slot (island_at v y).bodies) (sym r)
            (subst (λ (x : List ℕ). In k.slot x) (sym R.list)
            (⊎_elim (λ e. absurd (d (named-one w k h q n (e ∙ ps)))) (λ e. e)
            (swap-cases 0 xs p pl (subst (λ (y : ℕ). In k.slot (island_at w y).bodies) r m)))))
            (λ r. subst (λ (a : Island). In k.slot a.bodies) (sym (R.other j r)) m))
            (λ q j m.
            either j i
            (λ r.
            subst (λ (y : ℕ). In k.slot (island_at w y).bodies) (sym r)
            (swap-old 0 xs p pl (subst (λ (x : List ℕ). In k.slot x) R.list (subst (λ (y : ℕ). In k.slot (island_at v y).bodies) r m))))
            (λ r. subst (λ (a : Island). In k.slot a.bodies) (R.other j r) m));
        to =
            λ j l s.
            either j i
            (λ r.
            ⊎_elim (λ e. inr (r ∙ sym home-i, alone e))
            (λ e.
            inl
            (subst (λ (y : ℕ). Stands v y l) (sym r) (subst (λ (x : List Bond). In l x) (sym e.0) (subst (λ (y : ℕ). Stands w y l) r s))))
            R.how)
            (λ r. inl (subst (λ (a : Island). In l (bonds_of a)) (sym (R.other j r)) s));
        gone =
            λ a j l s m.
            ⊎_elim
            (λ e.
            either j i (λ r. none_in (subst (λ (x : Island). In l (bonds_of x)) e (subst (λ (y : ℕ). Stands v y l) r m)))
            (λ r. r (stands_one w F j i l (subst (λ (x : Island). In l (bonds_of x)) (R.other j r) m) (subst (λ (y : ℕ). Stands w y l) home-i s))))
            (λ e. not-alone e.2.0 e.2.1 a)
            R.how;
        from =
            λ j l s.
            either j i
            (λ r.
            let s' : Stands v i l = subst (λ (y : ℕ). Stands v y l) r s in
            subst (λ (y : ℕ). Stands w y l) (sym r)
            (⊎_elim (λ e. absurd (none_in (subst (λ (a : Island). In l (bonds_of a)) e s'))) (λ e. subst (λ (x : List Bond). In l x) e.0 s') R.how))
            (λ r. subst (λ (a : Island). In l (bonds_of a)) (R.other j r) s);
        counted =
            ⊎_elim (λ e. inl (λ k q. nobody e k (q ∙ home-i))) (λ e. inr (λ z. e.1 (ap (count v) (sym home-i) ∙ z))) R.how;
        counts = λ j d. ap (λ (a : Island). a.constraint_remove_count) (R.other j (λ q. d (q ∙ sym home-i)));
        journal = R.journal;
      }

-- ---- remove

pub remove-left : (w : World) → Fine w → (h : Handle) → named w h ≡ true → island_of w h.slot ≢ top → Apart (remove h w).after → Left h w (remove h w).after
unfolding remove
remove-left w F h n o B =
    let i = island_of w h.slot in
    let l : i < length w.islands = in_use w i (slot-listed w h.slot i refl o) in
    let B' : Apart (left w h.slot i) = rw (n, ne_eqb i top o) at B in
    rw (n, ne_eqb (island_of w h.slot) top o) (removed-left w (left w h.slot i) F h n o (removed w h.slot i l) B')

pub remove-none : (w : World) (h : Handle) → (named w h ≡ false) ⊎ (island_of w h.slot ≡ top) → (remove h w).after ≡ w
unfolding remove
remove-none w h (inl e) = rw e
remove-none w h (inr e) = bool (named w h) (λ n. rw (n, eq-eqb (island_of w h.slot) top e)) (λ n. rw n)

pub remove-change : (w : World) → Fine w → (h : Handle) → Apart (remove h w).after → Change (pick (is_done (remove h w)) (leaving h) nothing) w (remove h w).after
unfolding remove
remove-change w F h B =
    bool (named w h)
    (λ n.
    either (island_of w h.slot) top (λ e. rw (n, eq-eqb (island_of w h.slot) top e) (same (same_refl w)))
    (λ d.
    let L = remove-left w F h n d B in
    let L' : Left h w (left w h.slot (island_of w h.slot)) = rw (n, ne_eqb (island_of w h.slot) top d) at L in
    rw (n, ne_eqb (island_of w h.slot) top d) (Change.left h L')))
    (λ n. rw n (same (same_refl w)))

-- ---- retire

-- the slot of a body in no island is vacated
vacate-same : (u : World) (h : Handle) → named u h ≡ true → body_island u h ≡ top → Same u (vacate h u)
unfolding vacate
vacate-same u h n t =
    record {
      home = homes;
      to = λ j l s. s;
      from = λ j l s. s;
      counts = λ j. refl;
      journal = refl;
    }
  where
    v : World
    v = bodies_set u (set u.bodies h.slot (vacated h.generation))

    vacant : (body_of v h.slot).generation ≡ top
    vacant =
        below h.slot (length u.bodies) (λ l. ap (λ (b : Body). b.generation) (get_or-set_same u.bodies h.slot (vacated h.generation) absent_body l))
        (λ l.
        ap (λ (x : List Body). (get_or x h.slot absent_body).generation) (set_out u.bodies h.slot (vacated h.generation) l)
        ∙ ap (λ (b : Body). b.generation) (get_d_beyond u.bodies absent_body h.slot l))

    homes : (k : Handle) → body_island v k ≡ body_island u k
    homes k =
        either k.slot h.slot
        (λ q.
        let off : named v k ≡ false =
        bool (named v k)
        (λ e. (let g = named-generation v k e in absurd (g.1 (sym g.0 ∙ ap (λ (s : ℕ). (body_of v s).generation) q ∙ vacant))))
        (λ e. e) in
        home-top v k off
        ∙ sym (handle-either k h (λ e. ap (body_island u) e ∙ t) (λ d. home-top u k (bool (named u k) (λ e. absurd (d (named-one u k h e n q))) (λ e. e)))))
        (λ d.
        home_same u v k
        (named-same u v k (ap (λ (b : Body). b.generation) (get_or-set_other u.bodies h.slot k.slot (vacated h.generation) absent_body d)))
        (slot_same u v refl (λ j. refl) k.slot))

left-same : {h : Handle} {w u v : World} → Left h w u → Same u v → Left h w v
left-same {h} {w} {u} {v} L S =
    record {
      was = L.was;
      out = S.home h ∙ L.out;
      others = λ k d. S.home k ∙ L.others k d;
      to = λ j l s. ⊎_elim (λ a. inl (S.to j l a)) (λ a. inr a) (L.to j l s);
      gone = λ a j l s m. L.gone a j l s (S.from j l m);
      from = λ j l s. L.from j l (S.from j l s);
      counted = ⊎_elim (λ a. inl (λ k q. a k (sym (S.home k) ∙ q))) (λ a. inr (λ q. a (sym (S.counts (body_island w h)) ∙ q))) L.counted;
      counts = λ j d. S.counts j ∙ L.counts j d;
      journal = S.journal ∙ L.journal;
    }

apart-vacate : (u : World) (h : Handle) → Apart (vacate h u) → Apart u
unfolding vacate
apart-vacate u h A = record { small = A.small; once = A.once }

removed-named : (w : World) (h : Handle) → named (remove h w).after h ≡ named w h
unfolding remove
removed-named w h =
    ways (λ (s : Step). named s.after h ≡ named w h) (named w h)
    (λ n.
    ways (λ (s : Step). named s.after h ≡ named w h) (eqb (island_of w h.slot) top) (λ e. refl)
    (λ e.
    let o = eqb-false (island_of w h.slot) top e in
    let l : island_of w h.slot < length w.islands = in_use w (island_of w h.slot) (slot-listed w h.slot (island_of w h.slot) refl o) in
    named_table w (left w h.slot (island_of w h.slot)) (removed w h.slot (island_of w h.slot) l).table h))
    (λ n. refl)

in-none : (w : World) (h : Handle) → named w h ≡ true → island_of w h.slot ≡ top → body_island w h ≡ top
unfolding body_island
in-none w h n e = rw n e

-- no link stands in the island of a body that is in none
none-there : (w : World) → Apart w → (h : Handle) → body_island w h ≡ top → (l : Bond) → Stands w (body_island w h) l → ⊥
none-there w A h e l s = let a = stands-use w (body_island w h) l s in let b = A.small in omega arith

pub retire-change : (w : World) → Fine w → (h : Handle) → Apart (retire h w).after → Change (pick (is_done (retire h w)) (leaving h) nothing) w (retire h w).after
unfolding retire
retire-change w F h B =
    bool (named w h)
    (λ n.
    let B' : Apart (vacate h (remove h w).after) = rw n at B in
    rw n
    (either (island_of w h.slot) top
    (λ e.
    let t : body_island w h ≡ top = in-none w h n e in
    subst (λ (u : World). Change (leaving h) w (vacate h u)) (sym (remove-none w h (inr e))) (still h (none-there w F.apart h t) (vacate-same w h n t)))
    (λ d.
    let L = remove-left w F h n d (apart-vacate (remove h w).after h B') in
    Change.left h (left-same L (vacate-same (remove h w).after h (removed-named w h ∙ n) L.out)))))
    (λ n. rw n (same (same_refl w)))
