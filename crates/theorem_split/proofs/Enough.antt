-- Island numbers do not run out: after a split there are as many as before, or no more than body slots.
use mathlib.Core.Path.{◌≡◌, refl, sym, ◌∙◌, ap, subst}
use mathlib.Core.Logic.{◌⊎◌, inl, inr, ◌≢◌, ⊎_elim}
use mathlib.Core.Bool.{Bool, true, false, ◌&&◌, false≢true}
use mathlib.Core.List.{List, [], ◌∷◌, ◌++◌}
use Prim.Native.Nat.{ℕ, zero, suc, ◌+◌, ◌-◌, ◌≤◌, ◌<◌}
use native.Mathlib.Omega.{arith}
use lib.ListN.{length, get_or, set, length-set, length-append}
use lib.Seq.{length-take-le}
use lib.Dec.{eqb, ltb, leb}
use borrow.Author.Tests.{eq-eqb, ne_eqb, lt-ltb, le-ltb}
use Rattle.def_kinds.specs.Choice.{pick}
use Rattle.list_in_table.proofs.Laws.{either}
use Rattle.list_in_table.proofs.Same.{below}
use Rattle.list_in_table.proofs.Pigeon.{pigeon}
use Rattle.def_state.specs.Plain.{top, has, empty, place_of, drop_last}
use Rattle.def_state.specs.World.{Island, absent_island, World, island_at, live}
use Rattle.def_state.specs.Fields.{islands_set, free_set, island_set}
use Rattle.def_state.specs.Membership.{new_number, alloc_island}
use Rattle.def_state.specs.Connected.{tally, components, keep_label}
use Rattle.def_state.specs.Split.{labels_of, leads, new_island, new_islands, checked, parted, split}
use Rattle.theorem_split.specs.Graph.{In}
use Rattle.theorem_split.specs.Fine.{Fine}
use Rattle.theorem_split.proofs.Member.{in-at, in-has, has_in}
use Rattle.theorem_split.proofs.Homes.{bool}
use Rattle.theorem_split.proofs.Ends.{place_in}
use Rattle.theorem_split.proofs.Goals.{keep_lt, ranks}
use Rattle.theorem_split.proofs.Split.{long, own, lt, checked-long}
use Rattle.theorem_split.proofs.Several.{long3, L-some}

-- ---- how many numbers there are after k new ones

take-many : (w : World) (n : ℕ) (a : Island)
    → (length (island_set (alloc_island w) n a).islands ≡ length w.islands + (1 - length w.free_islands))
    × (length (island_set (alloc_island w) n a).free_islands ≡ length w.free_islands - 1)
unfolding island_set alloc_island
take-many w n a = go w.free_islands refl
  where
    go : (fs : List ℕ) → w.free_islands ≡ fs
        → (length (set (pick (empty w.free_islands) (islands_set w (w.islands ++ (absent_island ∷ []))) (free_set w (drop_last w.free_islands))).islands n a) ≡ length w.islands + (1 - length w.free_islands))
        × (length (pick (empty w.free_islands) (islands_set w (w.islands ++ (absent_island ∷ []))) (free_set w (drop_last w.free_islands))).free_islands ≡ length w.free_islands - 1)
    go [] e =
        let q : empty w.free_islands ≡ true = ap (λ (x : List ℕ). empty x) e in
        let z : length w.free_islands ≡ 0 = ap length e in
        let s = length-append w.islands (absent_island ∷ []) in
        let t = length-set (w.islands ++ (absent_island ∷ [])) n a in
        rw q (omega arith, omega arith)
    go (f ∷ fs) e =
        let q : empty w.free_islands ≡ false = ap (λ (x : List ℕ). empty x) e in
        let z : length w.free_islands ≡ suc (length fs) = ap length e in
        let t = length-set w.islands n a in
        let u = length-take-le (length w.free_islands - 1) w.free_islands (omega arith) in
        rw q (omega arith, u)

new-many : (k : ℕ) (z : Bool) (w : World) → length (new_islands k z w).islands ≡ length w.islands + (k - length w.free_islands)
unfolding new_islands
new-many zero z w = omega arith
new-many (suc k) z w =
    let v = island_set (alloc_island w) (new_number w) (new_island z) in
    let h = new-many k z (island_set (alloc_island w) (new_number w) (new_island z)) in
    let t = take-many w (new_number w) (new_island z) in
    let a = t.0 in
    let b = t.1 in
    omega arith

-- ---- the place at which a tally is r

nth : (ℕ → Bool) → ℕ → ℕ → ℕ
nth t r zero = 0
nth t r (suc n) = pick (t n && eqb (tally t n) r) n (nth t r n)

record Nth (t : ℕ → Bool) (r n x : ℕ) : Type 0 where
  lt : x < n
  passes : t x ≡ true
  rank : tally t x ≡ r

nth-is : (t : ℕ → Bool) (r n : ℕ) → r < tally t n → Nth t r n (nth t r n)
unfolding nth tally
nth-is t r zero l = absurd (omega arith)
nth-is t r (suc n) l =
    bool (t n)
    (λ e.
    either (tally t n) r
    (λ q. rw (e, eq-eqb (tally t n) r q) (record { lt = omega arith; passes = e; rank = q }))
    (λ d.
    let l' : r < tally t n + 1 = rw e at l in
    rw (e, ne_eqb (tally t n) r d) (wider (nth-is t r n (omega arith)))))
    (λ e.
    let l' : r < tally t n + 0 = rw e at l in
    rw e (wider (nth-is t r n (omega arith))))
  where
    wider : {x : ℕ} → Nth t r n x → Nth t r (suc n) x
    wider h = record { lt = (let l = h.lt in omega arith); passes = h.passes; rank = h.rank }

leads-is : (L : List ℕ) (keep j : ℕ) → leads L keep j ≡ true → j ≢ keep
unfolding leads
leads-is L keep j e q = false≢true (rw (eq-eqb j keep q) at e)

some-list : (xs : List ℕ) → (xs ≡ [] → ⊥) → 0 < length xs
some-list [] d = absurd (d refl)
some-list (x ∷ xs) d = omega arith

-- ---- a body for each number

module _ (w : World) (F : Fine w) (i : ℕ) (lv : live w i ≡ true) where
  abbrev L : List ℕ
  L = labels_of w i

  abbrev keep : ℕ
  keep = keep_label L

  abbrev e : ℕ → ℕ
  e p = get_or (island_at w i).bodies p 0

  abbrev n : ℕ
  n = length (island_at w i).bodies

  abbrev fs : List ℕ
  fs = w.free_islands

  abbrev f : ℕ
  f = length w.free_islands

  abbrev m : ℕ
  m = length w.islands

  abbrev k : ℕ
  k = components (labels_of w i) - 1

  -- the first place of the r-th component that leaves
  abbrev lead : ℕ → ℕ
  lead r = nth (leads L keep) r (length L)

  lead_is : (r : ℕ) → r < k → Nth (leads L keep) r (length L) (lead r)
  lead_is r l = nth-is (leads L keep) r (length L) (let h = ranks L (own w F i lv) (lt w F i lv) (L-some w F i lv) in omega arith)

  lead-lt : (r : ℕ) → r < k → lead r < n
  lead-lt r l = let a = (lead_is r l).lt in let b = long w F i lv in omega arith

  lead-keep : (r : ℕ) → r < k → lead r ≢ keep
  lead-keep r l = leads-is L keep (lead r) (lead_is r l).passes

  kept-lt : keep < n
  kept-lt = let a = keep_lt L (own w F i lv) (lt w F i lv) (L-some w F i lv) in let b = long w F i lv in omega arith

  -- the number j has the slot s
  data Has (j s : ℕ) : Type 0 where
    its : j ≢ i → In s (island_at w j).bodies → Has j s
    kept : j ≡ i → s ≡ e keep → Has j s
    new : (r : ℕ) → r < k → s ≡ e (lead r) → ((r < f) × (get_or w.free_islands r 0 ≡ j)) ⊎ ((f ≤ r) × (j ≡ m + (r - f))) → Has j s

  pick-slot : ℕ → ℕ
  pick-slot j =
      pick (has fs j) (e (lead (place_of fs j)))
      (pick (ltb j m) (pick (eqb j i) (e keep) (get_or (island_at w j).bodies 0 0)) (e (lead (f + (j - m)))))

  has-slot : f < k → (j : ℕ) → j < m + (k - f) → Has j (pick-slot j)
  unfolding pick-slot
  has-slot fk j l =
      bool (has fs j)
      (λ h.
      let p = place_in (has_in fs j h) in
      let p0 = p.0 in
      rw h (new (place_of fs j) (omega arith) refl (inl (p0, p.1))))
      (λ h.
      below j m
      (λ jm.
      either j i (λ q. rw (h, lt-ltb j m jm, eq-eqb j i q) (kept q refl))
      (λ d.
      rw (h, lt-ltb j m jm, ne_eqb j i d)
      (its d (in-at 0 (island_at w j).bodies 0 (some-list (island_at w j).bodies (λ z. false≢true (sym h ∙ in-has (F.unused j jm z))))))))
      (λ jm. rw (h, le-ltb j m jm) (new (f + (j - m)) (omega arith) refl (inr (omega arith, omega arith)))))

  in-i : (j s : ℕ) → Has j s → (j ≢ i × In s (island_at w j).bodies) ⊎ In s (island_at w i).bodies
  in-i j s (its d a) = inl (d, a)
  in-i j s (kept q a) = inr (subst (λ (x : ℕ). In x (island_at w i).bodies) (sym a) (in-at 0 (island_at w i).bodies keep kept-lt))
  in-i j s (new r l a o) = inr (subst (λ (x : ℕ). In x (island_at w i).bodies) (sym a) (in-at 0 (island_at w i).bodies (lead r) (lead-lt r l)))

  slot_lt : (j s : ℕ) → Has j s → s < length w.bodies
  slot_lt j s h = ⊎_elim (λ o. F.slots j s o.1) (λ o. F.slots i s o) (in-i j s h)

  same_rank : (r q : ℕ) → r < k → q < k → e (lead r) ≡ e (lead q) → r ≡ q
  same_rank r q rl ql z =
      let o : lead r ≡ lead q = F.single i (lead r) (lead q) (lead-lt r rl) (lead-lt q ql) z in
      sym (lead_is r rl).rank ∙ ap (tally (leads L keep)) o ∙ (lead_is q ql).rank

  not-keep : (r : ℕ) → r < k → e keep ≡ e (lead r) → ⊥
  not-keep r l z = lead-keep r l (sym (F.single i keep (lead r) kept-lt (lead-lt r l) z))

  same_new : (r q j j' : ℕ) → r ≡ q → ((r < f) × (get_or w.free_islands r 0 ≡ j)) ⊎ ((f ≤ r) × (j ≡ m + (r - f)))
      → ((q < f) × (get_or w.free_islands q 0 ≡ j')) ⊎ ((f ≤ q) × (j' ≡ m + (q - f)))
      → j ≡ j'
  same_new r q j j' z (inl a) (inl b) = sym a.1 ∙ ap (λ (x : ℕ). get_or w.free_islands x 0) z ∙ b.1
  same_new r q j j' z (inl a) (inr b) = absurd (let x = a.0 in let y = b.0 in omega arith)
  same_new r q j j' z (inr a) (inl b) = absurd (let x = a.0 in let y = b.0 in omega arith)
  same_new r q j j' z (inr a) (inr b) = let x = a.1 in let y = b.1 in omega arith

  only : (j j' s : ℕ) → Has j s → Has j' s → j ≡ j'
  only j j' s (its d a) h =
      ⊎_elim (λ o. F.apart.once j j' s a o.1) (λ o. absurd (d (F.apart.once j i s a o))) (in-i j' s h)
  only j j' s (kept q a) (its d b) = absurd (d (F.apart.once j' i s b (subst (λ (x : ℕ). In x (island_at w i).bodies) (sym a) (in-at 0 (island_at w i).bodies keep kept-lt))))
  only j j' s (kept q a) (kept o b) = q ∙ sym o
  only j j' s (kept q a) (new r l b o) = absurd (not-keep r l (sym a ∙ b))
  only j j' s (new r l a o) (its d b) = absurd (d (F.apart.once j' i s b (subst (λ (x : ℕ). In x (island_at w i).bodies) (sym a) (in-at 0 (island_at w i).bodies (lead r) (lead-lt r l)))))
  only j j' s (new r l a o) (kept q b) = absurd (not-keep r l (sym b ∙ a))
  only j j' s (new r l a o) (new r' l' a' o') = same_new r r' j j' (same_rank r r' l l' (sym a ∙ a')) o o'

  fits : f < k → m + (k - f) ≤ length w.bodies
  fits fk =
      pigeon (length w.bodies) (m + (k - f)) pick-slot (λ j l. slot_lt j (pick-slot j) (has-slot fk j l))
      (λ j j' l l' z. only j j' (pick-slot j) (has-slot fk j l) (subst (λ (s : ℕ). Has j' s) (sym z) (has-slot fk j' l')))

  -- after a split: as many numbers as before, or no more than slots
  pub split-long : (length (split i w).islands ≡ length w.islands) ⊎ (length (split i w).islands ≤ length w.bodies)
  unfolding split parted
  split-long =
      bool (leb (components (labels_of w i)) 1) (λ q. rw q (inl (checked-long i w)))
      (λ q.
      rw q
      (let a : length (checked i (parted i w)).islands ≡ length w.islands + (components (labels_of w i) - 1 - length w.free_islands) =
      checked-long i (parted i w) ∙ long3 w F i lv ∙ new-many (components (labels_of w i) - 1) (island_at w i).sleeping w in
      below (length w.free_islands) (components (labels_of w i) - 1) (λ l. inr (let b = fits l in omega arith)) (λ l. inl (omega arith))))

-- so the exactness of a split needs no call
pub split-small : (w : World) → Fine w → length w.bodies ≤ top → (i : ℕ) → live w i ≡ true → length (split i w).islands ≤ top
split-small w F s i l = ⊎_elim (λ e. (let a = F.apart.small in omega arith)) (λ e. (omega arith)) (split-long w F i l)
