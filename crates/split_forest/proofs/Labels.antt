-- The labels name the groups, and each is the least place of its group.
use mathlib.Core.Path.{◌≡◌, refl, sym, ap, ◌∙◌, subst}
use mathlib.Core.Logic.{◌⊎◌, inl, inr, ◌≢◌, ⊎_elim, ◌↔◌}
use Prim.Native.Nat.{ℕ, zero, suc, ◌≤◌, ◌<◌, min, max}
use native.Mathlib.Omega.{arith}
use mathlib.Core.List.{List, [], ◌∷◌, map}
use lib.ListN.{length, get_or, length-append, length-map, get_or-map, get_or-append}
use lib.Seq.{get_or_at, ext_get_or}
use Rattle.list_in_table.proofs.Laws.{either}
use Rattle.list_in_table.proofs.Same.{below}
use Rattle.def_state.specs.Connected.{Link, Joined, stop, upto, lowered, lower, lowers, label}
use Rattle.split_forest.specs.Groups.{Inside, Groups}
use Rattle.split_forest.specs.Forest.{at}
use Rattle.split_forest.proofs.Cases.{pick-eq, pick-ne}
use Rattle.split_forest.proofs.Paths.{Turned, groups-same, groups-more, joined_same, name-lt, name-name, same-joined}

length-upto : (n : ℕ) → length (upto n) ≡ n
length-upto zero = refl
length-upto (suc n) = length-append (upto n) (n ∷ []) ∙ (let h = length-upto n in omega arith)

pub at-upto : (n i : ℕ) → i < n → at (upto n) i ≡ i
at-upto zero i l = absurd (omega arith)
at-upto (suc n) i l =
    let h : length (upto n) ≡ n = length-upto n in
    either i n (λ e. rw e (get_or_at (upto n) n [] 0 n h))
    (λ d. get_or-append (upto n) (n ∷ []) 0 i (omega arith) ∙ at-upto n i (omega arith))

lowered-to : (u v w : ℕ) → w ≡ max u v → lowered u v w ≡ min u v
lowered-to u v w = pick-eq w (max u v) (min u v) w

lowered-stay : (u v w : ℕ) → w ≢ max u v → lowered u v w ≡ w
lowered-stay u v w = pick-ne w (max u v) (min u v) w

pub lowered-le : (u v w : ℕ) → lowered u v w ≤ w
lowered-le u v w = either w (max u v) (λ e. (let h = lowered-to u v w e in omega arith)) (λ d. (let h = lowered-stay u v w d in omega arith))

pub at-lower : (xs : List ℕ) (l : ℕ × ℕ) (i : ℕ) → at (lower xs l) i ≡ lowered (at xs l.0) (at xs l.1) (at xs i)
unfolding lower
at-lower xs l i =
    let u = at xs l.0 in
    let v = at xs l.1 in
    let z : 0 ≡ lowered u v 0 = (let h : lowered u v 0 ≤ 0 = lowered-le u v 0 in omega arith) in
    ap (get_or (map (lowered u v) xs) i) z ∙ get_or-map (lowered u v) xs i 0

length-lowers : (xs : List ℕ) (ls : List (ℕ × ℕ)) → length (lowers xs ls) ≡ length xs
unfolding lower lowers
length-lowers xs [] = refl
length-lowers xs (l ∷ ls) = length-lowers (lower xs l) ls ∙ length-map xs _

lowers-le : (xs : List ℕ) (ls : List (ℕ × ℕ)) (i : ℕ) → at (lowers xs ls) i ≤ at xs i
unfolding lowers
lowers-le xs [] i = omega arith
lowers-le xs (l ∷ ls) i =
    let h : at (lowers (lower xs l) ls) i ≤ at (lower xs l) i = lowers-le (lower xs l) ls i in
    let e = at-lower xs l i in
    let m = lowered-le (at xs l.0) (at xs l.1) (at xs i) in
    omega arith

-- one link more: the greater of two labels is turned into the lesser
pub lower-turned : (n : ℕ) (xs : List ℕ) (x y : ℕ)
    → Turned n (at xs) (at (lower xs (x, y))) (max (at xs x) (at xs y)) (min (at xs x) (at xs y))
lower-turned n xs x y =
    record { to = λ i l e. at-lower xs (x, y) i ∙ lowered-to _ _ _ e; stay = λ i l d. at-lower xs (x, y) i ∙ lowered-stay _ _ _ d }

pub two_ends : (u v : ℕ) → ((max u v ≡ u) × (min u v ≡ v)) ⊎ ((max u v ≡ v) × (min u v ≡ u))
two_ends u v = below u v (λ l. inr (omega arith)) (λ l. inl (omega arith))

-- a link l between two lists of links
shift : (old ls : List (ℕ × ℕ)) (l : ℕ × ℕ) (a b : ℕ) → Link old a b ⊎ Link (l ∷ ls) a b → Link (l ∷ old) a b ⊎ Link ls a b
shift old ls l a b (inl k) = inl (inr (inr k))
shift old ls l a b (inr (inl e)) = inl (inl e)
shift old ls l a b (inr (inr (inl e))) = inl (inr (inl e))
shift old ls l a b (inr (inr (inr k))) = inr k

unshift : (old ls : List (ℕ × ℕ)) (l : ℕ × ℕ) (a b : ℕ) → Link (l ∷ old) a b ⊎ Link ls a b → Link old a b ⊎ Link (l ∷ ls) a b
unshift old ls l a b (inl (inl e)) = inr (inl e)
unshift old ls l a b (inl (inr (inl e))) = inr (inr (inl e))
unshift old ls l a b (inl (inr (inr k))) = inl k
unshift old ls l a b (inr k) = inr (inr (inr k))

-- the links ms are those of old and of ls
lowers-groups : (n : ℕ) (ms old ls : List (ℕ × ℕ)) (xs : List ℕ) → Groups old n (at xs) → Inside ls n → ((a b : ℕ) → Link old a b ⊎ Link ls a b → Link ms a b)
    → ((a b : ℕ) → Link ms a b → Link old a b ⊎ Link ls a b) → Groups ms n (at (lowers xs ls))
unfolding lowers
lowers-groups n ms old [] xs G k f g = groups-same (λ a b h. f a b (inl h)) (λ a b h. ⊎_elim (λ o. o) (λ o. absurd o) (g a b h)) G
lowers-groups n ms old (l ∷ ls) xs G k f g =
    lowers-groups n ms (l ∷ old) ls (lower xs l)
    (groups-more G (lower-turned n xs l.0 l.1) l.0 l.1 (k l.0 l.1 (inl (refl, refl))) (k l.1 l.0 (inr (inl (refl, refl))))
    (two_ends (at xs l.0) (at xs l.1)))
    (λ a b h. k a b (inr (inr h)))
    (λ a b h. f a b (unshift old ls l a b h))
    (λ a b h. shift old ls l a b (g a b h))

none-joined : (n : ℕ) → Groups [] n (at (upto n))
none-joined n =
    record {
      inside = λ a b k. absurd k;
      along = λ a b k. absurd k;
      leads = λ i l. subst (λ (j : ℕ). Joined [] i j) (sym (at-upto n i l)) stop;
    }

module _ (ls : List (ℕ × ℕ)) (n : ℕ) where
  pub length_label : length (label ls n) ≡ n
  unfolding label
  length_label = length-lowers (upto n) ls ∙ length-upto n

  pub label-le : (i : ℕ) → i < n → get_or (label ls n) i 0 ≤ i
  unfolding label
  label-le i l = let h = lowers-le (upto n) ls i in let e = at-upto n i l in omega arith

  module _ (k : Inside ls n) where
    pub label-groups : Groups ls n (at (label ls n))
    unfolding label
    label-groups = lowers-groups n ls [] ls (upto n) (none-joined n) k (λ a b h. ⊎_elim (λ o. absurd o) (λ o. o) h) (λ a b h. inr h)

    -- two places have one label exactly if a path joins them
    pub label-joined : (a b : ℕ) → a < n → b < n → (get_or (label ls n) a 0 ≡ get_or (label ls n) b 0) ↔ Joined ls a b
    label-joined = same-joined label-groups

    -- a label is a place, and its own label
    pub label-lt : (i : ℕ) → i < n → get_or (label ls n) i 0 < n
    label-lt = name-lt label-groups

    pub label-own : (i : ℕ) → i < n → get_or (label ls n) (get_or (label ls n) i 0) 0 ≡ get_or (label ls n) i 0
    label-own = name-name label-groups

  -- names that are nowhere greater than their place are the labels
  pub label-only : (g : ℕ → ℕ) → Groups ls n g → ((i : ℕ) → i < n → g i ≤ i) → (i : ℕ) → i < n → g i ≡ get_or (label ls n) i 0
  label-only g G le i l =
      let L = label-groups G.inside in
      let a = le (at (label ls n) i) (name-lt L i l) in
      let b = label-le (g i) (name-lt G i l) in
      let c : g i ≡ g (at (label ls n) i) = joined_same G (L.leads i l) in
      let d : at (label ls n) i ≡ at (label ls n) (g i) = joined_same L (G.leads i l) in
      omega arith

-- the same links, in whatever order and however often, give the same labels
pub label_same : (ls ms : List (ℕ × ℕ)) (n : ℕ) → Inside ls n → ((a b : ℕ) → Link ls a b → Link ms a b) → ((a b : ℕ) → Link ms a b → Link ls a b)
    → label ls n ≡ label ms n
label_same ls ms n k h g =
    ext_get_or 0 (label ls n) (label ms n) (length_label ls n ∙ sym (length_label ms n))
    (λ i l.
    let il : i < n = rw (length_label ls n) at l in
    label-only ms n (at (label ls n)) (groups-same h g (label-groups ls n k)) (label-le ls n) i il)
