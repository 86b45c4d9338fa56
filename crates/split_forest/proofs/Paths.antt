-- Paths of links, and the names of groups: two names are equal exactly if a path joins; one more link merges two names.
use mathlib.Core.Path.{◌≡◌, refl, sym, ap, ◌∙◌, subst}
use mathlib.Core.Logic.{◌⊎◌, inl, inr, ◌≢◌, ⊎_elim, ◌↔◌}
use Prim.Native.Nat.{ℕ, ◌<◌}
use mathlib.Core.List.{List, [], ◌∷◌}
use Rattle.list_in_table.proofs.Laws.{either}
use Rattle.def_state.specs.Connected.{Link, Joined, stop, step}
use Rattle.split_forest.specs.Groups.{Groups}

pub link-sym : (ls : List (ℕ × ℕ)) (a b : ℕ) → Link ls a b → Link ls b a
link-sym [] a b k = k
link-sym (l ∷ ls) a b (inl e) = inr (inl (e.1, e.0))
link-sym (l ∷ ls) a b (inr (inl e)) = inl (e.1, e.0)
link-sym (l ∷ ls) a b (inr (inr k)) = inr (inr (link-sym ls a b k))

pub trans : {ls : List (ℕ × ℕ)} {a b c : ℕ} → Joined ls a b → Joined ls b c → Joined ls a c
trans stop q = q
trans (step k p) q = step k (trans p q)

pub back : {ls : List (ℕ × ℕ)} {a b : ℕ} → Joined ls a b → Joined ls b a
back stop = stop
back {ls} {a} (step {b = b} k p) = trans (back p) (step (link-sym ls a b k) stop)

-- a path of links that are all among others
pub path-among : {ls ms : List (ℕ × ℕ)} → ((a b : ℕ) → Link ls a b → Link ms a b) → {a b : ℕ} → Joined ls a b → Joined ms a b
path-among h stop = stop
path-among h {a} (step {b = b} k p) = step (h a b k) (path-among h p)

-- what is one along each link is one along a path
pub path-same : {ls : List (ℕ × ℕ)} (f : ℕ → ℕ) → ((a b : ℕ) → Link ls a b → f a ≡ f b) → {a b : ℕ} → Joined ls a b → f a ≡ f b
path-same f h stop = refl
path-same f h {a} (step {b = b} k p) = h a b k ∙ path-same f h p

-- the same links, in whatever order and however often, make the same groups
pub groups-same : {ls ms : List (ℕ × ℕ)} {n : ℕ} {f : ℕ → ℕ} → ((a b : ℕ) → Link ls a b → Link ms a b) → ((a b : ℕ) → Link ms a b → Link ls a b)
    → Groups ls n f → Groups ms n f
groups-same h g G =
    record { inside = λ a b k. G.inside a b (g a b k); along = λ a b k. G.along a b (g a b k); leads = λ i l. path-among h (G.leads i l) }

-- names that are equal, place by place, name the same groups
pub groups-alike : {ls : List (ℕ × ℕ)} {n : ℕ} {f g : ℕ → ℕ} → ((i : ℕ) → i < n → g i ≡ f i) → Groups ls n f → Groups ls n g
groups-alike {ls} h G =
    record {
      inside = G.inside;
      along = λ a b k. h a (G.inside a b k) ∙ G.along a b k ∙ sym (h b (G.inside b a (link-sym ls a b k)));
      leads = λ i l. subst (λ (j : ℕ). Joined ls i j) (sym (h i l)) (G.leads i l);
    }

module _ {ls : List (ℕ × ℕ)} {n : ℕ} {f : ℕ → ℕ} (G : Groups ls n f) where
  pub joined-lt : {a b : ℕ} → Joined ls a b → a < n → b < n
  joined-lt stop h = h
  joined-lt {a} (step {b = b} k p) h = joined-lt p (G.inside b a (link-sym ls a b k))

  pub joined_same : {a b : ℕ} → Joined ls a b → f a ≡ f b
  joined_same = path-same f G.along

  -- two places have one name exactly if a path joins them
  pub same-joined : (a b : ℕ) → a < n → b < n → (f a ≡ f b) ↔ Joined ls a b
  same-joined a b la lb =
      ((λ e. trans (subst (λ (j : ℕ). Joined ls a j) e (G.leads a la)) (back (G.leads b lb))), joined_same)

  pub name-lt : (i : ℕ) → i < n → f i < n
  name-lt i l = joined-lt (G.leads i l) l

  -- a name names itself
  pub name-name : (i : ℕ) → i < n → f (f i) ≡ f i
  name-name i l = sym (joined_same (G.leads i l))

-- any two ways of naming agree
pub agree : {ls : List (ℕ × ℕ)} {n : ℕ} {f g : ℕ → ℕ} → Groups ls n f → Groups ls n g → (a b : ℕ) → a < n → b < n → f a ≡ f b → g a ≡ g b
agree F G a b la lb e = joined_same G ((same-joined F a b la lb).0 e)

-- g is f with the name s turned into b
pub record Turned (n : ℕ) (f g : ℕ → ℕ) (s b : ℕ) : Type 0 where
  pub to : (i : ℕ) → i < n → f i ≡ s → g i ≡ b
  pub stay : (i : ℕ) → i < n → f i ≢ s → g i ≡ f i

-- one more link, x to y: where g is f with one of their two names turned into the other, g names the groups
module _ {ls : List (ℕ × ℕ)} {n : ℕ} {f g : ℕ → ℕ} {s b : ℕ} (G : Groups ls n f) (T : Turned n f g s b)
    (x y : ℕ) (xl : x < n) (yl : y < n) (ends : ((s ≡ f x) × (b ≡ f y)) ⊎ ((s ≡ f y) × (b ≡ f x)))
  where
    more : {a c : ℕ} → Joined ls a c → Joined ((x, y) ∷ ls) a c
    more p = path-among (λ a c k. inr (inr k)) p

    lands : (i : ℕ) → i < n → (f i ≡ s) ⊎ (f i ≡ b) → g i ≡ b
    lands i l (inl e) = T.to i l e
    lands i l (inr e) = either (f i) s (T.to i l) (λ d. T.stay i l d ∙ e)

    x-b : g x ≡ b
    x-b = lands x xl (⊎_elim (λ e. inl (sym e.0)) (λ e. inr (sym e.1)) ends)

    y-b : g y ≡ b
    y-b = lands y yl (⊎_elim (λ e. inr (sym e.1)) (λ e. inl (sym e.0)) ends)

    -- a path from the name of x to the name of y
    bridge : Joined ((x, y) ∷ ls) (f x) (f y)
    bridge = trans (back (more (G.leads x xl))) (step (inl (refl, refl)) (more (G.leads y yl)))

    turn : Joined ((x, y) ∷ ls) s b
    turn =
        ⊎_elim
        (λ e. subst (λ (j : ℕ). Joined ((x, y) ∷ ls) j b) (sym e.0) (subst (λ (j : ℕ). Joined ((x, y) ∷ ls) (f x) j) (sym e.1) bridge))
        (λ e. subst (λ (j : ℕ). Joined ((x, y) ∷ ls) j b) (sym e.0) (subst (λ (j : ℕ). Joined ((x, y) ∷ ls) (f y) j) (sym e.1) (back bridge)))
        ends

    link-lt : (c d : ℕ) → Link ((x, y) ∷ ls) c d → c < n
    link-lt c d (inl e) = subst (λ (j : ℕ). j < n) (sym e.0) xl
    link-lt c d (inr (inl e)) = subst (λ (j : ℕ). j < n) (sym e.0) yl
    link-lt c d (inr (inr k)) = G.inside c d k

    link-one : (c d : ℕ) → Link ((x, y) ∷ ls) c d → g c ≡ g d
    link-one c d (inl e) = ap g e.0 ∙ x-b ∙ sym y-b ∙ sym (ap g e.1)
    link-one c d (inr (inl e)) = ap g e.0 ∙ y-b ∙ sym x-b ∙ sym (ap g e.1)
    link-one c d (inr (inr k)) =
        let cl = G.inside c d k in
        let dl = G.inside d c (link-sym ls c d k) in
        let q = G.along c d k in
        either (f c) s (λ e. T.to c cl e ∙ sym (T.to d dl (sym q ∙ e)))
        (λ e. T.stay c cl e ∙ q ∙ sym (T.stay d dl (λ w. e (q ∙ w))))

    pub groups-more : Groups ((x, y) ∷ ls) n g
    groups-more =
        record {
          inside = link-lt;
          along = link-one;
          leads =
              λ i l.
              either (f i) s
              (λ e.
              subst (λ (j : ℕ). Joined ((x, y) ∷ ls) i j) (sym (T.to i l e))
              (trans (subst (λ (j : ℕ). Joined ((x, y) ∷ ls) i j) e (more (G.leads i l))) turn))
              (λ d. subst (λ (j : ℕ). Joined ((x, y) ∷ ls) i j) (sym (T.stay i l d)) (more (G.leads i l)));
        }
