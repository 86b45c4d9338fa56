-- Links between places, the paths that they make, and the label of each place: the least place that a path leads to.
use Rattle.std.specs.Prelude.{◌≡◌, ◌⊎◌, Bool, List, [], ◌∷◌, ◌++◌, map, ℕ, zero, suc, min, max, ◌+◌, length, get_or, eqb, ltb}
use Rattle.def_kinds.specs.Choice.{pick}

-- a link of ls has the ends a and b, in this order or the other
abbrev pub Link : List (ℕ × ℕ) → ℕ → ℕ → Type 0
Link [] a b = ⊥
Link (l ∷ ls) a b = ((a ≡ l.0) × (b ≡ l.1)) ⊎ ((a ≡ l.1) × (b ≡ l.0)) ⊎ Link ls a b

-- connected, as in any graph: a path of links of ls leads from a to b
pub data Joined (ls : List (ℕ × ℕ)) : ℕ → ℕ → Type 0 where
  stop : {a : ℕ} → Joined ls a a
  step : {a b c : ℕ} → Link ls a b → Joined ls b c → Joined ls a c

-- 0, 1, .. up to n, without n
abbrev pub upto : ℕ → List ℕ
upto zero = []
upto (suc n) = upto n ++ (n ∷ [])

-- x, or the lesser of u and v where x is the greater
abbrev pub lowered : ℕ → ℕ → ℕ → ℕ
lowered u v x = pick (eqb x (max u v)) (min u v) x

-- the labels xs after one more link: of the labels of its ends, the lesser takes the place of the greater everywhere
unfoldable pub lower : List ℕ → ℕ × ℕ → List ℕ
lower xs l = map (lowered (get_or xs l.0 0) (get_or xs l.1 0)) xs

unfoldable pub lowers : List ℕ → List (ℕ × ℕ) → List ℕ
lowers xs [] = xs
lowers xs (l ∷ ls) = lowers (lower xs l) ls

-- the labels of n places
unfoldable pub label : List (ℕ × ℕ) → ℕ → List ℕ
label ls n = lowers (upto n) ls

-- how many places below n pass a test
unfoldable pub tally : (ℕ → Bool) → ℕ → ℕ
tally t zero = 0
tally t (suc n) = tally t n + pick (t n) 1 0

-- the number of components: of places that are their own label
unfoldable pub components : List ℕ → ℕ
components L = tally (λ i. eqb (get_or L i 0) i) (length L)

-- how many places share the label of i
unfoldable pub weight : List ℕ → ℕ → ℕ
weight L i = tally (λ j. eqb (get_or L j 0) (get_or L i 0)) (length L)

-- the greatest of f at the places below n, and the first place that has it
unfoldable pub most : (ℕ → ℕ) → ℕ → ℕ
most f zero = 0
most f (suc n) = max (most f n) (f n)

unfoldable pub first : (ℕ → ℕ) → ℕ → ℕ
first f zero = 0
first f (suc n) = pick (ltb (most f n) (f n)) n (first f n)

-- the label of the largest component; equal, the one with the earliest place
unfoldable pub keep_label : List ℕ → ℕ
keep_label L = get_or L (first (weight L) (length L)) 0
