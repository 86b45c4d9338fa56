-- What one observation does to the list of the observed.
use mathlib.Core.Path.{◌≡◌, refl, sym, ◌∙◌, ap}
use mathlib.Core.Logic.{◌≢◌}
use mathlib.Core.Bool.{Bool, true, false, ◌&&◌}
use mathlib.Core.List.{List, [], ◌∷◌, ◌++◌, map}
use Prim.Native.Nat.{ℕ, zero, suc, ◌<◌}
use native.Mathlib.Omega.{arith}
use borrow.Author.Tests.{eq-eqb, ne_eqb}
use lib.ListN.{length, get_or}
use Rattle.def_state.specs.World.{Observed}
use Rattle.def_state.specs.Scan.{observed}
use Rattle.table_meaning.specs.Decode.{flag, observed_at}

pub and-true : (b : Bool) → b ≡ b && true
and-true true = refl
and-true false = refl

pub and-false : (b : Bool) → false ≡ b && false
and-false true = refl
and-false false = refl

abbrev pub seen_as : ℕ → Bool → Observed
seen_as i e = record { island = i; eligible = e }

-- an island that was not observed yet comes last
pub observed-new : (x : List ℕ) (i : ℕ) (e : Bool) (xs : List ℕ) → ((p : ℕ) → p < length xs → get_or xs p 0 ≢ i)
    → map (observed_at x) xs ++ (seen_as i e ∷ []) ≡ observed i e (map (observed_at x) xs)
unfolding observed
observed-new x i e [] h = refl
observed-new x i e (k ∷ xs) h =
    rw (ne_eqb k i (h 0 (omega arith))) (ap (λ (os : List Observed). observed_at x k ∷ os) (observed-new x i e xs (λ p l. h (suc p) (omega arith))))

-- words that differ at i alone give the same of what has no i
elsewhere : (x y : List ℕ) (i : ℕ) → ((k : ℕ) → k ≢ i → get_or y k 0 ≡ get_or x k 0) → (xs : List ℕ) → ((p : ℕ) → p < length xs → get_or xs p 0 ≢ i)
    → map (observed_at y) xs ≡ map (observed_at x) xs
elsewhere x y i o [] h = refl
elsewhere x y i o (k ∷ xs) h = rw (o k (h 0 (omega arith)), elsewhere x y i o xs (λ p l. h (suc p) (omega arith)))

-- an island that was observed before stays where it is
pub observed-old : (x y : List ℕ) (i : ℕ) (e : Bool) → flag (get_or y i 0) ≡ flag (get_or x i 0) && e → ((k : ℕ) → k ≢ i → get_or y k 0 ≡ get_or x k 0) → (xs : List ℕ)
    → ((p q : ℕ) → p < length xs → q < length xs → get_or xs p 0 ≡ get_or xs q 0 → p ≡ q) → (p : ℕ) → p < length xs → get_or xs p 0 ≡ i
    → map (observed_at y) xs ≡ observed i e (map (observed_at x) xs)
unfolding observed
observed-old x y i e v o [] once p l h = absurd (omega arith)
observed-old x y i e v o (k ∷ xs) once zero l h =
    let rest : map (observed_at y) xs ≡ map (observed_at x) xs =
    elsewhere x y i o xs (λ q ql d. (let z : suc q ≡ 0 = once (suc q) 0 (omega arith) (omega arith) (d ∙ sym h) in omega arith)) in
    let a : observed_at y k ≡ seen_as i (flag (get_or x k 0) && e) = rw h (ap (seen_as i) v) in
    rw (eq-eqb k i h, a, rest)
observed-old x y i e v o (k ∷ xs) once (suc p) l h =
    let d : k ≢ i = λ s. (let z : 0 ≡ suc p = once 0 (suc p) (omega arith) (omega arith) (s ∙ sym h) in omega arith) in
    let rest = observed-old x y i e v o xs (λ q r ql rl s. (let z : suc q ≡ suc r = once (suc q) (suc r) (omega arith) (omega arith) s in omega arith)) p (omega arith) h in
    rw (ne_eqb k i d, o k d, rest)
