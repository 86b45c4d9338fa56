-- A table by its name is the part of the buffer where it lies.
use mathlib.Core.Path.{◌≡◌, sym, ◌∙◌, ap, subst}
use mathlib.Core.List.{List}
use Prim.Native.Nat.{ℕ, ◌+◌, ◌*◌, ◌≤◌, ◌<◌}
use native.Mathlib.Omega.{arith}
use lib.ListN.{length, get_or, set}
use Rattle.list_in_table.specs.Table.{Room}
use Rattle.list_in_table.specs.Rules.{none}
use Rattle.list_in_buffer.specs.Part.{part, Put}
use Rattle.list_in_buffer.proofs.Laws.{length_part}
use Rattle.def_kinds.specs.declared.Sizes.{Sizes}
use Rattle.table_meaning.specs.declared.Table.{Table}
use Rattle.table_meaning.specs.Layout.{tables, total, table_at, table_span, table_of, room, list_room, chain_in}
use Rattle.table_meaning.proofs.Puts.{inside, part-is, chain-long}

module _ (Z : Sizes) (k : Table) (t : List ℕ) {a n : ℕ} (p : a ≡ table_at Z k) (q : n ≡ table_span Z k) where
  pub fits : length t ≡ total Z → a + n ≤ length t
  fits l = let i = inside Z k in omega arith

  pub part_at : part t a n ≡ table_of k (tables Z t)
  part_at = rw (p, q) (part-is Z k t)

  pub get_at : (j : ℕ) → get_or (part t a n) j 0 ≡ get_or (table_of k (tables Z t)) j 0
  get_at j = ap (λ (x : List ℕ). get_or x j 0) part_at

  pub home_at : (e : ℕ) → get_or (part t a n) (4 * e) 0 ≡ (chain_in Z k (tables Z t)).home e
  home_at e = get_at (4 * e) ∙ (let q : 4 * e ≡ 0 + 4 * e = omega arith in ap (λ (x : ℕ). get_or (table_of k (tables Z t)) x 0) q)

  -- what a function f of the part was put in its place
  pub put-at : (f : List ℕ → List ℕ) {t' : List ℕ} → Put a n t t' (f (part t a n)) → Put (table_at Z k) (table_span Z k) t t' (f (table_of k (tables Z t)))
  put-at f {t'} P =
      subst (λ (x : List ℕ). Put (table_at Z k) (table_span Z k) t t' (f x)) part_at
      (subst (λ (x : ℕ). Put x (table_span Z k) t t' (f (part t a n))) p (subst (λ (x : ℕ). Put a x t t' (f (part t a n))) q P))

  module _ {b : ℕ} (r : b ≡ 4 * room Z k) where
    -- the words of list i
    pub count-in : (i : ℕ) → i < list_room Z k → b + 2 * i + 1 < n
    count-in i h = let l = chain-long Z k in omega arith

    pub count_at : (i : ℕ) → get_or (part t a n) (b + 2 * i) 0 ≡ (chain_in Z k (tables Z t)).count i
    count_at i = get_at (b + 2 * i) ∙ ap (λ (x : ℕ). get_or (table_of k (tables Z t)) (x + 2 * i) 0) r

    pub last-at : (i : ℕ) → get_or (part t a n) (b + 2 * i + 1) 0 ≡ (chain_in Z k (tables Z t)).last i
    last-at i = get_at (b + 2 * i + 1) ∙ ap (λ (x : ℕ). get_or (table_of k (tables Z t)) (x + 2 * i + 1) 0) r

    pub roomy : length t ≡ total Z → (e m : ℕ) → e ≤ room Z k → m ≤ list_room Z k → e ≤ none → m ≤ none → Room (part t a n) 0 b e m
    roomy l e m el ml es ms =
        let c = chain-long Z k in
        let x = length_part t a n (fits l) in
        record { elems_below = omega arith; lists_below = omega arith; n_small = es; m_small = ms }

-- the words of element e
pub home-in : (Z : Sizes) (k : Table) (e : ℕ) → e < room Z k → 4 * e < table_span Z k
home-in Z k e h = let l = chain-long Z k in omega arith

-- one more change of a table that was changed before
pub then-put : (Z : Sizes) (k : Table) (f : List ℕ → List ℕ) {t t1 t2 ys : List ℕ} → Put (table_at Z k) (table_span Z k) t t1 ys
    → Put (table_at Z k) (table_span Z k) t1 t2 (f (table_of k (tables Z t1))) → Put (table_at Z k) (table_span Z k) t t2 (f ys)
then-put Z k f {t} {t1} {t2} {ys} P Q =
    record {
      same_length = Q.same_length ∙ P.same_length;
      here = Q.here ∙ ap f (sym (part-is Z k t1) ∙ P.here);
      apart = λ b i l o. Q.apart b i (rw P.same_length l) o ∙ P.apart b i l o;
    }

-- one more store
pub then-set : (Z : Sizes) (k : Table) (j v : ℕ) {t t1 t2 ys : List ℕ} → Put (table_at Z k) (table_span Z k) t t1 ys
    → Put (table_at Z k) (table_span Z k) t1 t2 (set (table_of k (tables Z t1)) j v) → Put (table_at Z k) (table_span Z k) t t2 (set ys j v)
then-set Z k j v P Q = then-put Z k (λ x. set x j v) P Q
