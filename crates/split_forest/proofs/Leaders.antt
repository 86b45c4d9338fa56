-- The first place of each group, found in one pass: at a root stands the label of its group, once the pass has come to it.
use mathlib.Core.Path.{◌≡◌, refl, sym, ap, ◌∙◌}
use mathlib.Core.Logic.{◌≢◌}
use Prim.Native.Nat.{ℕ, ◌+◌, ◌≤◌, ◌<◌}
use native.Mathlib.Omega.{arith}
use mathlib.Core.List.{List}
use lib.Dec.{ltb}
use lib.ListN.{length, set}
use lib.Seq.{get_or-set_same, get_or-set_other}
use borrow.Author.Tests.{lt-ltb, le-ltb}
use Rattle.list_in_table.specs.Rules.{none}
use Rattle.def_kinds.specs.Choice.{pick}
use Rattle.list_in_table.proofs.Laws.{either}
use Rattle.list_in_table.proofs.Same.{below}
use Rattle.def_state.specs.Connected.{label}
use Rattle.split_forest.specs.Groups.{Groups}
use Rattle.split_forest.specs.Forest.{at, Led}
use Rattle.split_forest.proofs.Paths.{agree, name-lt, name-name}
use Rattle.split_forest.proofs.Labels.{label-le, label-groups}

-- the pass has come to i: at the root of j stands the label of j, if that is below i
abbrev pub Come : (L f : ℕ → ℕ) → ℕ → ℕ → List ℕ → Type 0
Come L f n i xs = (j : ℕ) → j < n → at xs (f j) ≡ pick (ltb (L j) i) (L j) none

pick-lt : (a i : ℕ) → a < i → pick (ltb a i) a none ≡ a
pick-lt a i l = rw (lt-ltb a i l) refl

pick-ge : (a i : ℕ) → i ≤ a → pick (ltb a i) a none ≡ none
pick-ge a i l = rw (le-ltb a i l) refl

pub come-none : (L f : ℕ → ℕ) (n : ℕ) (xs : List ℕ) → ((j : ℕ) → j < n → f j < n) → ((k : ℕ) → k < n → at xs k ≡ none) → Come L f n 0 xs
come-none L f n xs h e j l = e (f j) (h j l) ∙ sym (pick-ge (L j) 0 (omega arith))

module _ {ls : List (ℕ × ℕ)} {n : ℕ} {f : ℕ → ℕ} (G : Groups ls n f) (small : n ≤ 4096) {i : ℕ} (il : i < n) where
  abbrev L : ℕ → ℕ
  L = at (label ls n)

  GL : Groups ls n L
  GL = label-groups ls n G.inside

  module _ {xs zs : List ℕ} {r : ℕ} (long : length xs ≡ n) (C : Come L f n i xs) (E : Led xs zs (f i) i r) where
    -- the first of its group
    lead-new : at xs (f i) ≡ none → (r ≡ L i) × Come L f n (i + 1) zs
    lead-new e =
        let own : L i ≡ i =
        below (L i) i (λ l. absurd (let a = C i il in let b = pick-lt (L i) i l in let c = name-lt GL i il in omega arith))
        (λ l. (let a = label-le ls n i il in omega arith)) in (
          (E.new e).1 ∙ sym own,
          (λ j l.
              rw (E.new e).0
              (either (f j) (f i)
              (λ q.
              let s : L j ≡ L i = agree G GL j i l il q in
              ap (at (set xs (f i) i)) q ∙ get_or-set_same xs (f i) i 0 (let a = name-lt G i il in omega arith) ∙ sym own ∙ sym s
              ∙ sym (pick-lt (L j) (i + 1) (omega arith)))
              (λ d.
              let s : L j ≢ i = λ w. d (agree GL G j i l il (w ∙ sym own)) in
              get_or-set_other xs (f i) (f j) i 0 d ∙ C j l
              ∙ below (L j) i (λ k. pick-lt (L j) i k ∙ sym (pick-lt (L j) (i + 1) (omega arith)))
              (λ k. pick-ge (L j) i k ∙ sym (pick-ge (L j) (i + 1) (omega arith)))))),
        )

    lead-old : at xs (f i) ≢ none → (r ≡ L i) × Come L f n (i + 1) zs
    lead-old d =
        let less : L i < i = below (L i) i (λ l. l) (λ l. absurd (d (C i il ∙ pick-ge (L i) i l))) in (
          (E.old d).1 ∙ C i il ∙ pick-lt (L i) i less,
          (λ j l.
              rw (E.old d).0
              (C j l
              ∙ below (L j) i (λ k. pick-lt (L j) i k ∙ sym (pick-lt (L j) (i + 1) (omega arith)))
              (λ k.
              let s : L j ≢ i = λ w. (let a : L (L j) ≡ L j = name-name GL j l in let b = ap L w in omega arith) in
              pick-ge (L j) i k ∙ sym (pick-ge (L j) (i + 1) (omega arith))))),
        )

    pub led : (r ≡ at (label ls n) i) × Come (at (label ls n)) f n (i + 1) zs
    led = either (at xs (f i)) none lead-new lead-old
