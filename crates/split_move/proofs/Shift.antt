-- An element of a chain table goes to the end of another list.
use mathlib.Core.Path.{◌≡◌, sym, ◌∙◌, ap}
use mathlib.Core.Logic.{◌≢◌}
use mathlib.Core.List.{List, [], ◌∷◌, ◌++◌}
use Prim.Native.Nat.{ℕ, ◌+◌, ◌*◌, ◌<◌}
use native.Mathlib.Omega.{arith}
use lib.ListN.{get_or}
use Rattle.list_in_table.specs.Rules.{none, View, list_of, swap_remove}
use Rattle.list_in_table.specs.Table.{view, Wf, removed, pushed, PushReady}
use Rattle.table_meaning.specs.Does.{ChainKept}
use Rattle.table_meaning.proofs.Chains.{Added, Taken, added, taken, push_ready, chain-then}
use Rattle.core_laws.specs.Loose.{EntryLeft}
use Rattle.core_laws.proofs.Loose.{left-taken}

pub record Shifted (N n m to e : ℕ) (x y : List ℕ) : Type 0 where
  pub wf : Wf y 0 (4 * N) n m
  pub kept : ChainKept N n m x y
  pub list_b : list_of (view y 0 (4 * N)) ((view x 0 (4 * N)).home e) ≡ swap_remove (list_of (view x 0 (4 * N)) ((view x 0 (4 * N)).home e)) ((view x 0 (4 * N)).place e)
  pub list_t : list_of (view y 0 (4 * N)) to ≡ list_of (view x 0 (4 * N)) to ++ (e ∷ [])
  pub list_o : (j : ℕ) → j < m → j ≢ (view x 0 (4 * N)).home e → j ≢ to → list_of (view y 0 (4 * N)) j ≡ list_of (view x 0 (4 * N)) j
  pub home_e : (view y 0 (4 * N)).home e ≡ to
  pub home_o : (k : ℕ) → k < n → k ≢ e → (view y 0 (4 * N)).home k ≡ (view x 0 (4 * N)).home k
  pub count_b : (view y 0 (4 * N)).count ((view x 0 (4 * N)).home e) + 1 ≡ (view x 0 (4 * N)).count ((view x 0 (4 * N)).home e)
  pub count_t : (view y 0 (4 * N)).count to ≡ (view x 0 (4 * N)).count to + 1
  pub count_o : (j : ℕ) → j < m → j ≢ (view x 0 (4 * N)).home e → j ≢ to → (view y 0 (4 * N)).count j ≡ (view x 0 (4 * N)).count j
  pub left : EntryLeft (view x 0 (4 * N)) (view y 0 (4 * N)) ((view x 0 (4 * N)).home e) ((view x 0 (4 * N)).place e)

module _ (N n m to e : ℕ) (x : List ℕ) (w : Wf x 0 (4 * N) n m) (el : e < n) (eh : (view x 0 (4 * N)).home e ≢ none) (tl : to < m) (away : to ≢ (view x 0 (4 * N)).home e) (bl : (view x 0 (4 * N)).home e < m) where
  abbrev S : View
  S = view x 0 (4 * N)

  abbrev b : ℕ
  b = S.home e

  abbrev x1 : List ℕ
  x1 = removed x 0 (4 * N) e

  D : Taken N n m e x x1
  D = taken N n m x w e el eh

  pub shift-ready : PushReady x1 0 (4 * N) to e
  shift-ready = push_ready N D.wf to e tl el D.home_e

  A : Added N n m to e x1 (pushed x1 0 (4 * N) to e)
  A = added N n m x1 D.wf to e tl el D.home_e

  pub shifted : Shifted N n m to e x (pushed x1 0 (4 * N) to e)
  shifted =
      let d : b ≢ to = λ q. away (sym q) in
      record {
        wf = A.wf;
        kept = chain-then (omega arith) (omega arith) D.kept A.kept;
        list_b = A.list_o b bl d ∙ D.list_e;
        list_t = A.list_i ∙ ap (λ (l : List ℕ). l ++ (e ∷ [])) (D.list_o to tl away);
        list_o = λ j jl p q. A.list_o j jl q ∙ D.list_o j jl p;
        home_e = A.view_is.home_e;
        home_o = λ k kl p. A.view_is.home_o k kl p ∙ D.home_o k kl p;
        count_b = (let a = A.view_is.count_o b bl d in let c = D.count_i in omega arith);
        count_t = (let a = A.view_is.count_i in let c = D.count_o to tl away in omega arith);
        count_o = λ j jl p q. A.view_is.count_o j jl q ∙ D.count_o j jl p;
        left =
            (let L = left-taken N n m e x x1 w el eh D in
            record {
              below = λ q l. ap (λ (xs : List ℕ). get_or xs q 0) (A.list_o b bl d) ∙ L.below q l;
              few = (let a = A.view_is.count_o b bl d in let c = L.few in omega arith);
            });
      }
