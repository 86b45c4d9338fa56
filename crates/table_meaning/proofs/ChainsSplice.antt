-- One list of a chain table is put behind another, whichever table it is.
use mathlib.Core.Path.{◌≡◌, refl, sym, ◌∙◌}
use mathlib.Core.Logic.{inl, inr, ◌≢◌}
use Prim.Native.Nat.{ℕ, ◌+◌, ◌*◌, ◌<◌}
use native.Mathlib.Omega.{arith}
use mathlib.Core.List.{List, [], ◌++◌, append-nil}
use lib.ListN.{length}
use Rattle.list_in_table.specs.Rules.{none, View, list_of}
use Rattle.list_in_table.specs.Table.{view, Wf}
use Rattle.list_in_table.proofs.Laws.{either, held_in}
use Rattle.list_in_table.proofs.Order.{length-list}
use Rattle.list_splice.specs.Splice.{spliced, SpliceReady}
use Rattle.list_splice.proofs.Words.{splice-joined, splice-none}
use Rattle.table_meaning.specs.Does.{ChainKept}
use Rattle.table_meaning.proofs.Chains.{nil, chain-refl}

-- the list s was put behind the list g; nothing is stored behind the elements and the lists
pub record Merged (N n m g s : ℕ) (x y : List ℕ) : Type 0 where
  pub wf : Wf y 0 (4 * N) n m
  pub list_g : list_of (view y 0 (4 * N)) g ≡ list_of (view x 0 (4 * N)) g ++ list_of (view x 0 (4 * N)) s
  pub list_s : list_of (view y 0 (4 * N)) s ≡ []
  pub list_o : (j : ℕ) → j < m → j ≢ g → j ≢ s → list_of (view y 0 (4 * N)) j ≡ list_of (view x 0 (4 * N)) j
  pub home_s : (k : ℕ) → k < n → (view x 0 (4 * N)).home k ≡ s → (view y 0 (4 * N)).home k ≡ g
  pub home_o : (k : ℕ) → k < n → (view x 0 (4 * N)).home k ≢ s → (view y 0 (4 * N)).home k ≡ (view x 0 (4 * N)).home k
  pub count_g : (view y 0 (4 * N)).count g ≡ (view x 0 (4 * N)).count g + (view x 0 (4 * N)).count s
  pub count_s : (view y 0 (4 * N)).count s ≡ 0
  pub count_o : (j : ℕ) → j < m → j ≢ g → j ≢ s → (view y 0 (4 * N)).count j ≡ (view x 0 (4 * N)).count j
  pub kept : ChainKept N n m x y
  pub long : length y ≡ length x

abbrev pub splice_ready : (N : ℕ) {n m : ℕ} {x : List ℕ} (w : Wf x 0 (4 * N) n m) (g s : ℕ) → g < m → s < m → g ≢ s → SpliceReady x 0 (4 * N) g s
splice_ready N {n} {m} w g s gl sl d = record { n = n; m = m; wf = w; big_lt = gl; small_lt = sl; differ = d }

module _ (N n m : ℕ) (x : List ℕ) (w : Wf x 0 (4 * N) n m) (g s : ℕ) (gl : g < m) (sl : s < m) (d : g ≢ s) where
  abbrev S : View
  S = view x 0 (4 * N)

  -- an empty list changes nothing
  merged-none : S.count s ≡ 0 → Merged N n m g s x x
  merged-none c =
      let e : list_of S s ≡ [] = nil (list_of S s) (length-list w.rules s sl ∙ c) in
      record {
        wf = w;
        list_g = rw e (sym (append-nil (list_of S g)));
        list_s = e;
        list_o = λ j jl a b. refl;
        home_s = λ k kl h. absurd (let p : S.place k < S.count s = rw h at (held_in w.rules k s kl sl h).place_lt in omega arith);
        home_o = λ k kl h. refl;
        count_g = omega arith;
        count_s = c;
        count_o = λ j jl a b. refl;
        kept = chain-refl;
        long = refl;
      }

  merged_some : S.count s ≢ 0 → Merged N n m g s x (spliced x 0 (4 * N) g s)
  merged_some c =
      let J = splice-joined (splice_ready N w g s gl sl d) c in
      record {
        wf = J.wf_kept;
        list_g = J.big_is;
        list_s = J.small_is;
        list_o = J.others;
        home_s = J.home_s;
        home_o = J.home_o;
        count_g = J.count_g;
        count_s = J.count_s;
        count_o = J.count_o;
        kept =
            record {
              elems = λ j a b. J.behind j (omega arith) (inl b);
              ends = λ j a. (let q = w.elems_below in J.behind j (omega arith) (inr a));
            };
        long = J.length_kept;
      }

  pub merged : Merged N n m g s x (spliced x 0 (4 * N) g s)
  merged = either (S.count s) 0 (λ c. rw (splice-none x 0 (4 * N) g s c) (merged-none c)) merged_some

-- an element is in no list after it just where it was in none
module _ {N n m g s : ℕ} {x y : List ℕ} (P : Merged N n m g s x y) (gl : g < m) (sl : s < m) (k : ℕ) (kl : k < n) where
  pub merged-none-home : (view x 0 (4 * N)).home k ≡ none → (view y 0 (4 * N)).home k ≡ none
  merged-none-home h = let z = P.wf.rules.m_small in P.home_o k kl (omega arith) ∙ h

  pub merged-some-home : (view x 0 (4 * N)).home k ≢ none → (view y 0 (4 * N)).home k ≢ none
  merged-some-home h =
      let z = P.wf.rules.m_small in
      either ((view x 0 (4 * N)).home k) s (λ e. let q = P.home_s k kl e in omega arith) (λ e. let q = P.home_o k kl e in omega arith)
