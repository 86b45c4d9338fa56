-- What is said of the calls, said of the exports: two programs that meet an export's promise agree, and an answer above 1 changes nothing.
use mathlib.Core.Path.{◌≡◌, sym, ◌∙◌, ap, subst}
use mathlib.Core.Logic.{inl, inr}
use mathlib.Core.List.{List}
use Prim.Native.Nat.{ℕ, ◌<◌}
use native.Mathlib.Omega.{arith}
use Rattle.std.specs.Prelude.{Bool, Option, Result}
use Rattle.std.specs.Result.{result_unwrap_or}
use Rattle.def_kinds.specs.declared.Island.{Island}
use Rattle.def_kinds.specs.declared.Refusal.{Refusal}
use Rattle.def_kinds.specs.Answers.{Answer, answer_of}
use Rattle.def_kinds.specs.Number.{number, rig}
use Rattle.def_state.specs.World.{World, Step}
use Rattle.def_state.specs.Calls.{Call, perform}
use Rattle.table_meaning.proofs.Unique.{call-agree, reset-agree, asks-agree}
use Rattle.table_meaning.proofs.Careful.{refusal-keeps, perform-careful}
use Rattle.core_finish.proofs.Agree.{finish-agree, finish-keeps}
use Rattle.host_calls.specs.Refusal.{refused_island, refused_bid}
use Rattle.ashwoodrung.specs.Told.{packed, island_told, bid_told, Told, ToldReset, ToldIsland, ToldBid, ToldList}

-- ---- two programs that meet it agree: on the number that they answer, on every word, on the output

pub told-agree : (f : World → Step) (t : List ℕ) (r r' : ℕ) (u u' : List ℕ) → Told f t r u → Told f t r' u' → (r ≡ r') × (u ≡ u')
told-agree f t r r' u u' (a, q, d) (b, s, e) = let g = call-agree rig f t a b u u' d e in (q ∙ ap number g.0 ∙ sym s, g.1)

pub told-reset-agree : (t : List ℕ) (r r' : ℕ) (u u' : List ℕ) → ToldReset t r u → ToldReset t r' u' → (r ≡ r') × (u ≡ u')
told-reset-agree t r r' u u' (a, q, d) (b, s, e) = let g = reset-agree rig t a b u u' d e in (q ∙ ap number g.0 ∙ sym s, g.1)

pub told-island-agree : (f : World → Result (Option Island) Refusal) (t : List ℕ) (r r' : ℕ) → ToldIsland f t r → ToldIsland f t r' → r ≡ r'
told-island-agree f t r r' (a, q, d) (b, s, e) =
    q ∙ ap (λ (x : Result (Option Island) Refusal). packed (number (answer_of x)) (island_told x)) (asks-agree rig f refused_island t a b d e) ∙ sym s

pub told-bid-agree : (f : World → Result Bool Refusal) (t : List ℕ) (r r' : ℕ) → ToldBid f t r → ToldBid f t r' → r ≡ r'
told-bid-agree f t r r' (a, q, d) (b, s, e) =
    q ∙ ap (λ (x : Result Bool Refusal). packed (number (answer_of x)) (bid_told x)) (asks-agree rig f refused_bid t a b d e) ∙ sym s

-- the numbers, the tables and the output
pub record ListAgree (r r' : ℕ) (u u' out out' : List ℕ) : Type 0 where
  pub told : r ≡ r'
  pub words : u ≡ u'
  pub output : out ≡ out'

pub told-list-agree : (t out : List ℕ) (r r' : ℕ) (u u' out1 out2 : List ℕ) → ToldList t out r u out1 → ToldList t out r' u' out2 → ListAgree r r' u u' out1 out2
told-list-agree t out r r' u u' out1 out2 (a, q, d) (b, s, e) =
    let g = finish-agree rig t out (answer_of a) (answer_of b) (result_unwrap_or a 0) (result_unwrap_or b 0) u u' out1 out2 d e in
    record { told = q ∙ ap (λ (x : Answer). packed (number x) (result_unwrap_or a 0)) g.answer ∙ ap (packed (number (answer_of b))) g.length_same ∙ sym s; words = g.words; output = g.output }

-- ---- an answer above 1 changes nothing

pub told-keeps : (c : Call) (t : List ℕ) (r : ℕ) (t' : List ℕ) → Told (perform rig c) t r t' → 1 < r → t' ≡ t
told-keeps c t r t' (a, q, d) h = refusal-keeps rig (perform rig c) (perform-careful rig c) t a t' d (subst (λ (n : ℕ). 1 < n) q h)

-- reset: tables of a wrong length are as they were (`Wrong.same`)
pub told-reset-keeps : (t : List ℕ) (r : ℕ) (t' : List ℕ) → ToldReset t r t' → 1 < r → t' ≡ t
told-reset-keeps t r t' (a, q, inl e) h = absurd (let z : number a ≡ 0 = ap number e.zero in omega arith)
told-reset-keeps t r t' (a, q, inr e) h = e.same

-- finish, where the answer that it tells is above 1: length 0, and neither the tables nor the output changes
pub told-list-keeps : (t out : List ℕ) (r : ℕ) (t' out' : List ℕ) (x : ToldList t out r t' out') → 1 < number (answer_of x.0) → (result_unwrap_or x.0 0 ≡ 0) × (t' ≡ t) × (out' ≡ out)
told-list-keeps t out r t' out' (a, q, d) h =
    let k = finish-keeps rig t out (answer_of a) (result_unwrap_or a 0) t' out' d h in
    (k.nothing_listed, k.words, k.output)
