-- Two programs that finish agree on the answer, the length, every word of the tables and of the output; a refusal changes nothing.
use mathlib.Core.Path.{◌≡◌, refl, sym, ◌∙◌, ap, subst}
use mathlib.Core.Logic.{inl, inr}
use mathlib.Core.Bool.{Bool, true, false}
use mathlib.Core.List.{List, [], ◌++◌}
use Prim.Native.Nat.{ℕ, ◌<◌}
use native.Mathlib.Omega.{arith}
use lib.ListN.{length, drop}
use lib.Dec.{ltb}
use Rattle.def_kinds.specs.declared.Sizes.{Sizes}
use Rattle.def_kinds.specs.Answers.{Answer}
use Rattle.def_kinds.specs.Number.{number}
use Rattle.def_state.specs.World.{World}
use Rattle.def_state.specs.Scan.{sleepables, Listing, finish_sleep_scan}
use Rattle.def_state.specs.Calls.{finished, perform}
use Rattle.def_state.specs.Calls.{Finish as FinishCall}
use Rattle.table_meaning.specs.Decode.{world_of}
use Rattle.table_meaning.specs.Does.{Called}
use Rattle.table_meaning.proofs.Unique.{call-agree}
use Rattle.table_meaning.proofs.Careful.{Careful, refusal-keeps, perform-careful}
use Rattle.core_finish.proofs.Finish.{finish_as, finish-is}
use Rattle.core_finish.specs.Listing.{listed_of, Finish}

-- what it is that they agree
pub record Agree (r r' : Answer) (n n' : ℕ) (u u' out out' : List ℕ) : Type 0 where
  pub answer : r ≡ r'
  pub length_same : n ≡ n'
  pub words : u ≡ u'
  pub output : out ≡ out'

-- finish, as a call on the tables alone
pub finish-call : (Z : Sizes) (t out : List ℕ) (r : Answer) (n : ℕ) (t' out' : List ℕ) → Finish Z t out r n t' out' → Called Z (finished (length out)) t r t'
finish-call Z t out r n t' out' (inl x) = inl (x.0, x.1.does)
finish-call Z t out r n t' out' (inr x) = inr x.refuses

lengths : (Z : Sizes) (t out : List ℕ) (r r' : Answer) (n n' : ℕ) (u u' out1 out2 : List ℕ) → Finish Z t out r n u out1 → Finish Z t out r' n' u' out2 → (n ≡ n') × (out1 ≡ out2)
lengths Z t out r r' n n' u u' out1 out2 (inl x) (inl y) = (x.1.length_is ∙ sym y.1.length_is, x.1.out_is ∙ sym y.1.out_is)
lengths Z t out r r' n n' u u' out1 out2 (inl x) (inr y) = absurd (y.refuses.unsound x.0)
lengths Z t out r r' n n' u u' out1 out2 (inr x) (inl y) = absurd (x.refuses.unsound y.0)
lengths Z t out r r' n n' u u' out1 out2 (inr x) (inr y) = (x.length_is ∙ sym y.length_is, x.out_is ∙ sym y.out_is)

pub finish-agree : (Z : Sizes) (t out : List ℕ) (r r' : Answer) (n n' : ℕ) (u u' out1 out2 : List ℕ) → Finish Z t out r n u out1 → Finish Z t out r' n' u' out2 → Agree r r' n n' u u' out1 out2
finish-agree Z t out r r' n n' u u' out1 out2 x y =
    let a = call-agree Z (finished (length out)) t r r' u u' (finish-call Z t out r n u out1 x) (finish-call Z t out r' n' u' out2 y) in
    let b = lengths Z t out r r' n n' u u' out1 out2 x y in
    record { answer = a.0; length_same = b.0; words = a.1; output = b.1 }

-- ---- an answer above 1
pub record Unchanged (n : ℕ) (t t' out out' : List ℕ) : Type 0 where
  pub nothing_listed : n ≡ 0
  pub words : t' ≡ t
  pub output : out' ≡ out

finished-careful : (Z : Sizes) (room : ℕ) → Careful (finished room)
unfolding perform
finished-careful Z room = perform-careful Z (FinishCall room)

answer-is : (room : ℕ) (w : World) → (finished room w).answer ≡ (finish_sleep_scan room w).answer
unfolding finished
answer-is room w = refl

no-list : (o s : Bool) (w : World) (list : List ℕ) → 1 < number (finish_as o s w list).answer → (finish_as o s w list).listed ≡ []
no-list true true w list h = refl
no-list true false w list h = absurd (omega arith)
no-list false s w list h = refl

pub finish-keeps : (Z : Sizes) (t out : List ℕ) (r : Answer) (n : ℕ) (t' out' : List ℕ) → Finish Z t out r n t' out' → 1 < number r → Unchanged n t t' out out'
finish-keeps Z t out r n t' out' (inl x) h =
    let w = world_of Z t in
    let list = sleepables w w.sleep_scan_touched in
    let f = finish-is (length out) w in
    let a : r ≡ (finish_sleep_scan (length out) w).answer = x.1.does.answer ∙ answer-is (length out) w in
    let l : listed_of (length out) w ≡ [] =
    ap (λ (y : Listing). y.listed) f
    ∙ no-list w.scanning (ltb (length out) (length list)) w list (subst (λ (b : Answer). 1 < number b) (a ∙ ap (λ (y : Listing). y.answer) f) h) in
    record {
      nothing_listed = x.1.length_is ∙ ap length l;
      words = refusal-keeps Z (finished (length out)) (finished-careful Z (length out)) t r t' (inl (x.0, x.1.does)) h;
      output = x.1.out_is ∙ ap (λ (y : List ℕ). y ++ drop (length y) out) l;
    }
finish-keeps Z t out r n t' out' (inr x) h = record { nothing_listed = x.length_is; words = x.refuses.same; output = x.out_is }
