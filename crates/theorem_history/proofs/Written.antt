-- Oren's promise, of the output that the host lent.
use mathlib.Core.Path.{◌≡◌, sym, ◌∙◌, ap, subst}
use mathlib.Core.Logic.{inl, inr}
use mathlib.Core.List.{List, ◌++◌}
use Prim.Native.Nat.{ℕ, ◌<◌}
use lib.ListN.{length, get_or, drop, get_or-append}
use Rattle.def_kinds.specs.declared.Sizes.{Sizes}
use Rattle.def_kinds.specs.Answers.{Answer}
use Rattle.table_meaning.specs.Decode.{world_of}
use Rattle.theorem_split.specs.Graph.{In}
use Rattle.theorem_split.proofs.Member.{in-at}
use Rattle.core_finish.specs.Listing.{listed_of, Finish}
use Rattle.theorem_history.specs.History.{History}
use Rattle.theorem_history.specs.Written.{NoUnfitWritten, NoneWritten}
use Rattle.theorem_history.proofs.Sentences.{history-sound}
use Rattle.theorem_history.proofs.Oren.{no-unfit, none-tied-to-unfit}

-- what stands at a place of the front is in the list
front-in : (list out : List ℕ) (n : ℕ) (out' : List ℕ) → n ≡ length list → out' ≡ list ++ drop (length list) out → (p : ℕ) → p < n → In (get_or out' p 0) list
front-in list out n out' e f p l =
    let k : p < length list = subst (λ (m : ℕ). p < m) e l in
    subst (λ (x : ℕ). In x list) (sym (ap (λ (xs : List ℕ). get_or xs p 0) f ∙ get_or-append list (drop (length list) out) 0 p k)) (in-at 0 list p k)

-- each number that finish wrote, after a history, is one that the definition lists
written : (Z : Sizes) (t out : List ℕ) → History Z t → (r : Answer) (n : ℕ) (t' out' : List ℕ) → Finish Z t out r n t' out' → (p : ℕ) → p < n
    → In (get_or out' p 0) (listed_of (length out) (world_of Z t))
written Z t out H r n t' out' (inl F) p l = front-in (listed_of (length out) (world_of Z t)) out n out' F.1.length_is F.1.out_is p l
written Z t out H r n t' out' (inr F) p l = absurd (F.refuses.unsound (history-sound H))

pub no-unfit-written : NoUnfitWritten
no-unfit-written Z t out H r n t' out' F i u p l e =
    no-unfit Z t H i u (length out) (subst (λ (x : ℕ). In x (listed_of (length out) (world_of Z t))) e (written Z t out H r n t' out' F p l))

pub none_written : NoneWritten
none_written Z t out H r n t' out' F a u b q p l e =
    none-tied-to-unfit Z t H a u b q (length out) (subst (λ (x : ℕ). In x (listed_of (length out) (world_of Z t))) e (written Z t out H r n t' out' F p l))
