-- A law on the C library's words. Assumes nothing.
use Rattle.std.proofs.Common.{ℕ, ◌+◌, ◌-◌, ◌<◌, ◌≡◌, List, ◌++◌, length, drop, arith, sym, ap, ◌∙◌}
use Rattle.std.proofs.lemmas.List.{take-append-drop, drop-append-le, length-drop, length-append, append_assoc}
use Rattle.lesson_text.specs.Reason.{IsBefore, Lacks}

-- What stands before the first mark has no mark in it: one that stands in it stands in the whole, and earlier.
pub lacks_mark : (m s r : List ℕ) → 0 < length m → IsBefore m s r → Lacks m r
lacks_mark m s r h b =
    λ i st.
    let ends : length r - i ≡ length m + length st.0 = sym (length-drop i r) ∙ ap (λ (x : List ℕ). length x) st.1 ∙ length-append m st.0 in
    let inside : i < length r = omega (arith, ends, h) in
    let tail : List ℕ = drop (length r) s in
    let whole : s ≡ r ++ tail = sym (take-append-drop (length r) s) ∙ ap (λ (x : List ℕ). x ++ tail) (sym b.0) in
    let stands : drop i s ≡ m ++ (st.0 ++ tail) =
    ap (λ (x : List ℕ). drop i x) whole
    ∙ drop-append-le i r tail (omega (arith, inside))
    ∙ ap (λ (x : List ℕ). x ++ tail) st.1
    ∙ append_assoc m st.0 tail in
    b.1 i inside (st.0 ++ tail, stands)
