-- Laws on the digits of a word. Assumes nothing.
use Rattle.std.proofs.Common.{ℕ, zero, suc, ◌+◌, ◌-◌, ◌*◌, ◌≤◌, ◌^◌, ◌≡◌, ◌≢◌, List, Result, Ok, Err, length, get_or, take, refl, sym, ap, ◌∙◌, ⊎_elim, subst, arith, add-one}
use Rattle.std.proofs.Math.Seq.{take-length}
use Rattle.std.proofs.lemmas.Bool.{cases_lt}
use Rattle.std.proofs.lemmas.Int.Digits.{digits_value_more}
use Rattle.std.proofs.lemmas.Str.Parse.{IsNumeralModel, numerals_by_value, tells_by_index, parse_plain}
use Rattle.std.specs.Char.{digit_value}
use Rattle.std.specs.Result.{result_ok}
use Rattle.std.specs.Str.Parse.{ParsesUnsigned, digits_value}
use Rattle.lesson_text.specs.Number.{decimal, Digits, ReadsAs}

-- The words that hold digits alone are std's numerals, and the empty word.
pub own : IsNumeralModel (λ (s : List ℕ). Digits s (length s)) (digits_value 10)
own = numerals_by_value (λ (s : List ℕ). Digits s (length s)) tells_by_index

-- A digit's value is what it is over 48.
pub digit_is : (c : ℕ) → 48 ≤ c → c ≤ 57 → digit_value c ≡ c - 48
digit_is c low high = grind arith

-- One digit more.
pub one_more : (s : List ℕ) (k : ℕ) → decimal s (k + 1) ≡ decimal s k * 10 + (get_or s k 0 - 48)
one_more s k = rw add-one

-- The first k digits write the number that std reads them as.
pub front_is : (s : List ℕ) (k : ℕ) → k ≤ length s → Digits s k → decimal s k ≡ digits_value 10 (take k s)
front_is s zero h d = refl
front_is s (suc k) h d =
    let front : decimal s k ≡ digits_value 10 (take k s) = front_is s k (omega arith) (λ j l. d j (omega arith)) in
    let digit : 48 ≤ get_or s k 0 × get_or s k 0 ≤ 57 = d k (omega arith) in
    let one : digit_value (get_or s k 0) ≡ get_or s k 0 - 48 = digit_is (get_or s k 0) digit.0 digit.1 in
    let more : digits_value 10 (take (k + 1) s) ≡ digits_value 10 (take k s) * 10 + digit_value (get_or s k 0) =
    digits_value_more 10 s k (omega arith) in
    subst (λ (n : ℕ). decimal s n ≡ digits_value 10 (take n s)) (add-one k) (omega (arith, front, one, more, one_more s k))

pub whole_is : (s : List ℕ) → Digits s (length s) → decimal s (length s) ≡ digits_value 10 s
whole_is s d = front_is s (length s) (omega arith) d ∙ ap (digits_value 10) (take-length s)

-- What std's `parse` answers for a word that does not begin with '+'.
pub read : {E : Type 0} (s : List ℕ) (r : Result ℕ E) → ParsesUnsigned 64 10 s r → get_or s 0 0 ≢ 43 → ReadsAs s (result_ok r)
read {E} s (Ok x) h n =
    let p = parse_plain own {E = E} 64 s (Ok x) h n in (p.0.1, p.0.0, p.1 ∙ sym (whole_is s p.0.0))
read {E} s (Err e) h n =
    let p = parse_plain own {E = E} 64 s (Err e) h n in
    λ some d. ⊎_elim (λ less. absurd (p (d, some, less))) (λ more. omega (arith, more, whole_is s d)) (cases_lt (digits_value 10 s) (2 ^ 64))
