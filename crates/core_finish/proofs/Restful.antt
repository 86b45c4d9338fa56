-- The islands that may sleep, from the last of the scan's list to the first: one that may, one that may not; counted, and written.
use mathlib.Core.Path.{◌≡◌, refl, sym, ◌∙◌, ap, subst}
use mathlib.Core.Logic.{◌≢◌, ⊎_elim}
use mathlib.Core.Bool.{Bool, true, false, ◌&&◌, ◌||◌, not}
use mathlib.Core.List.{List, [], ◌∷◌, ◌++◌, map, map-append, append_assoc, append-nil}
use Prim.Native.Nat.{ℕ, zero, suc, ◌+◌, ◌-◌, ◌*◌, ◌≤◌, ◌<◌}
use native.Mathlib.Omega.{arith}
use borrow.Author.Tests.{eq-eqb, ne_eqb}
use lib.Dec.{eqb, leb}
use lib.ListN.{length, get_or, set, drop, length-append, length-set, length-map}
use Rattle.list_in_table.specs.Rules.{none, View, Rules, walk, list_of}
use Rattle.list_in_table.proofs.Laws.{held_in, full}
use Rattle.list_in_table.proofs.Order.{length-list}
use Rattle.list_in_table.proofs.Pigeon.{count-le}
use Rattle.def_kinds.specs.declared.Sizes.{Sizes}
use Rattle.def_state.specs.World.{Island, Observed, live}
use Rattle.def_state.specs.Scan.{sleepable, sleepables}
use Rattle.table_meaning.specs.Layout.{Tables, tables, extents, members_in, scan_in}
use Rattle.table_meaning.specs.Decode.{flag, observed_at, world_of}
use Rattle.table_meaning.specs.Sound.{Sound}
use Rattle.core_laws.proofs.Names.{island-at}
use Rattle.core_finish.specs.Restful.{restful, restful_to, Wrote}
use Rattle.core_finish.proofs.Lists.{sleepables-le, sleepables-yes, sleepables-no}

-- ---- may the island i sleep, by its words
abbrev pub words_rest : (fit bodies asleep count : ℕ) → Bool
words_rest f c a r = flag f && (not (eqb c 0) && (not (flag a) && (eqb r 0 || leb c 1)))

-- of a live island that is awake and always eligible, with count 0, they say that it may
pub rest-whole : (f c a r : ℕ) → f ≡ 1 → c ≢ 0 → a ≢ 1 → r ≡ 0 → words_rest f c a r ≡ true
rest-whole f c a r p q s u = rw (eq-eqb f 1 p, ne_eqb c 0 q, ne_eqb a 1 s, eq-eqb r 0 u)

module _ {Z : Sizes} {t : List ℕ} (i : ℕ) (S : Sound Z t) (il : i < (extents (tables Z t)).islands) where
  abbrev T : Tables
  T = tables Z t

  abbrev fit : ℕ
  fit = get_or T.fit i 0

  abbrev bodies : ℕ
  bodies = (members_in Z T).count i

  abbrev asleep : ℕ
  asleep = get_or T.rows (3 * i + 2) 0

  abbrev count : ℕ
  count = get_or T.rows (3 * i) 0

  abbrev may : Bool
  may = sleepable (world_of Z t) (observed_at T.fit i)

  may-is : may ≡ words_rest fit bodies asleep count
  unfolding sleepable live world_of
  may-is =
      ap (λ (a : Island). flag fit && (not (eqb (length a.bodies) 0) && (not a.sleeping && (eqb a.constraint_remove_count 0 || leb (length a.bodies) 1))))
      (island-at Z (extents T) T i il)
      ∙ ap (λ (n : ℕ). flag fit && (not (eqb n 0) && (not (flag asleep) && (eqb count 0 || leb n 1)))) (length-list S.good.members_wf.rules i il)

  pub may-words : (f c a r : ℕ) → f ≡ fit → c ≡ bodies → a ≡ asleep → r ≡ count → may ≡ words_rest f c a r
  may-words f c a r p q u v = rw (p, q, u, v) may-is

-- ---- the walk: e is the k-th of the scan's list
pub record Stands (Z : Sizes) (t : List ℕ) (k e : ℕ) : Type 0 where
  pub lt : e < (extents (tables Z t)).islands
  pub home_is : (scan_in Z (tables Z t)).home e ≡ 0
  pub place_is : (scan_in Z (tables Z t)).place e + 1 ≡ k

module _ {Z : Sizes} {t : List ℕ} (S : Sound Z t) where
  abbrev V1 : View
  V1 = scan_in Z (tables Z t)

  abbrev R : Rules (extents (tables Z t)).islands 1 V1
  R = S.good.scan_wf.rules

  pub stands-last : V1.count 0 ≢ 0 → Stands Z t (V1.count 0) (V1.last 0)
  stands-last d = let F = full R 0 (omega arith) d in record { lt = F.last_lt; home_is = F.last_home; place_is = F.last_place }

  pub stands-prev : (k e : ℕ) → Stands Z t k e → k - 1 ≢ 0 → Stands Z t (k - 1) (V1.prev e)
  stands-prev k e A d =
      ⊎_elim (λ f. absurd (let a = f.at_zero in let b = A.place_is in omega arith))
      (λ f. record { lt = f.prev_lt; home_is = f.prev_home ∙ A.home_is; place_is = (let a = f.prev_place in let b = A.place_is in omega arith) })
      (held_in R e 0 A.lt (omega arith) A.home_is).back

  -- so many fit a word
  pub restful-le : length (restful Z t) ≤ none
  unfolding world_of
  restful-le =
      let a = sleepables-le (world_of Z t) (map (observed_at (tables Z t).fit) (list_of V1 0)) in
      let b = length-map (list_of V1 0) (observed_at (tables Z t).fit) in
      let c = length-list R 0 (omega arith) in
      let d = count-le R 0 (omega arith) in
      let n = R.n_small in
      omega arith

module _ (Z : Sizes) (t : List ℕ) where
  abbrev P : ℕ → ℕ
  P = (scan_in Z (tables Z t)).prev

  abbrev O : ℕ → Observed
  O = observed_at (tables Z t).fit

  -- the whole list
  pub restful-all : restful_to Z t ((scan_in Z (tables Z t)).count 0) ((scan_in Z (tables Z t)).last 0) ≡ restful Z t
  unfolding world_of list_of
  restful-all = refl

  pub restful-none : (e : ℕ) → restful_to Z t 0 e ≡ []
  unfolding sleepables
  restful-none e = refl

  one_less : (k : ℕ) → k ≢ 0 → suc (k - 1) ≡ k
  one_less k d = omega arith

  last-of : (k e : ℕ) → restful_to Z t (suc k) e ≡ sleepables (world_of Z t) (map O (walk P k (P e)) ++ (O e ∷ []))
  last-of k e = ap (sleepables (world_of Z t)) (map-append O (walk P k (P e)) (e ∷ []))

  -- one that may sleep is the last of those up to it
  pub restful-yes : (k e : ℕ) → k ≢ 0 → sleepable (world_of Z t) (O e) ≡ true → restful_to Z t k e ≡ restful_to Z t (k - 1) (P e) ++ (e ∷ [])
  restful-yes k e d h =
      subst (λ (n : ℕ). restful_to Z t n e ≡ restful_to Z t (k - 1) (P e) ++ (e ∷ [])) (one_less k d)
      (last-of (k - 1) e ∙ sleepables-yes (world_of Z t) (map O (walk P (k - 1) (P e))) (O e) h)

  pub restful-no : (k e : ℕ) → k ≢ 0 → sleepable (world_of Z t) (O e) ≡ false → restful_to Z t k e ≡ restful_to Z t (k - 1) (P e)
  restful-no k e d h =
      subst (λ (n : ℕ). restful_to Z t n e ≡ restful_to Z t (k - 1) (P e)) (one_less k d)
      (last-of (k - 1) e ∙ sleepables-no (world_of Z t) (map O (walk P (k - 1) (P e))) (O e) h ∙ append-nil (restful_to Z t (k - 1) (P e)))

-- ---- counted: what is left to count, and what was found
pub counted-yes : (Z : Sizes) (t : List ℕ) (k e found : ℕ) → k ≢ 0 → sleepable (world_of Z t) (observed_at (tables Z t).fit e) ≡ true
    → length (restful_to Z t k e) + found ≡ length (restful Z t) → length (restful_to Z t (k - 1) ((scan_in Z (tables Z t)).prev e)) + (found + 1) ≡ length (restful Z t)
counted-yes Z t k e found d h q =
    let r = restful_to Z t (k - 1) ((scan_in Z (tables Z t)).prev e) in
    let a : length (restful_to Z t k e) ≡ length r + 1 = ap length (restful-yes Z t k e d h) ∙ length-append r (e ∷ []) in
    omega arith

pub counted-no : (Z : Sizes) (t : List ℕ) (k e found : ℕ) → k ≢ 0 → sleepable (world_of Z t) (observed_at (tables Z t).fit e) ≡ false
    → length (restful_to Z t k e) + found ≡ length (restful Z t) → length (restful_to Z t (k - 1) ((scan_in Z (tables Z t)).prev e)) + found ≡ length (restful Z t)
counted-no Z t k e found d h q = let a = ap length (restful-no Z t k e d h) in omega arith

-- how many are left after one more turn
pub turn-less : (n k : ℕ) → n - (k + 1) ≡ n - k - 1
turn-less n k = omega arith

-- ---- written: those up to e are to come, at out[0] to out[j - 1], and behind them all is as it will be
pub record Written (Z : Sizes) (t out₀ : List ℕ) (k e j : ℕ) (out : List ℕ) : Type 0 where
  pub stands : k ≢ 0 → Stands Z t k e
  pub place : j ≡ length (restful_to Z t k e)
  pub long : length out ≡ length out₀
  pub room : j ≤ length out
  pub behind : restful_to Z t k e ++ drop j out ≡ restful Z t ++ drop (length (restful Z t)) out₀

pub written_start : {Z : Sizes} {t out : List ℕ} (n k e : ℕ) → Sound Z t → n ≡ length (restful Z t) → n ≤ length out → k ≡ (scan_in Z (tables Z t)).count 0 → e ≡ (scan_in Z (tables Z t)).last 0
    → Written Z t out k e n out
written_start {Z} {t} {out} n k e S q l p r =
    let a : restful_to Z t k e ≡ restful Z t = rw (p, r) (restful-all Z t) in
    record {
      stands = λ d. rw (p, r) (stands-last S (λ z. d (p ∙ z)));
      place = q ∙ sym (ap length a);
      long = refl;
      room = l;
      behind = ap (λ (x : List ℕ). x ++ drop n out) a ∙ ap (λ (m : ℕ). restful Z t ++ drop m out) q;
    }

drop-set : (x : List ℕ) (j e : ℕ) → j < length x → drop j (set x j e) ≡ e ∷ drop (suc j) x
drop-set [] j e h = absurd (omega arith)
drop-set (y ∷ x) zero e h = refl
drop-set (y ∷ x) (suc j) e h = drop-set x j e (omega arith)

-- there is room for one that may sleep
pub written-room : {Z : Sizes} {t out₀ out : List ℕ} {k e j : ℕ} → Written Z t out₀ k e j out → k ≢ 0 → sleepable (world_of Z t) (observed_at (tables Z t).fit e) ≡ true → (0 < j) × (j ≤ length out)
written-room {Z} {t} {out₀} {out} {k} {e} {j} W d h =
    let r = restful_to Z t (k - 1) ((scan_in Z (tables Z t)).prev e) in
    let a : length (restful_to Z t k e) ≡ length r + 1 = ap length (restful-yes Z t k e d h) ∙ length-append r (e ∷ []) in
    let b = W.place in
    (omega arith, W.room)

pub written-more : {Z : Sizes} {t out₀ out out' : List ℕ} {k e j : ℕ} (j' : ℕ) → Sound Z t → Written Z t out₀ k e j out → k ≢ 0 → Wrote Z t e j j' out out'
    → Written Z t out₀ (k - 1) ((scan_in Z (tables Z t)).prev e) j' out'
written-more {Z} {t} {out₀} {out} {out'} {k} {e} {j} j' S W d D = go (sleepable (world_of Z t) (observed_at (tables Z t).fit e)) refl
  where
    r : List ℕ
    r = restful_to Z t (k - 1) ((scan_in Z (tables Z t)).prev e)

    go : (b : Bool) → sleepable (world_of Z t) (observed_at (tables Z t).fit e) ≡ b → Written Z t out₀ (k - 1) ((scan_in Z (tables Z t)).prev e) j' out'
    go true h =
        let y = D.rests h in
        let q : restful_to Z t k e ≡ r ++ (e ∷ []) = restful-yes Z t k e d h in
        let a : length (restful_to Z t k e) ≡ length r + 1 = ap length q ∙ length-append r (e ∷ []) in
        let p = W.place in
        let m = W.room in
        let s : j' + 1 ≡ j = y.0 in
        let n : suc j' ≡ j = omega arith in
        let v : length out' ≡ length out = ap length y.1 ∙ length-set out j' e in
        record {
          stands = stands-prev S k e (W.stands d);
          place = omega arith;
          long = v ∙ W.long;
          room = omega arith;
          behind =
              ap (λ (x : List ℕ). r ++ drop j' x) y.1 ∙ ap (λ (x : List ℕ). r ++ x) (drop-set out j' e (omega arith)) ∙ ap (λ (i : ℕ). r ++ (e ∷ drop i out)) n
              ∙ sym (append_assoc r (e ∷ []) (drop j out)) ∙ ap (λ (x : List ℕ). x ++ drop j out) (sym q) ∙ W.behind;
        }
    go false h =
        let y = D.wakes h in
        let q : restful_to Z t k e ≡ r = restful-no Z t k e d h in
        let v : length out' ≡ length out = ap length y.1 in
        record {
          stands = stands-prev S k e (W.stands d);
          place = y.0 ∙ W.place ∙ ap length q;
          long = v ∙ W.long;
          room = (let s = y.0 in let m = W.room in omega arith);
          behind = ap (λ (x : List ℕ). r ++ drop j' x) y.1 ∙ ap (λ (i : ℕ). r ++ drop i out) y.0 ∙ ap (λ (x : List ℕ). x ++ drop j out) (sym q) ∙ W.behind;
        }

written_all : {Z : Sizes} {t out₀ out : List ℕ} {k e j : ℕ} → k ≡ 0 → Written Z t out₀ k e j out → out ≡ restful Z t ++ drop (length (restful Z t)) out₀
written_all {Z} {t} {out₀} {out} {k} {e} {j} z W =
    let a : restful_to Z t k e ≡ [] = ap (λ (n : ℕ). restful_to Z t n e) z ∙ restful-none Z t e in
    let b : j ≡ 0 = W.place ∙ ap length a in
    sym (ap (λ (x : List ℕ). x ++ drop j out) a ∙ ap (λ (i : ℕ). drop i out) b) ∙ W.behind

drop-whole : (x : List ℕ) (n : ℕ) → length x ≡ n → drop n x ≡ []
drop-whole [] n e = let z : n ≡ 0 = sym e in rw z
drop-whole (y ∷ x) zero e = absurd (omega arith)
drop-whole (y ∷ x) (suc n) e = drop-whole x n (omega arith)

-- an output that has room for just these
pub written_whole : {Z : Sizes} {t out₀ out : List ℕ} {k e j : ℕ} → k ≡ 0 → length out₀ ≡ length (restful Z t) → Written Z t out₀ k e j out → out ≡ restful Z t
written_whole {Z} {t} {out₀} {out} z q W = written_all z W ∙ ap (λ (x : List ℕ). restful Z t ++ x) (drop-whole out₀ (length (restful Z t)) q) ∙ append-nil (restful Z t)
