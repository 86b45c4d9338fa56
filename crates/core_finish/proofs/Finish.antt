-- finish: no scan open, an output that is too short, the list.
use mathlib.Core.Path.{◌≡◌, refl, sym, ◌∙◌, ap, subst}
use mathlib.Core.Bool.{Bool, true, false, not}
use mathlib.Core.List.{List, [], ◌++◌}
use Prim.Native.Nat.{ℕ, ◌≤◌, ◌<◌}
use borrow.Author.Tests.{lt-ltb, le-ltb}
use lib.Dec.{ltb}
use lib.ListN.{length, drop}
use Rattle.def_kinds.specs.Choice.{pick}
use Rattle.def_kinds.specs.declared.Sizes.{Sizes}
use Rattle.def_kinds.specs.declared.Scan.{Scan}
use Rattle.def_kinds.specs.Answers.{Answer, Done, NoScan, TooShort}
use Rattle.def_state.specs.World.{World, done, gives}
use Rattle.def_state.specs.Fields.{scan_set}
use Rattle.def_state.specs.Scan.{sleepables, Listing, finish_sleep_scan}
use Rattle.def_state.specs.Calls.{finished}
use Rattle.table_meaning.specs.Decode.{world_of}
use Rattle.table_meaning.specs.Sound.{Sound}
use Rattle.core_laws.specs.Steps.{Steps}
use Rattle.core_laws.proofs.Then.{refused, does-as, does-then}
use Rattle.core_scan.specs.Scanning.{forget, stamped, ScanIs, Forgotten}
use Rattle.core_finish.specs.Restful.{restful}
use Rattle.core_finish.specs.Listing.{listed_of, Finishes}

-- ---- the definition, by its cases: is the scan open, is the output too short
abbrev pub finish_as : Bool → Bool → World → List ℕ → Listing
finish_as o s w list =
    pick (not o) (record { answer = NoScan; listed = []; after = w })
    (pick s (record { answer = TooShort; listed = []; after = w }) (record { answer = Done; listed = list; after = scan_set w w.sleep_scan_stamp false [] }))

module _ (room : ℕ) (w : World) where
  abbrev list : List ℕ
  list = sleepables w w.sleep_scan_touched

  pub finish-is : finish_sleep_scan room w ≡ finish_as w.scanning (ltb room (length list)) w list
  unfolding finish_sleep_scan
  finish-is = refl

  shut-is : w.scanning ≡ false → finish_sleep_scan room w ≡ record { answer = NoScan; listed = []; after = w }
  shut-is o = finish-is ∙ ap (λ (b : Bool). finish_as b (ltb room (length list)) w list) o

  short-is : w.scanning ≡ true → room < length list → finish_sleep_scan room w ≡ record { answer = TooShort; listed = []; after = w }
  short-is o l = finish-is ∙ ap (λ (b : Bool). finish_as b (ltb room (length list)) w list) o ∙ ap (λ (b : Bool). finish_as true b w list) (lt-ltb room (length list) l)

  done-is : w.scanning ≡ true → length list ≤ room → finish_sleep_scan room w ≡ record { answer = Done; listed = list; after = scan_set w w.sleep_scan_stamp false [] }
  done-is o l = finish-is ∙ ap (λ (b : Bool). finish_as b (ltb room (length list)) w list) o ∙ ap (λ (b : Bool). finish_as true b w list) (le-ltb room (length list) l)

  finished-is : (l : Listing) → finish_sleep_scan room w ≡ l → finished room w ≡ gives l.answer l.after
  unfolding finished
  finished-is l e = ap (λ (x : Listing). gives x.answer x.after) e

-- ---- nothing is listed, and nothing changes
unlisted : {Z : Sizes} {t : List ℕ} (out : List ℕ) (r : Answer) → Sound Z t → finish_sleep_scan (length out) (world_of Z t) ≡ record { answer = r; listed = []; after = world_of Z t }
    → Finishes Z t out r 0 t out
unlisted {Z} {t} out r S e =
    let l : listed_of (length out) (world_of Z t) ≡ [] = ap (λ (x : Listing). x.listed) e in
    record {
      does = refused (finished (length out)) r S (finished-is (length out) (world_of Z t) _ e);
      length_is = sym (ap length l);
      out_is = sym (ap (λ (x : List ℕ). x ++ drop (length x) out) l);
    }

open_is : {Z : Sizes} {t : List ℕ} (s : Scan) → ScanIs Z t s → s.open ≡ (world_of Z t).scanning
unfolding world_of
open_is s I = I.opened

stamp_is : {Z : Sizes} {t : List ℕ} (s : Scan) → ScanIs Z t s → s.stamp ≡ (world_of Z t).sleep_scan_stamp
unfolding world_of
stamp_is s I = I.stamp

module _ {Z : Sizes} {t : List ℕ} (out : List ℕ) (s : Scan) (S : Sound Z t) (I : ScanIs Z t s) where
  pub finish-shut : s.open ≡ false → Finishes Z t out NoScan 0 t out
  finish-shut o = unlisted out NoScan S (shut-is (length out) (world_of Z t) (sym (open_is s I) ∙ o))

  module _ (o : s.open ≡ true) (n : ℕ) (q : n ≡ length (restful Z t)) where
    pub finish-short : length out < n → Finishes Z t out TooShort 0 t out
    finish-short l = unlisted out TooShort S (short-is (length out) (world_of Z t) (sym (open_is s I) ∙ o) (subst (λ (k : ℕ). length out < k) q l))

    pub finish-done : {t1 t2 front : List ℕ} (s' : Scan) → n ≤ length out → front ≡ restful Z t → Forgotten Z t t1 → (s'.stamp ≡ s.stamp) → (s'.open ≡ false)
        → Steps Z (stamped s'.stamp s'.open) t1 t2 → Finishes Z t out Done n t2 (front ++ drop n out)
    unfolding forget stamped
    finish-done {t1} {t2} {front} s' l e A p c B =
        let w = world_of Z t in
        let f = done-is (length out) w (sym (open_is s I) ∙ o) (subst (λ (k : ℕ). k ≤ length out) q l) in
        let g : listed_of (length out) w ≡ restful Z t = ap (λ (x : Listing). x.listed) f in
        record {
          does =
              does-as (λ v. stamped s'.stamp s'.open (forget v).after) (finished (length out))
              (ap (λ (k : ℕ). done (scan_set w k s'.open [])) (p ∙ stamp_is s I) ∙ ap (λ (b : Bool). done (scan_set w w.sleep_scan_stamp b [])) c ∙ sym (finished-is (length out) w _ f))
              (does-then forget (stamped s'.stamp s'.open) B.larger A.steps.does B.does);
          length_is = q ∙ sym (ap length g);
          out_is = ap (λ (x : List ℕ). x ++ drop n out) e ∙ ap (λ (k : ℕ). restful Z t ++ drop k out) q ∙ sym (ap (λ (x : List ℕ). x ++ drop (length x) out) g);
        }
