-- Oren's promise: a finish lists no island that was observed unfit, nor one that ties lead to from there.
use mathlib.Core.Path.{◌≡◌, refl, sym, ◌∙◌, ap, subst}
use mathlib.Core.Logic.{◌⊎◌, inl, inr, ◌≢◌, ⊎_elim}
use mathlib.Core.Bool.{Bool, true, false, ◌&&◌, not}
use mathlib.Core.List.{List, [], ◌∷◌}
use Prim.Native.Nat.{ℕ}
use lib.ListN.{length}
use lib.Dec.{eqb, ltb}
use borrow.Author.Tests.{eqb-true, eqb-false}
use Rattle.def_kinds.specs.Choice.{pick}
use Rattle.def_kinds.specs.declared.Sizes.{Sizes}
use Rattle.def_kinds.specs.Answers.{Answer}
use Rattle.def_state.specs.World.{Handle, Observed, World, body_island}
use Rattle.def_state.specs.Scan.{observed, sleepable, sleepables, Listing, finish_sleep_scan}
use Rattle.def_state.specs.Calls.{Call, Observe, perform}
use Rattle.table_meaning.specs.Decode.{world_of}
use Rattle.table_meaning.specs.Does.{Called}
use Rattle.theorem_split.specs.Graph.{In, here, there}
use Rattle.theorem_split.proofs.Member.{none_in}
use Rattle.theorem_split.proofs.Homes.{bool}
use Rattle.theorem_split.proofs.Paths.{same-along}
use Rattle.theorem_history.specs.History.{History, reset, call}
use Rattle.theorem_history.specs.Ties.{is_done}
use Rattle.theorem_history.specs.Promises.{Sight, nothing, over, unfit, sight, Sees, Unfit, SeenUnfit, Tied, NoUnfit, NoneTiedToUnfit}
use Rattle.theorem_history.proofs.Basic.{ways, observe-same}
use Rattle.theorem_history.proofs.Sentences.{reset-empty, after, share}
use Rattle.theorem_history.proofs.Turns.{Noted, kept, fit, seen, gone, turned}

-- ---- the scan list: no number stands twice in it

-- no entry has the number i
abbrev Lacks : ℕ → List Observed → Type 0
Lacks i [] = Unit {0}
Lacks i (o ∷ os) = (o.island ≢ i) × Lacks i os

abbrev Once : List Observed → Type 0
Once [] = Unit {0}
Once (o ∷ os) = Lacks o.island os × Once os

-- the one entry with the number i is not eligible
abbrev Marked : ℕ → List Observed → Type 0
Marked i [] = ⊥
Marked i (o ∷ os) = ((o.island ≡ i) × (o.eligible ≡ false) × Lacks i os) ⊎ ((o.island ≢ i) × Marked i os)

lacks-observed : (i j : ℕ) (e : Bool) (os : List Observed) → j ≢ i → Lacks i os → Lacks i (observed j e os)
unfolding observed
lacks-observed i j e [] d l = (d, tt)
lacks-observed i j e (o ∷ os) d l =
    ways (λ (xs : List Observed). Lacks i xs) (eqb o.island j) (λ q. (d, l.1)) (λ q. (l.0, lacks-observed i j e os d l.1))

once-observed : (j : ℕ) (e : Bool) (os : List Observed) → Once os → Once (observed j e os)
unfolding observed
once-observed j e [] u = (tt, tt)
once-observed j e (o ∷ os) u =
    ways (λ (xs : List Observed). Once xs) (eqb o.island j) (λ q. (subst (λ (k : ℕ). Lacks k os) (eqb-true o.island j q) u.0, u.1))
    (λ q. (lacks-observed o.island j e os (λ z. eqb-false o.island j q (sym z)) u.0, once-observed j e os u.1))

-- ---- an entry that is not eligible stays so

and-false : (b : Bool) → (b && false) ≡ false
and-false true = refl
and-false false = refl

marked-new : (i : ℕ) (os : List Observed) → Once os → Marked i (observed i false os)
unfolding observed
marked-new i [] u = inl (refl, refl, tt)
marked-new i (o ∷ os) u =
    ways (λ (xs : List Observed). Marked i xs) (eqb o.island i)
    (λ q. inl (refl, and-false o.eligible, subst (λ (k : ℕ). Lacks k os) (eqb-true o.island i q) u.0))
    (λ q. inr (eqb-false o.island i q, marked-new i os u.1))

marked-observed : (i j : ℕ) (e : Bool) (os : List Observed) → Marked i os → Marked i (observed j e os)
unfolding observed
marked-observed i j e [] m = absurd m
marked-observed i j e (o ∷ os) (inl m) =
    ways (λ (xs : List Observed). Marked i xs) (eqb o.island j)
    (λ q. inl (sym (eqb-true o.island j q) ∙ m.0, ap (λ (b : Bool). b && e) m.1, m.2))
    (λ q. inl (m.0, m.1, lacks-observed i j e os (λ z. eqb-false o.island j q (m.0 ∙ sym z)) m.2))
marked-observed i j e (o ∷ os) (inr m) =
    ways (λ (xs : List Observed). Marked i xs) (eqb o.island j)
    (λ q. inr ((λ z. m.0 (eqb-true o.island j q ∙ z)), m.1))
    (λ q. inr (m.0, marked-observed i j e os m.1))

-- ---- and is not listed

in-cons : {A : Type 0} {x y : A} {ys : List A} → y ≢ x → (In x ys → ⊥) → In x (y ∷ ys) → ⊥
in-cons d f (here e) = d e
in-cons d f (there m) = f m

lacks-unlisted : (w : World) (i : ℕ) (os : List Observed) → Lacks i os → In i (sleepables w os) → ⊥
unfolding sleepables
lacks-unlisted w i [] l m = none_in m
lacks-unlisted w i (o ∷ os) l m = bool (sleepable w o) (λ q. in-cons l.0 (lacks-unlisted w i os l.1) (rw q at m)) (λ q. lacks-unlisted w i os l.1 (rw q at m))

unfit-sleepable : (w : World) (o : Observed) → o.eligible ≡ false → sleepable w o ≡ false
unfolding sleepable
unfit-sleepable w o e = rw e

marked-unlisted : (w : World) (i : ℕ) (os : List Observed) → Marked i os → In i (sleepables w os) → ⊥
unfolding sleepables
marked-unlisted w i [] k m = k
marked-unlisted w i (o ∷ os) (inl k) m = lacks-unlisted w i os k.2 (rw (unfit-sleepable w o k.1) at m)
marked-unlisted w i (o ∷ os) (inr k) m = bool (sleepable w o) (λ q. in-cons k.0 (marked-unlisted w i os k.1) (rw q at m)) (λ q. marked-unlisted w i os k.1 (rw q at m))

finish-unlisted : (w : World) (i room : ℕ) → Marked i w.sleep_scan_touched → In i (finish_sleep_scan room w).listed → ⊥
unfolding finish_sleep_scan
finish-unlisted w i room k =
    ways (λ (s : Listing). In i s.listed → ⊥) (not w.scanning) (λ q. λ m. none_in m)
    (λ q.
    ways (λ (s : Listing). In i s.listed → ⊥) (ltb room (length (sleepables w w.sleep_scan_touched))) (λ q. λ m. none_in m)
    (λ q. λ m. marked-unlisted w i w.sleep_scan_touched k m))

-- ---- over a history

noted-once : {s : Sight} {os ps : List Observed} → Noted s os ps → Once os → Once ps
noted-once {s} {os} (kept e) u = subst (λ (xs : List Observed). Once xs) (sym e) u
noted-once {s} {os} (fit i e) u = subst (λ (xs : List Observed). Once xs) (sym e) (once-observed i true os u)
noted-once {s} {os} (seen i e) u = subst (λ (xs : List Observed). Once xs) (sym e) (once-observed i false os u)
noted-once {s} {os} (gone e) u = subst (λ (xs : List Observed). Once xs) (sym e) tt

noted-marked : {s : Sight} {os ps : List Observed} (i : ℕ) (S : Type 0) → Noted s os ps → Once os → (S → Marked i os) → Sees s (λ (j : ℕ). i ≡ j) S → Marked i ps
noted-marked {s} {os} i S (kept e) u f m = subst (λ (xs : List Observed). Marked i xs) (sym e) (f m)
noted-marked {s} {os} i S (fit j e) u f m = subst (λ (xs : List Observed). Marked i xs) (sym e) (marked-observed i j true os (f m))
noted-marked {s} {os} i S (seen j e) u f (inl m) = subst (λ (xs : List Observed). Marked i xs) (sym e) (marked-observed i j false os (f m))
noted-marked {s} {os} i S (seen j e) u f (inr m) =
    subst (λ (xs : List Observed). Marked i xs) (sym e) (subst (λ (k : ℕ). Marked i (observed k false os)) m (marked-new i os u))
noted-marked {s} {os} i S (gone e) u f m = absurd m

-- one call
module _ {Z : Sizes} {t t' : List ℕ} (H : History Z t) (c : Call) (r : Answer) (d : Called Z (perform Z c) t r t') where
  noted_call : Noted (sight Z c (world_of Z t)) (world_of Z t).sleep_scan_touched (world_of Z t').sleep_scan_touched
  noted_call =
      subst (λ (v : World). Noted (sight Z c (world_of Z t)) (world_of Z t).sleep_scan_touched v.sleep_scan_touched) (sym (after H c r d)) (turned Z c (world_of Z t)).noted

once-holds : {Z : Sizes} {t : List ℕ} → History Z t → Once (world_of Z t).sleep_scan_touched
once-holds {Z} (reset e) = subst (λ (w : World). Once w.sleep_scan_touched) (sym (reset-empty e)) tt
once-holds {Z} (call {t} {t'} H c r d) = noted-once (noted_call H c r d) (once-holds H)

unfit-marked : {Z : Sizes} {t : List ℕ} (H : History Z t) (i : ℕ) → Unfit H i → Marked i (world_of Z t).sleep_scan_touched
unfit-marked (reset e) i u = absurd u
unfit-marked {Z} (call {t} {t'} H c r d) i u = noted-marked i (Unfit H i) (noted_call H c r d) (once-holds H) (unfit-marked H i) u

pub no-unfit : NoUnfit
no-unfit Z t H i u room m = finish-unlisted (world_of Z t) i room (unfit-marked H i u) m

-- ---- by bodies

sees-map : (s : Sight) {P Q : ℕ → Type 0} {S T : Type 0} → ((j : ℕ) → P j → Q j) → (S → T) → Sees s P S → Sees s Q T
sees-map nothing f g x = g x
sees-map over f g x = x
sees-map (unfit i) f g (inl x) = inl (g x)
sees-map (unfit i) f g (inr x) = inr (f i x)

-- the island of a body that was seen unfit was observed unfit
seen-unfit : {Z : Sizes} {t : List ℕ} (H : History Z t) (h : Handle) → SeenUnfit H h → Unfit H (body_island (world_of Z t) h)
seen-unfit (reset e) h u = absurd u
seen-unfit {Z} (call {t} {t'} H c r d) h u =
    subst (λ (i : ℕ). Unfit (call H c r d) i) (sym u.1) (sees-map (sight Z c (world_of Z t)) (λ j q. q) (seen-unfit H h) u.0)

tied-same : {Z : Sizes} {t : List ℕ} (H : History Z t) (a b : Handle) → Tied H a b → body_island (world_of Z t) a ≡ body_island (world_of Z t) b
tied-same {Z} {t} H a b (l, k, j) =
    let s = (share Z t H l k).0 in
    let f = body_island (world_of Z t) in
    ⊎_elim (λ q. sym (ap f q.0) ∙ s ∙ ap f q.1) (λ q. sym (ap f q.1) ∙ sym s ∙ ap f q.0) j

pub none-tied-to-unfit : NoneTiedToUnfit
none-tied-to-unfit Z t H a u b p room m =
    no-unfit Z t H (body_island (world_of Z t) a) (seen-unfit H a u) room
    (subst (λ (i : ℕ). In i (finish_sleep_scan room (world_of Z t)).listed) (sym (same-along (body_island (world_of Z t)) (tied-same H) p)) m)

-- ---- where only observations stand between begin and finish, what was seen stays seen

module _ {Z : Sizes} {t t' : List ℕ} (H : History Z t) (h : Handle) (r : Answer) where
  observe-home : (i : ℕ) (e : Bool) → Called Z (perform Z (Observe i e)) t r t' → body_island (world_of Z t') h ≡ body_island (world_of Z t) h
  unfolding perform
  observe-home i e d = ap (λ (v : World). body_island v h) (after H (Observe i e) r d) ∙ (observe-same i e (world_of Z t)).home h

  -- the body's island is observed unfit
  pub seen_first : (i : ℕ) (d : Called Z (perform Z (Observe i false)) t r t') → is_done (perform Z (Observe i false) (world_of Z t)) ≡ true → body_island (world_of Z t) h ≡ i
      → SeenUnfit (call H (Observe i false) r d) h
  seen_first i d ok e = (rw ok (inr e), observe-home i false d)

  -- and then any island, fit or not, refused or not
  pub seen-still : (i : ℕ) (e : Bool) (d : Called Z (perform Z (Observe i e)) t r t') → SeenUnfit H h → SeenUnfit (call H (Observe i e) r d) h
  seen-still i e d u = (keeps (is_done (perform Z (Observe i e) (world_of Z t))) e, observe-home i e d)
    where
      keeps : (b e : Bool) → Sees (pick b (pick e nothing (unfit i)) nothing) (λ (j : ℕ). body_island (world_of Z t) h ≡ j) (SeenUnfit H h)
      keeps false e = u
      keeps true true = u
      keeps true false = inl u
