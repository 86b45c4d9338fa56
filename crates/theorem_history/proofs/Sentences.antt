-- The four sentences of demand 3, for every history.
use mathlib.Core.Path.{◌≡◌, refl, sym, ◌∙◌, ap, subst}
use mathlib.Core.Logic.{inl, inr, ◌≢◌, ⊎_elim, ◌↔◌}
use mathlib.Core.Bool.{true, false≢true}
use mathlib.Core.List.{List, ◌∷◌}
use Prim.Native.Nat.{ℕ, ◌≤◌}
use native.Mathlib.Omega.{arith}
use lib.ListN.{length}
use Rattle.list_in_table.proofs.Laws.{either}
use lib.Dec.{eqb}
use Rattle.def_kinds.specs.Number.{number}
use Rattle.def_kinds.specs.declared.Sizes.{Sizes}
use Rattle.def_kinds.specs.Answers.{Answer, Done, BadTables}
use Rattle.def_state.specs.Plain.{top}
use Rattle.def_state.specs.World.{Handle, Key, World, empty_world, Step, body_island, live}
use Rattle.def_state.specs.Split.{split, split_island_now}
use Rattle.def_state.specs.Calls.{Call, Contact, Joint, Split, perform, run}
use Rattle.table_meaning.specs.Decode.{world_of}
use Rattle.table_meaning.specs.Sound.{Sound}
use Rattle.table_meaning.specs.Does.{Does, Called}
use Rattle.theorem_split.specs.Graph.{edge, joint, In, here, there, Bond, Stands, Own, Whole}
use Rattle.theorem_split.specs.Fine.{Apart, Fine}
use Rattle.theorem_split.specs.Exact.{SameMembers}
use Rattle.theorem_split.proofs.Member.{none_in}
use Rattle.theorem_split.proofs.Homes.{bool, member}
use Rattle.theorem_split.proofs.Paths.{along, same-along}
use Rattle.theorem_split.proofs.Split.{some-live, it as live-number}
use Rattle.theorem_split.proofs.Several.{split_parts}
use Rattle.theorem_split.proofs.Sound.{sound-fine}
use Rattle.theorem_split.proofs.Exact.{split-exact, run-exact, whole-after}
use Rattle.theorem_history.specs.History.{History, reset, call, Splits, none, next}
use Rattle.theorem_history.specs.Ties.{is_done, Tie, parts, Recorded}
use Rattle.theorem_history.specs.Clean.{Clean, Linked}
use Rattle.theorem_history.proofs.Change.{EntersIn, LinkedIn}
use Rattle.theorem_history.specs.Demand.{Share, Unnamed, Connected, ExactSplit, ExactRun, Components, Kept}
use Rattle.theorem_history.proofs.Keep.{Held, Closed, keep-closed}
use Rattle.theorem_history.proofs.Near.{empty-home, Near, Joined}
use Rattle.theorem_history.proofs.Halve.{split-change, split-members, split-links}
use Rattle.theorem_history.proofs.Record.{Somewhere}
use Rattle.theorem_history.proofs.All.{recorded-run, Runs, ties-run, closed_run, joined-run, call-run}

-- ---- the tables of a history are sound, and hold the state that the definitions give

done-nine : ◌≡◌ {A = Answer} Done BadTables → ⊥
done-nine e = let z : ◌≡◌ {A = ℕ} 0 1 = cc in omega arith

pub does : (Z : Sizes) (f : World → Step) (t : List ℕ) (r : Answer) (t' : List ℕ) → Sound Z t → Called Z f t r t' → Does Z f t r t'
does Z f t r t' S (inl d) = d.1
does Z f t r t' S (inr d) = absurd (d.unsound S)

pub history-sound : {Z : Sizes} {t : List ℕ} → History Z t → Sound Z t
history-sound (reset (inl e)) = e.sound
history-sound (reset (inr e)) = absurd (done-nine e.nine)
history-sound {Z} (call {t} {t'} H c r d) = (does Z (perform Z c) t r t' (history-sound H) d).sound

pub reset-empty : {Z : Sizes} {t t' : List ℕ} → Rattle.table_meaning.specs.Does.Reset Z t Done t' → world_of Z t' ≡ empty_world
reset-empty (inl e) = e.after
reset-empty (inr e) = absurd (done-nine e.nine)

-- one call of a history
module _ {Z : Sizes} {t t' : List ℕ} (H : History Z t) (c : Call) (r : Answer) (d : Called Z (perform Z c) t r t') where
  abbrev w : World
  w = world_of Z t

  pub after : world_of Z t' ≡ (perform Z c (world_of Z t)).after
  after = (does Z (perform Z c) t r t' (history-sound H) d).after

  runs : Runs Z (parts Z c (world_of Z t)) (world_of Z t) (perform Z c (world_of Z t)).after
  runs =
      call-run Z c w (sound-fine Z t (history-sound H)) (subst (λ (v : World). Apart v) after (sound-fine Z t' (does Z (perform Z c) t r t' (history-sound H) d).sound).apart)

  arrives : run Z (parts Z c (world_of Z t)) (world_of Z t) ≡ world_of Z t'
  arrives = runs.ends ∙ sym after

-- ---- 1: ties

pub ties-hold : {Z : Sizes} {t : List ℕ} (H : History Z t) (l : Bond) → Tie H l → Held (world_of Z t) l
ties-hold (reset e) l t = absurd t
ties-hold {Z} (call {t} {t'} H c r d) l h =
    subst (λ (v : World). Held v l) (arrives H c r d) (ties-run Z (parts Z c (world_of Z t)) (world_of Z t) (runs H c r d).changed (Tie H) (ties-hold H) l h)

pub share : Share
share Z t H l h = let k = ties-hold H l h in (k.first ∙ sym k.second, λ q. k.some (sym k.first ∙ q))

-- an accepted link of two members is a tie
module _ {Z : Sizes} {t t' : List ℕ} (H : History Z t) (h1 h2 : Handle) (m1 : body_island (world_of Z t) h1 ≢ top) (m2 : body_island (world_of Z t) h2 ≢ top) (r : Answer) (ok : r ≡ Done) where
  answered : (c : Call) → Called Z (perform Z c) t r t' → is_done (perform Z c (world_of Z t)) ≡ true
  answered c d = ap (λ (a : Answer). eqb (number a) 0) (sym (does Z (perform Z c) t r t' (history-sound H) d).answer ∙ ok)

  pub tie-contact : (e : ℕ) (d : Called Z (perform Z (Contact e h1 h2)) t r t') → Tie (call H (Contact e h1 h2) r d) (record { name = edge e; body1 = h1; body2 = h2 })
  tie-contact e d = rw (answered (Contact e h1 h2) d) (inr (refl, (m1, m2)))

  pub tie-joint : (q : Key) (d : Called Z (perform Z (Joint q h1 h2)) t r t') → Tie (call H (Joint q h1 h2) r d) (record { name = joint q; body1 = h1; body2 = h2 })
  tie-joint q d = rw (answered (Joint q h1 h2) d) (inr (refl, (m1, m2)))

-- ---- 2: connected where uncounted

pub joined-holds : {Z : Sizes} {t : List ℕ} → History Z t → Joined (world_of Z t)
joined-holds {Z} (reset {t} {t'} e) =
    λ j s c a b ea eb. absurd (s (sym ea ∙ ap (λ (x : World). body_island x a) (reset-empty e) ∙ empty-home a))
joined-holds {Z} (call {t} {t'} H c r d) =
    subst (λ (v : World). Joined v) (arrives H c r d) (joined-run Z (parts Z c (world_of Z t)) (world_of Z t) (runs H c r d).changed (joined-holds H))

own-only : (w : World) (j : ℕ) → Unnamed w j → (a b : Handle) → Near w j a b → Own w j a b
own-only w j u a b (inl o) = o
own-only w j u a b (inr e) =
    absurd
    (u e.entry e.listed (⊎_elim (λ q. ap (body_island w) q.0 ∙ e.first) (λ q. ap (body_island w) q.0 ∙ e.second) e.joins)
    (⊎_elim (λ q. ap (body_island w) q.1 ∙ e.second) (λ q. ap (body_island w) q.1 ∙ e.first) e.joins))

pub connected : Connected
connected Z t H j l c u a b ea eb =
    along (λ (x : Handle). Unit {0}) (λ x y z n. (own-only (world_of Z t) j u x y n, tt)) tt
    (joined-holds H j (live-number (world_of Z t) (sound-fine Z t (history-sound H)) j l) c a b ea eb)

-- ---- 3: exact

pub exact-split : ExactSplit
unfolding perform
exact-split Z i t r t' d e = split-exact Z i t r t' d e

pub exact-run : ExactRun
unfolding perform
exact-run Z t r t' d e = run-exact Z t r t' d e

-- ---- 4: components

-- what is RecordedAfter stands in some list
pub recorded-holds : {Z : Sizes} {t : List ℕ} (H : History Z t) (l : Bond) → Recorded H l ↔ Somewhere (world_of Z t) l
recorded-holds {Z} (reset e) l = ((λ r. absurd r), (λ s. none_in (subst (λ (v : World). Stands v s.0 l) (reset-empty e) s.1)))
recorded-holds {Z} (call {t} {t'} H c r d) l =
    subst (λ (v : World). Recorded (call H c r d) l ↔ Somewhere v l) (arrives H c r d)
    (recorded-run Z (parts Z c (world_of Z t)) (world_of Z t) (runs H c r d).changed (Recorded H) (recorded-holds H) l)

pub kept : Kept
kept Z t H l = recorded-holds H l

pub closed-holds : {Z : Sizes} {t : List ℕ} (H : History Z t) → Clean H → Closed (world_of Z t)
closed-holds {Z} (reset e) k = λ j l s. absurd (none_in (subst (λ (v : World). Stands v j l) (reset-empty e) s))
closed-holds {Z} (call {t} {t'} H c r d) k =
    let R = runs H c r d in
    let E : EntersIn (world_of Z t) (world_of Z t') = λ h o i j l s. k.1 h o i l ((recorded-holds H l).1 (j, s)) in
    subst (λ (v : World). Closed v) (arrives H c r d)
    (closed_run Z (parts Z c (world_of Z t)) (world_of Z t) R.changed (R.entering (subst (λ (v : World). EntersIn (world_of Z t) v) (after H c r d) E)) (closed-holds H k.0))

-- each split leaves the split island connected, and those that were so; and what is closed is closed
module _ (Z : Sizes) (n : ℕ) (t : List ℕ) (r : Answer) (t' : List ℕ) (S : Sound Z t) (d : Called Z (perform Z (Split n)) t r t') where
  D : Does Z (perform Z (Split n)) t r t'
  D = does Z (perform Z (Split n)) t r t' S d

  abbrev w0 : World
  w0 = world_of Z t

  abbrev v0 : World
  v0 = world_of Z t'

  F : Fine (world_of Z t)
  F = sound-fine Z t S

  F' : Fine (world_of Z t')
  F' = sound-fine Z t' D.sound

  split_after : world_of Z t' ≡ (split_island_now n (world_of Z t)).after
  unfolding perform
  split_after = D.after

  splits-whole : (j : ℕ) → j ≢ top → (j ≢ n → Whole (world_of Z t) j) → Whole (world_of Z t') j
  unfolding split_island_now
  splits-whole j jt W =
      bool (live w0 n)
      (λ l.
      let q : world_of Z t' ≡ split n (world_of Z t) = split_after ∙ rw l in
      subst (λ (v : World). Whole v j) (sym q)
      (whole-after n w0 (split n w0) F.apart (live-number w0 F n l) (split_parts w0 F n l (subst (λ (v : World). length v.islands ≤ top) q F'.apart.small)) j
      jt
      W))
      (λ l.
      let q : world_of Z t' ≡ world_of Z t = split_after ∙ rw l in
      subst (λ (v : World). Whole v j) (sym q)
      (either j n
      (λ e a b ea eb. absurd (false≢true (sym l ∙ some-live w0 n (member w0 n a (ea ∙ e) (λ z. jt (e ∙ z))).listed)))
      (λ o. W o)))

  B : Apart (split_island_now n (world_of Z t)).after
  B = subst (λ (v : World). Apart v) split_after F'.apart

  splits-closed : Closed (world_of Z t) → Closed (world_of Z t')
  splits-closed C =
      subst (λ (v : World). Closed v) (sym split_after) (keep-closed (λ h o i. absurd ((split-members w0 F n B h).0 i o)) C (split-change w0 F n B))

  splits-members : SameMembers (world_of Z t) (world_of Z t')
  splits-members = subst (λ (v : World). SameMembers w0 v) (sym split_after) (split-members w0 F n B)

  splits-linked : Closed (world_of Z t) → (a b : Handle) → LinkedIn (world_of Z t) a b ↔ LinkedIn (world_of Z t') a b
  splits-linked C a b = subst (λ (v : World). LinkedIn w0 a b ↔ LinkedIn v a b) (sym split_after) (split-links w0 F n B C a b)

-- all of them
splits-all : (Z : Sizes) (ns t t' : List ℕ) → Splits Z ns t t' → Sound Z t → Closed (world_of Z t) → ((j : ℕ) → j ≢ top → (In j ns → ⊥) → Whole (world_of Z t) j)
    → Closed (world_of Z t') × ((j : ℕ) → j ≢ top → Whole (world_of Z t') j)
splits-all Z ns t t' none S C W = (C, λ j jt. W j jt none_in)
splits-all Z ns t t' (next {n} {ns = ms} {u = u} r d k) S C W =
    splits-all Z ms u t' k (D Z n t r u S d).sound (splits-closed Z n t r u S d C)
    (λ j jt o. splits-whole Z n t r u S d j jt (λ q. W j jt (λ i. away j q o i)))
  where
    away : (j : ℕ) → j ≢ n → (In j ms → ⊥) → In j (n ∷ ms) → ⊥
    away j q o (here e) = q (sym e)
    away j q o (there i) = o i

-- a link between members holds both of them in its island
linked-same : (w : World) → Closed w → (a b : Handle) → LinkedIn w a b → body_island w a ≡ body_island w b
linked-same w C a b L =
    let c = C L.island L.link L.stands in
    ⊎_elim
    (λ q.
    let p : body_island w a ≡ L.island = ap (body_island w) (sym q.0) ∙ c.0 (λ z. L.first (ap (body_island w) (sym q.0) ∙ z)) in
    let r : body_island w b ≡ L.island = ap (body_island w) (sym q.1) ∙ c.1 (λ z. L.second (ap (body_island w) (sym q.1) ∙ z)) in
    p ∙ sym r)
    (λ q.
    let p : body_island w a ≡ L.island = ap (body_island w) (sym q.1) ∙ c.1 (λ z. L.first (ap (body_island w) (sym q.1) ∙ z)) in
    let r : body_island w b ≡ L.island = ap (body_island w) (sym q.0) ∙ c.0 (λ z. L.second (ap (body_island w) (sym q.0) ∙ z)) in
    p ∙ sym r)
    L.joins

-- ---- the links between members, and the members, are those before the splits

links-all : (Z : Sizes) (ns t t' : List ℕ) → Splits Z ns t t' → Sound Z t → Closed (world_of Z t) → (a b : Handle) → LinkedIn (world_of Z t) a b ↔ LinkedIn (world_of Z t') a b
links-all Z ns t t' none S C a b = ((λ x. x), (λ x. x))
links-all Z ns t t' (next {n} {ns = ms} {u = u} r d k) S C a b =
    let one = splits-linked Z n t r u S d C a b in
    let two = links-all Z ms u t' k (D Z n t r u S d).sound (splits-closed Z n t r u S d C) a b in
    ((λ x. two.0 (one.0 x)), (λ x. one.1 (two.1 x)))

members-all : (Z : Sizes) (ns t t' : List ℕ) → Splits Z ns t t' → Sound Z t → SameMembers (world_of Z t) (world_of Z t')
members-all Z ns t t' none S h = ((λ x. x), (λ x. x))
members-all Z ns t t' (next {n} {ns = ms} {u = u} r d k) S h =
    let one = splits-members Z n t r u S d h in
    let two = members-all Z ms u t' k (D Z n t r u S d).sound h in
    ((λ x. one.0 (two.0 x)), (λ x. two.1 (one.1 x)))

recorded-linked : {Z : Sizes} {t : List ℕ} (H : History Z t) (a b : Handle) → LinkedIn (world_of Z t) a b → Linked H a b
recorded-linked H a b L =
    record { link = L.link; RecordedAfter = (recorded-holds H L.link).1 (L.island, L.stands); joins = L.joins; first = L.first; second = L.second }

linked-recorded : {Z : Sizes} {t : List ℕ} (H : History Z t) (a b : Handle) → Linked H a b → LinkedIn (world_of Z t) a b
linked-recorded H a b L =
    let s = (recorded-holds H L.link).0 L.RecordedAfter in
    record { island = s.0; link = L.link; stands = s.1; joins = L.joins; first = L.first; second = L.second }

pub components : Components
components Z t t' H k ns all S =
    let w = world_of Z t in
    let v = world_of Z t' in
    let C = closed-holds H k in
    let M = members-all Z ns t t' S (history-sound H) in
    let R =
    splits-all Z ns t t' S (history-sound H) C (λ j jt o x y ex ey. absurd (o (all j (some-live w j (member w j x ex jt).listed)))) in
    let back : (x y : Handle) → LinkedIn v x y → Linked H x y = λ x y L. recorded-linked H x y ((links-all Z ns t t' S (history-sound H) C x y).1 L) in
    let forth : (x y : Handle) → Linked H x y → LinkedIn v x y = λ x y L. (links-all Z ns t t' S (history-sound H) C x y).0 (linked-recorded H x y L) in (
      M,
      (λ a b ma mb.
          let va : body_island v a ≢ top = (M a).1 ma in (
            (λ e.
                along (λ (x : Handle). Unit {0})
                (λ x y z o. (
                  back x y
                      (record {
                        island = body_island v a;
                        link = o.link;
                        stands = o.stands;
                        joins = o.joins;
                        first = λ q. va (sym o.first ∙ q);
                        second = λ q. va (sym o.second ∙ q);
                      }),
                  tt,
                ))
                tt
                (R.1 (body_island v a) va a b refl (sym e))),
            (λ p. same-along (body_island v) (λ x y L. linked-same v R.0 x y (forth x y L)) p),
          )),
    )
