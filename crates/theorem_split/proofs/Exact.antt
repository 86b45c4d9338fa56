-- A split is exact, and leaves connected islands.
use mathlib.Core.Path.{◌≡◌, refl, sym, ◌∙◌, ap, subst}
use mathlib.Core.Logic.{inl, inr, ◌≢◌, ⊎_elim}
use mathlib.Core.Bool.{Bool, true, false, not, ◌&&◌, false≢true}
use mathlib.Core.Option.{Option, none, some}
use mathlib.Core.List.{List}
use Prim.Native.Nat.{ℕ, ◌≤◌}
use native.Mathlib.Omega.{arith}
use lib.ListN.{length}
use borrow.Author.Tests.{le-leb}
use Rattle.list_in_table.proofs.Laws.{either}
use Rattle.def_kinds.specs.declared.Sizes.{Sizes}
use Rattle.def_kinds.specs.Answers.{Answer, Done, Nothing, NoIsland, BadTables}
use Rattle.def_state.specs.Plain.{top}
use Rattle.def_state.specs.World.{Handle, Island, World, Step, island_at, named, island_of, body_island, live}
use Rattle.def_state.specs.Fields.{split_set}
use Rattle.def_state.specs.Connected.{components}
use Rattle.def_state.specs.Split.{labels_of, checked, split, split_island_now, run_split, run_pending_split}
use Rattle.table_meaning.specs.Decode.{world_of}
use Rattle.table_meaning.specs.Layout.{tables, extents}
use Rattle.table_meaning.specs.Sound.{Good, Sound}
use Rattle.table_meaning.proofs.Unique.{slots-is, islands-is}
use Rattle.table_meaning.specs.Does.{Does, Called}
use Rattle.theorem_split.specs.Graph.{In, Stands, Own, Whole}
use Rattle.theorem_split.specs.Fine.{Apart, Fine}
use Rattle.theorem_split.specs.Parted.{Parted}
use Rattle.theorem_split.specs.Exact.{SameMembers, Exact}
use Rattle.theorem_split.proofs.Homes.{bool, member}
use Rattle.theorem_split.proofs.Paths.{one-step, along}
use Rattle.theorem_split.proofs.Split.{some-live, it as live-number, whole-one}
use Rattle.theorem_split.proofs.Several.{split_parts}
use Rattle.theorem_split.proofs.Enough.{split-long, split-small}
use Rattle.theorem_split.proofs.Sound.{sound-fine}

module _ (i : ℕ) (w v : World) (A : Apart w) (it : i ≢ top) (P : Parted i w v) where
  abbrev was : Handle → ℕ
  was h = body_island w h

  abbrev is : Handle → ℕ
  is h = body_island v h

  -- an island that is live beside i has afterwards the bodies that it had
  lives : (j : ℕ) (a : Handle) → was a ≡ j → j ≢ top → live w j ≡ true
  lives j a e t = some-live w j (member w j a e t).listed

  not-i : (j : ℕ) → j ≢ i → live w j ≡ true → j ≢ top → (h : Handle) → is h ≡ j → was h ≢ i
  not-i j d l t h e q =
      d
      (sym
      (A.once i j h.slot (member w i h q it).listed
      (subst (λ (a : Island). In h.slot a.bodies) (P.other j d l) (member v j h e t).listed)))

  -- what is together with a body of i was in i
  pub came_from : (h a : Handle) → was h ≡ i → is a ≡ is h → was a ≡ i
  came_from h a e q =
      either (was a) i (λ o. o)
      (λ d.
      let s : is a ≡ was a = P.stay a d in
      let t : was a ≢ top = λ o. P.some h e (sym q ∙ s ∙ o) in
      absurd (not-i (was a) d (lives (was a) a refl t) t h (sym q ∙ s) e))

  -- a link of i between two bodies is afterwards a link of the island where they are
  carried : (j : ℕ) (a b : Handle) → is a ≡ j → Own w i a b → Own v j a b × (is b ≡ j)
  carried j a b e o =
      let eb : is b ≡ j = sym ((P.together a b o.first o.second).1 (one-step o)) ∙ e in
      let w1 : was o.link.body1 ≡ i = ⊎_elim (λ q. ap was q.0 ∙ o.first) (λ q. ap was q.0 ∙ o.second) o.joins in
      let v1 : is o.link.body1 ≡ j = ⊎_elim (λ q. ap is q.0 ∙ e) (λ q. ap is q.0 ∙ eb) o.joins in (
        record {
          link = o.link;
          stands = subst (λ (k : ℕ). Stands v k o.link) v1 (P.first o.link o.stands w1);
          joins = o.joins;
          first = e;
          second = eb;
        },
        eb,
      )

  pub whole_part : (h : Handle) → was h ≡ i → Whole v (is h)
  whole_part h e a b ea eb =
      let wa = came_from h a e ea in
      let wb = came_from h b e eb in
      along (λ (x : Handle). is x ≡ is h) (λ x y q o. carried (is h) x y q o) ea ((P.together a b wa wb).0 (ea ∙ sym eb))

  -- an island is connected afterwards if it was before, and if it is i or new
  pub whole-after : (j : ℕ) → j ≢ top → (j ≢ i → Whole w j) → Whole v j
  whole-after j t W a b ea eb =
      either (was a) i (λ e. subst (λ (k : ℕ). Whole v k) ea (whole_part a e) a b ea eb)
      (λ d.
      let wa : was a ≡ j = sym (P.stay a d) ∙ ea in
      let ji : j ≢ i = λ q. d (wa ∙ q) in
      let jl = lives j a wa t in
      let wb : was b ≡ j = sym (P.stay b (not-i j ji jl t b eb)) ∙ eb in
      along (λ (x : Handle). is x ≡ j)
      (λ x y q o.
      let ey : is y ≡ j = P.stay y (λ k. ji (sym o.second ∙ k)) ∙ o.second in
      (record { link = o.link; stands = P.kept j o.link ji o.stands; joins = o.joins; first = q; second = ey }, ey))
      ea
      (W ji a b wa wb))

  pub members-of : SameMembers w v
  members-of h = (
    (λ d e. d (P.stay h (λ q. it (sym q ∙ e)) ∙ e)),
    (λ d. either (was h) i (λ e. P.some h e) (λ o q. d (sym (P.stay h o) ∙ q))),
  )

  pub exact-of : Exact i w v
  exact-of = record { members = members-of; stay = P.stay; together = P.together; whole = whole_part; others = P.other }

-- ---- of tables

-- the split that an accepted call makes
pub split-made : (i : ℕ) (w : World) → (split_island_now i w).answer ≡ Done → (live w i ≡ true) × ((split_island_now i w).after ≡ split i w)
unfolding split_island_now
split-made i w e = bool (live w i) (λ l. (l, rw l)) (λ l. absurd (differ (sym (rw l at e))))
  where
    differ : ◌≡◌ {A = Answer} Done NoIsland → ⊥
    differ q = let z : ◌≡◌ {A = ℕ} 0 1 = cc in omega arith

-- the answer of an accepted call is not 9
not-nine : (r : Answer) → r ≡ Done → r ≡ BadTables → ⊥
not-nine r p q = let z : ◌≡◌ {A = ℕ} 0 1 = cc in omega arith

pub accepted : (Z : Sizes) (f : World → Step) (t : List ℕ) (r : Answer) (t' : List ℕ) → Called Z f t r t' → r ≡ Done → Sound Z t × Does Z f t r t'
accepted Z f t r t' (inl c) e = c
accepted Z f t r t' (inr c) e = absurd (not-nine r e c.nine)

module _ (Z : Sizes) (i : ℕ) (t : List ℕ) (r : Answer) (t' : List ℕ) (c : Called Z (split_island_now i) t r t') (e : r ≡ Done) where
  ok : Sound Z t × Does Z (split_island_now i) t r t'
  ok = accepted Z (split_island_now i) t r t' c e

  made : (live (world_of Z t) i ≡ true) × ((split_island_now i (world_of Z t)).after ≡ split i (world_of Z t))
  made = split-made i (world_of Z t) (sym ok.1.answer ∙ e)

  pub split-parted : Parted i (world_of Z t) (world_of Z t')
  split-parted =
      let q : world_of Z t' ≡ split i (world_of Z t) = ok.1.after ∙ made.1 in
      subst (λ (v : World). Parted i (world_of Z t) v) (sym q)
      (split_parts (world_of Z t) (sound-fine Z t ok.0) i made.0 (subst (λ (v : World). length v.islands ≤ top) q (sound-fine Z t' ok.1.sound).apart.small))

  -- an accepted split is exact
  pub split-exact : Exact i (world_of Z t) (world_of Z t')
  split-exact =
      let F = sound-fine Z t ok.0 in
      exact-of i (world_of Z t) (world_of Z t') F.apart (live-number (world_of Z t) F i made.0) split-parted

-- ---- the waiting split: the pending number is cleared, then the split

pub fine-pending : (w : World) (o : Option ℕ) → Fine w → Fine (split_set w o)
fine-pending w o F =
    record {
      apart = record { small = F.apart.small; once = F.apart.once };
      stack = record { below = F.stack.below; differ = F.stack.differ };
      single = F.single;
      few = F.few;
      alive = F.alive;
      edges = F.edges;
      keys = F.keys;
      free = F.free;
      unused = F.unused;
      slots = F.slots;
    }

pub pending-home : (w : World) (o : Option ℕ) (h : Handle) → body_island (split_set w o) h ≡ body_island w h
unfolding body_island named island_of
pending-home w o h = refl

pub pending-live : (w : World) (o : Option ℕ) (j : ℕ) → live (split_set w o) j ≡ live w j
unfolding live
pending-live w o j = refl

-- which island an accepted run splits
pub record Ran (w v : World) : Type 0 where
  pub number : ℕ
  pub was_pending : w.split_island ≡ some number
  pub was_live : live w number ≡ true
  pub after : v ≡ split number (split_set w none)

pub run-made : (w : World) → (run_pending_split w).answer ≡ Done → Ran w (run_pending_split w).after
unfolding run_pending_split
run-made w e = cases w.split_island refl
  where
    differ : ◌≡◌ {A = Answer} Nothing Done → ⊥
    differ q = let z : ◌≡◌ {A = ℕ} 0 1 = cc in omega arith

    both : (a b : Bool) → a && b ≡ true → a ≡ true
    both true b q = refl
    both false b q = absurd (false≢true q)

    cases : (o : Option ℕ) → w.split_island ≡ o → Ran w (run_split w.split_island (split_set w none)).after
    cases none q = absurd (differ (ap (λ (x : Option ℕ). (run_split x (split_set w none)).answer) (sym q) ∙ e))
    cases (some i) q =
        bool (live (split_set w none) i && not (island_at w i).sleeping)
        (λ l.
        record {
          number = i;
          was_pending = q;
          was_live = sym (pending-live w none i) ∙ both (live (split_set w none) i) _ l;
          after = ap (λ (x : Option ℕ). (run_split x (split_set w none)).after) q ∙ rw l;
        })
        (λ l. absurd (differ (sym (rw l) ∙ ap (λ (x : Option ℕ). (run_split x (split_set w none)).answer) (sym q) ∙ e)))

own-pending : (w : World) (o : Option ℕ) (i : ℕ) (a b : Handle) → Own (split_set w o) i a b → Own w i a b
own-pending w o i a b x =
    record {
      link = x.link;
      stands = x.stands;
      joins = x.joins;
      first = sym (pending-home w o a) ∙ x.first;
      second = sym (pending-home w o b) ∙ x.second;
    }

pending-own : (w : World) (o : Option ℕ) (i : ℕ) (a b : Handle) → Own w i a b → Own (split_set w o) i a b
pending-own w o i a b x =
    record {
      link = x.link;
      stands = x.stands;
      joins = x.joins;
      first = pending-home w o a ∙ x.first;
      second = pending-home w o b ∙ x.second;
    }

exact-pending : (w : World) (o : Option ℕ) (i : ℕ) (v : World) → Exact i (split_set w o) v → Exact i w v
exact-pending w o i v E =
    record {
      members = λ h. ((λ d e. (E.members h).0 d (pending-home w o h ∙ e)), (λ d. (E.members h).1 (λ e. d (sym (pending-home w o h) ∙ e))));
      stay = λ h d. E.stay h (λ e. d (sym (pending-home w o h) ∙ e)) ∙ pending-home w o h;
      together =
          λ a b ha hb.
          let T = E.together a b (pending-home w o a ∙ ha) (pending-home w o b ∙ hb) in (
            (λ e. along (λ (x : Handle). Unit {0}) (λ x y u s. (own-pending w o i x y s, tt)) tt (T.0 e)),
            (λ p. T.1 (along (λ (x : Handle). Unit {0}) (λ x y u s. (pending-own w o i x y s, tt)) tt p)),
          );
      whole = λ h e. E.whole h (pending-home w o h ∙ e);
      others = λ j d l. E.others j d (pending-live w o j ∙ l);
    }

pub run-parted : (Z : Sizes) (t : List ℕ) (r : Answer) (t' : List ℕ) → Sound Z t × Does Z run_pending_split t r t' → r ≡ Done
    → (n : ℕ) × ((world_of Z t).split_island ≡ some n) × (live (world_of Z t) n ≡ true) × Parted n (split_set (world_of Z t) none) (world_of Z t')
run-parted Z t r t' c e =
    let R = run-made (world_of Z t) (sym c.1.answer ∙ e) in
    let q : world_of Z t' ≡ split R.number (split_set (world_of Z t) none) = c.1.after ∙ R.after in (
      R.number,
      R.was_pending,
      R.was_live,
      subst (λ (v : World). Parted R.number (split_set (world_of Z t) none) v) (sym q)
          (split_parts (split_set (world_of Z t) none) (fine-pending (world_of Z t) none (sound-fine Z t c.0)) R.number (pending-live (world_of Z t) none R.number ∙ R.was_live)
          (subst (λ (v : World). length v.islands ≤ top) q (sound-fine Z t' c.1.sound).apart.small)),
    )

-- an accepted run splits the pending island, exactly
pub run-exact : (Z : Sizes) (t : List ℕ) (r : Answer) (t' : List ℕ) → Called Z run_pending_split t r t' → r ≡ Done
    → (n : ℕ) × ((world_of Z t).split_island ≡ some n) × Exact n (world_of Z t) (world_of Z t')
run-exact Z t r t' c e =
    let k = accepted Z run_pending_split t r t' c e in
    let R = run-parted Z t r t' k e in
    let F = sound-fine Z t k.0 in
    let F' = fine-pending (world_of Z t) none F in (
      R.0,
      R.1,
      exact-pending (world_of Z t) none R.0 (world_of Z t')
          (exact-of R.0 (split_set (world_of Z t) none) (world_of Z t') F'.apart (live-number (world_of Z t) F R.0 R.2) R.3),
    )

-- ---- an island that is connected: nothing but its count and its denial changes

pub whole-checked : (w : World) → Fine w → (i : ℕ) → live w i ≡ true → Whole w i → split i w ≡ checked i w
unfolding split
whole-checked w F i lv W = rw (le-leb (components (labels_of w i)) 1 (whole-one w F i lv W))

-- ---- without a call: of any sound tables and any live island

module _ (Z : Sizes) (t : List ℕ) (S : Sound Z t) (i : ℕ) (lv : live (world_of Z t) i ≡ true) where
  abbrev G : Good Z (extents (tables Z t)) (tables Z t)
  G = S.good

  few-slots : length (world_of Z t).bodies ≤ Z.islands
  few-slots = let a = slots-is Z t in let b = G.slots_le in let c = G.enough in omega arith

  -- island numbers do not run out
  pub split-room : length (split i (world_of Z t)).islands ≤ Z.islands
  split-room =
      let b = islands-is Z t in
      let c = G.islands_le in
      let d = few-slots in
      ⊎_elim (λ e. omega arith) (λ e. omega arith) (split-long (world_of Z t) (sound-fine Z t S) i lv)

  split-top : length (split i (world_of Z t)).islands ≤ top
  split-top = split-small (world_of Z t) (sound-fine Z t S) (let a = slots-is Z t in let b = G.members_wf.rules.n_small in omega arith) i lv

  pub parted-now : Parted i (world_of Z t) (split i (world_of Z t))
  parted-now = split_parts (world_of Z t) (sound-fine Z t S) i lv split-top

  pub exact-now : Exact i (world_of Z t) (split i (world_of Z t))
  exact-now =
      let F = sound-fine Z t S in
      exact-of i (world_of Z t) (split i (world_of Z t)) F.apart (live-number (world_of Z t) F i lv) parted-now
