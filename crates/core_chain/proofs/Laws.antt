-- Whom a chain links by its words, and the turns of the loops of a chain refresh.
use mathlib.Core.Path.{◌≡◌, refl, sym, ◌∙◌, ap, subst}
use mathlib.Core.Logic.{◌≢◌, inr}
use mathlib.Core.Bool.{Bool, true, false, not, cond, false≢true}
use mathlib.Core.List.{List, [], ◌∷◌}
use Prim.Native.Nat.{ℕ, zero, suc, ◌+◌, ◌-◌, ◌*◌, ◌≤◌, ◌<◌}
use native.Mathlib.Omega.{arith}
use borrow.Author.Tests.{eq-eqb, ne_eqb}
use lib.ListN.{length}
use Rattle.std.specs.declared.option.Option.{Option}
use Rattle.std.specs.declared.option.Option.TheVariants.{None, Some}
use Rattle.std.specs.List.{filter, range_with_len}
use Rattle.std.specs.Option.{MatchOption, is_some}
use Rattle.list_in_table.specs.Rules.{none}
use Rattle.def_kinds.specs.Choice.{pick}
use Rattle.def_kinds.specs.declared.Sizes.{Sizes}
use Rattle.def_kinds.specs.Answers.{Answer, Done, JointsFull, JournalFull}
use Rattle.def_state.specs.World.{Handle, chain, World}
use Rattle.def_state.proofs.Absent.{top-named}
use Rattle.def_state.specs.Links.{joint_room, link_joint, unlink_joint}
use Rattle.def_state.specs.Chain.{chainable, chained, chain_length, old_length, unlinked, linked_all, refresh_multibody_chain}
use Rattle.table_meaning.specs.Layout.{tables, extents}
use Rattle.table_meaning.specs.Decode.{handle_at, world_of}
use Rattle.table_meaning.specs.Sound.{Sound}
use Rattle.table_meaning.specs.Does.{Does}
use Rattle.table_meaning.proofs.Frame.{kept_then}
use Rattle.table_meaning.proofs.Unique.{journal_is}
use Rattle.core_laws.specs.Steps.{handle}
use Rattle.core_laws.specs.Places.{KeyAt, Unlinked}
use Rattle.core_laws.specs.Chaining.{handles_from, Onward, CameBySteps, link_rest, LinkedOn}
use Rattle.core_chain.specs.Linking.{present}
use Rattle.core_laws.proofs.Then.{refused}
use Rattle.core_laws.proofs.JointKeys.{joint-home_none, joint-home}
use Rattle.core_laws.proofs.Chaining.{onward_then, larger-of, unlink-on, link_on, came-start, came-step, came-done, length-missing, length-linked, length-end, unlinked-step, unlinked-end, handles-more, chainable-same, chained-end, rest-first, rest-next, rest_end, rest-start, handles-length, refresh-long, refresh-full, refresh-journal, refresh-done}

-- ---- the body that was linked last: the absent handle names none, so a generation that is not its stands for a body
chain-top : (w : World) (s g : ℕ) → g ≡ none → chainable w (handle s g) ≡ false
unfolding chainable
chain-top w s g q = subst (λ (n : ℕ). chainable w (handle s n) ≡ false) (sym q) (rw (top-named w s))

pub named-present : (w : World) (s g : ℕ) → chainable w (handle s g) ≡ true → present g ≡ true
named-present w s g e = ap not (ne_eqb g none (λ (q : g ≡ none). false≢true (sym (chain-top w s g q) ∙ e)))

pub absent-not : (g : ℕ) → g ≡ none → present g ≡ false
absent-not g e = ap not (eq-eqb g none e)

pub present-is : (g : ℕ) → g ≢ none → present g ≡ true
present-is g d = ap not (ne_eqb g none d)

-- the flags of the bodies decide
pub chained_same : (u w : World) → u.bodies ≡ w.bodies → (hs : List Handle) → chained u hs ≡ chained w hs
unfolding chained
chained_same u w e [] = refl
chained_same u w e (h ∷ hs) = rw (chainable-same u w h e, chained_same u w e hs)

pub chained-pick : (w : World) (x : List ℕ) (k n : ℕ) → k < n
    → chained w (handles_from x k (n - k)) ≡ pick (chainable w (handle_at x (2 * k))) (handle_at x (2 * k) ∷ chained w (handles_from x (k + 1) (n - (k + 1)))) (chained w (handles_from x (k + 1) (n - (k + 1))))
unfolding chained
chained-pick w x k n l = ap (chained w) (handles-more x k n l)

-- ---- the tables on their way
pub came-at : {Z : Sizes} {t₀ t : List ℕ} {u : World} → CameBySteps Z t₀ t u → CameBySteps Z t₀ t (world_of Z t)
came-at {Z} {t₀} {t} {u} C = subst (λ (v : World). CameBySteps Z t₀ t v) (sym C.after) C

pub came-is : {Z : Sizes} {t₀ t : List ℕ} {u v : World} → CameBySteps Z t₀ t u → u ≡ v → CameBySteps Z t₀ t v
came-is {Z} {t₀} {t} {u} C e = subst (λ (v : World). CameBySteps Z t₀ t v) e C

pub came-then : {Z : Sizes} {t₀ t t' : List ℕ} {u v : World} → CameBySteps Z t₀ t u → CameBySteps Z t t' v → CameBySteps Z t₀ t' v
came-then {Z} {t₀} {t} {t'} {u} {v} A B =
    record {
      sound = B.sound;
      after = B.after;
      onward = onward_then A.onward (subst (λ (x : World). Onward x v) A.after B.onward);
      frame = kept_then (larger-of Z t t' (subst (λ (x : World). Onward (world_of Z t) x) (sym B.after) B.onward)) A.frame B.frame;
    }

-- ---- the length of the old chain
module _ (Z : Sizes) (t : List ℕ) (high low : ℕ) where
  abbrev Passed : ℕ → Type 0
  Passed o = old_length Z (world_of Z t) high low ≡ o + chain_length (world_of Z t) high low o (Z.joints - o)

  pub old-start : Passed 0
  unfolding old_length
  old-start = let e : Z.joints - 0 ≡ Z.joints = omega arith in rw e (omega arith)

  pub old-end : (o : ℕ) → Passed o → Z.joints ≤ o → o ≡ old_length Z (world_of Z t) high low
  old-end o P l = omega (arith, length-end (world_of Z t) high low o Z.joints l)

  module _ (o : ℕ) (S : Sound Z t) (P : Passed o) where
    pub old-missing : Unlinked Z (tables Z t) 1 high low o → o ≡ old_length Z (world_of Z t) high low
    old-missing n = omega (arith, length-missing (world_of Z t) high low o (Z.joints - o) (joint-home_none 1 high low o S (inr refl) n), P)

    pub old-turn : (r : ℕ) → o < Z.joints → KeyAt Z (tables Z t) 1 high low o r → Passed (o + 1)
    old-turn r l A = omega (arith, length-linked (world_of Z t) high low o Z.joints l (λ e. A.keyed.linked (sym (joint-home 1 high low o S (inr refl) r A) ∙ e)), P)

-- what a search found, where it is known whether it found something
pub nothing-there : (N : Type 0) (P : ℕ → Type 0) (r : Option ℕ) → MatchOption r N P → is_some r ≡ false → N
nothing-there N P None f e = f
nothing-there N P (Some p) f e = absurd (false≢true (sym e))

pub something-there : (N : Type 0) (P : ℕ → Type 0) (r : Option ℕ) → MatchOption r N P → is_some r ≡ true → (p : ℕ) × P p
something-there N P None f e = absurd (false≢true e)
something-there N P (Some p) f e = (p, f)

-- ---- how many bodies of the list
same-length : (b : Bool) (k : ℕ) (h : Handle) (ks : List ℕ) (hs : List Handle) → length ks ≡ length hs → length (cond b (k ∷ ks) ks) ≡ length (pick b (h ∷ hs) hs)
same-length true k h ks hs e = ap suc e
same-length false k h ks hs e = e

pub chained-count : (w : World) (x : List ℕ) (k m : ℕ) → length (filter (λ j. chainable w (handle_at x (2 * j))) (range_with_len k m)) ≡ length (chained w (handles_from x k m))
unfolding chained handles_from
chained-count w x k zero = refl
chained-count w x k (suc m) =
    same-length (chainable w (handle_at x (2 * k))) k (handle_at x (2 * k)) _ _ (chained-count w x (k + 1) m)

-- ---- the unlinking
module _ (Z : Sizes) (t₀ : List ℕ) (high low n : ℕ) where
  -- the tables on their way, and what is left to unlink
  pub record Unlinking (t : List ℕ) (o : ℕ) : Type 0 where
    pub came : CameBySteps Z t₀ t (world_of Z t)
    pub left : unlinked Z high low o (n - o) (world_of Z t) ≡ unlinked Z high low 0 n (world_of Z t₀)

  module _ {t : List ℕ} (o : ℕ) (U : Unlinking t o) where
    pub unlink-turn : {t' : List ℕ} {r : Answer} → o < n → Does Z (unlink_joint Z (chain high low o)) t r t' → Unlinking t' (o + 1)
    unlink-turn {t'} l D =
        record {
          came = came-at (came-step (unlink_joint Z (chain high low o)) (unlink-on Z (chain high low o) (world_of Z t)) U.came D);
          left = ap (unlinked Z high low (o + 1) (n - (o + 1))) D.after ∙ sym (unlinked-step Z high low o n (world_of Z t) l) ∙ U.left;
        }

    pub unlink-end : n ≤ o → CameBySteps Z t₀ t (unlinked Z high low 0 n (world_of Z t₀))
    unlink-end l = came-is U.came (sym (unlinked-end Z high low o n (world_of Z t) l) ∙ U.left)

-- ---- the linking of a handle
module _ {Z : Sizes} {t : List ℕ} (high low : ℕ) (has : Bool) (o : ℕ) (p h : Handle) (S : Sound Z t) where
  module _ (e : chainable (world_of Z t) h ≡ true) where
    pub link-first : has ≡ false → LinkedOn Z high low has o p h true 0 h t t
    link-first f = record { came = came-start S; rest = λ hs. rw (e, f) (sym (rest-first Z high low o p h hs (world_of Z t))); ordinal_le = omega arith }

    pub link-pair : {t' : List ℕ} {r : Answer} → has ≡ true → Does Z (link_joint Z (chain high low o) p h) t r t' → LinkedOn Z high low has o p h true (o + 1) h t t'
    link-pair {t'} f D =
        record {
          came = came-at (came-step (link_joint Z (chain high low o) p h) (link_on Z (chain high low o) p h (world_of Z t)) (came-start S) D);
          rest = λ hs. rw (e, f) (ap (link_rest Z high low true (o + 1) h hs) D.after ∙ sym (rest-next Z high low o p h hs (world_of Z t)));
          ordinal_le = omega arith;
        }

-- the handle that was linked can name a body
pub linked-as : {Z : Sizes} {high low o o' : ℕ} {has : Bool} {p h p' : Handle} {t t' : List ℕ} (b : Bool) → b ≡ true → LinkedOn Z high low has o p h true o' p' t t' → LinkedOn Z high low has o p h b o' p' t t'
linked-as {Z} {high} {low} {o} {o'} {has} {p} {h} {p'} {t} {t'} b e L = subst (λ (c : Bool). LinkedOn Z high low has o p h c o' p' t t') (sym e) L

-- ---- the linking of the list
module _ (Z : Sizes) (t₀ : List ℕ) (high low : ℕ) (x : List ℕ) (n : ℕ) where
  abbrev w₀ : World
  w₀ = world_of Z t₀

  -- the tables on their way, and what is left to link
  pub record LinkingTo (t : List ℕ) (has : Bool) (o : ℕ) (p : Handle) (k : ℕ) : Type 0 where
    pub came : CameBySteps Z t₀ t (world_of Z t)
    pub left : link_rest Z high low has o p (chained w₀ (handles_from x k (n - k))) (world_of Z t) ≡ linked_all Z high low (chained w₀ (handles_from x 0 n)) w₀
    pub ordinal_le : o ≤ k

  pub link_start : (p : Handle) → Sound Z t₀ → LinkingTo t₀ false 0 p 0
  link_start p S = record { came = came-start S; left = (let e : n - 0 ≡ n = omega arith in rw e (rest-start Z high low p (chained w₀ (handles_from x 0 n)) w₀)); ordinal_le = omega arith }

  module _ {t : List ℕ} (has : Bool) (o : ℕ) (p : Handle) (k : ℕ) (L : LinkingTo t has o p k) where
    pub link-turn : {t' : List ℕ} {has' : Bool} {o' : ℕ} {p' : Handle} → k < n → LinkedOn Z high low has o p (handle_at x (2 * k)) has' o' p' t t' → LinkingTo t' has' o' p' (k + 1)
    link-turn {t'} {has'} {o'} {p'} l N =
        let hs = chained w₀ (handles_from x (k + 1) (n - (k + 1))) in
        let h = handle_at x (2 * k) in
        let q : pick (chainable (world_of Z t) h) (h ∷ hs) hs ≡ chained w₀ (handles_from x k (n - k)) = ap (λ (b : Bool). pick b (h ∷ hs) hs) (chainable-same (world_of Z t) w₀ h L.came.onward.bodies) ∙ sym (chained-pick w₀ x k n l) in
        let a = N.ordinal_le in
        let b = L.ordinal_le in
        record {
          came = came-then L.came N.came;
          left = N.rest hs ∙ ap (λ (ls : List Handle). link_rest Z high low has o p ls (world_of Z t)) q ∙ L.left;
          ordinal_le = omega arith;
        }

    pub link-end : n ≤ k → CameBySteps Z t₀ t (linked_all Z high low (chained w₀ (handles_from x 0 n)) w₀)
    link-end l = came-is L.came (sym (rest_end Z high low has o p (world_of Z t)) ∙ ap (λ (ls : List Handle). link_rest Z high low has o p ls (world_of Z t)) (sym (chained-end w₀ x k n l)) ∙ L.left)

-- ---- the call
module _ (Z : Sizes) (t : List ℕ) (high low : ℕ) (x : List ℕ) (n : ℕ) (S : Sound Z t) where
  pub call_long : Z.slots < n → Does Z (refresh_multibody_chain Z high low (handles_from x 0 n)) t JointsFull t
  call_long l = refused (refresh_multibody_chain Z high low (handles_from x 0 n)) JointsFull S (refresh-long Z high low (handles_from x 0 n) (world_of Z t) (let e = handles-length x 0 n in omega arith))

  module _ (old new room : ℕ) (l : n ≤ Z.slots) (o : old ≡ old_length Z (world_of Z t) high low) (c : new ≡ length (chained (world_of Z t) (handles_from x 0 n))) (r : room ≡ joint_room Z (world_of Z t)) where
    fits : length (handles_from x 0 n) ≤ Z.slots
    fits = let e = handles-length x 0 n in omega arith

    pub call-full : room + old + 1 < new → Does Z (refresh_multibody_chain Z high low (handles_from x 0 n)) t JointsFull t
    call-full f = refused (refresh_multibody_chain Z high low (handles_from x 0 n)) JointsFull S (refresh-full Z high low (handles_from x 0 n) (world_of Z t) fits (omega arith))

    module _ (entries : ℕ) (f : new ≤ room + old + 1) (j : entries ≡ (extents (tables Z t)).journal) where
      pub call-journal : Z.journal < entries + old → Does Z (refresh_multibody_chain Z high low (handles_from x 0 n)) t JournalFull t
      call-journal q =
          refused (refresh_multibody_chain Z high low (handles_from x 0 n)) JournalFull S
          (refresh-journal Z high low (handles_from x 0 n) (world_of Z t) fits (omega arith) (let e = journal_is Z t in let m = S.good.journal_le in omega arith))

      -- the chain is linked by the state after the unlinking, which has the same bodies
      pub call-done : {t₁ t₂ : List ℕ} → entries + old ≤ Z.journal → CameBySteps Z t t₁ (unlinked Z high low 0 old (world_of Z t))
          → CameBySteps Z t₁ t₂ (linked_all Z high low (chained (world_of Z t₁) (handles_from x 0 n)) (world_of Z t₁)) → Does Z (refresh_multibody_chain Z high low (handles_from x 0 n)) t Done t₂
      call-done {t₁} {t₂} q A B =
          let hs = handles_from x 0 n in
          let w = world_of Z t in
          came-done (refresh_multibody_chain Z high low hs)
          (refresh-done Z high low hs w fits (omega arith) (let e = journal_is Z t in let m = S.good.journal_le in omega arith))
          (came-is (came-then A B)
          (ap (λ (ls : List Handle). linked_all Z high low ls (world_of Z t₁)) (chained_same (world_of Z t₁) w (came-at A).onward.bodies hs)
          ∙ ap (linked_all Z high low (chained w hs)) A.after
          ∙ ap (λ (k : ℕ). linked_all Z high low (chained w hs) (unlinked Z high low 0 k w)) o))
