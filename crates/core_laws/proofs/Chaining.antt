-- Calls one after the other, whatever their answers; the loops of a chain refresh.
use mathlib.Core.Path.{◌≡◌, refl, sym, ◌∙◌, ap, subst}
use mathlib.Core.Logic.{◌≢◌}
use mathlib.Core.Bool.{Bool, true, false, not, ◌||◌}
use mathlib.Core.List.{List, [], ◌∷◌}
use Prim.Native.Nat.{ℕ, zero, suc, ◌+◌, ◌-◌, ◌*◌, ◌≤◌, ◌<◌}
use native.Mathlib.Omega.{arith}
use lib.Dec.{eqb}
use borrow.Author.Tests.{eq-eqb, ne_eqb, lt-ltb, le-ltb}
use lib.ListN.{length, get_or, set, length-set, length-append}
use Rattle.def_kinds.specs.Choice.{pick}
use Rattle.def_kinds.specs.declared.Sizes.{Sizes}
use Rattle.def_kinds.specs.Answers.{Answer, Done, Nothing, JointsFull, JournalFull}
use Rattle.def_state.specs.Plain.{top, empty, drop_last}
use Rattle.def_state.specs.World.{Handle, Key, chain, JointLink, absent_joint, Island, absent_island, World, Step, done, gives, island_at, named, body_island}
use Rattle.def_state.specs.Fields.{places_set, island_set}
use Rattle.def_state.specs.Membership.{clear_pending_split_of}
use Rattle.def_state.specs.Links.{key_place, joint_home, survivor, absorbed, absorb, merge_islands, target, merged, joint_pushed, take_place, joint_room, link_joint, journal_removal, journal_refuses, joint_removed, unlink_joint, same_handle}
use Rattle.def_state.specs.Chain.{chainable, chained, chain_length, old_length, unlinked, linked, linked_all, refresh_multibody_chain}
use Rattle.table_meaning.specs.Layout.{tables, extents}
use Rattle.table_meaning.specs.Decode.{handle_at, world_of}
use Rattle.table_meaning.specs.Sound.{Sound}
use Rattle.table_meaning.specs.Does.{Does}
use Rattle.table_meaning.specs.Larger.{Larger}
use Rattle.table_meaning.proofs.Unique.{slots-is, islands-is, tracked-is, places_is, journal_is}
use Rattle.table_meaning.proofs.Frame.{kept_refl, kept_then}
use Rattle.core_laws.specs.Chaining.{handles_from, Onward, CameBySteps, link_rest}

-- ---- a state that follows on another
pub onward-refl : (w : World) → Onward w w
onward-refl w = record { bodies = refl; islands = omega arith; tracked = omega arith; places = omega arith; journal = omega arith }

pub onward_then : {u v w : World} → Onward u v → Onward v w → Onward u w
onward_then A B =
    let a = A.islands in
    let b = A.tracked in
    let c = A.places in
    let d = A.journal in
    let e = B.islands in
    let f = B.tracked in
    let g = B.places in
    let h = B.journal in
    record { bodies = B.bodies ∙ A.bodies; islands = omega arith; tracked = omega arith; places = omega arith; journal = omega arith }

-- so no extent falls
pub larger-of : (Z : Sizes) (t t' : List ℕ) → Onward (world_of Z t) (world_of Z t') → Larger (extents (tables Z t)) (extents (tables Z t'))
larger-of Z t t' O =
    let s : length (world_of Z t).bodies ≡ length (world_of Z t').bodies = sym (ap length O.bodies) in
    let a = slots-is Z t in
    let a' = slots-is Z t' in
    let b = islands-is Z t in
    let b' = islands-is Z t' in
    let c = tracked-is Z t in
    let c' = tracked-is Z t' in
    let d = places_is Z t in
    let d' = places_is Z t' in
    let e = journal_is Z t in
    let e' = journal_is Z t' in
    let oi = O.islands in
    let ot = O.tracked in
    let op = O.places in
    let oj = O.journal in
    record { slots = omega arith; islands = omega arith; edges = omega arith; joints = omega arith; journal = omega arith }

-- ---- unlink and link of a joint go on from the state
island-on : (w u : World) (i : ℕ) (a : Island) → Onward w u → Onward w (island_set u i a)
unfolding island_set
island-on w u i a O =
    let l = length-set u.islands i a in
    let b = O.islands in
    record { bodies = O.bodies; islands = omega arith; tracked = O.tracked; places = O.places; journal = O.journal }

pick-on : (w x y : World) (c : Bool) → Onward w x → Onward w y → Onward w (pick c x y)
pick-on w x y true p q = p
pick-on w x y false p q = q

places-on : (w : World) (ps : List ℕ) → Onward w (places_set w w.joint_places ps)
places-on w ps = record { bodies = refl; islands = omega arith; tracked = omega arith; places = omega arith; journal = omega arith }

removed-on : (w : World) (i p : ℕ) → Onward w (joint_removed i p w)
unfolding joint_removed
removed-on w i p = island-on w _ i _ (places-on w _)

journal-on : (w u : World) (h1 h2 : Handle) → Onward w u → Onward w (journal_removal h1 h2 u)
unfolding journal_removal
journal-on w u h1 h2 O =
    let l = length-append u.removal_journal (record { body1 = h1; body2 = h2 } ∷ []) in
    let b = O.journal in
    pick-on w u _ (same_handle h1 h2) O (record { bodies = O.bodies; islands = O.islands; tracked = O.tracked; places = O.places; journal = omega arith })

-- a step that refuses at two, or three, tests
two-tests : (w x : World) (r s : Answer) (a b : Bool) → Onward w x → Onward w (pick a (gives r w) (pick b (gives s w) (done x))).after
two-tests w x r s true b O = onward-refl w
two-tests w x r s false true O = onward-refl w
two-tests w x r s false false O = O

three-tests : (w x : World) (r s q : Answer) (a b c : Bool) → Onward w x → Onward w (pick a (gives r w) (pick b (gives s w) (pick c (gives q w) (done x)))).after
three-tests w x r s q true b c O = onward-refl w
three-tests w x r s q false true c O = onward-refl w
three-tests w x r s q false false true O = onward-refl w
three-tests w x r s q false false false O = O

module _ (Z : Sizes) (q : Key) (w : World) where
  abbrev i : ℕ
  i = joint_home w q

  abbrev p : ℕ
  p = key_place (island_at w i).joint_links q

  abbrev l : JointLink
  l = get_or (island_at w i).joint_links p absent_joint

  pub unlink-on : Onward w (unlink_joint Z q w).after
  unfolding unlink_joint
  unlink-on =
      two-tests w (journal_removal l.body1 l.body2 (joint_removed i p w)) Nothing JournalFull (eqb i top) (journal_refuses Z l.body1 l.body2 w)
      (journal-on w (joint_removed i p w) l.body1 l.body2 (removed-on w i p))

absorb-on : (w : World) (a b : ℕ) → Onward w (absorb a b w)
unfolding absorb island_set clear_pending_split_of
absorb-on w a b =
    let l1 = length-set w.islands a (absorbed (island_at w a) (island_at w b)) in
    let l2 = length-set (set w.islands a (absorbed (island_at w a) (island_at w b))) b absent_island in
    record { bodies = refl; islands = omega arith; tracked = omega arith; places = omega arith; journal = omega arith }

merge_on : (w : World) (a b : ℕ) → Onward w (merge_islands a b w)
unfolding merge_islands
merge_on w a b =
    pick-on w w (pick (eqb (survivor w a b) a) (absorb a b w) (absorb b a w)) (eqb a b) (onward-refl w)
    (pick-on w (absorb a b w) (absorb b a w) (eqb (survivor w a b) a) (absorb-on w a b) (absorb-on w b a))

merged_on : (w : World) (h1 h2 : Handle) → Onward w (merged h1 h2 w)
unfolding merged
merged_on w h1 h2 =
    let a = body_island w h1 in
    let b = body_island w h2 in
    pick-on w w (merge_islands a b w) (eqb a top || eqb b top) (onward-refl w) (merge_on w a b)

place-on : (w u : World) → Onward w u → Onward w (take_place u)
unfolding take_place
place-on w u O =
    let p = O.places in
    pick-on w (places_set u (u.joint_places + 1) []) (places_set u u.joint_places (drop_last u.free_places)) (empty u.free_places)
    (record { bodies = O.bodies; islands = O.islands; tracked = O.tracked; places = omega arith; journal = O.journal })
    (record { bodies = O.bodies; islands = O.islands; tracked = O.tracked; places = O.places; journal = O.journal })

pub link_on : (Z : Sizes) (q : Key) (h1 h2 : Handle) (w : World) → Onward w (link_joint Z q h1 h2 w).after
unfolding link_joint joint_pushed
link_on Z q h1 h2 w =
    let u = take_place (merged h1 h2 w) in
    three-tests w _ Nothing Nothing JointsFull (not (eqb (joint_home w q) top)) (eqb (target w h1 h2) top) (eqb (joint_room Z w) 0)
    (island-on w u (target w h1 h2) _ (place-on w (merged h1 h2 w) (merged_on w h1 h2)))

-- ---- the tables on their way
pub came-start : {Z : Sizes} {t : List ℕ} → Sound Z t → CameBySteps Z t t (world_of Z t)
came-start {Z} {t} S = record { sound = S; after = refl; onward = onward-refl (world_of Z t); frame = kept_refl }

pub came-step : {Z : Sizes} {t₀ t t' : List ℕ} {u : World} {r : Answer} (f : World → Step) → Onward u (f u).after → CameBySteps Z t₀ t u → Does Z f t r t' → CameBySteps Z t₀ t' (f u).after
came-step {Z} {t₀} {t} {t'} {u} f O C D =
    let e : world_of Z t' ≡ (f u).after = D.after ∙ ap (λ (v : World). (f v).after) C.after in
    record {
      sound = D.sound;
      after = e;
      onward = onward_then C.onward O;
      frame = kept_then (larger-of Z t t' (subst (λ (v : World). Onward v (world_of Z t')) (sym C.after) (subst (λ (v : World). Onward u v) (sym e) O))) C.frame D.frame;
    }

pub came-done : {Z : Sizes} {t₀ t : List ℕ} {u : World} (f : World → Step) → f (world_of Z t₀) ≡ done u → CameBySteps Z t₀ t u → Does Z f t₀ Done t
came-done f e C = record { sound = C.sound; answer = sym (ap (λ (x : Step). x.answer) e); after = C.after ∙ sym (ap (λ (x : Step). x.after) e); frame = C.frame }

-- ---- the length of the old chain: what the loop has passed, and what is left of it
module _ (w : World) (high low : ℕ) where
  pub length-missing : (o k : ℕ) → joint_home w (chain high low o) ≡ top → chain_length w high low o k ≡ 0
  unfolding chain_length
  length-missing o zero e = refl
  length-missing o (suc k) e = rw (eq-eqb (joint_home w (chain high low o)) top e)

  pub length-linked : (o n : ℕ) → o < n → joint_home w (chain high low o) ≢ top → chain_length w high low o (n - o) ≡ 1 + chain_length w high low (o + 1) (n - (o + 1))
  unfolding chain_length
  length-linked o n l d =
      let e : n - o ≡ suc (n - (o + 1)) = omega arith in
      rw (e, ne_eqb (joint_home w (chain high low o)) top d) (sym (let c = chain_length w high low (o + 1) (n - (o + 1)) in let q : 1 + c ≡ suc c = omega arith in q))

  pub length-end : (o n : ℕ) → n ≤ o → chain_length w high low o (n - o) ≡ 0
  unfolding chain_length
  length-end o n l = let e : n - o ≡ 0 = omega arith in rw e

-- ---- the unlinking
module _ (Z : Sizes) (high low : ℕ) where
  pub unlinked-step : (o n : ℕ) (u : World) → o < n → unlinked Z high low o (n - o) u ≡ unlinked Z high low (o + 1) (n - (o + 1)) (unlink_joint Z (chain high low o) u).after
  unfolding unlinked
  unlinked-step o n u l = let e : n - o ≡ suc (n - (o + 1)) = omega arith in rw e

  pub unlinked-end : (o n : ℕ) (u : World) → n ≤ o → unlinked Z high low o (n - o) u ≡ u
  unfolding unlinked
  unlinked-end o n u l = let e : n - o ≡ 0 = omega arith in rw e

-- ---- the list
pub handles-more : (x : List ℕ) (k n : ℕ) → k < n → handles_from x k (n - k) ≡ handle_at x (2 * k) ∷ handles_from x (k + 1) (n - (k + 1))
unfolding handles_from
handles-more x k n l = let e : n - k ≡ suc (n - (k + 1)) = omega arith in rw e

pub handles-end : (x : List ℕ) (k n : ℕ) → n ≤ k → handles_from x k (n - k) ≡ []
unfolding handles_from
handles-end x k n l = let e : n - k ≡ 0 = omega arith in rw e

pub handles-length : (x : List ℕ) (k n : ℕ) → length (handles_from x k n) ≡ n
unfolding handles_from
handles-length x k zero = refl
handles-length x k (suc n) = ap suc (handles-length x (k + 1) n)

-- whom a chain links, by its body's flags
pub chainable-same : (u w : World) (h : Handle) → u.bodies ≡ w.bodies → chainable u h ≡ chainable w h
unfolding chainable named
chainable-same u w h e = rw e

pub chained-end : (w : World) (x : List ℕ) (k n : ℕ) → n ≤ k → chained w (handles_from x k (n - k)) ≡ []
unfolding chained
chained-end w x k n l = ap (chained w) (handles-end x k n l)

-- ---- the linking
module _ (Z : Sizes) (high low : ℕ) where
  pub rest-first : (o : ℕ) (p h : Handle) (hs : List Handle) (u : World) → link_rest Z high low false o p (h ∷ hs) u ≡ link_rest Z high low true 0 h hs u
  unfolding link_rest linked_all
  rest-first o p h hs u = refl

  pub rest-next : (o : ℕ) (p h : Handle) (hs : List Handle) (u : World)
      → link_rest Z high low true o p (h ∷ hs) u ≡ link_rest Z high low true (o + 1) h hs (link_joint Z (chain high low o) p h u).after
  unfolding link_rest linked
  rest-next o p h hs u = refl

  pub rest_end : (has : Bool) (o : ℕ) (p : Handle) (u : World) → link_rest Z high low has o p [] u ≡ u
  unfolding link_rest linked linked_all
  rest_end true o p u = refl
  rest_end false o p u = refl

  pub rest-start : (p : Handle) (hs : List Handle) (u : World) → link_rest Z high low false 0 p hs u ≡ linked_all Z high low hs u
  unfolding link_rest
  rest-start p hs u = refl

-- ---- the call
module _ (Z : Sizes) (high low : ℕ) (hs : List Handle) (w : World) where
  abbrev old : ℕ
  old = old_length Z w high low

  abbrev new : ℕ
  new = length (chained w hs)

  pub refresh-long : Z.slots < length hs → refresh_multibody_chain Z high low hs w ≡ gives JointsFull w
  unfolding refresh_multibody_chain
  refresh-long l = rw (lt-ltb Z.slots (length hs) l)

  module _ (l : length hs ≤ Z.slots) where
    pub refresh-full : joint_room Z w + old < new - 1 → refresh_multibody_chain Z high low hs w ≡ gives JointsFull w
    unfolding refresh_multibody_chain
    refresh-full f = rw (le-ltb Z.slots (length hs) l, lt-ltb (joint_room Z w + old) (new - 1) f)

    module _ (f : new - 1 ≤ joint_room Z w + old) where
      pub refresh-journal : Z.journal - length w.removal_journal < old → refresh_multibody_chain Z high low hs w ≡ gives JournalFull w
      unfolding refresh_multibody_chain
      refresh-journal j = rw (le-ltb Z.slots (length hs) l, le-ltb (joint_room Z w + old) (new - 1) f, lt-ltb (Z.journal - length w.removal_journal) old j)

      pub refresh-done : old ≤ Z.journal - length w.removal_journal
          → refresh_multibody_chain Z high low hs w ≡ done (linked_all Z high low (chained w hs) (unlinked Z high low 0 old w))
      unfolding refresh_multibody_chain
      refresh-done j = rw (le-ltb Z.slots (length hs) l, le-ltb (joint_room Z w + old) (new - 1) f, le-ltb (Z.journal - length w.removal_journal) old j)
