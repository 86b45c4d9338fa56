-- unlink_joint: what it says where its tests are known, and the steps that it is made of.
use mathlib.Core.Path.{◌≡◌, sym, ◌∙◌}
use mathlib.Core.Logic.{◌≢◌}
use mathlib.Core.Bool.{true, false}
use mathlib.Core.List.{List}
use Prim.Native.Nat.{ℕ, ◌+◌, ◌*◌, ◌≤◌, ◌<◌}
use native.Mathlib.Omega.{arith}
use borrow.Author.Tests.{eq-eqb, ne_eqb, le-leb, lt-leb}
use lib.ListN.{length, get_or}
use Rattle.def_kinds.specs.Choice.{pick}
use Rattle.def_kinds.specs.declared.Sizes.{Sizes}
use Rattle.def_kinds.specs.Answers.{Done, Nothing, JournalFull}
use Rattle.def_state.specs.Plain.{top}
use Rattle.def_state.specs.World.{Handle, Key, JointLink, absent_joint, World, done, gives, island_at}
use Rattle.def_state.specs.Links.{key_place, joint_home, same_handle, journal_removal, journal_refuses, joint_removed, unlink_joint}
use Rattle.table_meaning.specs.Layout.{tables, extents, joints_in}
use Rattle.table_meaning.specs.Decode.{key_of, handle_at, joint_at, world_of}
use Rattle.table_meaning.specs.Sound.{Sound}
use Rattle.table_meaning.specs.Does.{Does}
use Rattle.table_meaning.proofs.Unique.{journal_is}
use Rattle.core_laws.specs.Steps.{handle, Steps}
use Rattle.core_laws.specs.Linking.{joint_remove, journalled}
use Rattle.core_laws.specs.Places.{KeyRule, KeyAt, Unlinked, JointTaken}
use Rattle.core_laws.proofs.Then.{refused, does-as, does-then}
use Rattle.core_laws.proofs.JointKeys.{joint-home_none, joint-home, joint-place, joint-link}

-- ---- a link that is there
module _ (Z : Sizes) (q : Key) (w : World) where
  pub unlink-nothing : joint_home w q ≡ top → unlink_joint Z q w ≡ gives Nothing w
  unfolding unlink_joint
  unlink-nothing e = rw (eq-eqb (joint_home w q) top e)

  module _ (i p : ℕ) (l : JointLink) (hi : joint_home w q ≡ i) (d : i ≢ top) (hp : key_place (island_at w i).joint_links q ≡ p) (hl : get_or (island_at w i).joint_links p absent_joint ≡ l) where
    unlink-there : unlink_joint Z q w
        ≡ pick (journal_refuses Z l.body1 l.body2 w) (gives JournalFull w) (done (journal_removal l.body1 l.body2 (joint_removed i p w)))
    unfolding unlink_joint
    unlink-there = rw (hi, ne_eqb i top d, hp, hl)

    unlink-self : same_handle l.body1 l.body2 ≡ true → unlink_joint Z q w ≡ done (joint_removed i p w)
    unfolding journal_refuses journal_removal
    unlink-self s = unlink-there ∙ rw s

    unlink-full : same_handle l.body1 l.body2 ≡ false → Z.journal ≤ length w.removal_journal → unlink_joint Z q w ≡ gives JournalFull w
    unfolding journal_refuses journal_removal
    unlink-full s h = unlink-there ∙ rw (s, le-leb Z.journal (length w.removal_journal) h)

    unlink-some : same_handle l.body1 l.body2 ≡ false → length w.removal_journal < Z.journal → unlink_joint Z q w ≡ journalled l.body1 l.body2 (joint_removed i p w)
    unfolding journal_refuses journal_removal journalled
    unlink-some s h = unlink-there ∙ rw (s, lt-leb Z.journal (length w.removal_journal) h)

-- ---- the call
module _ {Z : Sizes} {t : List ℕ} (kind a b c : ℕ) (S : Sound Z t) (K : KeyRule kind c) where
  pub unlinks-none : Unlinked Z (tables Z t) kind a b c → Does Z (unlink_joint Z (key_of kind a b c)) t Nothing t
  unlinks-none n = refused (unlink_joint Z (key_of kind a b c)) Nothing S (unlink-nothing Z (key_of kind a b c) (world_of Z t) (joint-home_none kind a b c S K n))

  module _ (p : ℕ) (A : KeyAt Z (tables Z t) kind a b c p) where
    abbrev i : ℕ
    i = (joints_in Z (tables Z t)).home p

    abbrev l : ℕ
    l = (joints_in Z (tables Z t)).place p

    abbrev h1 : Handle
    h1 = handle_at (tables Z t).keys (8 * p + 4)

    abbrev h2 : Handle
    h2 = handle_at (tables Z t).keys (8 * p + 6)

    pub unlinks-full : same_handle h1 h2 ≡ false → Z.journal ≤ (extents (tables Z t)).journal → Does Z (unlink_joint Z (key_of kind a b c)) t JournalFull t
    unlinks-full s h =
        refused (unlink_joint Z (key_of kind a b c)) JournalFull S
        (unlink-full Z (key_of kind a b c) (world_of Z t) i l (joint_at (tables Z t).keys p) (joint-home kind a b c S K p A) A.keyed.linked (joint-place kind a b c S K p A)
        (joint-link kind a b c S K p A)
        s
        (let e = journal_is Z t in omega arith))

    pub unlinks-self : {t1 : List ℕ} → same_handle h1 h2 ≡ true → JointTaken Z i l t t1 → Does Z (unlink_joint Z (key_of kind a b c)) t Done t1
    unfolding joint_remove
    unlinks-self s D =
        does-as (joint_remove i l) (unlink_joint Z (key_of kind a b c))
        (sym
        (unlink-self Z (key_of kind a b c) (world_of Z t) i l (joint_at (tables Z t).keys p) (joint-home kind a b c S K p A) A.keyed.linked (joint-place kind a b c S K p A)
        (joint-link kind a b c S K p A)
        s))
        D.steps.does

    pub unlinks-some : {t1 t2 : List ℕ} (s1 g1 s2 g2 : ℕ) → s1 ≡ h1.slot → g1 ≡ h1.generation → s2 ≡ h2.slot → g2 ≡ h2.generation → same_handle h1 h2 ≡ false
        → (extents (tables Z t)).journal < Z.journal → JointTaken Z i l t t1 → Steps Z (journalled (handle s1 g1) (handle s2 g2)) t1 t2 → Does Z (unlink_joint Z (key_of kind a b c)) t Done t2
    unfolding joint_remove
    unlinks-some {t1} {t2} s1 g1 s2 g2 e1 e2 e3 e4 s h D F =
        let E : Steps Z (journalled h1 h2) t1 t2 = rw (e1, e2, e3, e4) at F in
        does-as (λ w. journalled h1 h2 (joint_remove i l w).after) (unlink_joint Z (key_of kind a b c))
        (sym
        (unlink-some Z (key_of kind a b c) (world_of Z t) i l (joint_at (tables Z t).keys p) (joint-home kind a b c S K p A) A.keyed.linked (joint-place kind a b c S K p A)
        (joint-link kind a b c S K p A)
        s
        (let e = journal_is Z t in omega arith)))
        (does-then (joint_remove i l) (journalled h1 h2) E.larger D.steps.does E.does)
