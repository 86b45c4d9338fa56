-- unlink_contact, where it is known whether and where the edge is linked; the island of a body that a handle names.
use mathlib.Core.Path.{◌≡◌, refl, sym, ◌∙◌, ap}
use mathlib.Core.Logic.{◌≢◌}
use mathlib.Core.Bool.{Bool, true, false, ◌&&◌, false≢true}
use mathlib.Core.List.{List}
use Prim.Native.Nat.{ℕ, ◌+◌, ◌*◌, ◌≤◌, ◌<◌}
use native.Mathlib.Omega.{arith}
use lib.Dec.{eqb}
use borrow.Author.Tests.{eq-eqb, ne_eqb, le-leb, lt-leb, true-eqb, false-eqb}
use lib.ListN.{length, get_or}
use Rattle.std.specs.Option.{option_eq}
use Rattle.std.specs.Prelude.{Option, None, Some, MatchOption}
use Rattle.list_in_table.specs.Rules.{none}
use Rattle.def_kinds.specs.Choice.{pick}
use Rattle.list_in_table.proofs.Laws.{held}
use Rattle.def_kinds.specs.declared.Sizes.{Sizes}
use Rattle.def_kinds.specs.Answers.{Done, Nothing, JournalFull}
use Rattle.def_state.specs.Plain.{top, place_of}
use Rattle.def_state.specs.World.{ContactLink, absent_contact, World, Step, done, gives, island_at, named, body_island}
use Rattle.def_state.specs.Fields.{island_set}
use Rattle.def_state.specs.Links.{edges_of, contact_home, same_handle, journal_removal, journal_refuses, contact_removed, unlink_contact}
use Rattle.table_meaning.specs.Layout.{tables, extents, members_in, contacts_in}
use Rattle.table_meaning.specs.Decode.{contact_at, world_of}
use Rattle.table_meaning.specs.Sound.{Sound}
use Rattle.table_meaning.specs.Does.{Does}
use Rattle.table_meaning.proofs.Unique.{journal_is}
use Rattle.core_laws.specs.Steps.{handle, Steps}
use Rattle.core_laws.specs.Linking.{contact_of, contact_remove, journalled}
use Rattle.core_laws.specs.Lives.{Lives}
use Rattle.core_laws.proofs.Then.{refused, does-as, does-then}
use Rattle.core_laws.proofs.Names.{named_is, home_is}
use Rattle.core_laws.proofs.OneContact.{contact-is}
use Rattle.core_laws.proofs.Touching.{contact-far, contact-none, contact-home, contact-place, contact-link}

-- ---- the same body, as `==` of handles compares them
pub handles-equal : {r : Bool} (a b c d : ℕ) → r ≡ (eqb a c && eqb b d) → same_handle (handle a b) (handle c d) ≡ r
unfolding same_handle
handles-equal a b c d e = sym e

-- ---- what unlink_contact says of an edge whose island i, place p and link l are known
module _ (Z : Sizes) (e i p : ℕ) (l : ContactLink) (w : World) where
  unlink-none : contact_home w e ≡ top → unlink_contact Z e w ≡ gives Nothing w
  unfolding unlink_contact
  unlink-none q = rw (eq-eqb (contact_home w e) top q)

  -- the three cases
  outcome : Step
  outcome = pick (journal_refuses Z l.body1 l.body2 w) (gives JournalFull w) (done (journal_removal l.body1 l.body2 (contact_removed i p w)))

  module _ (hi : contact_home w e ≡ i) (d : i ≢ top) (hp : place_of (edges_of (island_at w i)) e ≡ p) (hl : get_or (island_at w i).contact_links p absent_contact ≡ l) where
    unlink-some : unlink_contact Z e w ≡ outcome
    unfolding unlink_contact outcome
    unlink-some = rw (hi, ne_eqb i top d, hp, hl)

    module _ (s : same_handle l.body1 l.body2 ≡ true) where
      unlink-same : unlink_contact Z e w ≡ done (contact_removed i p w)
      unfolding outcome journal_refuses journal_removal
      unlink-same = unlink-some ∙ rw s

    module _ (s : same_handle l.body1 l.body2 ≡ false) where
      unlink-full : Z.journal ≤ length w.removal_journal → unlink_contact Z e w ≡ gives JournalFull w
      unfolding outcome journal_refuses
      unlink-full h = unlink-some ∙ rw (s, le-leb Z.journal (length w.removal_journal) h)

      unlink-other : length w.removal_journal < Z.journal → unlink_contact Z e w ≡ journalled l.body1 l.body2 (contact_removed i p w)
      unfolding outcome journal_refuses journal_removal journalled
      unlink-other h = unlink-some ∙ rw (s, lt-leb Z.journal (length w.removal_journal) h)

-- the words of a link, read as two handles
pub link-handles : (x : List ℕ) (e a b c d : ℕ) → (a ≡ get_or x (4 * e) 0) × (b ≡ get_or x (4 * e + 1) 0) → (c ≡ get_or x (4 * e + 2) 0) × (d ≡ get_or x (4 * e + 2 + 1) 0) → contact_at x e ≡ contact_of e a b c d
link-handles x e a b c d p q = contact-is (sym p.0) (sym p.1) (sym q.0) (sym q.1)

-- ---- the same of a buffer
module _ {Z : Sizes} {t : List ℕ} (e : ℕ) (S : Sound Z t) where
  pub unlinked-far : (extents (tables Z t)).edges ≤ e → Does Z (unlink_contact Z e) t Nothing t
  unlinked-far h = refused (unlink_contact Z e) Nothing S (unlink-none Z e 0 0 absent_contact (world_of Z t) (contact-far S e h))

  pub unlinked-none : (contacts_in Z (tables Z t)).home e ≡ none → Does Z (unlink_contact Z e) t Nothing t
  unlinked-none q = refused (unlink_contact Z e) Nothing S (unlink-none Z e 0 0 absent_contact (world_of Z t) (contact-none S e q))

  -- linked, with the words s1, g1, s2, g2
  module _ (el : e < (extents (tables Z t)).edges) (d : (contacts_in Z (tables Z t)).home e ≢ none) (s1 g1 s2 g2 : ℕ) (q : contact_at (tables Z t).touches e ≡ contact_of e s1 g1 s2 g2) where
    abbrev w : World
    w = world_of Z t

    abbrev i : ℕ
    i = (contacts_in Z (tables Z t)).home e

    abbrev p : ℕ
    p = (contacts_in Z (tables Z t)).place e

    abbrev l : ContactLink
    l = contact_of e s1 g1 s2 g2

    link-is : get_or (island_at w i).contact_links p absent_contact ≡ l
    link-is = contact-link S e el d ∙ q

    module _ (s : same_handle (handle s1 g1) (handle s2 g2) ≡ true) where
      pub unlinked-same : {t1 : List ℕ} → Steps Z (contact_remove i p) t t1 → Does Z (unlink_contact Z e) t Done t1
      unfolding contact_remove
      unlinked-same A =
          does-as (contact_remove i p) (unlink_contact Z e) (sym (unlink-same Z e i p l w (contact-home S e el) d (contact-place S e el d) link-is s)) A.does

    module _ (s : same_handle (handle s1 g1) (handle s2 g2) ≡ false) where
      pub unlinked-full : Z.journal ≤ (extents (tables Z t)).journal → Does Z (unlink_contact Z e) t JournalFull t
      unlinked-full h =
          refused (unlink_contact Z e) JournalFull S
          (unlink-full Z e i p l w (contact-home S e el) d (contact-place S e el d) link-is s (let r = journal_is Z t in omega arith))

      pub unlinked-other : {t1 t2 : List ℕ} → (extents (tables Z t)).journal < Z.journal → Steps Z (contact_remove i p) t t1 → Steps Z (journalled (handle s1 g1) (handle s2 g2)) t1 t2
          → Does Z (unlink_contact Z e) t Done t2
      unfolding contact_remove
      unlinked-other h A B =
          does-as _ (unlink_contact Z e)
          (sym (unlink-other Z e i p l w (contact-home S e el) d (contact-place S e el d) link-is s (let r = journal_is Z t in omega arith)))
          (does-then (contact_remove i p) (journalled (handle s1 g1) (handle s2 g2)) B.larger A.does B.does)

-- no entry comes by it
pub removed-journal : {Z : Sizes} {t t1 : List ℕ} (i p : ℕ) → Steps Z (contact_remove i p) t t1 → (extents (tables Z t1)).journal ≡ (extents (tables Z t)).journal
unfolding contact_remove contact_removed island_set
removed-journal {Z} {t} {t1} i p A = sym (journal_is Z t1) ∙ ap (λ (w : World). length w.removal_journal) A.does.after ∙ journal_is Z t

-- ---- the island of a body
pub island-unnamed : (s g : ℕ) (w : World) → named w (handle s g) ≡ false → body_island w (handle s g) ≡ none
unfolding body_island
island-unnamed s g w e = rw e

-- an island that a slot in use names is live
pub home-lives : {Z : Sizes} {t : List ℕ} (s : ℕ) → Sound Z t → s < (extents (tables Z t)).slots → (members_in Z (tables Z t)).home s ≢ none → Lives Z t ((members_in Z (tables Z t)).home s)
home-lives s S sl d = let h = held S.good.members_wf.rules s sl d in record { in_use = h.home_lt; some = λ q. (let p = h.place_lt in omega arith) }

module _ {Z : Sizes} {t : List ℕ} (s g : ℕ) where
  pub island-named : Sound Z t → named (world_of Z t) (handle s g) ≡ true → body_island (world_of Z t) (handle s g) ≡ (members_in Z (tables Z t)).home s
  unfolding body_island
  island-named S e = rw e (home_is Z t s g S (named_is Z t s g e).slot_lt)

  -- none, or a live island in use
  pub island-lives : Sound Z t → body_island (world_of Z t) (handle s g) ≢ none → Lives Z t (body_island (world_of Z t) (handle s g))
  island-lives S d = go (named (world_of Z t) (handle s g)) refl
    where
      go : (b : Bool) → named (world_of Z t) (handle s g) ≡ b → Lives Z t (body_island (world_of Z t) (handle s g))
      go false e = absurd (d (island-unnamed s g (world_of Z t) e))
      go true e = let q = island-named S e in rw q (home-lives s S (named_is Z t s g e).slot_lt (λ x. d (q ∙ x)))

-- ---- the island of a body, as `body_island` tells it, beside the number i
pub island-same : {n : ℕ} (r : Option ℕ) (i : ℕ) → MatchOption r (n ≡ none) (λ j. (j ≡ n) × (j ≢ none)) → true ≡ option_eq eqb r (Some i) → i ≡ n
island-same None i m e = absurd (false≢true (sym e))
island-same (Some j) i m e = sym (true-eqb j i e) ∙ m.0

pub island-other : {n : ℕ} (r : Option ℕ) (i : ℕ) → MatchOption r (n ≡ none) (λ j. (j ≡ n) × (j ≢ none)) → false ≡ option_eq eqb r (Some i) → i ≢ none → i ≢ n
island-other None i m e d q = d (q ∙ m)
island-other (Some j) i m e d q = false-eqb j i e (m.0 ∙ sym q)
