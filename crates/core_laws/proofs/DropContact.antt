-- The last contact link of an island goes, and its words are blank; then all of them.
use mathlib.Core.Path.{◌≡◌, refl, sym, ◌∙◌, ap, subst}
use mathlib.Core.List.{List, []}
use Prim.Native.Nat.{ℕ, ◌+◌, ◌-◌, ◌*◌, ◌<◌}
use lib.ListN.{length, take, length-map}
use lib.Seq.{set-get_or}
use Rattle.list_in_table.specs.Rules.{list_of}
use Rattle.list_in_table.specs.Word.{writes}
use Rattle.list_in_table.specs.Table.{removed}
use Rattle.list_in_buffer.specs.Part.{Put}
use Rattle.def_kinds.specs.declared.Sizes.{Sizes}
use Rattle.def_kinds.specs.Answers.{Done}
use Rattle.def_state.specs.Plain.{drop_last}
use Rattle.def_state.specs.World.{ContactLink, absent_contact, Island, absent_island, World, done, island_at}
use Rattle.def_state.specs.Fields.{islands_set, island_set, contacts_set}
use Rattle.def_state.specs.Links.{contact_removed}
use Rattle.table_meaning.specs.Layout.{Tables, tables, contacts_at, contacts_span, touches_at, touches_span, extents, contacts_in, elem_words}
use Rattle.table_meaning.specs.Decode.{contact_at, world_of}
use Rattle.table_meaning.specs.Sound.{Sound}
use Rattle.table_meaning.proofs.Frame.{larger-refl, larger-then}
use Rattle.core_laws.specs.Steps.{Steps, drop_contact, drop_contacts}
use Rattle.core_laws.specs.Linking.{contact_remove}
use Rattle.core_laws.specs.Drops.{Stays, JointsStay, Dropped, Cleared}
use Rattle.core_laws.proofs.Then.{refused, does-as, does-then}
use Rattle.core_laws.proofs.At.{steps-as}
use Rattle.core_laws.proofs.Names.{island-at}
use Rattle.core_laws.proofs.LastOut.{set-again, LastIn, last-in, last_place, popped, no-values}
use Rattle.core_laws.proofs.OneContact.{contact-out, contact-taken}
use Rattle.core_laws.proofs.Stays.{stays-refl, stays_then}

-- what the stores ask
pub contact-last : {Z : Sizes} {t : List ℕ} (i e : ℕ) → Sound Z t → i < (extents (tables Z t)).islands → 0 < (contacts_in Z (tables Z t)).count i → e ≡ (contacts_in Z (tables Z t)).last i
    → LastIn Z.edges (extents (tables Z t)).edges i e (tables Z t).contacts
contact-last {Z} {t} i e S il c q = let X = extents (tables Z t) in last-in Z.edges X.edges X.islands (tables Z t).contacts S.good.contacts_wf i e il c q

-- the last one goes: swap removal at the last place
last_out : {Z : Sizes} {t : List ℕ} (i e : ℕ) → Sound Z t → i < (extents (tables Z t)).islands → 0 < (contacts_in Z (tables Z t)).count i → e ≡ (contacts_in Z (tables Z t)).last i
    → contact_remove ((contacts_in Z (tables Z t)).home e) ((contacts_in Z (tables Z t)).place e) (world_of Z t) ≡ drop_contact i (world_of Z t)
unfolding contact_remove contact_removed drop_contact world_of
last_out {Z} {t} i e S il c q =
    let T = tables Z t in
    let X = extents T in
    let w = world_of Z t in
    let xs = (island_at w i).contact_links in
    let l : length xs ≡ length (list_of (contacts_in Z T) i) =
    ap (λ (a : Island). length a.contact_links) (island-at Z X T i il) ∙ length-map (list_of (contacts_in Z T) i) (contact_at T.touches) in
    let p : (contacts_in Z T).place e ≡ length xs - 1 =
    last_place Z.edges X.edges X.islands T.contacts S.good.contacts_wf i e il c q ∙ ap (λ (n : ℕ). n - 1) (sym l) in
    ap (λ (k : ℕ). contact_remove k ((contacts_in Z T).place e) w) (contact-last i e S il c q).home_is
    ∙ ap (λ (k : ℕ). contact_remove i k w) p
    ∙ ap (λ (ys : List ContactLink). done (island_set w i (contacts_set (island_at w i) (take (length xs - 1) ys)))) (set-get_or xs (length xs - 1) absent_contact)

pub contact-dropped : {Z : Sizes} {t t1 t2 : List ℕ} (i e : ℕ) → Sound Z t → i < (extents (tables Z t)).islands → 0 < (contacts_in Z (tables Z t)).count i → e ≡ (contacts_in Z (tables Z t)).last i
    → Put (contacts_at Z) (contacts_span Z) t t1 (removed (tables Z t).contacts 0 (4 * Z.edges) e)
    → Put (touches_at Z) (touches_span Z) t1 t2 (writes (tables Z t1).touches (elem_words (4 * e))) → Dropped Z i t t2
contact-dropped {Z} {t} {t1} {t2} i e S il c q A B =
    let T = tables Z t in
    let X = extents T in
    let L = contact-last i e S il c q in
    let r = contact-out Z e S.long A B in
    record {
      steps = steps-as (contact_remove ((contacts_in Z T).home e) ((contacts_in Z T).place e)) (drop_contact i) (last_out i e S il c q) (contact-taken e S L.elem_lt L.held A B);
      fewer =
          subst (λ (W : Tables). (contacts_in Z W).count i + 1 ≡ (contacts_in Z T).count i) (sym r)
          (popped Z.edges X.edges X.islands T.contacts S.good.contacts_wf i e il c q).count_i;
      stays = subst (Stays T) (sym r) (record { head = refl; slots = refl; members = refl; rows = refl; freed = refl; journal = refl; scan = refl; fit = refl });
      joints = subst (JointsStay T) (sym r) (record { joints = refl; keys = refl; spare = refl });
    }

-- ---- one, then the rest
drop-rest : (i : ℕ) (w : World) → drop_contacts i (drop_contact i w).after ≡ drop_contacts i w
unfolding drop_contacts drop_contact island_set
drop-rest i w =
    ap (λ (is : List Island). done (islands_set w is))
    (set-again w.islands i (contacts_set (island_at w i) (drop_last (island_at w i).contact_links)) absent_island (λ a. contacts_set a []))

pub contacts-more : {Z : Sizes} {t t1 t2 : List ℕ} (i : ℕ) → Steps Z (drop_contact i) t t1 → Steps Z (drop_contacts i) t1 t2 → Steps Z (drop_contacts i) t t2
contacts-more {Z} {t} i A B =
    record {
      does = does-as (λ w. drop_contacts i (drop_contact i w).after) (drop_contacts i) (drop-rest i (world_of Z t)) (does-then (drop_contact i) (drop_contacts i) B.larger A.does B.does);
      larger = larger-then A.larger B.larger;
    }

-- no link in the island
no-links : {Z : Sizes} {t : List ℕ} (i : ℕ) → Sound Z t → i < (extents (tables Z t)).islands → (contacts_in Z (tables Z t)).count i ≡ 0 → (island_at (world_of Z t) i).contact_links ≡ []
unfolding world_of
no-links {Z} {t} i S il c =
    let T = tables Z t in
    ap (λ (a : Island). a.contact_links) (island-at Z (extents T) T i il) ∙ no-values S.good.contacts_wf.rules i il c (contact_at T.touches)

pub contacts-none : {Z : Sizes} {t : List ℕ} (i : ℕ) → Sound Z t → i < (extents (tables Z t)).islands → (contacts_in Z (tables Z t)).count i ≡ 0 → Steps Z (drop_contacts i) t t
unfolding drop_contacts island_set
contacts-none {Z} {t} i S il c =
    let w = world_of Z t in
    let a = island_at w i in
    record {
      does =
          refused (drop_contacts i) Done S
          (ap (λ (ls : List ContactLink). done (island_set w i (contacts_set a ls))) (sym (no-links i S il c)) ∙ ap (λ (is : List Island). done (islands_set w is)) (set-get_or w.islands i absent_island));
      larger = larger-refl (extents (tables Z t));
    }

-- ---- the loop
pub cleared-none : {Z : Sizes} {t : List ℕ} (i : ℕ) → Sound Z t → i < (extents (tables Z t)).islands → (contacts_in Z (tables Z t)).count i ≡ 0 → Cleared Z i t t
cleared-none {Z} {t} i S il c = record { steps = contacts-none i S il c; none = c; stays = stays-refl (tables Z t); joints = record { joints = refl; keys = refl; spare = refl } }

pub cleared_more : {Z : Sizes} {t t1 t2 : List ℕ} (i : ℕ) → Dropped Z i t t1 → Cleared Z i t1 t2 → Cleared Z i t t2
cleared_more i A B =
    record {
      steps = contacts-more i A.steps B.steps;
      none = B.none;
      stays = stays_then A.stays B.stays;
      joints = record { joints = B.joints.joints ∙ A.joints.joints; keys = B.joints.keys ∙ A.joints.keys; spare = B.joints.spare ∙ A.joints.spare };
    }
