-- From the steps to the call: joint link.
use mathlib.Core.Path.{◌≡◌, sym, ◌∙◌, ap, subst}
use mathlib.Core.Logic.{◌≢◌}
use mathlib.Core.List.{List}
use Prim.Native.Nat.{ℕ, ◌+◌, ◌*◌, ◌<◌}
use native.Mathlib.Omega.{arith}
use lib.ListN.{length, get_or}
use Rattle.list_in_table.specs.Rules.{none}
use Rattle.list_in_table.proofs.Order.{length-list}
use Rattle.def_kinds.specs.declared.Sizes.{Sizes}
use Rattle.def_kinds.specs.Answers.{Done}
use Rattle.def_state.specs.World.{Handle, Key, Island, absent_island, World, Step, done, island_at}
use Rattle.def_state.specs.Links.{joint_home, joint_below, merge_islands, target, merged, joint_pushed, new_place, take_place, joint_room, link_joint}
use Rattle.table_meaning.specs.Layout.{Tables, tables, Extents, extents, members_in}
use Rattle.table_meaning.specs.Decode.{world_of}
use Rattle.table_meaning.specs.Sound.{Sound}
use Rattle.table_meaning.specs.Does.{Does}
use Rattle.table_meaning.proofs.Unique.{islands-is}
use Rattle.table_meaning.proofs.Frame.{kept_then}
use Rattle.core_laws.specs.Steps.{Steps}
use Rattle.core_laws.specs.Lives.{Lives}
use Rattle.core_laws.specs.Linking.{place_ready, joint_hold}
use Rattle.core_laws.specs.Merging.{LinksStay, MergeDone, LinkEnds}
use Rattle.core_laws.specs.Places.{Unlinked}
use Rattle.core_laws.proofs.Names.{island-at}
use Rattle.core_laws.proofs.GrowPlace.{place-is-ready}
use Rattle.core_laws.proofs.Link.{survivor-same, joint-new, merged-hold}

-- an island's count is the length of its list in the state
count_is : {Z : Sizes} {t : List ℕ} (i : ℕ) → Sound Z t → i < (extents (tables Z t)).islands → (members_in Z (tables Z t)).count i ≡ length (island_at (world_of Z t) i).bodies
unfolding world_of
count_is {Z} {t} i S l =
    sym (length-list S.good.members_wf.rules i l) ∙ ap (λ (a : Island). length a.bodies) (sym (island-at Z (extents (tables Z t)) (tables Z t) i l))

-- where the islands are the same, a live one is live
lives-same : {Z : Sizes} {t u : List ℕ} (i : ℕ) → Sound Z t → Sound Z u → (world_of Z u).islands ≡ (world_of Z t).islands → Lives Z t i → Lives Z u i
lives-same {Z} {t} {u} i S R e A =
    let x : length (world_of Z u).islands ≡ length (world_of Z t).islands = ap length e in
    let a = islands-is Z t in
    let b = islands-is Z u in
    let l : i < (extents (tables Z u)).islands = (let c = A.in_use in omega arith) in
    record {
      in_use = l;
      some = λ z. A.some (count_is i S A.in_use ∙ ap (λ (is : List Island). length (get_or is i absent_island).bodies) (sym e) ∙ sym (count_is i R l) ∙ z);
    }

-- after a place was made ready, the island is live, and the key is not linked
pub ready-lives : {Z : Sizes} {t u : List ℕ} (i : ℕ) → Sound Z t → Steps Z place_ready t u → Lives Z t i → Lives Z u i
ready-lives i S A L = lives-same i S A.does.sound (place-is-ready A).islands L

pub ready-home : {Z : Sizes} {t u : List ℕ} (q : Key) → Steps Z place_ready t u → joint_home (world_of Z u) q ≡ joint_home (world_of Z t) q
unfolding joint_home
ready-home q A = ap (λ (is : List Island). joint_below is q (length is)) (place-is-ready A).islands

-- a merge links no key that was not linked
pub merge-unlinked : {Z : Sizes} {T U : Tables} {kind a b c : ℕ} → LinksStay Z T U → Unlinked Z T kind a b c → Unlinked Z U kind a b c
merge-unlinked {Z} {T} {U} S n p l k =
    let lt : p < (extents T).joints = subst (λ (X : Extents). p < X.joints) S.extents_same l in
    n p lt
    (record {
      linked = λ e. k.linked (S.joint_none p lt e);
      key =
          record {
            kind_is = ap (λ (x : List ℕ). get_or x (8 * p) 0) (sym S.keys) ∙ k.key.kind_is;
            a_is = ap (λ (x : List ℕ). get_or x (8 * p + 1) 0) (sym S.keys) ∙ k.key.a_is;
            b_is = ap (λ (x : List ℕ). get_or x (8 * p + 2) 0) (sym S.keys) ∙ k.key.b_is;
            c_is = ap (λ (x : List ℕ). get_or x (8 * p + 3) 0) (sym S.keys) ∙ k.key.c_is;
          };
    })

-- ---- the call, from the two steps
module _ (Z : Sizes) (t : List ℕ) (q : Key) (h1 h2 : Handle) (n : joint_home (world_of Z t) q ≡ none) where
  abbrev w : World
  w = world_of Z t

  module _ (a b i : ℕ) (E : LinkEnds Z h1 h2 t a b) (d : i ≢ none) {t1 : List ℕ} (M : MergeDone Z a b t i t1) where
    pub joint-linked : {t2 : List ℕ} → joint_room Z (world_of Z t) ≢ 0 → Steps Z (joint_hold i q h1 h2) t1 t2 → Does Z (link_joint Z q h1 h2) t Done t2
    unfolding joint_hold
    joint-linked r B =
        let g : target w h1 h2 ≡ i = E.target_is ∙ sym (survivor-same w a b) ∙ sym M.survivor in
        let f : link_joint Z q h1 h2 w ≡ done (joint_pushed i (record { place = new_place w; key = q; body1 = h1; body2 = h2 }) (take_place (merge_islands a b w))) =
        joint-new Z q h1 h2 w n (λ x. d (sym g ∙ x)) r
        ∙ ap (λ (k : ℕ). done (joint_pushed k (record { place = new_place w; key = q; body1 = h1; body2 = h2 }) (take_place (merged h1 h2 w)))) g
        ∙ ap (λ (v : World). done (joint_pushed i (record { place = new_place w; key = q; body1 = h1; body2 = h2 }) (take_place v))) E.merged_is in
        record {
          sound = B.does.sound;
          answer = sym (ap (λ (x : Step). x.answer) f);
          after = B.does.after ∙ ap (λ (v : World). (joint_hold i q h1 h2 v).after) M.steps.does.after ∙ merged-hold a b i q h1 h2 w ∙ sym (ap (λ (x : Step). x.after) f);
          frame = kept_then B.larger M.steps.does.frame B.does.frame;
        }
