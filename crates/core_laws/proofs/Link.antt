-- Linking a contact and a joint: what the definitions say where their tests are known, and from the steps to the call.
use mathlib.Core.Path.{◌≡◌, refl, sym, ◌∙◌, ap}
use mathlib.Core.Logic.{◌≢◌}
use mathlib.Core.Bool.{Bool, true, false}
use mathlib.Core.List.{List, [], ◌∷◌}
use Prim.Native.Nat.{ℕ, ◌+◌, ◌≤◌, ◌<◌}
use native.Mathlib.Omega.{arith}
use lib.Dec.{eqb}
use borrow.Author.Tests.{eq-eqb, ne_eqb, eqb-true, le-leb, lt-leb}
use lib.ListN.{length}
use Rattle.def_kinds.specs.Choice.{pick}
use Rattle.def_kinds.specs.declared.Sizes.{Sizes}
use Rattle.def_kinds.specs.Answers.{Done, Nothing, OverSize, JointsFull}
use Rattle.def_state.specs.Plain.{top, empty, drop_last, last_of}
use Rattle.def_state.specs.World.{Handle, Key, ContactLink, World, Step, done, gives, island_at, body_island}
use Rattle.def_state.specs.Fields.{places_set, island_set}
use Rattle.def_state.specs.Membership.{clear_pending_split_of}
use Rattle.def_state.specs.Links.{contact_home, joint_home, survivor, absorb, merge_islands, target, merged, contact_pushed, joint_pushed, track, link_contact, new_place, take_place, joint_room, link_joint}
use Rattle.table_meaning.specs.Decode.{world_of}
use Rattle.table_meaning.specs.Does.{Does}
use Rattle.table_meaning.proofs.Frame.{larger-then, kept_then}
use Rattle.core_laws.specs.Steps.{Steps}
use Rattle.core_laws.specs.Linking.{tracking, contact_push, place_readied, place_ready, joint_push, joint_hold}

-- ---- the island that holds a link of these ends
module _ (w : World) (h1 h2 : Handle) where
  -- neither is a member
  pub target_none : body_island w h1 ≡ top → body_island w h2 ≡ top → target w h1 h2 ≡ top
  unfolding target
  target_none a b = rw (eq-eqb (body_island w h1) top a) b

  -- the second alone, the first alone
  pub target-second : body_island w h1 ≡ top → target w h1 h2 ≡ body_island w h2
  unfolding target
  target-second a = rw (eq-eqb (body_island w h1) top a)

  pub merged-second : body_island w h1 ≡ top → merged h1 h2 w ≡ w
  unfolding merged
  merged-second a = rw (eq-eqb (body_island w h1) top a)

  pub target_first : body_island w h1 ≢ top → body_island w h2 ≡ top → target w h1 h2 ≡ body_island w h1
  unfolding target
  target_first a b = rw (ne_eqb (body_island w h1) top a, eq-eqb (body_island w h2) top b)

  pub merged-first : body_island w h1 ≢ top → body_island w h2 ≡ top → merged h1 h2 w ≡ w
  unfolding merged
  merged-first a b = rw (ne_eqb (body_island w h1) top a, eq-eqb (body_island w h2) top b)

  -- both
  pub target-both : body_island w h1 ≢ top → body_island w h2 ≢ top → target w h1 h2 ≡ survivor w (body_island w h1) (body_island w h2)
  unfolding target
  target-both a b = rw (ne_eqb (body_island w h1) top a, ne_eqb (body_island w h2) top b)

  pub merged-both : body_island w h1 ≢ top → body_island w h2 ≢ top → merged h1 h2 w ≡ merge_islands (body_island w h1) (body_island w h2) w
  unfolding merged
  merged-both a b = rw (ne_eqb (body_island w h1) top a, ne_eqb (body_island w h2) top b)

-- of an island with itself, that island survives
pub survivor-same : (w : World) (a b : ℕ) → pick (eqb a b) a (survivor w a b) ≡ survivor w a b
unfolding survivor
survivor-same w a b = go (eqb a b) refl
  where
    go : (c : Bool) → eqb a b ≡ c → pick c a (survivor w a b) ≡ survivor w a b
    go true e = sym (ap (λ (k : ℕ). survivor w a k) (sym (eqb-true a b e)) ∙ rw (le-leb (length (island_at w a).bodies) (length (island_at w a).bodies) (omega arith)))
    go false e = refl

-- ---- contact link
module _ (Z : Sizes) (e : ℕ) (h1 h2 : Handle) (w : World) where
  abbrev v : World
  v = track (e + 1) w

  abbrev l : ContactLink
  l = record { edge_id = e; body1 = h1; body2 = h2 }

  pub link-over : Z.edges ≤ e → link_contact Z e h1 h2 w ≡ gives OverSize w
  unfolding link_contact
  link-over h = rw (le-leb Z.edges e h)

  module _ (h : e < Z.edges) where
    pub link-old : contact_home v e ≢ top → link_contact Z e h1 h2 w ≡ gives Nothing v
    unfolding link_contact
    link-old d = rw (lt-leb Z.edges e h, ne_eqb (contact_home v e) top d)

    module _ (n : contact_home v e ≡ top) where
      pub link-loose : target v h1 h2 ≡ top → link_contact Z e h1 h2 w ≡ gives Nothing v
      unfolding link_contact
      link-loose g = rw (lt-leb Z.edges e h, eq-eqb (contact_home v e) top n, eq-eqb (target v h1 h2) top g)

      pub link-new : target v h1 h2 ≢ top → link_contact Z e h1 h2 w ≡ done (contact_pushed (target v h1 h2) l (merged h1 h2 v))
      unfolding link_contact
      link-new g = rw (lt-leb Z.edges e h, eq-eqb (contact_home v e) top n, ne_eqb (target v h1 h2) top g)

-- from the steps: only tracked; tracked, merged and pushed
module _ {Z : Sizes} {t t1 : List ℕ} (e : ℕ) (f : World → Step) (A : Steps Z (tracking (e + 1)) t t1) where
  pub tracked-only : f (world_of Z t) ≡ gives Nothing (track (e + 1) (world_of Z t)) → Does Z f t Nothing t1
  unfolding tracking
  tracked-only q =
      record {
        sound = A.does.sound;
        answer = sym (ap (λ (x : Step). x.answer) q);
        after = A.does.after ∙ sym (ap (λ (x : Step). x.after) q);
        frame = A.does.frame;
      }

  pub tracked-merged : {t2 t3 : List ℕ} (a b i : ℕ) (l : ContactLink) → f (world_of Z t) ≡ done (contact_pushed i l (merge_islands a b (track (e + 1) (world_of Z t))))
      → Steps Z (λ w. done (merge_islands a b w)) t1 t2 → Steps Z (contact_push i l) t2 t3 → Does Z f t Done t3
  unfolding tracking contact_push
  tracked-merged a b i l q B C =
      record {
        sound = C.does.sound;
        answer = sym (ap (λ (x : Step). x.answer) q);
        after = C.does.after ∙ ap (λ (u : World). contact_pushed i l u) (B.does.after ∙ ap (merge_islands a b) A.does.after) ∙ sym (ap (λ (x : Step). x.after) q);
        frame = kept_then C.larger (kept_then B.larger A.does.frame B.does.frame) C.does.frame;
      }

-- ---- joint link
module _ (Z : Sizes) (q : Key) (h1 h2 : Handle) (w : World) where
  pub joint-old : joint_home w q ≢ top → link_joint Z q h1 h2 w ≡ gives Nothing w
  unfolding link_joint
  joint-old d = rw (ne_eqb (joint_home w q) top d)

  module _ (n : joint_home w q ≡ top) where
    pub joint-loose : target w h1 h2 ≡ top → link_joint Z q h1 h2 w ≡ gives Nothing w
    unfolding link_joint
    joint-loose g = rw (eq-eqb (joint_home w q) top n, eq-eqb (target w h1 h2) top g)

    module _ (g : target w h1 h2 ≢ top) where
      pub joint-full : joint_room Z w ≡ 0 → link_joint Z q h1 h2 w ≡ gives JointsFull w
      unfolding link_joint
      joint-full r = rw (eq-eqb (joint_home w q) top n, ne_eqb (target w h1 h2) top g, eq-eqb (joint_room Z w) 0 r)

      pub joint-new : joint_room Z w ≢ 0
          → link_joint Z q h1 h2 w ≡ done (joint_pushed (target w h1 h2) (record { place = new_place w; key = q; body1 = h1; body2 = h2 }) (take_place (merged h1 h2 w)))
      unfolding link_joint
      joint-new r = rw (eq-eqb (joint_home w q) top n, ne_eqb (target w h1 h2) top g, ne_eqb (joint_room Z w) 0 r)

-- a place made ready and then taken is the place that the definition takes
place-taken : (v : World) → places_set (place_readied v) (place_readied v).joint_places (drop_last (place_readied v).free_places) ≡ take_place v
unfolding place_readied take_place
place-taken v = go v.free_places refl
  where
    go : (xs : List ℕ) → v.free_places ≡ xs
        → places_set (pick (empty xs) (places_set v (v.joint_places + 1) (v.joint_places ∷ [])) v) (pick (empty xs) (places_set v (v.joint_places + 1) (v.joint_places ∷ [])) v).joint_places
        (drop_last (pick (empty xs) (places_set v (v.joint_places + 1) (v.joint_places ∷ [])) v).free_places)
        ≡ pick (empty xs) (places_set v (v.joint_places + 1) []) (places_set v v.joint_places (drop_last v.free_places))
    go [] e = refl
    go (x ∷ xs) e = refl

place-new : (v : World) → last_of top (place_readied v).free_places ≡ new_place v
unfolding place_readied new_place
place-new v = go v.free_places refl
  where
    go : (xs : List ℕ) → v.free_places ≡ xs
        → last_of top (pick (empty xs) (places_set v (v.joint_places + 1) (v.joint_places ∷ [])) v).free_places ≡ pick (empty xs) v.joint_places (last_of top v.free_places)
    go [] e = refl
    go (x ∷ xs) e = refl

-- the two steps together
pub place-joined : (i : ℕ) (q : Key) (h1 h2 : Handle) (v : World)
    → (joint_push i q h1 h2 (place_readied v)).after ≡ joint_pushed i (record { place = new_place v; key = q; body1 = h1; body2 = h2 }) (take_place v)
unfolding joint_push
place-joined i q h1 h2 v =
    ap (λ (p : ℕ). joint_pushed i (record { place = p; key = q; body1 = h1; body2 = h2 }) (places_set (place_readied v) (place_readied v).joint_places (drop_last (place_readied v).free_places))) (place-new v)
    ∙ ap (joint_pushed i (record { place = new_place v; key = q; body1 = h1; body2 = h2 })) (place-taken v)

-- from the steps: a place made ready and taken
pub place-held : {Z : Sizes} {t t1 t2 : List ℕ} (i : ℕ) (q : Key) (h1 h2 : Handle) → Steps Z place_ready t t1 → Steps Z (joint_push i q h1 h2) t1 t2 → Steps Z (joint_hold i q h1 h2) t t2
unfolding place_ready joint_hold
place-held {Z} {t} i q h1 h2 A B =
    record {
      does =
          record {
            sound = B.does.sound;
            answer = refl;
            after = B.does.after ∙ ap (λ (u : World). (joint_push i q h1 h2 u).after) A.does.after ∙ place-joined i q h1 h2 (world_of Z t);
            frame = kept_then B.larger A.does.frame B.does.frame;
          };
      larger = larger-then A.larger B.larger;
    }

-- merging touches no place of the key table
pick-both : (P : World → Type 0) (c : Bool) {u v : World} → P u → P v → P (pick c u v)
pick-both P true p q = p
pick-both P false p q = q

abbrev SamePlaces : World → World → Type 0
SamePlaces w u = (u.joint_places ≡ w.joint_places) × (u.free_places ≡ w.free_places)

absorb-places : (a b : ℕ) (w : World) → SamePlaces w (absorb a b w)
unfolding absorb island_set clear_pending_split_of
absorb-places a b w = (refl, refl)

merge-places : (a b : ℕ) (w : World) → SamePlaces w (merge_islands a b w)
unfolding merge_islands
merge-places a b w =
    pick-both (SamePlaces w) (eqb a b) (refl, refl) (pick-both (SamePlaces w) (eqb (survivor w a b) a) (absorb-places a b w) (absorb-places b a w))

new-place-same : (w u : World) → SamePlaces w u → new_place u ≡ new_place w
unfolding new_place
new-place-same w u p = rw (p.0, p.1)

-- the joint link after a merge
pub merged-hold : (a b i : ℕ) (q : Key) (h1 h2 : Handle) (w : World)
    → (joint_hold i q h1 h2 (merge_islands a b w)).after ≡ joint_pushed i (record { place = new_place w; key = q; body1 = h1; body2 = h2 }) (take_place (merge_islands a b w))
unfolding joint_hold
merged-hold a b i q h1 h2 w =
    ap (λ (p : ℕ). joint_pushed i (record { place = p; key = q; body1 = h1; body2 = h2 }) (take_place (merge_islands a b w))) (new-place-same w (merge_islands a b w) (merge-places a b w))

-- how many joint links fit yet
pub merged-room : (Z : Sizes) (a b : ℕ) (w : World) → joint_room Z (merge_islands a b w) ≡ joint_room Z w
unfolding joint_room
merged-room Z a b w = let p = merge-places a b w in rw (p.0, p.1)
