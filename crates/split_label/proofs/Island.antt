-- The links of an island are the pairs of its two chains, and its labels are those of the forest in which all of them were joined.
use mathlib.Core.Path.{◌≡◌, refl, sym, ◌∙◌, ap, subst}
use mathlib.Core.List.{List, [], ◌∷◌, map}
use Prim.Native.Nat.{ℕ, ◌+◌, ◌-◌, ◌*◌, ◌≤◌, ◌<◌}
use native.Mathlib.Omega.{arith}
use lib.ListN.{length}
use Rattle.list_in_table.specs.Rules.{list_of}
use Rattle.list_in_table.proofs.Order.{length-list}
use Rattle.list_in_table.proofs.Pigeon.{count-le}
use Rattle.def_kinds.specs.declared.Sizes.{Sizes}
use Rattle.def_state.specs.World.{Handle, Island, World, island_at}
use Rattle.def_state.specs.Connected.{label, components, keep_label}
use Rattle.def_state.specs.Split.{node_of, ends, contact_ends, joint_ends, links_of, labels_of}
use Rattle.table_meaning.specs.declared.Table.TheVariants.{Joints, Keys, Contacts, Touches}
use Rattle.table_meaning.specs.Layout.{tables, extents, members_in, contacts_in, joints_in}
use Rattle.table_meaning.specs.Decode.{handle_at, contact_at, joint_at, world_of}
use Rattle.table_meaning.specs.Sound.{Sound}
use Rattle.core_laws.proofs.Names.{island-at}
use Rattle.split_forest.specs.Groups.{Inside, Groups}
use Rattle.split_forest.specs.Forest.{at, root_of, Forest, ForestStands, NameReady}
use Rattle.split_forest.proofs.Counts.{components-none}
use Rattle.split_forest.proofs.Labels.{length_label}
use Rattle.split_label.specs.Ends.{pair_at, pairs_in, pair_ends, Goes, Over, Walks}
use Rattle.split_label.specs.Labelled.{Ready, Labelled}
use Rattle.split_label.proofs.Nodes.{bodies-are}

-- ---- the pairs of links
contact-pair : (x : List ℕ) (e : ℕ) → ((contact_at x e).body1 ≡ (pair_at x (4 * e + 0)).0) × ((contact_at x e).body2 ≡ (pair_at x (4 * e + 0)).1)
contact-pair x e =
    let q : 4 * e ≡ 4 * e + 0 = omega arith in
    (ap (handle_at x) q, ap (λ (j : ℕ). handle_at x (j + 2)) q)

joint-pair : (x : List ℕ) (p : ℕ) → (joint_at x p).body2 ≡ (pair_at x (8 * p + 4)).1
joint-pair x p = let q : 8 * p + 6 ≡ 8 * p + 4 + 2 = omega arith in ap (handle_at x) q

module _ (w : World) (i : ℕ) (x : List ℕ) where
  contact-ends : (L : List ℕ) (ls : List (ℕ × ℕ)) → contact_ends w i (map (contact_at x) L) ls ≡ pair_ends w i (map (λ e. pair_at x (4 * e + 0)) L) ls
  unfolding contact_ends pair_ends
  contact-ends [] ls = refl
  contact-ends (e ∷ L) ls =
      let c = contact-pair x e in
      ap (λ (h : Handle). ends (node_of w i h) (node_of w i (contact_at x e).body2) (contact_ends w i (map (contact_at x) L) ls)) c.0
      ∙ ap (λ (h : Handle). ends (node_of w i (pair_at x (4 * e + 0)).0) (node_of w i h) (contact_ends w i (map (contact_at x) L) ls)) c.1
      ∙ ap (ends (node_of w i (pair_at x (4 * e + 0)).0) (node_of w i (pair_at x (4 * e + 0)).1)) (contact-ends L ls)

  joint-ends : (L : List ℕ) → joint_ends w i (map (joint_at x) L) ≡ pair_ends w i (map (λ p. pair_at x (8 * p + 4)) L) []
  unfolding joint_ends pair_ends
  joint-ends [] = refl
  joint-ends (p ∷ L) =
      ap (λ (h : Handle). ends (node_of w i (pair_at x (8 * p + 4)).0) (node_of w i h) (joint_ends w i (map (joint_at x) L))) (joint-pair x p)
      ∙ ap (ends (node_of w i (pair_at x (8 * p + 4)).0) (node_of w i (pair_at x (8 * p + 4)).1)) (joint-ends L)

-- the pairs of the two chains
abbrev joint_pairs : Sizes → List ℕ → ℕ → List (Handle × Handle)
joint_pairs Z t i = pairs_in (joints_in Z (tables Z t)) (tables Z t).keys 8 4 i

abbrev contact_pairs : Sizes → List ℕ → ℕ → List (Handle × Handle)
contact_pairs Z t i = pairs_in (contacts_in Z (tables Z t)) (tables Z t).touches 4 0 i

module _ {Z : Sizes} {t : List ℕ} (i : ℕ) (S : Sound Z t) (l : i < (extents (tables Z t)).islands) where
  abbrev w : World
  w = world_of Z t

  links-are : links_of w i ≡ pair_ends w i (contact_pairs Z t i) (pair_ends w i (joint_pairs Z t i) [])
  unfolding links_of world_of pairs_in
  links-are =
      let e = island-at Z (extents (tables Z t)) (tables Z t) i l in
      ap (λ (a : Island). contact_ends (world_of Z t) i a.contact_links (joint_ends (world_of Z t) i a.joint_links)) e
      ∙ contact-ends (world_of Z t) i (tables Z t).touches (list_of (contacts_in Z (tables Z t)) i)
      (joint_ends (world_of Z t) i (map (joint_at (tables Z t).keys) (list_of (joints_in Z (tables Z t)) i)))
      ∙ ap (pair_ends (world_of Z t) i (map (λ e. pair_at (tables Z t).touches (4 * e + 0)) (list_of (contacts_in Z (tables Z t)) i)))
      (joint-ends (world_of Z t) i (tables Z t).keys (list_of (joints_in Z (tables Z t)) i))

  -- how many bodies
  pub bodies-long : length (island_at w i).bodies ≡ (members_in Z (tables Z t)).count i
  bodies-long = ap length (bodies-are Z t i l) ∙ length-list S.good.members_wf.rules i l

  pub bodies-few : (members_in Z (tables Z t)).count i ≤ Z.slots
  bodies-few = let a = count-le S.good.members_wf.rules i l in let b = S.good.slots_le in omega arith

  pub labels_are : (n : ℕ) → n ≡ (members_in Z (tables Z t)).count i → label (links_of w i) n ≡ labels_of w i
  unfolding labels_of
  labels_are n e = ap (label (links_of w i)) (e ∙ sym bodies-long)

  -- the two chains can be walked
  pub joints-walk : Walks Z t Joints Keys 8 4 i
  joints-walk =
      record {
        n = (extents (tables Z t)).joints;
        m = (extents (tables Z t)).islands;
        rules = S.good.joints_wf.rules;
        list_lt = l;
        lists = S.good.islands_le;
        elems = (let a = S.good.joints_le in omega arith);
        words = λ e h. (let a = S.good.joints_le in omega arith);
      }

  pub contacts-walk : Walks Z t Contacts Touches 4 0 i
  contacts-walk =
      record {
        n = (extents (tables Z t)).edges;
        m = (extents (tables Z t)).islands;
        rules = S.good.contacts_wf.rules;
        list_lt = l;
        lists = S.good.islands_le;
        elems = (let a = S.good.edges_le in omega arith);
        words = λ e h. (let a = S.good.edges_le in omega arith);
      }

  -- the forest after both walks
  module _ {n x y : ℕ} {p z p1 z1 p2 z2 : ℕ → ℕ} (C : ForestStands n p z []) (A : Goes n p p1 z1 (pair_ends w i (joint_pairs Z t i)) x) (B : Goes n p1 p2 z2 (pair_ends w i (contact_pairs Z t i)) y) where
    pub all-joined : Groups (links_of w i) n (root_of p2)
    all-joined = subst (λ (ls : List (ℕ × ℕ)). Groups ls n (root_of p2)) (sym links-are) (B.groups _ (A.groups [] C.groups))

    pub all-counted : n ≡ components (label (links_of w i) n) + y + x
    all-counted =
        let c = components-none n in
        let a = A.fewer [] C.groups in
        let b = B.fewer _ (A.groups [] C.groups) in
        let e : components (label (links_of w i) n) ≡ components (label (pair_ends w i (contact_pairs Z t i) (pair_ends w i (joint_pairs Z t i) [])) n) =
        ap (λ (ls : List (ℕ × ℕ)). components (label ls n)) links-are in
        omega arith

-- ---- label_island, step by step
module _ {Z : Sizes} {t : List ℕ} {i : ℕ} {parent size first labels : List ℕ} (R : Ready Z t i parent size first labels) where
  abbrev L : i < (extents (tables Z t)).islands
  L = R.lives.in_use

  pub few-bodies : (length size ≡ length parent) × (length parent ≤ 4096)
  few-bodies = (R.size_long ∙ sym R.parent_long, let a = bodies-few i R.sound L in let b = R.few in let c = R.parent_long in omega arith)

  -- a forest after some of the work
  pub over-at : {p z : List ℕ} {n : ℕ} → Forest n (at p) (at z) → length p ≡ n → n ≡ length parent → length z ≡ length size → Over Z t i p z
  over-at {p} {z} F a b c =
      record {
        sound = R.sound;
        lives = R.lives;
        wood = record { forest = rw a F; as_long = c ∙ R.size_long ∙ sym R.parent_long ∙ sym b ∙ sym a };
        long = a ∙ b ∙ R.parent_long;
      }

  pub name-ready : {p : List ℕ} {n : ℕ} {y : ℕ → ℕ} → Forest n (at p) y → length p ≡ n → n ≡ length parent → NameReady p first labels
  name-ready F a b =
      record {
        n_small = rw a F.n_small;
        within = rw a F.within;
        first_long = R.first_long ∙ sym R.parent_long ∙ sym b ∙ sym a;
        labels_long = R.labels_long ∙ sym R.parent_long ∙ sym b ∙ sym a;
      }

  -- the forest cleared, after the joint links, after the contact links; m, m1 and m2 are the lengths of its slices
  module _ {m m1 m2 x y : ℕ} {p z p1 z1 p2 z2 : ℕ → ℕ} (C : ForestStands (length parent) p z []) (l : m ≡ length parent)
      (A : Goes m p p1 z1 (pair_ends (world_of Z t) i (joint_pairs Z t i)) x) (l1 : m1 ≡ m)
      (B : Goes m1 p1 p2 z2 (pair_ends (world_of Z t) i (contact_pairs Z t i)) y) (l2 : m2 ≡ m1)
    where
      C2 : ForestStands m2 p z []
      C2 = rw (l2 ∙ l1 ∙ l) C

      A2 : Goes m2 p p1 z1 (pair_ends (world_of Z t) i (joint_pairs Z t i)) x
      A2 = rw (l2 ∙ l1) A

      B2 : Goes m2 p1 p2 z2 (pair_ends (world_of Z t) i (contact_pairs Z t i)) y
      B2 = rw l2 B

      -- what is left when all joins are counted
      pub joins-fit : m2 ≡ components (label (links_of (world_of Z t) i) m2) + y + x
      joins-fit = all-counted i R.sound L C2 A2 B2

      pub labelled : {out : List ℕ} {keep : ℕ} → ((ls : List (ℕ × ℕ)) → Groups ls m2 (root_of p2) → out ≡ label ls m2)
          → ((ls : List (ℕ × ℕ)) → Groups ls m2 (root_of p2) → keep ≡ keep_label (label ls m2)) → Labelled Z t i out (record { components = m2 - x - y; keep = keep })
      labelled N M =
          let G = all-joined i R.sound L C2 A2 B2 in
          let e = labels_are i R.sound L m2 (l2 ∙ l1 ∙ l ∙ R.parent_long) in
          record {
            labels_are = N _ G ∙ e;
            components_are = (let c = joins-fit in let d = ap components e in omega arith);
            keep_is = M _ G ∙ ap keep_label e;
            inside = subst (Inside (links_of (world_of Z t) i)) (sym (ap length (N _ G) ∙ length_label (links_of (world_of Z t) i) m2)) G.inside;
          }
