-- What sound tables hold is `Fine`.
use mathlib.Core.Path.{◌≡◌, refl, sym, ◌∙◌, ap, subst}
use mathlib.Core.Logic.{◌≢◌, ⊎_elim}
use mathlib.Core.List.{List, [], ◌∷◌, map}
use Prim.Native.Nat.{ℕ, zero, suc, ◌*◌, ◌≤◌, ◌<◌}
use native.Mathlib.Omega.{arith}
use lib.ListN.{length, get_or, length-map}
use Rattle.list_in_table.specs.Rules.{none, View, Rules, list_of}
use Rattle.list_in_table.proofs.Laws.{held_in}
use Rattle.list_in_table.proofs.Same.{below}
use Rattle.list_in_table.proofs.Order.{At, length-list, list_at, list-of}
use Rattle.list_in_table.proofs.Pigeon.{pigeon}
use Rattle.def_kinds.specs.declared.Sizes.{Sizes}
use Rattle.def_state.specs.Plain.{top}
use Rattle.def_state.specs.World.{Body, ContactLink, absent_contact, JointLink, absent_joint, Island, absent_island, World, body_of, island_at}
use Rattle.table_meaning.specs.Layout.{Tables, tables, Extents, extents, members_in, contacts_in, joints_in, freed_in}
use Rattle.table_meaning.specs.Decode.{flag, body_at, contact_at, joint_at, island_in, decode, world_of}
use Rattle.table_meaning.specs.Rule.{Vacant, Filled, Live, Freed}
use Rattle.table_meaning.specs.Sound.{Good, Sound}
use Rattle.table_meaning.specs.Proper.{key_at}
use Rattle.table_meaning.proofs.Proper.{good-is}
use Rattle.table_meaning.proofs.Tab.{length-tabulate, get_d_beyond}
use Rattle.core_laws.proofs.Names.{island-at, body-of}
use Rattle.theorem_split.specs.Graph.{In}
use Rattle.theorem_split.specs.Fine.{Fine}
use Rattle.theorem_split.proofs.Member.{at_in, in-at}
use Rattle.theorem_split.proofs.Homes.{in_use}
use Rattle.theorem_split.proofs.Several.{island-is}

-- a listed element names its list and its place
module _ {n m : ℕ} {S : View} (R : Rules n m S) (i : ℕ) (l : i < m) where
  at_place : (p : ℕ) → p < length (list_of S i) → At n S i p (get_or (list_of S i) p 0)
  at_place p pl = list_at R i l p (rw (length-list R i l) at pl)

  in-home : (s : ℕ) → In s (list_of S i) → (s < n) × (S.home s ≡ i)
  in-home s k =
      let r = at_in 0 k in
      let A = at_place r.place r.lt in
      (subst (λ (x : ℕ). x < n) r.is A.lt, subst (λ (x : ℕ). S.home x ≡ i) r.is A.home_is)

  one_place : (p q : ℕ) → p < length (list_of S i) → q < length (list_of S i) → get_or (list_of S i) p 0 ≡ get_or (list_of S i) q 0 → p ≡ q
  one_place p q pl ql e = sym (at_place p pl).place_is ∙ ap S.place e ∙ (at_place q ql).place_is

  list-few : length (list_of S i) ≤ n
  list-few = pigeon n (length (list_of S i)) (λ p. get_or (list_of S i) p 0) (λ p pl. (at_place p pl).lt) one_place

  list-none : S.count i ≡ 0 → list_of S i ≡ []
  list-none e = no-list (list_of S i) (length-list R i l ∙ e)
    where
      no-list : (xs : List ℕ) → length xs ≡ 0 → xs ≡ []
      no-list [] e = refl
      no-list (x ∷ xs) e = absurd (let z : suc (length xs) ≡ 0 = e in omega arith)

map_at : {A : Type 0} (f : ℕ → A) (d : A) (xs : List ℕ) (p : ℕ) → p < length xs → get_or (map f xs) p d ≡ f (get_or xs p 0)
map_at f d [] p l = absurd (omega arith)
map_at f d (x ∷ xs) zero l = refl
map_at f d (x ∷ xs) (suc p) l = map_at f d xs p (omega arith)

module _ (Z : Sizes) (X : Extents) (T : Tables) (G : Good Z X T) where
  abbrev w : World
  w = decode Z X T

  abbrev R : Rules X.slots X.islands (members_in Z T)
  R = G.members_wf.rules

  abbrev C : Rules X.edges X.islands (contacts_in Z T)
  C = G.contacts_wf.rules

  abbrev J : Rules X.joints X.islands (joints_in Z T)
  J = G.joints_wf.rules

  abbrev Fr : Rules X.islands 1 (freed_in Z T)
  Fr = G.freed_wf.rules

  number : length w.islands ≡ X.islands
  number = length-tabulate X.islands (island_in Z T)

  used : (i : ℕ) → i < length w.islands → i < X.islands
  used i l = rw number at l

  bodies-at : (i : ℕ) → i < X.islands → (island_at w i).bodies ≡ list_of (members_in Z T) i
  bodies-at i l = ap (λ (a : Island). a.bodies) (island-at Z X T i l)

  -- a body of island i: its slot is in use, and its home is i
  body-home : (i s : ℕ) → In s (island_at w i).bodies → (i < X.islands) × (s < X.slots) × ((members_in Z T).home s ≡ i)
  body-home i s m =
      let l = used i (in_use w i m) in
      let h = in-home R i l s (subst (λ (x : List ℕ). In s x) (bodies-at i l) m) in
      (l, h.0, h.1)

  -- what is not in use is empty
  unused : (i : ℕ) → X.islands ≤ i → island_at w i ≡ absent_island
  unused i l = get_d_beyond w.islands absent_island i (rw number l)

  few : (i : ℕ) → length (island_at w i).bodies ≤ top
  few i =
      below i X.islands (λ l. (let a = list-few R i l in let b = R.n_small in rw (bodies-at i l) (omega arith)))
      (λ l. rw (unused i l) (omega arith))

  single : (i p q : ℕ) → p < length (island_at w i).bodies → q < length (island_at w i).bodies → get_or (island_at w i).bodies p 0 ≡ get_or (island_at w i).bodies q 0 → p ≡ q
  single i p q pl ql e =
      let l = used i (in_use w i (in-at 0 (island_at w i).bodies p pl)) in
      one_place R i l p q (rw (bodies-at i l) at pl) (rw (bodies-at i l) at ql) (rw (bodies-at i l) at e)

  alive : (i s : ℕ) → In s (island_at w i).bodies → (body_of w s).generation ≢ top
  alive i s m e =
      let h = body-home i s m in
      let g : get_or T.slots (5 * s) 0 ≡ none = sym (ap (λ (b : Body). b.generation) (body-of Z X T s h.1)) ∙ e in
      let il = h.0 in
      let hs : (members_in Z T).home s ≡ i = h.2 in
      let ms = R.m_small in
      ⊎_elim (λ (v : Vacant _ _ _ _ _). (let a : (members_in Z T).home s ≡ none = v.no_member in let b : i < none = omega arith in omega arith))
      (λ (f : Filled _ _ _ _). (let a : get_or T.slots (5 * s) 0 < none = f.generation_lt in omega arith))
      (G.slot s h.1)

  contacts-at : (i : ℕ) → i < X.islands → (island_at w i).contact_links ≡ map (contact_at T.touches) (list_of (contacts_in Z T) i)
  contacts-at i l = ap (λ (a : Island). a.contact_links) (island-at Z X T i l)

  -- an edge of island i at place p: its home and its place
  edge-home : (i p : ℕ) → p < length (island_at w i).contact_links
      → ((contacts_in Z T).home (get_or (island_at w i).contact_links p absent_contact).edge_id ≡ i) × ((contacts_in Z T).place (get_or (island_at w i).contact_links p absent_contact).edge_id ≡ p)
  edge-home i p pl =
      below i X.islands
      (λ l.
      let xs = list_of (contacts_in Z T) i in
      let pl' : p < length xs = rw (contacts-at i l, length-map (list_of (contacts_in Z T) i) (contact_at T.touches)) at pl in
      let A = at_place C i l p pl' in
      let e : (get_or (island_at w i).contact_links p absent_contact).edge_id ≡ get_or xs p 0 =
      ap (λ (x : List ContactLink). (get_or x p absent_contact).edge_id) (contacts-at i l) ∙ ap (λ (c : ContactLink). c.edge_id) (map_at (contact_at T.touches) absent_contact xs p pl') in
      rw e (A.home_is, A.place_is))
      (λ l. absurd (let z : p < 0 = rw (unused i l) at pl in omega arith))

  freed-home : (n : ℕ) → In n w.free_islands → (n < X.islands) × ((freed_in Z T).home n ≡ 0)
  freed-home n m = in-home Fr 0 (omega arith) n m

  free : (n : ℕ) → In n w.free_islands → island_at w n ≡ absent_island
  free n m =
      let h = freed-home n m in
      let l = h.0 in
      island-at Z X T n l
      ∙ ⊎_elim (λ (v : Live _ _ _). absurd (let a : (freed_in Z T).home n ≡ none = v.not_freed in let b : (freed_in Z T).home n ≡ 0 = h.1 in omega arith))
      (λ (f : Freed _ _ _ _ _ _ _).
      island-is (island_in Z T n) absent_island (list-none R n l f.no_body)
      (ap (map (contact_at T.touches)) (list-none C n l f.no_contact))
      (ap (map _) (list-none J n l f.no_joint))
      (λ k. record { count = f.no_removals k; denied = f.no_denial k; sleeping = flag (f.not_sleeping k) }))
      (G.island n l)

  joints-at : (i : ℕ) → i < X.islands → (island_at w i).joint_links ≡ map (joint_at T.keys) (list_of (joints_in Z T) i)
  joints-at i l = ap (λ (a : Island). a.joint_links) (island-at Z X T i l)

  -- a joint link of island i at place p: the place of its key, whose home and place they are
  pub record KeyHome (i p : ℕ) : Type 0 where
    pub at : ℕ
    pub lt : at < X.joints
    pub home : (joints_in Z T).home at ≡ i
    pub place : (joints_in Z T).place at ≡ p
    pub key : (get_or (island_at w i).joint_links p absent_joint).key ≡ key_at T at
    pub used : i < X.islands

  key-home : (i p : ℕ) → p < length (island_at w i).joint_links → KeyHome i p
  key-home i p pl =
      below i X.islands
      (λ l.
      let xs = list_of (joints_in Z T) i in
      let pl' : p < length xs = rw (joints-at i l, length-map (list_of (joints_in Z T) i) (joint_at T.keys)) at pl in
      let A = at_place J i l p pl' in
      record {
        at = get_or xs p 0;
        lt = A.lt;
        home = A.home_is;
        place = A.place_is;
        key = ap (λ (x : List JointLink). (get_or x p absent_joint).key) (joints-at i l) ∙ ap (λ (c : JointLink). c.key) (map_at (joint_at T.keys) absent_joint xs p pl');
        used = l;
      })
      (λ l. absurd (let z : p < 0 = rw (unused i l) at pl in omega arith))

  keys : (i j p q : ℕ) → p < length (island_at w i).joint_links → q < length (island_at w j).joint_links
      → (get_or (island_at w i).joint_links p absent_joint).key ≡ (get_or (island_at w j).joint_links q absent_joint).key
      → (i ≡ j) × (p ≡ q)
  keys i j p q pl ql e =
      let a = key-home i p pl in
      let b = key-home j q ql in
      let some : (k n : ℕ) → (joints_in Z T).home k ≡ n → n < X.islands → (joints_in Z T).home k ≢ none = λ k n h l z. (let s = J.m_small in omega arith) in
      let o : a.at ≡ b.at =
      ((good-is Z X T).0 G).0.key_once a.at b.at a.lt b.lt (some a.at i a.home a.used) (some b.at j b.home b.used) (sym a.key ∙ e ∙ b.key) in
      (sym a.home ∙ ap (joints_in Z T).home o ∙ b.home, sym a.place ∙ ap (joints_in Z T).place o ∙ b.place)

  -- a number in use with no body is in the stack
  is_free : (n : ℕ) → n < length w.islands → (island_at w n).bodies ≡ [] → In n w.free_islands
  is_free n nl e =
      let l = used n nl in
      ⊎_elim
      (λ (v : Live _ _ _).
      absurd
      (let a : 0 < (members_in Z T).count n = v.some in
      let b : length (list_of (members_in Z T) n) ≡ 0 = ap length (sym (bodies-at n l) ∙ e) in
      let c = length-list R n l in
      omega arith))
      (λ (f : Freed _ _ _ _ _ _ _).
      let h : (freed_in Z T).home n ≡ 0 = f.in_stack in
      let o : 0 < 1 = omega arith in
      subst (λ (x : ℕ). In x w.free_islands) (list-of Fr 0 o n l h)
      (in-at 0 (list_of (freed_in Z T) 0) ((freed_in Z T).place n)
      (let p : (freed_in Z T).place n < (freed_in Z T).count ((freed_in Z T).home n) = (held_in Fr n 0 l o h).place_lt in
      let q : (freed_in Z T).place n < (freed_in Z T).count 0 = rw h at p in
      let c = length-list Fr 0 o in
      omega arith)))
      (G.island n l)

  pub good-fine : Fine (decode Z X T)
  good-fine =
      record {
        apart =
            record {
              small = (let a = R.m_small in let b = number in omega arith);
              once = λ i j s a b. sym (body-home i s a).2 ∙ (body-home j s b).2;
            };
        stack =
            record {
              below = λ n m. rw number (freed-home n m).0;
              differ = one_place Fr 0 (omega arith);
            };
        single = single;
        few = few;
        alive = alive;
        edges =
            λ i j p q pl ql e. (
              sym (edge-home i p pl).0 ∙ ap (contacts_in Z T).home e ∙ (edge-home j q ql).0,
              sym (edge-home i p pl).1 ∙ ap (contacts_in Z T).place e ∙ (edge-home j q ql).1,
            );
        keys = keys;
        free = free;
        unused = is_free;
        slots = λ i s m. rw (length-tabulate X.slots (body_at T.slots)) (body-home i s m).1;
      }

pub sound-fine : (Z : Sizes) (t : List ℕ) → Sound Z t → Fine (world_of Z t)
unfolding world_of
sound-fine Z t S = good-fine Z (extents (tables Z t)) (tables Z t) S.good
