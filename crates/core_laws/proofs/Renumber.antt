-- The last edge takes the number of a removed one, and the tracked length is one less.
use mathlib.Core.Path.{◌≡◌, refl, sym, ◌∙◌, ap, subst}
use mathlib.Core.Logic.{inl, inr, ◌≢◌}
use mathlib.Core.List.{List, [], ◌∷◌, map}
use Prim.Native.Nat.{ℕ, zero, suc, ◌+◌, ◌*◌, ◌≤◌, ◌<◌}
use native.Mathlib.Omega.{arith}
use borrow.Author.Tests.{eq-eqb, ne_eqb, le-leb, lt-leb}
use lib.ListN.{length, get_or, set}
use lib.Seq.{get_or-set_same, get_or-set_other}
use Rattle.list_in_table.specs.Rules.{none, View, Rules, Held, list_of}
use Rattle.list_in_table.specs.Word.{writes, miss, hit}
use Rattle.list_in_table.specs.Table.{Wf}
use Rattle.list_in_table.proofs.Laws.{either, held}
use Rattle.list_in_table.proofs.Order.{length-list, list_at, list-of}
use Rattle.list_rename.specs.Renamed as words
use Rattle.list_rename.specs.Renamed.{RenameReady}
use Rattle.list_rename.proofs.Move.{shrink-rules}
use Rattle.list_rename.proofs.Words as handing
use Rattle.list_rename.proofs.Words.{rename-kept}
use Rattle.list_in_buffer.specs.Part.{Put}
use Rattle.def_kinds.specs.declared.Sizes.{Sizes}
use Rattle.def_kinds.specs.Answers.{Done, Nothing, StillLinked}
use Rattle.def_state.specs.Plain.{top, place_of}
use Rattle.def_state.specs.World.{ContactLink, absent_contact, Island, World, Step, done, gives, island_at}
use Rattle.def_state.specs.Fields.{island_set, tracked_set, contacts_set}
use Rattle.def_state.specs.Links.{edges_of, contact_home, renamed, renumbered, contact_edge_removed}
use Rattle.table_meaning.specs.Layout.{Tables, tables, total, head_at, head_span, contacts_at, contacts_span, touches_at, touches_span, head_put, contacts_put, touches_put, Extents, extents, contacts_in}
use Rattle.table_meaning.specs.Decode.{flag, contact_at, island_in, decode, world_of}
use Rattle.table_meaning.specs.Rule.{EdgeRule}
use Rattle.table_meaning.specs.Sound.{EdgeAt, Good, Sound}
use Rattle.table_meaning.specs.Does.{SameBehind, Does}
use Rattle.table_meaning.proofs.Puts.{Sized, sized, put-head, put-contacts, put-touches}
use Rattle.table_meaning.proofs.Tab.{tabulate-set}
use Rattle.table_meaning.proofs.Frame.{larger-refl, kept_then, kept-head, kept-contacts, kept-touches, sound-at, world-at, kept_at, extents-is}
use Rattle.core_laws.specs.Renumbering.{Handing}
use Rattle.core_laws.proofs.Good.{island-is, world_is, island-rule, head-rule}
use Rattle.core_laws.proofs.Then.{refused}
use Rattle.core_laws.proofs.Names.{island-at}
use Rattle.core_laws.proofs.Touching.{contact-home, home-held, place-held}
use Rattle.core_laws.proofs.Loose.{good-loose}

-- ---- what the call answers
module _ (g l : ℕ) (w : World) where
  removed-far : w.tracked ≤ g → contact_edge_removed g l w ≡ gives Nothing w
  unfolding contact_edge_removed
  removed-far h = rw (le-leb w.tracked g h)

  module _ (h : g < w.tracked) where
    removed-linked : contact_home w g ≢ top → contact_edge_removed g l w ≡ gives StillLinked w
    unfolding contact_edge_removed
    removed-linked d = rw (lt-leb w.tracked g h, ne_eqb (contact_home w g) top d)

    module _ (e : contact_home w g ≡ top) where
      removed-not-last : w.tracked ≢ l + 1 → contact_edge_removed g l w ≡ gives Nothing w
      unfolding contact_edge_removed
      removed-not-last d = rw (lt-leb w.tracked g h, eq-eqb (contact_home w g) top e, ne_eqb w.tracked (l + 1) d)

      removed-done : w.tracked ≡ l + 1 → contact_edge_removed g l w ≡ done (tracked_set (renumbered g l w) l)
      unfolding contact_edge_removed
      removed-done q = rw (lt-leb w.tracked g h, eq-eqb (contact_home w g) top e, eq-eqb w.tracked (l + 1) q)

  renumbered-none : contact_home w l ≡ top → renumbered g l w ≡ w
  unfolding renumbered
  renumbered-none e = rw (eq-eqb (contact_home w l) top e)

  renumbered-in : (i p : ℕ) → contact_home w l ≡ i → i ≢ top → place_of (edges_of (island_at w i)) l ≡ p
      → renumbered g l w ≡ island_set w i (contacts_set (island_at w i) (set (island_at w i).contact_links p (renamed g (get_or (island_at w i).contact_links p absent_contact))))
  unfolding renumbered
  renumbered-in i p e d q = rw (e, ne_eqb i top d, q)

module _ {Z : Sizes} {t : List ℕ} (g l : ℕ) (S : Sound Z t) where
  abbrev X0 : Extents
  X0 = extents (tables Z t)

  abbrev V0 : View
  V0 = contacts_in Z (tables Z t)

  tracks : (world_of Z t).tracked ≡ X0.edges
  unfolding world_of
  tracks = refl

  -- an edge that is not tracked
  pub edge-unknown : X0.edges ≤ g → Does Z (contact_edge_removed g l) t Nothing t
  edge-unknown h = refused (contact_edge_removed g l) Nothing S (removed-far g l (world_of Z t) (rw tracks h))

  module _ (h : g < X0.edges) where
    -- one that is still linked
    pub edge-linked : V0.home g ≢ none → Does Z (contact_edge_removed g l) t StillLinked t
    edge-linked d = refused (contact_edge_removed g l) StillLinked S (removed-linked g l (world_of Z t) (rw tracks h) (λ e. d (sym (contact-home S g h) ∙ e)))

    -- `last` is not the last that is tracked
    pub edge-not-last : V0.home g ≡ none → X0.edges ≢ l + 1 → Does Z (contact_edge_removed g l) t Nothing t
    edge-not-last b d =
        refused (contact_edge_removed g l) Nothing S (removed-not-last g l (world_of Z t) (rw tracks h) (contact-home S g h ∙ b) (λ e. d (sym tracks ∙ e)))

    edge-done : V0.home g ≡ none → X0.edges ≡ l + 1 → contact_edge_removed g l (world_of Z t) ≡ done (tracked_set (renumbered g l (world_of Z t)) l)
    edge-done b q = removed-done g l (world_of Z t) (rw tracks h) (contact-home S g h ∙ b) (tracks ∙ q)

    -- a linked last edge is another than g
    pub edge-less : V0.home g ≡ none → X0.edges ≡ l + 1 → V0.home l ≢ none → g < l
    edge-less b q d = either g l (λ e. absurd (d (ap V0.home (sym e) ∙ b))) (λ n. omega arith)

-- ---- the tracked length becomes l
abbrev pub fewer_edges : Extents → ℕ → Extents
fewer_edges X l = record { slots = X.slots; islands = X.islands; edges = l; joints = X.joints; journal = X.journal }

module _ (x : List ℕ) (l : ℕ) where
  head-o : (j : ℕ) → j ≢ 2 → get_or (set x 2 l) j 0 ≡ get_or x j 0
  head-o j d = get_or-set_other x 2 j l 0 d

after : (Z : Sizes) (T U : Tables) (l : ℕ) → Sized Z T → U.head ≡ set T.head 2 l → extents U ≡ fewer_edges (extents T) l
after Z T U l K e =
    let k = K.head_length in
    let o = head-o T.head l in
    let f : (j : ℕ) → get_or U.head j 0 ≡ get_or (set T.head 2 l) j 0 = λ j. ap (λ (y : List ℕ). get_or y j 0) e in
    extents-is (f 0 ∙ o 0 (omega arith)) (f 1 ∙ o 1 (omega arith)) (f 2 ∙ get_or-set_same T.head 2 l 0 (omega arith)) (f 3 ∙ o 3 (omega arith)) (f 4 ∙ o 4 (omega arith))

-- ---- the last edge is not linked
module _ (Z : Sizes) (X : Extents) (T : Tables) (G : Good Z X T) (l : ℕ) (q : X.edges ≡ l + 1) (b : (contacts_in Z T).home l ≡ none) where
  abbrev A : Tables
  A = head_put T (set T.head 2 l)

  abbrev Y : Extents
  Y = fewer_edges X l

  o : (j : ℕ) → j ≢ 2 → get_or A.head j 0 ≡ get_or T.head j 0
  o = head-o T.head l

  shrink-good : Good Z Y A
  shrink-good =
      record {
        enough = G.enough;
        slots_le = G.slots_le;
        islands_le = G.islands_le;
        edges_le = (let e = G.edges_le in omega arith);
        joints_le = G.joints_le;
        journal_le = G.journal_le;
        members_wf = G.members_wf;
        freed_wf = G.freed_wf;
        contacts_wf =
            (let e = G.contacts_wf.elems_below in
            record {
              elems_below = omega arith;
              lists_below = G.contacts_wf.lists_below;
              rules = shrink-rules (subst (λ (n : ℕ). Rules n X.islands (contacts_in Z T)) q G.contacts_wf.rules) b;
            });
        joints_wf = G.joints_wf;
        spare_wf = G.spare_wf;
        scan_wf = G.scan_wf;
        slot = G.slot;
        island = G.island;
        seen = G.seen;
        edge = λ e h. G.edge e (omega arith);
        joint = G.joint;
        distinct = G.distinct;
        head = head-rule (o 5 (omega arith)) (o 6 (omega arith)) (o 8 (omega arith)) refl G.head;
      }

  shrink-world : decode Z Y A ≡ tracked_set (decode Z X T) l
  shrink-world =
      world_is refl refl refl refl refl refl refl (rw (o 5 (omega arith), o 6 (omega arith))) (o 7 (omega arith)) (ap flag (o 8 (omega arith))) refl

pub shrunk : {Z : Sizes} {t t' : List ℕ} (g l : ℕ) → Sound Z t → g < (extents (tables Z t)).edges → (contacts_in Z (tables Z t)).home g ≡ none → (extents (tables Z t)).edges ≡ l + 1
    → (contacts_in Z (tables Z t)).home l ≡ none → Put (head_at Z) (head_span Z) t t' (set (tables Z t).head 2 l) → Does Z (contact_edge_removed g l) t Done t'
shrunk {Z} {t} {t'} g l S h b q n P =
    let T = tables Z t in
    let X = extents T in
    let G = S.good in
    let e = put-head Z t t' _ S.long P in
    let a : extents (A Z X T G l q n) ≡ fewer_edges X l = after Z T (A Z X T G l q n) l (sized Z t S.long) refl in
    let r = edge-done g l S h b q in
    let k : contact_home (world_of Z t) l ≡ top = contact-home S l (omega arith) ∙ n in
    record {
      sound = sound-at Z (fewer_edges X l) t' _ e a (P.same_length ∙ S.long) (shrink-good Z X T G l q n);
      answer = sym (ap (λ (s : Step). s.answer) r);
      after =
          world-at Z (fewer_edges X l) t' _ e a ∙ shrink-world Z X T G l q n ∙ ap (λ (w : World). tracked_set w l) (sym (world-at Z X t T refl refl))
          ∙ ap (λ (w : World). tracked_set w l) (sym (renumbered-none g l (world_of Z t) k)) ∙ sym (ap (λ (s : Step). s.after) r);
      frame = kept_at Z (fewer_edges X l) t' _ e a T kept-head;
    }

-- ---- lists of values
module _ {A : Type 0} where
  map_same : (f g : ℕ → A) (xs : List ℕ) → ((p : ℕ) → p < length xs → f (get_or xs p 0) ≡ g (get_or xs p 0)) → map f xs ≡ map g xs
  map_same f g [] h = refl
  map_same f g (x ∷ xs) h = rw (h 0 (omega arith), map_same f g xs (λ p l. h (suc p) (omega arith)))

  map-set : (f : ℕ → A) (xs : List ℕ) (p x : ℕ) → map f (set xs p x) ≡ set (map f xs) p (f x)
  map-set f [] p x = refl
  map-set f (y ∷ xs) zero x = refl
  map-set f (y ∷ xs) (suc p) x = ap (λ (zs : List A). f y ∷ zs) (map-set f xs p x)

  map_get : (f : ℕ → A) (d : A) (xs : List ℕ) (p : ℕ) → p < length xs → get_or (map f xs) p d ≡ f (get_or xs p 0)
  map_get f d [] p h = absurd (omega arith)
  map_get f d (x ∷ xs) zero h = refl
  map_get f d (x ∷ xs) (suc p) h = map_get f d xs p (omega arith)

edge-rule : {h h' a a' b b' c c' d d' : ℕ} → h ≡ h' → a ≡ a' → b ≡ b' → c ≡ c' → d ≡ d' → EdgeRule h' a' b' c' d' → EdgeRule h a b c d
edge-rule p q r s t x = rw (p, q, r, s, t) x

contact-is : {e a a' b b' c c' d d' : ℕ} → a ≡ a' → b ≡ b' → c ≡ c' → d ≡ d'
    → ◌≡◌ {A = ContactLink} (record { edge_id = e; body1 = record { slot = a; generation = b }; body2 = record { slot = c; generation = d } })
    (record { edge_id = e; body1 = record { slot = a'; generation = b' }; body2 = record { slot = c'; generation = d' } })
contact-is p q r s = rw (p, q, r, s)

-- four words at j
abbrev pub four_words : (j a b c d : ℕ) → List (ℕ × ℕ)
four_words j a b c d = (j, a) ∷ (j + 1, b) ∷ (j + 2, c) ∷ (j + 3, d) ∷ []

-- ---- the last edge is linked, and takes the number g
module _ (Z : Sizes) (X : Extents) (T : Tables) (G : Good Z X T) (K : Sized Z T) (g l : ℕ) (q : X.edges ≡ l + 1) (gl : g < l) (gb : (contacts_in Z T).home g ≡ none)
    (lh : (contacts_in Z T).home l ≢ none) where
  abbrev N : ℕ
  N = Z.edges

  abbrev m : ℕ
  m = X.islands

  abbrev S : View
  S = contacts_in Z T

  abbrev ready : RenameReady T.contacts 0 (4 * N) l g
  ready = record { m = m; wf = subst (λ (n : ℕ). Wf T.contacts 0 (4 * N) n m) q G.contacts_wf; to_lt = gl; to_blank = gb; from_held = lh }

  abbrev C : List ℕ
  C = words.renamed T.contacts 0 (4 * N) l g

  D : handing.RenameKeeps ready
  D = rename-kept ready

  abbrev at : ℕ → ℕ
  at j = get_or T.touches (4 * l + j) 0

  abbrev ws : List (ℕ × ℕ)
  ws = four_words (4 * g) (get_or T.touches (4 * l) 0) (at 1) (at 2) (at 3)

  abbrev U : List ℕ
  U = writes T.touches ws

  abbrev W : Tables
  W = head_put (touches_put (contacts_put T C) U) (set T.head 2 l)

  abbrev F : Extents
  F = fewer_edges X l

  ho : (j : ℕ) → j ≢ 2 → get_or W.head j 0 ≡ get_or T.head j 0
  ho = head-o T.head l

  inside : 4 * l + 4 ≤ length T.touches
  inside = let k = K.touches_length in let e = G.edges_le in omega arith

  u0 : get_or U (4 * g) 0 ≡ get_or T.touches (4 * l) 0
  u0 = let i = inside in hit T.touches [] (4 * g) (get_or T.touches (4 * l) 0) ((4 * g + 1, at 1) ∷ (4 * g + 2, at 2) ∷ (4 * g + 3, at 3) ∷ []) (omega arith) (omega arith)

  u1 : get_or U (4 * g + 1) 0 ≡ at 1
  u1 = let i = inside in hit T.touches ((4 * g, get_or T.touches (4 * l) 0) ∷ []) (4 * g + 1) (at 1) ((4 * g + 2, at 2) ∷ (4 * g + 3, at 3) ∷ []) (omega arith) (omega arith)

  u2 : get_or U (4 * g + 2) 0 ≡ at 2
  u2 = let i = inside in hit T.touches ((4 * g, get_or T.touches (4 * l) 0) ∷ (4 * g + 1, at 1) ∷ []) (4 * g + 2) (at 2) ((4 * g + 3, at 3) ∷ []) (omega arith) (omega arith)

  u3 : get_or U (4 * g + 3) 0 ≡ at 3
  u3 = let i = inside in hit T.touches ((4 * g, get_or T.touches (4 * l) 0) ∷ (4 * g + 1, at 1) ∷ (4 * g + 2, at 2) ∷ []) (4 * g + 3) (at 3) [] (omega arith) tt

  first : (k : ℕ) → k ≢ g → get_or U (4 * k) 0 ≡ get_or T.touches (4 * k) 0
  first k d = miss T.touches ws (4 * k) (omega arith)

  other : (k j : ℕ) → k ≢ g → j < 4 → get_or U (4 * k + j) 0 ≡ get_or T.touches (4 * k + j) 0
  other k j d h = miss T.touches ws (4 * k + j) (omega arith)

  hand-good : Good Z F W
  hand-good =
      record {
        enough = G.enough;
        slots_le = G.slots_le;
        islands_le = G.islands_le;
        edges_le = (let e = G.edges_le in omega arith);
        joints_le = G.joints_le;
        journal_le = G.journal_le;
        members_wf = G.members_wf;
        freed_wf = G.freed_wf;
        contacts_wf = D.wf_kept;
        joints_wf = G.joints_wf;
        spare_wf = G.spare_wf;
        scan_wf = G.scan_wf;
        slot = G.slot;
        island = λ i h. island-rule refl (D.count_same i h) refl refl refl refl refl (G.island i h);
        seen = G.seen;
        edge = λ k h.
            either k g (λ s. subst (EdgeAt Z W) (sym s) (inr (λ e. lh (sym D.home_to ∙ e))))
            (λ d.
            edge-rule (D.home_others k h d) (first k d) (other k 1 d (omega arith)) (other k 2 d (omega arith)) (other k 3 d (omega arith)) (G.edge k (omega arith)));
        joint = G.joint;
        distinct = G.distinct;
        head = head-rule (ho 5 (omega arith)) (ho 6 (omega arith)) (ho 8 (omega arith)) refl G.head;
      }

  -- ---- the links of each island
  R : Rules X.edges m S
  R = G.contacts_wf.rules

  hl : Held X.edges m S l
  hl = held R l (omega arith) lh

  abbrev i : ℕ
  i = S.home l

  abbrev p : ℕ
  p = S.place l

  abbrev f : ℕ → ContactLink
  f = contact_at U

  abbrev f0 : ℕ → ContactLink
  f0 = contact_at T.touches

  link : (k : ℕ) → k ≢ g → f k ≡ f0 k
  link k d = contact-is (first k d) (other k 1 d (omega arith)) (other k 2 d (omega arith)) (miss T.touches ws (4 * k + 2 + 1) (omega arith))

  link-g : f g ≡ renamed g (f0 l)
  link-g =
      let a : 4 * g + 2 + 1 ≡ 4 * g + 3 = omega arith in
      let c : 4 * l + 3 ≡ 4 * l + 2 + 1 = omega arith in
      contact-is u0 u1 u2 (ap (λ (x : ℕ). get_or U x 0) a ∙ u3 ∙ ap (λ (x : ℕ). get_or T.touches x 0) c)

  -- the old list has no g
  still : (j : ℕ) → j < m → map f (list_of S j) ≡ map f0 (list_of S j)
  still j jl =
      map_same f f0 (list_of S j)
      (λ k kl.
      let x = get_or (list_of S j) k 0 in
      let a : S.home x ≡ j = (list_at R j jl k (rw (length-list R j jl) at kl)).home_is in
      link x (λ e. let c : S.home x ≡ S.home g = ap S.home e in let s = R.m_small in omega arith))

  links-i : map f (list_of (contacts_in Z W) i) ≡ set (map f0 (list_of S i)) p (renamed g (get_or (map f0 (list_of S i)) p absent_contact))
  links-i =
      let il = hl.home_lt in
      let L = list_of S i in
      let s = length-list R i il in
      let pl : p < S.count i = hl.place_lt in
      let c : get_or (map f0 L) p absent_contact ≡ f0 l = map_get f0 absent_contact L p (omega arith) ∙ ap f0 (list-of R i il l (omega arith) refl) in
      ap (map f) D.list_f ∙ map-set f L p g ∙ ap (λ (xs : List ContactLink). set xs p (f g)) (still i il)
      ∙ ap (set (map f0 L) p) (link-g ∙ ap (renamed g) (sym c))

  links-o : (j : ℕ) → j < m → j ≢ i → map f (list_of (contacts_in Z W) j) ≡ map f0 (list_of S j)
  links-o j jl d = ap (map f) (D.list_o j jl d) ∙ still j jl

  abbrev relinked : Island → Island
  relinked a = contacts_set a (set a.contact_links p (renamed g (get_or a.contact_links p absent_contact)))

  hand-world : decode Z F W ≡ tracked_set (renumbered g l (decode Z X T)) l
  unfolding island_set
  hand-world =
      let w = decode Z X T in
      let il = hl.home_lt in
      let s = R.m_small in
      world_is refl
      (tabulate-set m i (island_in Z W) (island_in Z T) (relinked (island_at w i))
      (island-is refl links-i refl refl refl refl ∙ ap relinked (sym (island-at Z X T i il)))
      (λ j h d. island-is refl (links-o j h d) refl refl refl refl))
      refl refl refl refl refl
      (rw (ho 5 (omega arith), ho 6 (omega arith)))
      (ho 7 (omega arith))
      (ap flag (ho 8 (omega arith)))
      refl
      ∙ ap (λ (v : World). tracked_set v l) (sym (renumbered-in g l w i p (home-held Z X T (good-loose G) l (omega arith) lh) (omega arith) (place-held Z X T (good-loose G) l (omega arith) lh)))

  hand-kept : SameBehind Z F T W
  hand-kept =
      kept_then (larger-refl F)
      (kept-contacts
      (record {
        elems = λ j a b. D.behind j (omega arith) (inl b);
        ends = λ j a. (let e = G.contacts_wf.elems_below in D.behind j (omega arith) (inr a));
      }))
      (kept_then (larger-refl F) (kept-touches (λ j h. miss T.touches ws j (omega arith))) kept-head)

-- what the rename asks
pub rename-ready : {Z : Sizes} {t : List ℕ} {g l : ℕ} → Handing Z g l t → RenameReady (tables Z t).contacts 0 (4 * Z.edges) l g
rename-ready {Z} {t} {g} {l} H =
    let T = tables Z t in
    ready Z (extents T) T H.sound.good (sized Z t H.sound.long) g l H.edges_is H.to_lt H.to_free H.from_linked

pub handed : {Z : Sizes} {t t1 t2 t3 : List ℕ} (g l a b c d : ℕ) → Handing Z g l t → (a ≡ get_or (tables Z t).touches (4 * l) 0) × (b ≡ get_or (tables Z t).touches (4 * l + 1) 0)
    → (c ≡ get_or (tables Z t).touches (4 * l + 2) 0) × (d ≡ get_or (tables Z t).touches (4 * l + 2 + 1) 0)
    → Put (contacts_at Z) (contacts_span Z) t t1 (words.renamed (tables Z t).contacts 0 (4 * Z.edges) l g)
    → Put (touches_at Z) (touches_span Z) t1 t2 (writes (tables Z t1).touches (four_words (4 * g) a b c d))
    → Put (head_at Z) (head_span Z) t2 t3 (set (tables Z t2).head 2 l) → Does Z (contact_edge_removed g l) t Done t3
handed {Z} {t} {t1} {t2} {t3} g l a b c d H eh ek P1 P2 P3 =
    let T = tables Z t in
    let n : 4 * l + 2 + 1 ≡ 4 * l + 3 = omega arith in
    let X = extents T in
    let E = H.sound in
    let G = E.good in
    let K = sized Z t E.long in
    let q = H.edges_is in
    let gl = H.to_lt in
    let gb = H.to_free in
    let lh = H.from_linked in
    let h1 : length t1 ≡ total Z = P1.same_length ∙ E.long in
    let h2 : length t2 ≡ total Z = P2.same_length ∙ h1 in
    let e1 = put-contacts Z t t1 _ E.long P1 in
    let e2 = put-touches Z t1 t2 _ h1 P2 ∙ ap (λ (M : Tables). touches_put M (writes M.touches (four_words (4 * g) a b c d))) e1 in
    let e3 = put-head Z t2 t3 _ h2 P3 ∙ ap (λ (M : Tables). head_put M (set M.head 2 l)) e2 in
    let e : tables Z t3 ≡ W Z X T G K g l q gl gb lh = rw (eh.0, eh.1, ek.0, ek.1, n) at e3 in
    let r : extents (W Z X T G K g l q gl gb lh) ≡ fewer_edges X l = after Z T (W Z X T G K g l q gl gb lh) l K refl in
    let s = edge-done g l E (omega arith) gb q in
    record {
      sound = sound-at Z (fewer_edges X l) t3 _ e r (P3.same_length ∙ h2) (hand-good Z X T G K g l q gl gb lh);
      answer = sym (ap (λ (s : Step). s.answer) s);
      after =
          world-at Z (fewer_edges X l) t3 _ e r ∙ hand-world Z X T G K g l q gl gb lh ∙ ap (λ (w : World). tracked_set (renumbered g l w) l) (sym (world-at Z X t T refl refl))
          ∙ sym (ap (λ (s : Step). s.after) s);
      frame = kept_at Z (fewer_edges X l) t3 _ e r T (hand-kept Z X T G K g l q gl gb lh);
    }
