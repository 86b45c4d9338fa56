-- One contact link of an island changes: it is put last, or taken out at any place. All other links and islands stay.
use mathlib.Core.Path.{◌≡◌, refl, sym, ◌∙◌, ap, subst}
use mathlib.Core.Logic.{◌⊎◌, inl, inr, ◌≢◌, ⊎_elim}
use mathlib.Core.List.{List, [], ◌∷◌, ◌++◌, map, map-append}
use Prim.Native.Nat.{ℕ, zero, suc, ◌+◌, ◌-◌, ◌*◌, ◌≤◌, ◌<◌}
use native.Mathlib.Omega.{arith}
use lib.ListN.{length, get_or, set, take, length-map}
use Rattle.list_in_table.specs.Rules.{none, View, Rules, list_of, swap_remove as taken_out}
use Rattle.list_in_table.specs.Word.{writes, miss, hit}
use Rattle.list_in_table.specs.Table.{view, Wf, pushed, removed, PushReady, RemoveReady}
use Rattle.list_in_table.proofs.Laws.{either, held}
use Rattle.list_in_table.proofs.Order.{length-list, list_at}
use Rattle.list_in_buffer.specs.Part.{Put}
use Rattle.def_kinds.specs.declared.Sizes.{Sizes}
use Rattle.def_state.specs.Plain.{swap_remove}
use Rattle.def_state.specs.World.{ContactLink, absent_contact, Island, island_at}
use Rattle.def_state.specs.Fields.{island_set, contacts_set}
use Rattle.def_state.specs.Links.{contact_pushed, contact_removed}
use Rattle.table_meaning.specs.Layout.{Tables, tables, total, contacts_at, contacts_span, touches_at, touches_span, contacts_put, touches_put, Extents, extents, members_in, contacts_in, elem_words}
use Rattle.table_meaning.specs.Decode.{contact_at, island_in, decode}
use Rattle.table_meaning.specs.Rule.{EdgeRule}
use Rattle.table_meaning.specs.Sound.{EdgeAt, Sound}
use Rattle.table_meaning.specs.Does.{ChainKept, SameBehind}
use Rattle.table_meaning.proofs.Puts.{Sized, sized, put-contacts, put-touches}
use Rattle.table_meaning.proofs.Chains.{Added, Taken, added, taken, push_ready, remove_ready}
use Rattle.table_meaning.proofs.Tab.{tabulate-set}
use Rattle.table_meaning.proofs.Frame.{larger-refl, kept_then, kept-contacts, kept-touches}
use Rattle.core_laws.specs.Steps.{Steps}
use Rattle.core_laws.specs.Drops.{Stays, JointsStay}
use Rattle.core_laws.specs.Loose.{OpenAt, LooseAt, Loose, Loosely, Peopled, EntryLeft, ContactGone}
use Rattle.core_laws.specs.Linking.{contact_of, contact_push, contact_remove}
use Rattle.core_laws.proofs.Good.{island-is, world_is}
use Rattle.core_laws.proofs.At.{steps-at}
use Rattle.core_laws.proofs.Loose.{loose-rule, lives-open, good-loose, loose-good, peopled, sound-loose, moves-at, moved-steps, left-taken}
use Rattle.core_laws.proofs.Names.{listed_lt, island-at}
use Rattle.core_laws.proofs.LastOut.{map_same, blanked}
use Rattle.core_laws.proofs.Touching.{value-at}

pub edge-rule : {h h' a a' b b' c c' d d' : ℕ} → h ≡ h' → a ≡ a' → b ≡ b' → c ≡ c' → d ≡ d' → EdgeRule h' a' b' c' d' → EdgeRule h a b c d
edge-rule p q r s t x = rw (p, q, r, s, t) x

pub contact-is : {e a a' b b' c c' d d' : ℕ} → a ≡ a' → b ≡ b' → c ≡ c' → d ≡ d'
    → ◌≡◌ {A = ContactLink} (record { edge_id = e; body1 = record { slot = a; generation = b }; body2 = record { slot = c; generation = d } })
    (record { edge_id = e; body1 = record { slot = a'; generation = b' }; body2 = record { slot = c'; generation = d' } })
contact-is p q r s = rw (p, q, r, s)

-- the four words of an edge other than e
aside : (e k j : ℕ) → k ≢ e → 4 * k ≤ j → j < 4 * k + 4 → (j < 4 * e) ⊎ (4 * e + 4 ≤ j)
aside e k j d a b = either (e - k) 0 (λ q. inr (omega arith)) (λ q. inl (omega arith))

-- ---- the link of e changes, which is in the island i or in none
module _ (Z : Sizes) (X : Extents) (T : Tables) (i e : ℕ) (C U : List ℕ) where
  abbrev touched : Tables
  touched = touches_put (contacts_put T C) U

  abbrev S : View
  S = contacts_in Z T

  abbrev S' : View
  S' = view C 0 (4 * Z.edges)

  record Touched : Type 0 where
    pub wf : Wf C 0 (4 * Z.edges) X.edges X.islands
    pub kept : ChainKept Z.edges X.edges X.islands T.contacts C
    pub home_o : (k : ℕ) → k < X.edges → k ≢ e → S'.home k ≡ S.home k
    pub home_e : (j : ℕ) → j < X.islands → j ≢ i → S'.home e ≢ j
    pub count_o : (j : ℕ) → j < X.islands → j ≢ i → S'.count j ≡ S.count j
    pub list_o : (j : ℕ) → j < X.islands → j ≢ i → list_of S' j ≡ list_of S j
    pub touch_o : (j : ℕ) → (j < 4 * e) ⊎ (4 * e + 4 ≤ j) → get_or U j 0 ≡ get_or T.touches j 0

  module _ (A : Touched) where
    word : (k j : ℕ) → k ≢ e → 4 * k ≤ j → j < 4 * k + 4 → get_or U j 0 ≡ get_or T.touches j 0
    word k j d a b = A.touch_o j (aside e k j d a b)

    link : (k : ℕ) → k ≢ e → contact_at U k ≡ contact_at T.touches k
    link k d =
        contact-is (word k (4 * k) d (omega arith) (omega arith)) (word k (4 * k + 1) d (omega arith) (omega arith)) (word k (4 * k + 2) d (omega arith) (omega arith))
        (word k (4 * k + 2 + 1) d (omega arith) (omega arith))

    -- the links of a list without e
    still : {P : View} → Rules X.edges X.islands P → (j : ℕ) → j < X.islands → P.home e ≢ j → map (contact_at U) (list_of P j) ≡ map (contact_at T.touches) (list_of P j)
    still {P} R j jl d =
        map_same (contact_at U) (contact_at T.touches) (list_of P j)
        (λ p l.
        let a : P.home (get_or (list_of P j) p 0) ≡ j = (list_at R j jl p (rw (length-list R j jl) at l)).home_is in
        link (get_or (list_of P j) p 0) (λ q. d (ap P.home (sym q) ∙ a)))

    touched-loose : Loose Z X T → OpenAt Z T i → EdgeAt Z touched e → Loose Z X touched
    touched-loose G o r =
        record {
          enough = G.enough;
          slots_le = G.slots_le;
          islands_le = G.islands_le;
          edges_le = G.edges_le;
          joints_le = G.joints_le;
          journal_le = G.journal_le;
          members_wf = G.members_wf;
          freed_wf = G.freed_wf;
          contacts_wf = A.wf;
          joints_wf = G.joints_wf;
          spare_wf = G.spare_wf;
          scan_wf = G.scan_wf;
          slot = G.slot;
          island = λ j h.
              either j i (λ s. subst (LooseAt Z touched) (sym s) (inl o)) (λ d. loose-rule refl (A.count_o j h d) refl refl refl refl refl (G.island j h));
          seen = G.seen;
          edge = λ k h.
              either k e (λ s. subst (EdgeAt Z touched) (sym s) r)
              (λ d.
              edge-rule (A.home_o k h d) (word k (4 * k) d (omega arith) (omega arith)) (word k (4 * k + 1) d (omega arith) (omega arith))
              (word k (4 * k + 2) d (omega arith) (omega arith))
              (word k (4 * k + 3) d (omega arith) (omega arith))
              (G.edge k h));
          joint = G.joint;
          distinct = G.distinct;
          head = G.head;
        }

    touched-world : i < X.islands → (f : List ContactLink → List ContactLink) → map (contact_at U) (list_of S' i) ≡ f (map (contact_at T.touches) (list_of S i))
        → decode Z X touched ≡ island_set (decode Z X T) i (contacts_set (island_at (decode Z X T) i) (f (island_at (decode Z X T) i).contact_links))
    unfolding island_set
    touched-world il f q =
        world_is refl
        (tabulate-set X.islands i (island_in Z touched) (island_in Z T) _
        (island-is refl q refl refl refl refl ∙ ap (λ (a : Island). contacts_set a (f a.contact_links)) (sym (island-at Z X T i il)))
        (λ j h d. island-is refl (still A.wf.rules j h (A.home_e j h d) ∙ ap (map (contact_at T.touches)) (A.list_o j h d)) refl refl refl refl))
        refl refl refl refl refl refl refl refl refl

    touched-kept : e < X.edges → SameBehind Z X T touched
    touched-kept el = kept_then (larger-refl X) (kept-contacts A.kept) (kept-touches (λ j h. A.touch_o j (inr (omega arith))))

-- ---- e, which was not linked, is put last
abbrev pub touch_words : (j s1 g1 s2 g2 : ℕ) → List (ℕ × ℕ)
touch_words j a b c d = (j, a) ∷ (j + 1, b) ∷ (j + 2, c) ∷ (j + 3, d) ∷ []

far : (e j : ℕ) (x : List ℕ) (a b c d : ℕ) → (j < 4 * e) ⊎ (4 * e + 4 ≤ j) → get_or (writes x (touch_words (4 * e) a b c d)) j 0 ≡ get_or x j 0
far e j x a b c d o = miss x (touch_words (4 * e) a b c d) j (⊎_elim (λ (p : j < 4 * e). omega arith) (λ (p : 4 * e + 4 ≤ j). omega arith) o)

-- what four words stand for once they are stored
stored : (e : ℕ) (x : List ℕ) (a b c d : ℕ) → 4 * e + 3 < length x → contact_at (writes x (touch_words (4 * e) a b c d)) e ≡ contact_of e a b c d
stored e x a b c d l =
    let j = 4 * e in
    let q : j + 2 + 1 ≡ j + 3 = omega arith in
    contact-is (hit x [] j a ((j + 1, b) ∷ (j + 2, c) ∷ (j + 3, d) ∷ []) (omega arith) (omega arith))
    (hit x ((j, a) ∷ []) (j + 1) b ((j + 2, c) ∷ (j + 3, d) ∷ []) (omega arith) (omega arith))
    (hit x ((j, a) ∷ (j + 1, b) ∷ []) (j + 2) c ((j + 3, d) ∷ []) (omega arith) (omega arith))
    (ap (λ (k : ℕ). get_or (writes x (touch_words j a b c d)) k 0) q ∙ hit x ((j, a) ∷ (j + 1, b) ∷ (j + 2, c) ∷ []) (j + 3) d [] (omega arith) (omega arith))

module _ (Z : Sizes) (X : Extents) (T : Tables) (G : Loose Z X T) (K : Sized Z T) (i e a b c d : ℕ) (il : i < X.islands) (el : e < X.edges) (en : (contacts_in Z T).home e ≡ none) where
  abbrev C : List ℕ
  C = pushed T.contacts 0 (4 * Z.edges) i e

  abbrev U : List ℕ
  U = writes T.touches (touch_words (4 * e) a b c d)

  P : Added Z.edges X.edges X.islands i e T.contacts C
  P = added Z.edges X.edges X.islands T.contacts G.contacts_wf i e il el en

  push-touched : Touched Z X T i e C U
  push-touched =
      record {
        wf = P.wf;
        kept = P.kept;
        home_o = P.view_is.home_o;
        home_e = λ j jl n q. n (sym q ∙ P.view_is.home_e);
        count_o = P.view_is.count_o;
        list_o = P.list_o;
        touch_o = λ j o. far e j T.touches a b c d o;
      }

  pub push-loose : OpenAt Z T i → Loose Z X (touched Z X T i e C U)
  push-loose o =
      touched-loose Z X T i e C U push-touched G o
      (inr (λ q. (let h = P.view_is.home_e in let m = G.contacts_wf.rules.m_small in omega arith)))

  push-world : decode Z X (touched Z X T i e C U) ≡ contact_pushed i (contact_of e a b c d) (decode Z X T)
  unfolding contact_pushed
  push-world =
      touched-world Z X T i e C U push-touched il (λ ls. ls ++ (contact_of e a b c d ∷ []))
      (ap (map (contact_at U)) P.list_i ∙ map-append (contact_at U) (list_of (contacts_in Z T) i) (e ∷ [])
      ∙ rw (
        still Z X T i e C U push-touched G.contacts_wf.rules i il (λ q. (let m = G.contacts_wf.rules.m_small in omega arith)),
        stored e T.touches a b c d (let k = K.touches_length in let m = G.edges_le in omega arith),
      ))

  push_kept : SameBehind Z X T (touched Z X T i e C U)
  push_kept = touched-kept Z X T i e C U push-touched el

-- what the first store asks
pub contact_push-ready : {Z : Sizes} {t : List ℕ} (i e : ℕ) → Sound Z t → i < (extents (tables Z t)).islands → e < (extents (tables Z t)).edges → (contacts_in Z (tables Z t)).home e ≡ none
    → PushReady (tables Z t).contacts 0 (4 * Z.edges) i e
contact_push-ready {Z} i e S il el en = push_ready Z.edges S.good.contacts_wf i e il el en

pub contact-linked : {Z : Sizes} {t t1 t2 : List ℕ} (i e a b c d : ℕ) → Sound Z t → i < (extents (tables Z t)).islands → (members_in Z (tables Z t)).count i ≢ 0 → e < (extents (tables Z t)).edges
    → (contacts_in Z (tables Z t)).home e ≡ none → Put (contacts_at Z) (contacts_span Z) t t1 (pushed (tables Z t).contacts 0 (4 * Z.edges) i e)
    → Put (touches_at Z) (touches_span Z) t1 t2 (writes (tables Z t1).touches (touch_words (4 * e) a b c d)) → Steps Z (contact_push i (contact_of e a b c d)) t t2
unfolding contact_push
contact-linked {Z} {t} {t1} {t2} i e a b c d S il n el en A B =
    let T = tables Z t in
    let X = extents T in
    let G = good-loose S.good in
    let K = sized Z t S.long in
    let h1 : length t1 ≡ total Z = A.same_length ∙ S.long in
    let e1 = put-contacts Z t t1 _ S.long A in
    let e2 = put-touches Z t1 t2 _ h1 B ∙ ap (λ (W : Tables). touches_put W (writes W.touches (touch_words (4 * e) a b c d))) e1 in
    steps-at t2 (contact_pushed i (contact_of e a b c d)) X _ e2 refl (B.same_length ∙ h1) (loose-good (push-loose Z X T G K i e a b c d il el en (lives-open Z T i n (G.island i il))) (peopled S.good)) (push-world Z X T G K i e a b c d il el en)
    (push_kept Z X T G K i e a b c d il el en)
    (larger-refl X)

-- ---- e is taken out, at whichever place it is
module _ {A : Type 0} (g : ℕ → A) where
  map-take : (k : ℕ) (xs : List ℕ) → map g (take k xs) ≡ take k (map g xs)
  map-take zero xs = refl
  map-take (suc k) [] = refl
  map-take (suc k) (x ∷ xs) = ap (λ (ys : List A). g x ∷ ys) (map-take k xs)

  map-set : (xs : List ℕ) (p v : ℕ) → map g (set xs p v) ≡ set (map g xs) p (g v)
  map-set [] p v = refl
  map-set (x ∷ xs) zero v = refl
  map-set (x ∷ xs) (suc p) v = ap (λ (ys : List A). g x ∷ ys) (map-set xs p v)

  -- the values of what is left are what is left of the values
  pub map-swap : (d : A) (xs : List ℕ) (p : ℕ) → 0 < length xs → map g (taken_out xs p) ≡ swap_remove d (map g xs) p
  unfolding taken_out
  map-swap d xs p h =
      let k = length xs - 1 in
      map-take k (set xs p (get_or xs k 0)) ∙ ap (take k) (map-set xs p (get_or xs k 0) ∙ ap (set (map g xs) p) (sym (value-at g d xs k (omega arith))))
      ∙ ap (λ (n : ℕ). take (n - 1) (set (map g xs) p (get_or (map g xs) (n - 1) d))) (sym (length-map xs g))

module _ (Z : Sizes) (X : Extents) (T : Tables) (G : Loose Z X T) (K : Sized Z T) (e : ℕ) (el : e < X.edges) (eh : (contacts_in Z T).home e ≢ none) where
  abbrev i : ℕ
  i = (contacts_in Z T).home e

  abbrev C' : List ℕ
  C' = removed T.contacts 0 (4 * Z.edges) e

  abbrev U' : List ℕ
  U' = writes T.touches (elem_words (4 * e))

  Q : Taken Z.edges X.edges X.islands e T.contacts C'
  Q = taken Z.edges X.edges X.islands T.contacts G.contacts_wf e el eh

  il : i < X.islands
  il = (held G.contacts_wf.rules e el eh).home_lt

  take-touched : Touched Z X T i e C' U'
  take-touched =
      record {
        wf = Q.wf;
        kept = Q.kept;
        home_o = Q.home_o;
        home_e = λ j jl n q. (let h = Q.home_e in let m = G.contacts_wf.rules.m_small in omega arith);
        count_o = Q.count_o;
        list_o = Q.list_o;
        touch_o = λ j o. far e j T.touches none none none none o;
      }

  blank : (j : ℕ) → 4 * e ≤ j → j < 4 * e + 4 → get_or U' j 0 ≡ none
  blank j a b = blanked T.touches (4 * e) j (let k = K.touches_length in let l = G.edges_le in omega arith) a b

  some : 0 < length (list_of (contacts_in Z T) i)
  some = let p = listed_lt G.contacts_wf.rules e el il in omega arith

  -- an island with a link is not free
  linked-open : OpenAt Z T i
  linked-open =
      ⊎_elim (λ (x : OpenAt Z T i). x)
      (λ x. absurd (let l = length-list G.contacts_wf.rules i il in let p = some in let c = x.no_contact in omega arith)) (G.island i il)

  take-loose : Loose Z X (touched Z X T i e C' U')
  take-loose =
      touched-loose Z X T i e C' U' take-touched G linked-open
      (inl
      (record {
        not_linked = Q.home_e;
        no_slot1 = blank (4 * e) (omega arith) (omega arith);
        no_generation1 = blank (4 * e + 1) (omega arith) (omega arith);
        no_slot2 = blank (4 * e + 2) (omega arith) (omega arith);
        no_generation2 = blank (4 * e + 3) (omega arith) (omega arith);
      }))

  take-world : decode Z X (touched Z X T i e C' U') ≡ contact_removed i ((contacts_in Z T).place e) (decode Z X T)
  unfolding contact_removed
  take-world =
      touched-world Z X T i e C' U' take-touched il (λ ls. swap_remove absent_contact ls ((contacts_in Z T).place e))
      (still Z X T i e C' U' take-touched Q.wf.rules i il (λ q. (let h = Q.home_e in omega arith))
      ∙ ap (map (contact_at T.touches)) Q.list_e
      ∙ map-swap (contact_at T.touches) absent_contact (list_of (contacts_in Z T) i) ((contacts_in Z T).place e) some)

  take-kept : SameBehind Z X T (touched Z X T i e C' U')
  take-kept = touched-kept Z X T i e C' U' take-touched el

-- what the first store asks
pub contact-take-ready : {Z : Sizes} {t : List ℕ} (e : ℕ) → Loosely Z t → e < (extents (tables Z t)).edges → (contacts_in Z (tables Z t)).home e ≢ none
    → RemoveReady (tables Z t).contacts 0 (4 * Z.edges) e
contact-take-ready {Z} e S el eh = remove_ready Z.edges S.loose.contacts_wf e el eh

-- the tables after it
pub contact-out : (Z : Sizes) {t t1 t2 : List ℕ} (e : ℕ) → length t ≡ total Z → Put (contacts_at Z) (contacts_span Z) t t1 (removed (tables Z t).contacts 0 (4 * Z.edges) e)
    → Put (touches_at Z) (touches_span Z) t1 t2 (writes (tables Z t1).touches (elem_words (4 * e)))
    → tables Z t2 ≡ touches_put (contacts_put (tables Z t) (removed (tables Z t).contacts 0 (4 * Z.edges) e)) (writes (tables Z t).touches (elem_words (4 * e)))
contact-out Z {t} {t1} {t2} e l A B =
    put-touches Z t1 t2 _ (A.same_length ∙ l) B ∙ ap (λ (W : Tables). touches_put W (writes W.touches (elem_words (4 * e)))) (put-contacts Z t t1 _ l A)

-- on loose tables, and on sound ones
pub contact-gone : {Z : Sizes} {t t1 t2 : List ℕ} (e : ℕ) → Loosely Z t → e < (extents (tables Z t)).edges → (contacts_in Z (tables Z t)).home e ≢ none
    → Put (contacts_at Z) (contacts_span Z) t t1 (removed (tables Z t).contacts 0 (4 * Z.edges) e)
    → Put (touches_at Z) (touches_span Z) t1 t2 (writes (tables Z t1).touches (elem_words (4 * e))) → ContactGone Z e t t2
unfolding contact_remove
contact-gone {Z} {t} {t1} {t2} e S el eh A B =
    let T = tables Z t in
    let X = extents T in
    let G = S.loose in
    let K = sized Z t S.long in
    let r = contact-out Z e S.long A B in
    let M =
    moves-at t2 (contact_removed ((contacts_in Z T).home e) ((contacts_in Z T).place e)) X _ r refl (B.same_length ∙ A.same_length ∙ S.long) (take-loose Z X T G K e el eh)
    (take-world Z X T G K e el eh)
    (take-kept Z X T G K e el eh)
    (larger-refl X) in
    record {
      moves = M;
      steps = λ U.
          moved-steps (contact_removed ((contacts_in Z T).home e) ((contacts_in Z T).place e)) M (subst (λ (W : Tables). Peopled Z (extents W) W) (sym r) (peopled U.good));
      stays = subst (Stays T) (sym r) (record { head = refl; slots = refl; members = refl; rows = refl; freed = refl; journal = refl; scan = refl; fit = refl });
      joints = subst (JointsStay T) (sym r) (record { joints = refl; keys = refl; spare = refl });
      left =
          subst (λ (W : Tables). EntryLeft (contacts_in Z T) (contacts_in Z W) ((contacts_in Z T).home e) ((contacts_in Z T).place e)) (sym r)
          (left-taken Z.edges X.edges X.islands e T.contacts (C' Z X T G K e el eh) G.contacts_wf el eh (Q Z X T G K e el eh));
    }

pub contact-taken : {Z : Sizes} {t t1 t2 : List ℕ} (e : ℕ) → Sound Z t → e < (extents (tables Z t)).edges → (contacts_in Z (tables Z t)).home e ≢ none
    → Put (contacts_at Z) (contacts_span Z) t t1 (removed (tables Z t).contacts 0 (4 * Z.edges) e)
    → Put (touches_at Z) (touches_span Z) t1 t2 (writes (tables Z t1).touches (elem_words (4 * e)))
    → Steps Z (contact_remove ((contacts_in Z (tables Z t)).home e) ((contacts_in Z (tables Z t)).place e)) t t2
contact-taken e S el eh A B = (contact-gone e (sound-loose S) el eh A B).steps S
