-- One island goes into another: its bodies and links are put behind the other's, and its number is freed. Then the merge of two islands.
use mathlib.Core.Path.{◌≡◌, refl, sym, ◌∙◌, ap, subst}
use mathlib.Core.Logic.{◌⊎◌, inl, inr, ◌≢◌, ⊎_elim}
use mathlib.Core.Bool.{◌&&◌}
use mathlib.Core.List.{List, [], ◌∷◌, ◌++◌, map, map-append}
use Prim.Native.Nat.{ℕ, ◌+◌, ◌*◌, ◌≤◌, ◌<◌}
use native.Mathlib.Omega.{arith}
use borrow.Author.Tests.{eq-eqb, ne_eqb, le-leb, lt-leb}
use lib.ListN.{length, get_or}
use Rattle.list_in_table.specs.Rules.{list_of}
use Rattle.list_in_table.specs.Word.{miss, hit}
use Rattle.list_in_table.specs.Table.{pushed, PushReady}
use Rattle.list_in_table.proofs.Laws.{either}
use Rattle.list_in_table.proofs.Order.{length-list}
use Rattle.list_splice.specs.Splice.{spliced, SpliceReady}
use Rattle.list_in_buffer.specs.Part.{Put}
use Rattle.def_kinds.specs.declared.Sizes.{Sizes}
use Rattle.def_state.specs.World.{Island, absent_island, World, done, island_at}
use Rattle.def_state.specs.Fields.{free_set, island_set}
use Rattle.def_state.specs.Links.{survivor, add_counts, absorbed, absorb, merge_islands}
use Rattle.table_meaning.specs.Layout.{Tables, tables, total, members_at, members_span, contacts_at, contacts_span, joints_at, joints_span, rows_at, rows_span, freed_at, freed_span, head_put, members_put, contacts_put, joints_put, rows_put, freed_put, Extents, extents, members_in, contacts_in, joints_in, freed_in}
use Rattle.table_meaning.specs.Decode.{flag, contact_at, joint_at, island_in, decode, world_of}
use Rattle.table_meaning.specs.Rule.{Live}
use Rattle.table_meaning.specs.Sound.{IslandAt, Good, Sound}
use Rattle.table_meaning.specs.Does.{SameBehind}
use Rattle.table_meaning.proofs.Puts.{Sized, sized, put-members, put-contacts, put-joints, put-rows, put-freed}
use Rattle.table_meaning.proofs.Tab.{tabulate-two}
use Rattle.table_meaning.proofs.Chains.{Added, added, push_ready}
use Rattle.table_meaning.proofs.ChainsSplice.{Merged, merged, splice_ready, merged-none-home, merged-some-home}
use Rattle.table_meaning.proofs.Frame.{larger-refl, larger-then}
use Rattle.core_laws.specs.Steps.{Steps, clear_pending}
use Rattle.core_laws.specs.Linking.{absorbs}
use Rattle.core_laws.specs.Leaves.{Unpended}
use Rattle.core_laws.specs.Merging.{both_asleep, rows_mixed, TwoLive, LinksStay, Absorbed, MergeDone}
use Rattle.core_laws.proofs.Good.{island-is}
use Rattle.core_laws.proofs.Then.{does-then}
use Rattle.core_laws.proofs.At.{steps-at, steps-none, steps-as}
use Rattle.core_laws.proofs.Names.{island-at}
use Rattle.core_laws.proofs.Put.{bit_le, bit_is}
use Rattle.core_laws.proofs.Isle.{Aside, aside, Moving, moved, moved-good, moved-world, moved_same, moved-kept}

-- ---- the rows
module _ (x : List ℕ) (g s : ℕ) (d : g ≢ s) where
  abbrev n0 : ℕ
  n0 = add_counts (get_or x (3 * g) 0) (get_or x (3 * s) 0)

  abbrev n2 : ℕ
  n2 = both_asleep (get_or x (3 * g + 2) 0) (get_or x (3 * s + 2) 0)

  abbrev ws : List (ℕ × ℕ)
  ws = (3 * g, n0) ∷ (3 * g + 2, n2) ∷ (3 * s, 0) ∷ (3 * s + 1, 0) ∷ (3 * s + 2, 0) ∷ []

  mixed-o : (j : ℕ) → Aside g j → Aside s j → get_or (rows_mixed x g s) j 0 ≡ get_or x j 0
  unfolding rows_mixed
  mixed-o j a b =
      miss x ws j
      (⊎_elim (λ (p : j < 3 * g). ⊎_elim (λ (q : j < 3 * s). omega arith) (λ (q : 3 * s + 3 ≤ j). omega arith) b)
      (λ (p : 3 * g + 3 ≤ j). ⊎_elim (λ (q : j < 3 * s). omega arith) (λ (q : 3 * s + 3 ≤ j). omega arith) b)
      a)

  mixed-g1 : get_or (rows_mixed x g s) (3 * g + 1) 0 ≡ get_or x (3 * g + 1) 0
  unfolding rows_mixed
  mixed-g1 = miss x ws (3 * g + 1) (omega arith)

  module _ (gl : 3 * g + 2 < length x) (sl : 3 * s + 2 < length x) where
    mixed-g0 : get_or (rows_mixed x g s) (3 * g) 0 ≡ n0
    unfolding rows_mixed
    mixed-g0 = hit x [] (3 * g) n0 ((3 * g + 2, n2) ∷ (3 * s, 0) ∷ (3 * s + 1, 0) ∷ (3 * s + 2, 0) ∷ []) (omega arith) (omega arith)

    mixed-g2 : get_or (rows_mixed x g s) (3 * g + 2) 0 ≡ n2
    unfolding rows_mixed
    mixed-g2 = hit x ((3 * g, n0) ∷ []) (3 * g + 2) n2 ((3 * s, 0) ∷ (3 * s + 1, 0) ∷ (3 * s + 2, 0) ∷ []) gl (omega arith)

    mixed-s0 : get_or (rows_mixed x g s) (3 * s) 0 ≡ 0
    unfolding rows_mixed
    mixed-s0 = hit x ((3 * g, n0) ∷ (3 * g + 2, n2) ∷ []) (3 * s) 0 ((3 * s + 1, 0) ∷ (3 * s + 2, 0) ∷ []) (omega arith) (omega arith)

    mixed-s1 : get_or (rows_mixed x g s) (3 * s + 1) 0 ≡ 0
    unfolding rows_mixed
    mixed-s1 = hit x ((3 * g, n0) ∷ (3 * g + 2, n2) ∷ (3 * s, 0) ∷ []) (3 * s + 1) 0 ((3 * s + 2, 0) ∷ []) (omega arith) (omega arith)

    mixed-s2 : get_or (rows_mixed x g s) (3 * s + 2) 0 ≡ 0
    unfolding rows_mixed
    mixed-s2 = hit x ((3 * g, n0) ∷ (3 * g + 2, n2) ∷ (3 * s, 0) ∷ (3 * s + 1, 0) ∷ []) (3 * s + 2) 0 [] sl tt

-- ---- the tables: s goes into g
-- all but the pending split
taken_in : ℕ → ℕ → World → World
taken_in g s w = free_set (island_set (island_set w g (absorbed (island_at w g) (island_at w s))) s absent_island) (w.free_islands ++ (s ∷ []))

module _ (Z : Sizes) (X : Extents) (T : Tables) (G : Good Z X T) (K : Sized Z T) (g s : ℕ) (gl : g < X.islands) (sl : s < X.islands) (d : g ≢ s) (cg : (members_in Z T).count g ≢ 0) (cs : (members_in Z T).count s ≢ 0) where
  abbrev M : List ℕ
  M = spliced T.members 0 (4 * Z.slots) g s

  abbrev C : List ℕ
  C = spliced T.contacts 0 (4 * Z.edges) g s

  abbrev J : List ℕ
  J = spliced T.joints 0 (4 * Z.joints) g s

  abbrev R : List ℕ
  R = rows_mixed T.rows g s

  abbrev F : List ℕ
  F = pushed T.freed 0 (4 * Z.islands) 0 s

  abbrev D : ℕ → Type 0
  D k = (k ≡ g) ⊎ (k ≡ s)

  abbrev U : Tables
  U = moved Z X T D M C J R F

  live : (i : ℕ) → i < X.islands → (members_in Z T).count i ≢ 0 → Live ((members_in Z T).count i) (get_or T.rows (3 * i + 2) 0) ((freed_in Z T).home i)
  live i l c = ⊎_elim (λ x. x) (λ x. absurd (c x.no_body)) (G.island i l)

  PM : Merged Z.slots X.slots X.islands g s T.members M
  PM = merged Z.slots X.slots X.islands T.members G.members_wf g s gl sl d

  PC : Merged Z.edges X.edges X.islands g s T.contacts C
  PC = merged Z.edges X.edges X.islands T.contacts G.contacts_wf g s gl sl d

  PJ : Merged Z.joints X.joints X.islands g s T.joints J
  PJ = merged Z.joints X.joints X.islands T.joints G.joints_wf g s gl sl d

  A : Added Z.islands X.islands 1 0 s T.freed F
  A = added Z.islands X.islands 1 T.freed G.freed_wf 0 s (omega arith) sl (live s sl cs).not_freed

  inside : (i : ℕ) → i < X.islands → 3 * i + 2 < length T.rows
  inside i l = let b = K.rows_length in let h = G.islands_le in omega arith

  moving : Moving Z X T D M C J R F
  moving =
      record {
        members_wf = PM.wf;
        members_kept = PM.kept;
        contacts_wf = PC.wf;
        contacts_kept = PC.kept;
        joints_wf = PJ.wf;
        joints_kept = PJ.kept;
        freed_wf = A.wf;
        freed_kept = A.kept;
        vacant = λ k l v h. merged-none-home PM gl sl k l h;
        edge_none = λ e l h. merged-none-home PC gl sl e l h;
        edge_some = λ e l h. merged-some-home PC gl sl e l h;
        joint_none = λ p l h. merged-none-home PJ gl sl p l h;
        joint_some = λ p l h. merged-some-home PJ gl sl p l h;
        other = λ k l n.
            (let a : k ≢ g = λ e. n (inl e) in
            let b : k ≢ s = λ e. n (inr e) in
            record {
              bodies = PM.list_o k l a b;
              contacts = PC.list_o k l a b;
              joints = PJ.list_o k l a b;
              body_count = PM.count_o k l a b;
              contact_count = PC.count_o k l a b;
              joint_count = PJ.count_o k l a b;
              removals = mixed-o T.rows g s d (3 * k) (aside g k (3 * k) a (omega arith) (omega arith)) (aside s k (3 * k) b (omega arith) (omega arith));
              denied = mixed-o T.rows g s d (3 * k + 1) (aside g k (3 * k + 1) a (omega arith) (omega arith)) (aside s k (3 * k + 1) b (omega arith) (omega arith));
              sleeping = mixed-o T.rows g s d (3 * k + 2) (aside g k (3 * k + 2) a (omega arith) (omega arith)) (aside s k (3 * k + 2) b (omega arith) (omega arith));
              freed = A.view_is.home_o k l b;
            });
      }

  big-rule : IslandAt Z U g
  unfolding both_asleep
  big-rule =
      inl
      (record {
        some = (let c = PM.count_g in omega arith);
        sleeping_flag = rw (mixed-g2 T.rows g s d (inside g gl) (inside s sl)) (bit_le (flag (get_or T.rows (3 * g + 2) 0) && flag (get_or T.rows (3 * s + 2) 0)));
        not_freed = A.view_is.home_o g gl d ∙ (live g gl cg).not_freed;
      })

  small-rule : IslandAt Z U s
  small-rule =
      inr
      (record {
        no_body = PM.count_s;
        no_contact = PC.count_s;
        no_joint = PJ.count_s;
        no_removals = mixed-s0 T.rows g s d (inside g gl) (inside s sl);
        no_denial = mixed-s1 T.rows g s d (inside g gl) (inside s sl);
        not_sleeping = mixed-s2 T.rows g s d (inside g gl) (inside s sl);
        in_stack = A.view_is.home_e;
      })

  in-good : Good Z X U
  in-good =
      moved-good Z X T D M C J R F moving G
      (λ k l.
      either k g (λ e. inl (subst (IslandAt Z U) (sym e) big-rule))
      (λ a. either k s (λ e. inl (subst (IslandAt Z U) (sym e) small-rule)) (λ b. inr (λ x. ⊎_elim a b x))))

  big_is : island_in Z U g ≡ absorbed (island_in Z T g) (island_in Z T s)
  unfolding both_asleep
  big_is =
      island-is PM.list_g (ap (map (contact_at T.touches)) PC.list_g ∙ map-append (contact_at T.touches) (list_of (contacts_in Z T) g) (list_of (contacts_in Z T) s))
      (ap (map (joint_at T.keys)) PJ.list_g ∙ map-append (joint_at T.keys) (list_of (joints_in Z T) g) (list_of (joints_in Z T) s))
      (mixed-g0 T.rows g s d (inside g gl) (inside s sl))
      (mixed-g1 T.rows g s d)
      (ap flag (mixed-g2 T.rows g s d (inside g gl) (inside s sl)) ∙ bit_is (flag (get_or T.rows (3 * g + 2) 0) && flag (get_or T.rows (3 * s + 2) 0)))

  small_is : island_in Z U s ≡ absent_island
  small_is =
      island-is PM.list_s (ap (map (contact_at T.touches)) PC.list_s) (ap (map (joint_at T.keys)) PJ.list_s) (mixed-s0 T.rows g s d (inside g gl) (inside s sl))
      (mixed-s1 T.rows g s d (inside g gl) (inside s sl))
      (ap flag (mixed-s2 T.rows g s d (inside g gl) (inside s sl)))

  in-world : decode Z X U ≡ taken_in g s (decode Z X T)
  unfolding island_set taken_in
  in-world =
      let w = decode Z X T in
      moved-world Z X T D M C J R F moving _ (list_of (freed_in Z T) 0 ++ (s ∷ []))
      (tabulate-two X.islands g s (island_in Z U) (island_in Z T) (absorbed (island_at w g) (island_at w s)) absent_island
      (big_is ∙ ap (λ (a : Island). absorbed a (island_in Z T s)) (sym (island-at Z X T g gl)) ∙ ap (λ (a : Island). absorbed (island_at w g) a) (sym (island-at Z X T s sl)))
      small_is
      (λ k l a b. moved_same Z X T D M C J R F moving k l (λ x. ⊎_elim a b x)))
      A.list_i

  in_kept : SameBehind Z X T U
  in_kept =
      moved-kept Z X T D M C J R F moving
      (λ j h. mixed-o T.rows g s d j (inr (omega arith)) (inr (omega arith)))

  -- with another head of the same extents
  in-stays : (h : List ℕ) → extents (head_put U h) ≡ extents T → X ≡ extents T → LinksStay Z T (head_put U h)
  in-stays h e x =
      record {
        extents_same = e;
        slots = refl;
        touches = refl;
        keys = refl;
        spare = refl;
        journal = refl;
        scan = refl;
        fit = refl;
        edge_none = λ k l n. merged-none-home PC gl sl k (rw x l) n;
        joint_none = λ k l n. merged-none-home PJ gl sl k (rw x l) n;
      }

  in-live : (members_in Z U).count g ≢ 0
  in-live = let c = PM.count_g in omega arith

-- ---- the buffer
module _ {Z : Sizes} {t : List ℕ} (g s : ℕ) (L : TwoLive Z g s t) (d : g ≢ s) where
  pub contacts-ready : SpliceReady (tables Z t).contacts 0 (4 * Z.edges) g s
  contacts-ready = splice_ready Z.edges L.sound.good.contacts_wf g s L.a_lt L.b_lt d

  pub rows-ready : (g < Z.islands) × (s < Z.islands)
  rows-ready = let i = L.sound.good.islands_le in let a = L.a_lt in let b = L.b_lt in (omega arith, omega arith)

  module _ {t1 xs : List ℕ} (P1 : Put (contacts_at Z) (contacts_span Z) t t1 xs) where
    h1 : length t1 ≡ total Z
    h1 = P1.same_length ∙ L.sound.long

    e1 : tables Z t1 ≡ contacts_put (tables Z t) xs
    e1 = put-contacts Z t t1 xs L.sound.long P1

    pub joints-ready : SpliceReady (tables Z t1).joints 0 (4 * Z.joints) g s
    joints-ready =
        let q : (tables Z t1).joints ≡ (tables Z t).joints = ap (λ (W : Tables). W.joints) e1 in
        rw q (splice_ready Z.joints L.sound.good.joints_wf g s L.a_lt L.b_lt d)

    module _ {t2 ys : List ℕ} (P2 : Put (joints_at Z) (joints_span Z) t1 t2 ys) where
      h2 : length t2 ≡ total Z
      h2 = P2.same_length ∙ h1

      e2 : tables Z t2 ≡ joints_put (contacts_put (tables Z t) xs) ys
      e2 = put-joints Z t1 t2 ys h1 P2 ∙ ap (λ (W : Tables). joints_put W ys) e1

      pub members-ready : SpliceReady (tables Z t2).members 0 (4 * Z.slots) g s
      members-ready =
          let q : (tables Z t2).members ≡ (tables Z t).members = ap (λ (W : Tables). W.members) e2 in
          rw q (splice_ready Z.slots L.sound.good.members_wf g s L.a_lt L.b_lt d)

      module _ {t3 zs : List ℕ} (P3 : Put (members_at Z) (members_span Z) t2 t3 zs) where
        h3 : length t3 ≡ total Z
        h3 = P3.same_length ∙ h2

        e3 : tables Z t3 ≡ members_put (joints_put (contacts_put (tables Z t) xs) ys) zs
        e3 = put-members Z t2 t3 zs h2 P3 ∙ ap (λ (W : Tables). members_put W zs) e2

        module _ {t4 rs : List ℕ} (P4 : Put (rows_at Z) (rows_span Z) t3 t4 rs) where
          h4 : length t4 ≡ total Z
          h4 = P4.same_length ∙ h3

          e4 : tables Z t4 ≡ rows_put (members_put (joints_put (contacts_put (tables Z t) xs) ys) zs) rs
          e4 = put-rows Z t3 t4 rs h3 P4 ∙ ap (λ (W : Tables). rows_put W rs) e3

          pub freed-ready : PushReady (tables Z t4).freed 0 (4 * Z.islands) 0 s
          freed-ready =
              let T = tables Z t in
              let S = L.sound in
              let q : (tables Z t4).freed ≡ T.freed = ap (λ (W : Tables). W.freed) e4 in
              rw q
              (push_ready Z.islands S.good.freed_wf 0 s (omega arith) L.b_lt
              (live Z (extents T) T S.good (sized Z t S.long) g s L.a_lt L.b_lt d L.a_live L.b_live s L.b_lt L.b_live).not_freed)

-- all five puts, and the pending split
module _ {Z : Sizes} {t t1 t2 t3 t4 t5 : List ℕ} (g s : ℕ) (L : TwoLive Z g s t) (d : g ≢ s) (P1 : Put (contacts_at Z) (contacts_span Z) t t1 (spliced (tables Z t).contacts 0 (4 * Z.edges) g s)) (P2 : Put (joints_at Z) (joints_span Z) t1 t2 (spliced (tables Z t1).joints 0 (4 * Z.joints) g s)) (P3 : Put (members_at Z) (members_span Z) t2 t3 (spliced (tables Z t2).members 0 (4 * Z.slots) g s)) (P4 : Put (rows_at Z) (rows_span Z) t3 t4 (rows_mixed (tables Z t3).rows g s)) (P5 : Put (freed_at Z) (freed_span Z) t4 t5 (pushed (tables Z t4).freed 0 (4 * Z.islands) 0 s)) where
  abbrev T : Tables
  T = tables Z t

  abbrev X : Extents
  X = extents T

  abbrev U5 : Tables
  U5 = U Z X T L.sound.good (sized Z t L.sound.long) g s L.a_lt L.b_lt d L.a_live L.b_live

  q5 : tables Z t5 ≡ U5
  q5 =
      let q2 = put-joints Z t1 t2 _ (h1 g s L d P1) P2 ∙ ap (λ (W : Tables). joints_put W (spliced W.joints 0 (4 * Z.joints) g s)) (e1 g s L d P1) in
      let q3 = put-members Z t2 t3 _ (h2 g s L d P1 P2) P3 ∙ ap (λ (W : Tables). members_put W (spliced W.members 0 (4 * Z.slots) g s)) q2 in
      let q4 = put-rows Z t3 t4 _ (h3 g s L d P1 P2 P3) P4 ∙ ap (λ (W : Tables). rows_put W (rows_mixed W.rows g s)) q3 in
      put-freed Z t4 t5 _ (h4 g s L d P1 P2 P3 P4) P5 ∙ ap (λ (W : Tables). freed_put W (pushed W.freed 0 (4 * Z.islands) 0 s)) q4

  in-steps : Steps Z (λ w. done (taken_in g s w)) t t5
  in-steps =
      let S = L.sound in
      let K = sized Z t S.long in
      steps-at t5 (taken_in g s) X U5 q5 refl (P5.same_length ∙ h4 g s L d P1 P2 P3 P4) (in-good Z X T S.good K g s L.a_lt L.b_lt d L.a_live L.b_live)
      (in-world Z X T S.good K g s L.a_lt L.b_lt d L.a_live L.b_live)
      (in_kept Z X T S.good K g s L.a_lt L.b_lt d L.a_live L.b_live)
      (larger-refl X)

  pub in-sound : Sound Z t5
  in-sound = in-steps.does.sound

  pub absorb-done : {t6 : List ℕ} → Unpended Z s t5 t6 → Absorbed Z g s t t6
  unfolding absorbs absorb clear_pending taken_in
  absorb-done {t6} B =
      let S = L.sound in
      let K = sized Z t S.long in
      let h = (tables Z t6).head in
      let q6 : tables Z t6 ≡ head_put U5 h = B.rest ∙ ap (λ (W : Tables). head_put W h) q5 in
      let x : extents (head_put U5 h) ≡ X = ap extents (sym q6) ∙ B.extents_same ∙ ap extents q5 in
      record {
        steps =
            record {
              does = does-then (λ w. done (taken_in g s w)) (clear_pending s) B.steps.larger in-steps.does B.steps.does;
              larger = larger-then in-steps.larger B.steps.larger;
            };
        live = subst (λ (W : Tables). (members_in Z W).count g ≢ 0) (sym q6) (in-live Z X T S.good K g s L.a_lt L.b_lt d L.a_live L.b_live);
        stays = subst (LinksStay Z T) (sym q6) (in-stays Z X T S.good K g s L.a_lt L.b_lt d L.a_live L.b_live h x refl);
      }

-- ---- the merge of two islands
-- an island's bodies are as many as its count says
bodies-many : {Z : Sizes} {t : List ℕ} (i : ℕ) → Sound Z t → i < (extents (tables Z t)).islands → length (island_at (world_of Z t) i).bodies ≡ (members_in Z (tables Z t)).count i
unfolding world_of
bodies-many {Z} {t} i S l =
    let T = tables Z t in
    ap (λ (a : Island). length a.bodies) (island-at Z (extents T) T i l) ∙ length-list S.good.members_wf.rules i l

pub merge-one : (a b : ℕ) (w : World) → a ≡ b → merge_islands a b w ≡ w
unfolding merge_islands
merge-one a b w e = rw (eq-eqb a b e)

merge-two : (a b : ℕ) (w : World) → a ≢ b → survivor w a b ≡ a → merge_islands a b w ≡ absorb a b w
unfolding merge_islands
merge-two a b w d e = rw (ne_eqb a b d, eq-eqb (survivor w a b) a e)

merge-other : (a b : ℕ) (w : World) → a ≢ b → survivor w a b ≡ b → merge_islands a b w ≡ absorb b a w
unfolding merge_islands
merge-other a b w d e = rw (ne_eqb a b d, ne_eqb (survivor w a b) a (λ q. d (sym q ∙ e)))

module _ {Z : Sizes} {t : List ℕ} (a b : ℕ) (L : TwoLive Z a b t) where
  pub two-swapped : TwoLive Z b a t
  two-swapped = record { sound = L.sound; a_lt = L.b_lt; b_lt = L.a_lt; a_live = L.b_live; b_live = L.a_live }

  pub merge-same : a ≡ b → MergeDone Z a b t a t
  merge-same e =
      record {
        steps = steps-none (merge_islands a b) L.sound (merge-one a b (world_of Z t) e);
        survivor = rw (eq-eqb a b e);
        in_use = L.a_lt;
        live = L.a_live;
        stays =
            record {
              extents_same = refl;
              slots = refl;
              touches = refl;
              keys = refl;
              spare = refl;
              journal = refl;
              scan = refl;
              fit = refl;
              edge_none = λ k l n. n;
              joint_none = λ k l n. n;
            };
      }

  first-wins : (members_in Z (tables Z t)).count b ≤ (members_in Z (tables Z t)).count a → survivor (world_of Z t) a b ≡ a
  unfolding survivor
  first-wins h =
      let w = world_of Z t in
      let p = bodies-many a L.sound L.a_lt in
      let q = bodies-many b L.sound L.b_lt in
      rw (le-leb (length (island_at w b).bodies) (length (island_at w a).bodies) (omega arith))

  second-wins : (members_in Z (tables Z t)).count a < (members_in Z (tables Z t)).count b → survivor (world_of Z t) a b ≡ b
  unfolding survivor
  second-wins h =
      let w = world_of Z t in
      let p = bodies-many a L.sound L.a_lt in
      let q = bodies-many b L.sound L.b_lt in
      rw (lt-leb (length (island_at w b).bodies) (length (island_at w a).bodies) (omega arith))

  pub merge-first : {t' : List ℕ} → a ≢ b → (members_in Z (tables Z t)).count b ≤ (members_in Z (tables Z t)).count a → Absorbed Z a b t t' → MergeDone Z a b t a t'
  unfolding absorbs
  merge-first d h A =
      let e = first-wins h in
      record {
        steps = steps-as (absorbs a b) (λ w. done (merge_islands a b w)) (sym (ap done (merge-two a b (world_of Z t) d e))) A.steps;
        survivor = rw (ne_eqb a b d) (sym e);
        in_use = subst (λ (Y : Extents). a < Y.islands) (sym A.stays.extents_same) L.a_lt;
        live = A.live;
        stays = A.stays;
      }

  pub merge-second : {t' : List ℕ} → a ≢ b → (members_in Z (tables Z t)).count a < (members_in Z (tables Z t)).count b → Absorbed Z b a t t' → MergeDone Z a b t b t'
  unfolding absorbs
  merge-second d h A =
      let e = second-wins h in
      record {
        steps = steps-as (absorbs b a) (λ w. done (merge_islands a b w)) (sym (ap done (merge-other a b (world_of Z t) d e))) A.steps;
        survivor = rw (ne_eqb a b d) (sym e);
        in_use = subst (λ (Y : Extents). b < Y.islands) (sym A.stays.extents_same) L.b_lt;
        live = A.live;
        stays = A.stays;
      }
