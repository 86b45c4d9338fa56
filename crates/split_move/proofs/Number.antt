-- A number is taken for a new island.
use mathlib.Core.Path.{◌≡◌, refl, sym, ◌∙◌, ap, subst}
use mathlib.Core.Logic.{inl, ◌≢◌}
use mathlib.Core.Bool.{Bool}
use mathlib.Core.List.{List, [], ◌∷◌, ◌++◌}
use Prim.Native.Nat.{ℕ, ◌+◌, ◌*◌, ◌≤◌, ◌<◌}
use native.Mathlib.Omega.{arith}
use lib.ListN.{length, get_or, set}
use lib.Seq.{get_or-set_same, get_or-set_other}
use Rattle.list_in_table.specs.Rules.{none, list_of}
use Rattle.list_in_table.specs.Table.{view, Wf, removed, RemoveReady}
use Rattle.def_kinds.specs.Choice.{pick}
use Rattle.list_in_table.proofs.Laws.{either}
use Rattle.list_in_table.proofs.Order.{length-list}
use Rattle.list_in_buffer.specs.Part.{Put}
use Rattle.def_kinds.specs.declared.Sizes.{Sizes}
use Rattle.def_state.specs.Plain.{top, empty, drop_last, last_of}
use Rattle.def_state.specs.World.{absent_island, World}
use Rattle.def_state.specs.Fields.{islands_set, free_set, island_set}
use Rattle.def_state.specs.Membership.{new_number, alloc_island}
use Rattle.def_state.specs.Split.{new_island}
use Rattle.table_meaning.specs.Layout.{Tables, tables, total, rows_at, rows_span, freed_at, freed_span, rows_put, freed_put, Extents, extents, members_in, freed_in}
use Rattle.table_meaning.specs.Decode.{flag, island_in, decode, world_of}
use Rattle.table_meaning.specs.Does.{SameBehind}
use Rattle.table_meaning.proofs.Puts.{Sized, sized, put-rows, put-freed}
use Rattle.table_meaning.proofs.Chains.{nil}
use Rattle.table_meaning.proofs.Tab.{tabulate-set}
use Rattle.table_meaning.proofs.Frame.{larger-refl, kept_then, kept-rows, kept-freed}
use Rattle.core_laws.specs.Steps.{one_island, readied}
use Rattle.core_laws.specs.Loose.{OpenAt, LooseAt, Loose, Loosely, BodiesStay, MadeReady}
use Rattle.core_laws.proofs.Good.{island-is, world_is}
use Rattle.core_laws.proofs.Loose.{loose-rule, moves-at, moves-as, moves-then}
use Rattle.core_laws.proofs.Found.{il, held, take-ready, freed, Q, rest, number}
use Rattle.core_laws.proofs.GrowIsland.{free-count}
use Rattle.split_move.specs.Shift.{reserved, NumberTaken}

-- the last freed number is taken
abbrev pop_new : Bool → World → World
pop_new z w = island_set (free_set w (drop_last w.free_islands)) (last_of top w.free_islands) (new_island z)

-- with a free number made ready before, that is a new island
ready-new : (z : Bool) (w : World) → pop_new z (readied w) ≡ reserved z w
unfolding readied reserved new_number alloc_island one_island island_set
ready-new z w = cases w.free_islands refl
  where
    cases : (fs : List ℕ) → w.free_islands ≡ fs → pop_new z (pick (empty w.free_islands) (one_island w) w) ≡ island_set (pick (empty w.free_islands) (islands_set w (w.islands ++ (absent_island ∷ []))) (free_set w (drop_last w.free_islands))) (pick (empty w.free_islands) (length w.islands) (last_of top w.free_islands)) (new_island z)
    cases [] e = rw e
    cases (x ∷ xs) e = rw e

new-number : (w : World) → last_of top (readied w).free_islands ≡ new_number w
unfolding readied new_number one_island
new-number w = cases w.free_islands refl
  where
    cases : (fs : List ℕ) → w.free_islands ≡ fs → last_of top (pick (empty w.free_islands) (one_island w) w).free_islands ≡ pick (empty w.free_islands) (length w.islands) (last_of top w.free_islands)
    cases [] e = rw e
    cases (x ∷ xs) e = rw e

module _ (Z : Sizes) (X : Extents) (T : Tables) (G : Loose Z X T) (K : Sized Z T) (i z : ℕ) (c : 0 < (freed_in Z T).count 0) (q : i ≡ (freed_in Z T).last 0) (zl : z ≤ 1) where
  abbrev F : List ℕ
  F = removed T.freed 0 (4 * Z.islands) i

  abbrev R : List ℕ
  R = set T.rows (3 * i + 2) z

  abbrev T' : Tables
  T' = rows_put (freed_put T F) R

  ilt : i < X.islands
  ilt = il Z X T G i c q

  row_o : (j : ℕ) → j ≢ 3 * i + 2 → get_or R j 0 ≡ get_or T.rows j 0
  row_o j d = get_or-set_other T.rows (3 * i + 2) j z 0 d

  row-z : get_or R (3 * i + 2) 0 ≡ z
  row-z = let a = ilt in let b = K.rows_length in let g = G.islands_le in get_or-set_same T.rows (3 * i + 2) z 0 (omega arith)

  open-i : OpenAt Z T' i
  open-i = record { sleeping_flag = rw row-z zl; not_freed = (Q Z X T G i c q).home_e }

  take-loose : Loose Z X T'
  take-loose =
      record {
        enough = G.enough;
        slots_le = G.slots_le;
        islands_le = G.islands_le;
        edges_le = G.edges_le;
        joints_le = G.joints_le;
        journal_le = G.journal_le;
        members_wf = G.members_wf;
        freed_wf = (Q Z X T G i c q).wf;
        contacts_wf = G.contacts_wf;
        joints_wf = G.joints_wf;
        spare_wf = G.spare_wf;
        scan_wf = G.scan_wf;
        slot = G.slot;
        island = λ j h.
            either j i (λ s. subst (LooseAt Z T') (sym s) (inl open-i))
            (λ d. loose-rule refl refl refl (row_o (3 * j) (omega arith)) (row_o (3 * j + 1) (omega arith)) (row_o (3 * j + 2) (omega arith)) ((Q Z X T G i c q).home_o j h d) (G.island j h));
        seen = G.seen;
        edge = G.edge;
        joint = G.joint;
        distinct = G.distinct;
        head = G.head;
      }

  take-world : decode Z X T' ≡ pop_new (flag z) (decode Z X T)
  unfolding island_set
  take-world =
      let w = decode Z X T in
      let f = freed Z X T G i c q in
      let no : (N n : ℕ) (x : List ℕ) → Wf x 0 (4 * N) n X.islands → (view x 0 (4 * N)).count i ≡ 0 → list_of (view x 0 (4 * N)) i ≡ [] =
      λ N n x u e. nil (list_of (view x 0 (4 * N)) i) (length-list u.rules i ilt ∙ e) in
      world_is refl
      (tabulate-set X.islands i (island_in Z T') (island_in Z T) (new_island (flag z))
      (island-is (no Z.slots X.slots T.members G.members_wf f.no_body)
      (rw (no Z.edges X.edges T.contacts G.contacts_wf f.no_contact))
      (rw (no Z.joints X.joints T.joints G.joints_wf f.no_joint))
      (row_o (3 * i) (omega arith) ∙ f.no_removals)
      (row_o (3 * i + 1) (omega arith) ∙ f.no_denial)
      (ap flag row-z))
      (λ j h d.
      island-is refl refl refl (row_o (3 * j) (omega arith)) (row_o (3 * j + 1) (omega arith)) (ap flag (row_o (3 * j + 2) (omega arith))))
      ∙ ap (λ (k : ℕ). set w.islands k (new_island (flag z))) (number Z X T G i c q))
      (rest Z X T G i c q)
      refl refl refl refl refl refl refl refl

  take-kept : SameBehind Z X T T'
  take-kept =
      let a = ilt in
      kept_then (larger-refl X) (kept-freed (Q Z X T G i c q).kept) (kept-rows (λ j h. row_o j (omega arith)))

-- ---- the step
module _ {Z : Sizes} {t : List ℕ} (i : ℕ) (S : Loosely Z t) (c : 0 < (freed_in Z (tables Z t)).count 0) (q : i ≡ (freed_in Z (tables Z t)).last 0) where
  pub number_lt : i < (extents (tables Z t)).islands
  number_lt = il Z (extents (tables Z t)) (tables Z t) S.loose i c q

  pub number-ready : RemoveReady (tables Z t).freed 0 (4 * Z.islands) i
  number-ready = take-ready Z (extents (tables Z t)) (tables Z t) S.loose i c q

-- after it is made ready there is one
readied-some : (w : World) → 0 < length (readied w).free_islands
unfolding readied one_island
readied-some w = cases w.free_islands refl
  where
    cases : (fs : List ℕ) → w.free_islands ≡ fs → 0 < length (pick (empty w.free_islands) (one_island w) w).free_islands
    cases [] e = rw e (omega arith)
    cases (x ∷ xs) e = rw e (omega arith)

pub ready-some : {Z : Sizes} {t t1 : List ℕ} → MadeReady Z t t1 → 0 < (freed_in Z (tables Z t1)).count 0
ready-some {Z} {t} {t1} M =
    let a = free-count M.moves.sound in
    let b : length (world_of Z t1).free_islands ≡ length (readied (world_of Z t)).free_islands = ap (λ (w : World). length w.free_islands) M.moves.after in
    let d = readied-some (world_of Z t) in
    omega arith

pub number-taken : {Z : Sizes} {t t1 t2 t3 : List ℕ} (i z : ℕ) → MadeReady Z t t1 → i ≡ (freed_in Z (tables Z t1)).last 0 → z ≤ 1
    → Put (freed_at Z) (freed_span Z) t1 t2 (removed (tables Z t1).freed 0 (4 * Z.islands) i) → Put (rows_at Z) (rows_span Z) t2 t3 (set (tables Z t2).rows (3 * i + 2) z)
    → NumberTaken Z z i t t3
unfolding world_of
number-taken {Z} {t} {t1} {t2} {t3} i z M q zl A B =
    let S = M.moves.sound in
    let T = tables Z t1 in
    let X = extents T in
    let G = S.loose in
    let K = sized Z t1 S.long in
    let c = ready-some M in
    let h2 : length t2 ≡ total Z = A.same_length ∙ S.long in
    let r : tables Z t3 ≡ T' Z X T G K i z c q zl = put-rows Z t2 t3 _ h2 B ∙ ap (λ (W : Tables). rows_put W (set W.rows (3 * i + 2) z)) (put-freed Z t1 t2 _ S.long A) in
    let P = moves-at t3 (pop_new (flag z)) X _ r refl (B.same_length ∙ h2) (take-loose Z X T G K i z c q zl) (take-world Z X T G K i z c q zl) (take-kept Z X T G K i z c q zl) (larger-refl X) in
    let il = ilt Z X T G K i z c q zl in
    let Qi = Q Z X T G i c q in
    record {
      moves = moves-as (λ w. pop_new (flag z) (readied w)) (reserved (flag z)) (ready-new (flag z) (world_of Z t)) (moves-then readied (pop_new (flag z)) M.moves P);
      number = number Z X T G i c q ∙ ap (λ (w : World). last_of top w.free_islands) M.moves.after ∙ new-number (world_of Z t);
      stays =
          subst (BodiesStay Z (tables Z t)) (sym r)
          (record {
            slots_in_use = M.stays.slots_in_use;
            slots = M.stays.slots;
            home = M.stays.home;
            place = M.stays.place;
            count = M.stays.count;
            body_list = M.stays.body_list;
          });
      lt = subst (λ (W : Tables). i < (extents W).islands) (sym r) il;
      opens = subst (λ (W : Tables). OpenAt Z W i) (sym r) (open-i Z X T G K i z c q zl);
      no_body = subst (λ (W : Tables). (members_in Z W).count i ≡ 0) (sym r) (freed Z X T G i c q).no_body;
      new = λ j jl f e. held Z X T G i c q (ap (freed_in Z T).home (sym e) ∙ M.numbers.freed j jl ∙ f);
      still_open = λ j jl o.
          let d : j ≢ i = λ e. held Z X T G i c q (ap (freed_in Z T).home (sym e) ∙ M.numbers.freed j jl ∙ o.not_freed) in
          let jl1 : j < X.islands = (let L = M.moves.larger.islands in omega arith) in
          subst (λ (W : Tables). OpenAt Z W j) (sym r)
          (record {
            sleeping_flag = rw (row_o Z X T G K i z c q zl (3 * j + 2) (omega arith), M.numbers.sleeping j jl) o.sleeping_flag;
            not_freed = Qi.home_o j jl1 d ∙ M.numbers.freed j jl ∙ o.not_freed;
          });
      was_open = λ j jl f d.
          let jl1 : j < X.islands = subst (λ (W : Tables). j < (extents W).islands) r jl in
          let f1 : (freed_in Z (T' Z X T G K i z c q zl)).home j ≡ none = subst (λ (W : Tables). (freed_in Z W).home j ≡ none) r f in
          let f2 : (freed_in Z T).home j ≡ none = sym (Qi.home_o j jl1 d) ∙ f1 in
          let n = M.numbers.new j jl1 f2 in
          (n, sym (M.numbers.freed j n) ∙ f2);
    }
