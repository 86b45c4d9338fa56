-- The three words of a live island change, and nothing else.
use mathlib.Core.Path.{◌≡◌, refl, sym, ◌∙◌, ap, subst}
use mathlib.Core.Logic.{inl, inr, ◌≢◌, ⊎_elim}
use mathlib.Core.List.{List}
use Prim.Native.Nat.{ℕ, ◌+◌, ◌*◌, ◌≤◌, ◌<◌}
use native.Mathlib.Omega.{arith}
use lib.ListN.{get_or, set}
use Rattle.list_in_table.proofs.Laws.{either}
use Rattle.list_in_buffer.specs.Part.{Put}
use Rattle.def_kinds.specs.declared.Sizes.{Sizes}
use Rattle.def_state.specs.World.{Island, done, island_at}
use Rattle.def_state.specs.Fields.{islands_set, island_set}
use Rattle.table_meaning.specs.Layout.{Tables, tables, rows_at, rows_span, rows_put, Extents, extents, members_in, freed_in}
use Rattle.table_meaning.specs.Decode.{island_in, decode}
use Rattle.table_meaning.specs.Rule.{Live}
use Rattle.table_meaning.specs.Sound.{IslandAt, Good, Sound}
use Rattle.table_meaning.specs.Does.{SameBehind}
use Rattle.table_meaning.proofs.Puts.{put-rows}
use Rattle.table_meaning.proofs.Tab.{tabulate-set}
use Rattle.table_meaning.proofs.Frame.{larger-refl, kept-rows}
use Rattle.core_laws.specs.Steps.{Steps}
use Rattle.core_laws.proofs.Good.{world_is}
use Rattle.core_laws.proofs.Names.{island-at}
use Rattle.core_laws.proofs.At.{steps-at}
use Rattle.core_laws.proofs.Isle.{Aside, aside, Same, same-rule, same-island}

module _ (Z : Sizes) (X : Extents) (T : Tables) (G : Good Z X T) (i : ℕ) (il : i < X.islands) (some : (members_in Z T).count i ≢ 0) (R : List ℕ)
    (row_o : (j : ℕ) → Aside i j → get_or R j 0 ≡ get_or T.rows j 0) (z : get_or R (3 * i + 2) 0 ≤ 1) where
  abbrev T' : Tables
  T' = rows_put T R

  other : (k : ℕ) → k ≢ i → Same Z T T' k
  other k d =
      record {
        bodies = refl;
        contacts = refl;
        joints = refl;
        body_count = refl;
        contact_count = refl;
        joint_count = refl;
        removals = row_o (3 * k) (aside i k (3 * k) d (omega arith) (omega arith));
        denied = row_o (3 * k + 1) (aside i k (3 * k + 1) d (omega arith) (omega arith));
        sleeping = row_o (3 * k + 2) (aside i k (3 * k + 2) d (omega arith) (omega arith));
        freed = refl;
      }

  -- a live island stays live, whatever its count and its denial
  pub live-is : Live ((members_in Z T).count i) (get_or R (3 * i + 2) 0) ((freed_in Z T).home i)
  live-is =
      ⊎_elim (λ x. record { some = x.some; sleeping_flag = z; not_freed = x.not_freed }) (λ x. absurd (some x.no_body)) (G.island i il)

  pub row-good : Good Z X T'
  row-good =
      record {
        enough = G.enough;
        slots_le = G.slots_le;
        islands_le = G.islands_le;
        edges_le = G.edges_le;
        joints_le = G.joints_le;
        journal_le = G.journal_le;
        members_wf = G.members_wf;
        freed_wf = G.freed_wf;
        contacts_wf = G.contacts_wf;
        joints_wf = G.joints_wf;
        spare_wf = G.spare_wf;
        scan_wf = G.scan_wf;
        slot = G.slot;
        island = λ k l. either k i (λ e. subst (IslandAt Z T') (sym e) (inl live-is)) (λ d. same-rule (other k d) (G.island k l));
        seen = G.seen;
        edge = G.edge;
        joint = G.joint;
        distinct = G.distinct;
        head = G.head;
      }

  pub row-world : (v : Island) → island_in Z T' i ≡ v → decode Z X T' ≡ islands_set (decode Z X T) (set (decode Z X T).islands i v)
  row-world v e =
      world_is refl (tabulate-set X.islands i (island_in Z T') (island_in Z T) v e (λ k l d. same-island (other k d) refl refl)) refl refl refl refl refl refl refl refl refl

  pub row_kept : SameBehind Z X T T'
  row_kept = kept-rows (λ j h. row_o j (inr (omega arith)))

-- the step: the island i becomes v of what it was
pub row-steps : {Z : Sizes} {t t' : List ℕ} (i : ℕ) (R : List ℕ) (v : Island → Island) → Sound Z t → i < (extents (tables Z t)).islands → (members_in Z (tables Z t)).count i ≢ 0
    → ((j : ℕ) → Aside i j → get_or R j 0 ≡ get_or (tables Z t).rows j 0) → get_or R (3 * i + 2) 0 ≤ 1 → island_in Z (rows_put (tables Z t) R) i ≡ v (island_in Z (tables Z t) i)
    → Put (rows_at Z) (rows_span Z) t t' R → Steps Z (λ w. done (island_set w i (v (island_at w i)))) t t'
unfolding island_set
row-steps {Z} {t} {t'} i R v S il some ro z e P =
    let T = tables Z t in
    let X = extents T in
    let G = S.good in
    steps-at t' (λ w. islands_set w (set w.islands i (v (island_at w i)))) X (rows_put T R) (put-rows Z t t' R S.long P) refl (P.same_length ∙ S.long)
    (row-good Z X T G i il some R ro z)
    (row-world Z X T G i il some R ro z (v (island_at (decode Z X T) i)) (e ∙ ap v (sym (island-at Z X T i il))))
    (row_kept Z X T G i il some R ro z)
    (larger-refl X)
