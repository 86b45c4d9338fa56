-- What lies behind the extents: kept by nothing, by one change after another, and by a change of one table.
use mathlib.Core.Path.{◌≡◌, refl, sym, ◌∙◌, subst}
use mathlib.Core.List.{List}
use Prim.Native.Nat.{ℕ, ◌*◌}
use native.Mathlib.Omega.{arith}
use lib.ListN.{length}
use Rattle.def_kinds.specs.declared.Sizes.{Sizes}
use Rattle.table_meaning.specs.Layout.{Tables, tables, total, Extents, extents, head_put, slots_put, members_put, rows_put, freed_put, contacts_put, touches_put, joints_put, keys_put, spare_put, journal_put, scan_put, fit_put}
use Rattle.table_meaning.specs.Decode.{decode, world_of}
use Rattle.table_meaning.specs.Sound.{Good, Sound}
use Rattle.table_meaning.specs.Does.{RowsKept, ChainKept, SameBehind}
use Rattle.table_meaning.specs.Larger.{Larger}
use Rattle.table_meaning.proofs.Chains.{chain-refl, chain-then}

pub larger-refl : (X : Extents) → Larger X X
larger-refl X = record { slots = omega arith; islands = omega arith; edges = omega arith; joints = omega arith; journal = omega arith }

pub larger-then : {X Y W : Extents} → Larger X Y → Larger Y W → Larger X W
larger-then A B =
    let a = A.slots in
    let b = A.islands in
    let c = A.edges in
    let d = A.joints in
    let e = A.journal in
    let f = B.slots in
    let g = B.islands in
    let h = B.edges in
    let i = B.joints in
    let j = B.journal in
    record { slots = omega arith; islands = omega arith; edges = omega arith; joints = omega arith; journal = omega arith }

pub kept_refl : {Z : Sizes} {X : Extents} {T : Tables} → SameBehind Z X T T
kept_refl =
    record {
      slots = λ j h. refl;
      members = chain-refl;
      rows = λ j h. refl;
      freed = chain-refl;
      contacts = chain-refl;
      touches = λ j h. refl;
      joints = chain-refl;
      keys = λ j h. refl;
      spare = chain-refl;
      journal = λ j h. refl;
      scan = chain-refl;
      fit = λ j h. refl;
    }

pub kept_then : {Z : Sizes} {X Y : Extents} {S T U : Tables} → Larger X Y → SameBehind Z X S T → SameBehind Z Y T U → SameBehind Z Y S U
kept_then L A B =
    let a = L.slots in
    let b = L.islands in
    let c = L.edges in
    let d = L.joints in
    let e = L.journal in
    record {
      slots = λ j h. B.slots j h ∙ A.slots j (omega arith);
      members = chain-then (omega arith) (omega arith) A.members B.members;
      rows = λ j h. B.rows j h ∙ A.rows j (omega arith);
      freed = chain-then (omega arith) (omega arith) A.freed B.freed;
      contacts = chain-then (omega arith) (omega arith) A.contacts B.contacts;
      touches = λ j h. B.touches j h ∙ A.touches j (omega arith);
      joints = chain-then (omega arith) (omega arith) A.joints B.joints;
      keys = λ j h. B.keys j h ∙ A.keys j (omega arith);
      spare = chain-then (omega arith) (omega arith) A.spare B.spare;
      journal = λ j h. B.journal j h ∙ A.journal j (omega arith);
      scan = chain-then (omega arith) (omega arith) A.scan B.scan;
      fit = λ j h. B.fit j h ∙ A.fit j (omega arith);
    }

-- a change of one table
module _ {Z : Sizes} {X : Extents} {T : Tables} {x : List ℕ} where
  pub kept-head : SameBehind Z X T (head_put T x)
  kept-head =
      record {
        slots = λ j h. refl;
        members = chain-refl;
        rows = λ j h. refl;
        freed = chain-refl;
        contacts = chain-refl;
        touches = λ j h. refl;
        joints = chain-refl;
        keys = λ j h. refl;
        spare = chain-refl;
        journal = λ j h. refl;
        scan = chain-refl;
        fit = λ j h. refl;
      }

  pub kept-slots : RowsKept (5 * X.slots) T.slots x → SameBehind Z X T (slots_put T x)
  kept-slots h =
      record {
        slots = h;
        members = chain-refl;
        rows = λ j h. refl;
        freed = chain-refl;
        contacts = chain-refl;
        touches = λ j h. refl;
        joints = chain-refl;
        keys = λ j h. refl;
        spare = chain-refl;
        journal = λ j h. refl;
        scan = chain-refl;
        fit = λ j h. refl;
      }

  pub kept-members : ChainKept Z.slots X.slots X.islands T.members x → SameBehind Z X T (members_put T x)
  kept-members h =
      record {
        slots = λ j h. refl;
        members = h;
        rows = λ j h. refl;
        freed = chain-refl;
        contacts = chain-refl;
        touches = λ j h. refl;
        joints = chain-refl;
        keys = λ j h. refl;
        spare = chain-refl;
        journal = λ j h. refl;
        scan = chain-refl;
        fit = λ j h. refl;
      }

  pub kept-rows : RowsKept (3 * X.islands) T.rows x → SameBehind Z X T (rows_put T x)
  kept-rows h =
      record {
        slots = λ j h. refl;
        members = chain-refl;
        rows = h;
        freed = chain-refl;
        contacts = chain-refl;
        touches = λ j h. refl;
        joints = chain-refl;
        keys = λ j h. refl;
        spare = chain-refl;
        journal = λ j h. refl;
        scan = chain-refl;
        fit = λ j h. refl;
      }

  pub kept-freed : ChainKept Z.islands X.islands (1) T.freed x → SameBehind Z X T (freed_put T x)
  kept-freed h =
      record {
        slots = λ j h. refl;
        members = chain-refl;
        rows = λ j h. refl;
        freed = h;
        contacts = chain-refl;
        touches = λ j h. refl;
        joints = chain-refl;
        keys = λ j h. refl;
        spare = chain-refl;
        journal = λ j h. refl;
        scan = chain-refl;
        fit = λ j h. refl;
      }

  pub kept-contacts : ChainKept Z.edges X.edges X.islands T.contacts x → SameBehind Z X T (contacts_put T x)
  kept-contacts h =
      record {
        slots = λ j h. refl;
        members = chain-refl;
        rows = λ j h. refl;
        freed = chain-refl;
        contacts = h;
        touches = λ j h. refl;
        joints = chain-refl;
        keys = λ j h. refl;
        spare = chain-refl;
        journal = λ j h. refl;
        scan = chain-refl;
        fit = λ j h. refl;
      }

  pub kept-touches : RowsKept (4 * X.edges) T.touches x → SameBehind Z X T (touches_put T x)
  kept-touches h =
      record {
        slots = λ j h. refl;
        members = chain-refl;
        rows = λ j h. refl;
        freed = chain-refl;
        contacts = chain-refl;
        touches = h;
        joints = chain-refl;
        keys = λ j h. refl;
        spare = chain-refl;
        journal = λ j h. refl;
        scan = chain-refl;
        fit = λ j h. refl;
      }

  pub kept-joints : ChainKept Z.joints X.joints X.islands T.joints x → SameBehind Z X T (joints_put T x)
  kept-joints h =
      record {
        slots = λ j h. refl;
        members = chain-refl;
        rows = λ j h. refl;
        freed = chain-refl;
        contacts = chain-refl;
        touches = λ j h. refl;
        joints = h;
        keys = λ j h. refl;
        spare = chain-refl;
        journal = λ j h. refl;
        scan = chain-refl;
        fit = λ j h. refl;
      }

  pub kept-keys : RowsKept (8 * X.joints) T.keys x → SameBehind Z X T (keys_put T x)
  kept-keys h =
      record {
        slots = λ j h. refl;
        members = chain-refl;
        rows = λ j h. refl;
        freed = chain-refl;
        contacts = chain-refl;
        touches = λ j h. refl;
        joints = chain-refl;
        keys = h;
        spare = chain-refl;
        journal = λ j h. refl;
        scan = chain-refl;
        fit = λ j h. refl;
      }

  pub kept-spare : ChainKept Z.joints X.joints (1) T.spare x → SameBehind Z X T (spare_put T x)
  kept-spare h =
      record {
        slots = λ j h. refl;
        members = chain-refl;
        rows = λ j h. refl;
        freed = chain-refl;
        contacts = chain-refl;
        touches = λ j h. refl;
        joints = chain-refl;
        keys = λ j h. refl;
        spare = h;
        journal = λ j h. refl;
        scan = chain-refl;
        fit = λ j h. refl;
      }

  pub kept-journal : RowsKept (4 * X.journal) T.journal x → SameBehind Z X T (journal_put T x)
  kept-journal h =
      record {
        slots = λ j h. refl;
        members = chain-refl;
        rows = λ j h. refl;
        freed = chain-refl;
        contacts = chain-refl;
        touches = λ j h. refl;
        joints = chain-refl;
        keys = λ j h. refl;
        spare = chain-refl;
        journal = h;
        scan = chain-refl;
        fit = λ j h. refl;
      }

  pub kept-scan : ChainKept Z.islands X.islands (1) T.scan x → SameBehind Z X T (scan_put T x)
  kept-scan h =
      record {
        slots = λ j h. refl;
        members = chain-refl;
        rows = λ j h. refl;
        freed = chain-refl;
        contacts = chain-refl;
        touches = λ j h. refl;
        joints = chain-refl;
        keys = λ j h. refl;
        spare = chain-refl;
        journal = λ j h. refl;
        scan = h;
        fit = λ j h. refl;
      }

  pub kept-fit : RowsKept X.islands T.fit x → SameBehind Z X T (fit_put T x)
  kept-fit h =
      record {
        slots = λ j h. refl;
        members = chain-refl;
        rows = λ j h. refl;
        freed = chain-refl;
        contacts = chain-refl;
        touches = λ j h. refl;
        joints = chain-refl;
        keys = λ j h. refl;
        spare = chain-refl;
        journal = λ j h. refl;
        scan = chain-refl;
        fit = h;
      }

-- what lies behind is the same in both
pub kept-both : {Z : Sizes} {X : Extents} {S T U : Tables} → SameBehind Z X S T → SameBehind Z X S U → SameBehind Z X T U
kept-both A B =
    record {
      slots = λ j h. B.slots j h ∙ sym (A.slots j h);
      members = record { elems = λ j h k. B.members.elems j h k ∙ sym (A.members.elems j h k); ends = λ j h. B.members.ends j h ∙ sym (A.members.ends j h) };
      rows = λ j h. B.rows j h ∙ sym (A.rows j h);
      freed = record { elems = λ j h k. B.freed.elems j h k ∙ sym (A.freed.elems j h k); ends = λ j h. B.freed.ends j h ∙ sym (A.freed.ends j h) };
      contacts = record { elems = λ j h k. B.contacts.elems j h k ∙ sym (A.contacts.elems j h k); ends = λ j h. B.contacts.ends j h ∙ sym (A.contacts.ends j h) };
      touches = λ j h. B.touches j h ∙ sym (A.touches j h);
      joints = record { elems = λ j h k. B.joints.elems j h k ∙ sym (A.joints.elems j h k); ends = λ j h. B.joints.ends j h ∙ sym (A.joints.ends j h) };
      keys = λ j h. B.keys j h ∙ sym (A.keys j h);
      spare = record { elems = λ j h k. B.spare.elems j h k ∙ sym (A.spare.elems j h k); ends = λ j h. B.spare.ends j h ∙ sym (A.spare.ends j h) };
      journal = λ j h. B.journal j h ∙ sym (A.journal j h);
      scan = record { elems = λ j h k. B.scan.elems j h k ∙ sym (A.scan.elems j h k); ends = λ j h. B.scan.ends j h ∙ sym (A.scan.ends j h) };
      fit = λ j h. B.fit j h ∙ sym (A.fit j h);
    }

-- a buffer whose tables and extents are known
module _ (Z : Sizes) (X : Extents) (t : List ℕ) (W : Tables) (e : tables Z t ≡ W) (a : extents W ≡ X) where
  back : (P : Extents → Tables → Type 0) → P X W → P (extents (tables Z t)) (tables Z t)
  back P x = subst (λ (V1 : Tables). P (extents V1) V1) (sym e) (subst (λ (Y : Extents). P Y W) (sym a) x)

  pub sound-at : length t ≡ total Z → Good Z X W → Sound Z t
  sound-at l G = record { long = l; good = back (λ Y V1. Good Z Y V1) G }

  pub world-at : world_of Z t ≡ decode Z X W
  unfolding world_of
  world-at = back (λ Y V1. decode Z Y V1 ≡ decode Z X W) refl

  pub kept_at : (T : Tables) → SameBehind Z X T W → SameBehind Z (extents (tables Z t)) T (tables Z t)
  kept_at T k = back (λ Y V1. SameBehind Z Y T V1) k

pub extents-is : {a a' b b' c c' d d' e e' : ℕ} → a ≡ a' → b ≡ b' → c ≡ c' → d ≡ d' → e ≡ e'
    → ◌≡◌ {A = Extents} (record { slots = a; islands = b; edges = c; joints = d; journal = e }) (record { slots = a'; islands = b'; edges = c'; joints = d'; journal = e' })
extents-is p q r s t = rw (p, q, r, s, t)
