-- The head after a store, and equal records.
use mathlib.Core.Path.{◌≡◌}
use mathlib.Core.Bool.{Bool}
use mathlib.Core.Option.{Option}
use mathlib.Core.List.{List}
use Prim.Native.Nat.{ℕ}
use Rattle.def_state.specs.World.{Body, ContactLink, JointLink, Island, Removal, Observed, World}
use Rattle.table_meaning.specs.Rule.{SlotRule, IslandRule, HeadRule}

pub body_is : {g g' l l' : ℕ} {f f' e e' z z' : Bool} → g ≡ g' → l ≡ l' → f ≡ f' → e ≡ e' → z ≡ z'
    → ◌≡◌ {A = Body} (record { generation = g; lowest = l; fixed = f; enabled = e; sleeping = z }) (record { generation = g'; lowest = l'; fixed = f'; enabled = e'; sleeping = z' })
body_is p q r s t = rw (p, q, r, s, t)

pub island-is : {b b' : List ℕ} {c c' : List ContactLink} {j j' : List JointLink} {r r' d d' : ℕ} {z z' : Bool} → b ≡ b' → c ≡ c' → j ≡ j' → r ≡ r' → d ≡ d' → z ≡ z'
    → ◌≡◌ {A = Island} (record { bodies = b; contact_links = c; joint_links = j; constraint_remove_count = r; split_denied_until = d; sleeping = z })
    (record { bodies = b'; contact_links = c'; joint_links = j'; constraint_remove_count = r'; split_denied_until = d'; sleeping = z' })
island-is p q r s t u = rw (p, q, r, s, t, u)

pub world_is : {b b' : List Body} {i i' : List Island} {f f' : List ℕ} {e e' p p' : ℕ} {q q' : List ℕ} {j j' : List Removal} {s s' : Option ℕ} {t t' : ℕ} {o o' : Bool} {l l' : List Observed}
    → b ≡ b' → i ≡ i' → f ≡ f' → e ≡ e' → p ≡ p' → q ≡ q' → j ≡ j' → s ≡ s' → t ≡ t' → o ≡ o' → l ≡ l'
    → ◌≡◌ {A = World}
    (record {
      bodies = b;
      islands = i;
      free_islands = f;
      tracked = e;
      joint_places = p;
      free_places = q;
      removal_journal = j;
      split_island = s;
      sleep_scan_stamp = t;
      scanning = o;
      sleep_scan_touched = l;
    })
    (record {
      bodies = b';
      islands = i';
      free_islands = f';
      tracked = e';
      joint_places = p';
      free_places = q';
      removal_journal = j';
      split_island = s';
      sleep_scan_stamp = t';
      scanning = o';
      sleep_scan_touched = l';
    })
world_is a b c d e f g h i j k = rw (a, b, c, d, e, f, g, h, i, j, k)

-- a rule at equal words
pub slot-rule : {g g' f f' e e' z z' h h' : ℕ} → g ≡ g' → f ≡ f' → e ≡ e' → z ≡ z' → h ≡ h' → SlotRule g' f' e' z' h' → SlotRule g f e z h
slot-rule p q r s t x = rw (p, q, r, s, t) x

pub island-rule : {b b' c c' j j' r r' d d' z z' f f' : ℕ} → b ≡ b' → c ≡ c' → j ≡ j' → r ≡ r' → d ≡ d' → z ≡ z' → f ≡ f' → IslandRule b' c' j' r' d' z' f' → IslandRule b c j r d z f
island-rule p q r s t u v x = rw (p, q, r, s, t, u, v) x

pub head-rule : {p p' n n' o o' c c' : ℕ} → p ≡ p' → n ≡ n' → o ≡ o' → c ≡ c' → HeadRule p' n' o' c' → HeadRule p n o c
head-rule p q r s x = rw (p, q, r, s) x
