-- Where a link goes.
use mathlib.Core.Path.{◌≡◌, refl, ◌∙◌, ap, subst}
use mathlib.Core.Logic.{◌≢◌}
use mathlib.Core.List.{List}
use Prim.Native.Nat.{ℕ, ◌<◌}
use native.Mathlib.Omega.{arith}
use lib.ListN.{length, get_or}
use borrow.Author.Tests.{eq-eqb, ne_eqb}
use Rattle.list_in_table.specs.Rules.{none}
use Rattle.list_in_table.proofs.Laws.{either, held_in}
use Rattle.def_kinds.specs.declared.Sizes.{Sizes}
use Rattle.def_state.specs.Plain.{top}
use Rattle.def_state.specs.World.{Handle}
use Rattle.def_state.specs.Split.{link_goal}
use Rattle.table_meaning.specs.Layout.{tables, members_in}
use Rattle.split_move.specs.Shift.{node_at}
use Rattle.split_move.proofs.Node.{node-cases}
use Rattle.split_walk.specs.Walk.{goes, Goals}

pub goal-first : (g : ℕ → ℕ) (a b : ℕ) → a ≢ top → g a ≡ link_goal g a b
unfolding link_goal
goal-first g a b h = rw (ne_eqb a top h)

pub goal-second : (g : ℕ → ℕ) (a b : ℕ) → a ≡ top → b ≢ top → g b ≡ link_goal g a b
unfolding link_goal
goal-second g a b e h = rw (eq-eqb a top e, ne_eqb b top h)

pub goal-neither : (g : ℕ → ℕ) (a b : ℕ) → a ≡ top → b ≡ top → top ≡ link_goal g a b
unfolding link_goal
goal-neither g a b e f = rw (eq-eqb a top e, eq-eqb b top f)

-- a place of base has a goal
pub node-lt : {Z : Sizes} {t : List ℕ} (base : ℕ) (goals : List ℕ) (h : Handle) → Goals Z base goals t → node_at Z (tables Z t) base h ≢ top → node_at Z (tables Z t) base h < length goals
node-lt {Z} {t} base goals h G =
    node-cases Z (tables Z t) base h (λ n. n ≢ top → n < length goals) (λ d. absurd (d refl))
    (λ l d e q m.
    let H = held_in G.loose.loose.members_wf.rules h.slot base l G.base_lt q in
    let a : (members_in Z (tables Z t)).place h.slot < (members_in Z (tables Z t)).count base = rw q at H.place_lt in
    let b = G.long in
    omega arith)

-- the place p of a member of base: its goal is a number in use
module _ {Z : Sizes} {t : List ℕ} (base : ℕ) (goals : List ℕ) (G : Goals Z base goals t) (p : ℕ) (h : Handle) (m : (p ≡ node_at Z (tables Z t) base h) × (p ≢ none)) where
  is_member : node_at Z (tables Z t) base h ≢ top
  is_member e = m.1 (m.0 ∙ e)

  pub member-lt : p < length goals
  member-lt = let l = node-lt base goals h G is_member in omega (arith, m.0)

  goal_some : goes goals p ≢ none
  goal_some e = let l = G.lt p member-lt in let k = G.loose.loose.members_wf.rules.m_small in omega arith

  pub first-goes : (other : Handle) → (goes goals p ≡ link_goal (goes goals) (node_at Z (tables Z t) base h) (node_at Z (tables Z t) base other)) × (goes goals p ≢ none)
  first-goes other = (ap (goes goals) m.0 ∙ goal-first (goes goals) _ _ is_member, goal_some)

  pub second-goes : (first : Handle) → node_at Z (tables Z t) base first ≡ none
      → (goes goals p ≡ link_goal (goes goals) (node_at Z (tables Z t) base first) (node_at Z (tables Z t) base h)) × (goes goals p ≢ none)
  second-goes first e = (ap (goes goals) m.0 ∙ goal-second (goes goals) _ _ e is_member, goal_some)

-- a goal is a number in use, or none
pub goal-cases : (goals : List ℕ) (a b : ℕ) (P : ℕ → Type 0) → (a ≢ top → P (get_or goals a 0)) → (b ≢ top → P (get_or goals b 0)) → P top → P (link_goal (goes goals) a b)
goal-cases goals a b P p q r =
    either a top (λ e. either b top (λ f. subst P (goal-neither (goes goals) a b e f) r) (λ f. subst P (goal-second (goes goals) a b e f) (q f)))
    (λ d. subst P (goal-first (goes goals) a b d) (p d))
