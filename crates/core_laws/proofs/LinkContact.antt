-- From the steps to the call: contact link.
use mathlib.Core.Path.{◌≡◌, sym, ◌∙◌, ap}
use mathlib.Core.Logic.{◌≢◌}
use mathlib.Core.List.{List}
use Prim.Native.Nat.{ℕ, ◌+◌, ◌<◌}
use native.Mathlib.Omega.{arith}
use Rattle.list_in_table.specs.Rules.{none}
use Rattle.def_kinds.specs.declared.Sizes.{Sizes}
use Rattle.def_kinds.specs.Answers.{Done, Nothing}
use Rattle.def_state.specs.World.{Handle, ContactLink, World, done}
use Rattle.def_state.specs.Links.{contact_home, merge_islands, target, merged, track, contact_pushed, link_contact}
use Rattle.table_meaning.specs.Layout.{tables, extents, contacts_in}
use Rattle.table_meaning.specs.Decode.{world_of}
use Rattle.table_meaning.specs.Does.{Does}
use Rattle.core_laws.specs.Steps.{Steps, handle}
use Rattle.core_laws.specs.Linking.{tracking, contact_push, contact_of}
use Rattle.core_laws.specs.Merging.{MergeDone, LinkEnds}
use Rattle.core_laws.proofs.Touching.{contact-home}
use Rattle.core_laws.proofs.GrowEdge.{edges-least}
use Rattle.core_laws.proofs.Link.{survivor-same, link-old, link-loose, link-new, tracked-only, tracked-merged}

module _ {Z : Sizes} {t t1 : List ℕ} (e s1 g1 s2 g2 : ℕ) (l : e < Z.edges) (A : Steps Z (tracking (e + 1)) t t1) where
  abbrev h1 : Handle
  h1 = handle s1 g1

  abbrev h2 : Handle
  h2 = handle s2 g2

  abbrev w : World
  w = world_of Z t

  abbrev v : World
  v = track (e + 1) w

  abbrev L : ContactLink
  L = contact_of e s1 g1 s2 g2

  now-is : world_of Z t1 ≡ v
  unfolding tracking
  now-is = A.does.after

  -- the edge is tracked now
  pub edge_lt : e < (extents (tables Z t1)).edges
  edge_lt = let q = edges-least (e + 1) A in omega arith

  home_is : contact_home v e ≡ (contacts_in Z (tables Z t1)).home e
  home_is = ap (λ (x : World). contact_home x e) (sym now-is) ∙ contact-home A.does.sound e edge_lt

  pub contact-old : (contacts_in Z (tables Z t1)).home e ≢ none → Does Z (link_contact Z e h1 h2) t Nothing t1
  contact-old d = tracked-only e (link_contact Z e h1 h2) A (link-old Z e h1 h2 w l (λ q. d (sym home_is ∙ q)))

  module _ (n : (contacts_in Z (tables Z t1)).home e ≡ none) where
    pub contact-loose : target (world_of Z t1) h1 h2 ≡ none → Does Z (link_contact Z e h1 h2) t Nothing t1
    contact-loose g =
        tracked-only e (link_contact Z e h1 h2) A (link-loose Z e h1 h2 w l (home_is ∙ n) (ap (λ (x : World). target x h1 h2) (sym now-is) ∙ g))

    pub contact-linked : {t2 t3 : List ℕ} (a b i : ℕ) → LinkEnds Z h1 h2 t1 a b → MergeDone Z a b t1 i t2 → i ≢ none → Steps Z (contact_push i L) t2 t3 → Does Z (link_contact Z e h1 h2) t Done t3
    contact-linked a b i E M d B =
        let g : target v h1 h2 ≡ i = ap (λ (x : World). target x h1 h2) (sym now-is) ∙ E.target_is ∙ sym (survivor-same (world_of Z t1) a b) ∙ sym M.survivor in
        let m : merged h1 h2 v ≡ merge_islands a b v = ap (merged h1 h2) (sym now-is) ∙ E.merged_is ∙ ap (merge_islands a b) now-is in
        tracked-merged e (link_contact Z e h1 h2) A a b i L
        (link-new Z e h1 h2 w l (home_is ∙ n) (λ x. d (sym g ∙ x))
        ∙ ap (λ (k : ℕ). done (contact_pushed k L (merged h1 h2 v))) g
        ∙ ap (λ (x : World). done (contact_pushed i L x)) m)
        M.steps
        B
