-- The islands whose merge is to hold a link: of both bodies, or of the one that is a member, twice. Whether a key is linked.
use mathlib.Core.Path.{◌≡◌, refl, sym, ◌∙◌, ap}
use mathlib.Core.Logic.{◌≢◌}
use mathlib.Core.List.{List}
use Prim.Native.Nat.{ℕ}
use mathlib.Core.Bool.{Bool, true, false, false≢true}
use borrow.Author.Tests.{eq-eqb}
use native.Mathlib.Omega.{arith}
use lib.Dec.{leb}
use lib.ListN.{length}
use Rattle.std.specs.declared.option.Option.{Option}
use Rattle.std.specs.declared.option.Option.TheVariants.{None, Some}
use Rattle.std.specs.Option.{MatchOption, is_some}
use Rattle.list_in_table.specs.Rules.{none}
use Rattle.def_kinds.specs.declared.JointKey.{JointKey}
use Rattle.def_kinds.specs.declared.Sizes.{Sizes}
use Rattle.def_kinds.specs.Choice.{pick}
use Rattle.def_state.specs.World.{Handle, World, island_at, body_island}
use Rattle.def_state.specs.Links.{survivor, merge_islands, target, joint_home}
use Rattle.table_meaning.specs.declared.KeyWords.{KeyWords}
use Rattle.table_meaning.specs.Keys.{key_is, words_of}
use Rattle.table_meaning.specs.Layout.{tables, joints_in}
use Rattle.table_meaning.specs.Decode.{world_of}
use Rattle.table_meaning.specs.Sound.{Sound}
use Rattle.core_laws.specs.Steps.{handle}
use Rattle.core_laws.specs.Lives.{Lives}
use Rattle.core_laws.specs.Merging.{TwoLive, LinkEnds}
use Rattle.core_laws.specs.Places.{PlaceHas, NoPlaceHas}
use Rattle.core_laws.proofs.KeyWords.{key-ruled, words-key}
use Rattle.core_laws.proofs.JointKeys.{joint-home_none, joint-home}
use Rattle.core_laws.proofs.Link.{target-second, merged-second, target_first, merged-first, target-both, merged-both, survivor-same}
use Rattle.core_laws.proofs.Merge.{merge-one}
use Rattle.core_laws.proofs.Unlink.{island-lives}

-- an island merged with itself survives
survivor-one : (w : World) (i : ℕ) → survivor w i i ≡ i
survivor-one w i = sym (survivor-same w i i) ∙ rw (eq-eqb i i refl)

module _ {Z : Sizes} {t : List ℕ} (s1 g1 s2 g2 : ℕ) (S : Sound Z t) where
  abbrev w : World
  w = world_of Z t

  abbrev h1 : Handle
  h1 = handle s1 g1

  abbrev h2 : Handle
  h2 = handle s2 g2

  lives : (s g i : ℕ) → i ≡ body_island w (handle s g) → i ≢ none → Lives Z t i
  lives s g i e d = rw (sym e) at (island-lives s g S (λ x. d (e ∙ x)))

  two : {a b : ℕ} → Lives Z t a → Lives Z t b → TwoLive Z a b t
  two A B = record { sound = S; a_lt = A.in_use; b_lt = B.in_use; a_live = A.some; b_live = B.some }

  pub ends-first : (i : ℕ) → i ≡ body_island w h1 → i ≢ none → body_island w h2 ≡ none → LinkEnds Z h1 h2 t i i
  ends-first i e d n =
      let an : body_island w h1 ≢ none = λ x. d (e ∙ x) in
      let L = lives s1 g1 i e d in
      record {
        live = two L L;
        target_is = target_first w h1 h2 an n ∙ sym e ∙ sym (survivor-one w i);
        merged_is = merged-first w h1 h2 an n ∙ sym (merge-one i i w refl);
      }

  pub ends-second : (i : ℕ) → body_island w h1 ≡ none → i ≡ body_island w h2 → i ≢ none → LinkEnds Z h1 h2 t i i
  ends-second i n e d =
      let L = lives s2 g2 i e d in
      record {
        live = two L L;
        target_is = target-second w h1 h2 n ∙ sym e ∙ sym (survivor-one w i);
        merged_is = merged-second w h1 h2 n ∙ sym (merge-one i i w refl);
      }

  pub ends-both : (a b : ℕ) → a ≡ body_island w h1 → a ≢ none → b ≡ body_island w h2 → b ≢ none → LinkEnds Z h1 h2 t a b
  ends-both a b e d f c =
      let an : body_island w h1 ≢ none = λ x. d (e ∙ x) in
      let bn : body_island w h2 ≢ none = λ x. c (f ∙ x) in
      record {
        live = two (lives s1 g1 a e d) (lives s2 g2 b f c);
        target_is = target-both w h1 h2 an bn ∙ ap (λ (k : ℕ). survivor w k (body_island w h2)) (sym e) ∙ ap (λ (k : ℕ). survivor w a k) (sym f);
        merged_is = merged-both w h1 h2 an bn ∙ ap (λ (k : ℕ). merge_islands k (body_island w h2) w) (sym e) ∙ ap (λ (k : ℕ). merge_islands a k w) (sym f);
      }

-- where there are such islands, one is to hold the link
survivor-is : (P : ℕ → Type 0) (w : World) (a b : ℕ) → P a → P b → P (survivor w a b)
unfolding survivor
survivor-is P w a b p q = go (leb (length (island_at w b).bodies) (length (island_at w a).bodies))
  where
    go : (c : Bool) → P (pick c a b)
    go true = p
    go false = q

pub ends-some : {Z : Sizes} {t : List ℕ} {a b : ℕ} (h1 h2 : Handle) → LinkEnds Z h1 h2 t a b → target (world_of Z t) h1 h2 ≢ none
ends-some {Z} {t} {a} {b} h1 h2 E e =
    let m = E.live.sound.good.members_wf.rules.m_small in
    let k = E.live.a_lt in
    let l = E.live.b_lt in
    survivor-is (λ i. i ≢ none) (world_of Z t) a b (λ q. (omega arith)) (λ q. (omega arith)) (sym E.target_is ∙ e)

-- ---- what the search for the key's place says of the state
module _ {Z : Sizes} {t : List ℕ} (key : JointKey) (S : Sound Z t) where
  abbrev K : KeyWords
  K = words_of key

  pub found : (r : Option ℕ) → MatchOption r (NoPlaceHas Z (tables Z t) key) (PlaceHas Z (tables Z t) key) → is_some r ≡ true → joint_home (world_of Z t) (key_is key) ≢ none
  found None F e = absurd (false≢true e)
  found (Some p) A e =
      let f : joint_home (world_of Z t) (key_is key) ≡ (joints_in Z (tables Z t)).home p = rw (words-key key) at (joint-home K.kind K.first K.second K.third S (key-ruled key) p A) in
      λ q. A.keyed.linked (sym f ∙ q)

  pub unfound : (r : Option ℕ) → MatchOption r (NoPlaceHas Z (tables Z t) key) (PlaceHas Z (tables Z t) key) → is_some r ≡ false → NoPlaceHas Z (tables Z t) key
  unfound None F e = F
  unfound (Some p) A e = absurd (false≢true (sym e))

  pub home-none : NoPlaceHas Z (tables Z t) key → joint_home (world_of Z t) (key_is key) ≡ none
  home-none n = rw (words-key key) at (joint-home_none K.kind K.first K.second K.third S (key-ruled key) n)
