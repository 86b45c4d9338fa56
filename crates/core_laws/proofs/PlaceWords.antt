-- The eight words of a joint place are stored; those of the other places stay.
use mathlib.Core.Path.{◌≡◌, sym, ◌∙◌, ap}
use mathlib.Core.Logic.{◌⊎◌, inl, inr, ◌≢◌, ⊎_elim}
use mathlib.Core.List.{List, [], ◌∷◌}
use Prim.Native.Nat.{ℕ, ◌+◌, ◌*◌, ◌≤◌, ◌<◌}
use native.Mathlib.Omega.{arith}
use lib.ListN.{length, get_or}
use Rattle.list_in_table.specs.Word.{writes, miss, hit, length_writes}
use Rattle.list_in_table.proofs.Same.{below}
use Rattle.def_state.specs.World.{JointLink}
use Rattle.table_meaning.specs.Decode.{key_of, joint_at}
use Rattle.table_meaning.specs.Rule.{JointRule}
use Rattle.table_meaning.specs.Sound.{SameKey}
use Rattle.core_laws.specs.Steps.{handle}

abbrev pub four_words : (j a b c d : ℕ) → List (ℕ × ℕ)
four_words j a b c d = (j, a) ∷ (j + 1, b) ∷ (j + 2, c) ∷ (j + 3, d) ∷ []

module _ (x : List ℕ) (j a b c d : ℕ) (h : j + 3 < length x) where
  four-0 : get_or (writes x (four_words j a b c d)) j 0 ≡ a
  four-0 = hit x [] j a ((j + 1, b) ∷ (j + 2, c) ∷ (j + 3, d) ∷ []) (omega arith) (omega arith)

  four-1 : get_or (writes x (four_words j a b c d)) (j + 1) 0 ≡ b
  four-1 = hit x ((j, a) ∷ []) (j + 1) b ((j + 2, c) ∷ (j + 3, d) ∷ []) (omega arith) (omega arith)

  four-2 : get_or (writes x (four_words j a b c d)) (j + 2) 0 ≡ c
  four-2 = hit x ((j, a) ∷ (j + 1, b) ∷ []) (j + 2) c ((j + 3, d) ∷ []) (omega arith) (omega arith)

  four-3 : get_or (writes x (four_words j a b c d)) (j + 3) 0 ≡ d
  four-3 = hit x ((j, a) ∷ (j + 1, b) ∷ (j + 2, c) ∷ []) (j + 3) d [] (omega arith) (omega arith)

joint-is : {p k k' a a' b b' c c' d d' e e' f f' g g' : ℕ} → k ≡ k' → a ≡ a' → b ≡ b' → c ≡ c' → d ≡ d' → e ≡ e' → f ≡ f' → g ≡ g'
    → ◌≡◌ {A = JointLink} (record { place = p; key = key_of k a b c; body1 = handle d e; body2 = handle f g })
    (record { place = p; key = key_of k' a' b' c'; body1 = handle d' e'; body2 = handle f' g' })
joint-is k a b c d e f g = rw (k, a, b, c, d, e, f, g)

joint-rule : {h h' s s' k k' a a' b b' c c' d d' e e' f f' g g' : ℕ} → h ≡ h' → s ≡ s' → k ≡ k' → a ≡ a' → b ≡ b' → c ≡ c' → d ≡ d' → e ≡ e' → f ≡ f' → g ≡ g'
    → JointRule h' s' k' a' b' c' d' e' f' g' → JointRule h s k a b c d e f g
joint-rule h s k a b c d e f g x = rw (h, s, k, a, b, c, d, e, f, g) x

-- the rule of the place k, whose homes are h and s
abbrev pub RuleAt : (x : List ℕ) (k h s : ℕ) → Type 0
RuleAt x k h s =
    JointRule h s (get_or x (8 * k) 0) (get_or x (8 * k + 1) 0) (get_or x (8 * k + 2) 0) (get_or x (8 * k + 3) 0) (get_or x (8 * k + 4) 0) (get_or x (8 * k + 5) 0) (get_or x (8 * k + 6) 0)
    (get_or x (8 * k + 7) 0)

module _ (x : List ℕ) (p k a b c s1 g1 s2 g2 : ℕ) where
  abbrev half : List ℕ
  half = writes x (four_words (8 * p) k a b c)

  abbrev pub eight : List ℕ
  eight = writes half (four_words (8 * p + 4) s1 g1 s2 g2)

  pub outside : (j : ℕ) → (j < 8 * p) ⊎ (8 * p + 8 ≤ j) → get_or eight j 0 ≡ get_or x j 0
  outside j o =
      ⊎_elim (λ (l : j < 8 * p). miss half (four_words (8 * p + 4) s1 g1 s2 g2) j (omega arith) ∙ miss x (four_words (8 * p) k a b c) j (omega arith))
      (λ (l : 8 * p + 8 ≤ j). miss half (four_words (8 * p + 4) s1 g1 s2 g2) j (omega arith) ∙ miss x (four_words (8 * p) k a b c) j (omega arith)) o

  pub eight-long : length eight ≡ length x
  eight-long = length_writes half (four_words (8 * p + 4) s1 g1 s2 g2) ∙ length_writes x (four_words (8 * p) k a b c)

  -- another place
  module _ (q : ℕ) (d : q ≢ p) where
    apart : (j : ℕ) → 8 * q ≤ j → j < 8 * q + 8 → get_or eight j 0 ≡ get_or x j 0
    apart j l h = below q p (λ m. outside j (inl (omega arith))) (λ m. outside j (inr (omega arith)))

    pub first : get_or eight (8 * q) 0 ≡ get_or x (8 * q) 0
    first = apart (8 * q) (omega arith) (omega arith)

    pub other : (j : ℕ) → j < 8 → get_or eight (8 * q + j) 0 ≡ get_or x (8 * q + j) 0
    other j h = apart (8 * q + j) (omega arith) (omega arith)

    pub other-link : joint_at eight q ≡ joint_at x q
    other-link =
        joint-is first (other 1 (omega arith)) (other 2 (omega arith)) (other 3 (omega arith)) (other 4 (omega arith)) (apart (8 * q + 4 + 1) (omega arith) (omega arith)) (other 6 (omega arith))
        (apart (8 * q + 6 + 1) (omega arith) (omega arith))

    pub other-rule : {h h' s s' : ℕ} → h ≡ h' → s ≡ s' → RuleAt x q h' s' → RuleAt eight q h s
    other-rule h s r =
        joint-rule h s first (other 1 (omega arith)) (other 2 (omega arith)) (other 3 (omega arith)) (other 4 (omega arith)) (other 5 (omega arith)) (other 6 (omega arith))
        (other 7 (omega arith)) r

  pub other_keys : (q r : ℕ) → q ≢ p → r ≢ p → SameKey eight q r → SameKey x q r
  other_keys q r d e s =
      record {
        kind = sym (first q d) ∙ s.kind ∙ first r e;
        a = sym (other q d 1 (omega arith)) ∙ s.a ∙ other r e 1 (omega arith);
        b = sym (other q d 2 (omega arith)) ∙ s.b ∙ other r e 2 (omega arith);
        c = sym (other q d 3 (omega arith)) ∙ s.c ∙ other r e 3 (omega arith);
      }

  -- the words themselves
  module _ (h : 8 * p + 7 < length x) where
    front : (j : ℕ) → j < 8 * p + 4 → get_or eight j 0 ≡ get_or half j 0
    front j l = miss half (four_words (8 * p + 4) s1 g1 s2 g2) j (omega arith)

    back : 8 * p + 4 + 3 < length half
    back = let e = length_writes x (four_words (8 * p) k a b c) in omega arith

    pub word-0 : get_or eight (8 * p) 0 ≡ k
    word-0 = front (8 * p) (omega arith) ∙ four-0 x (8 * p) k a b c (omega arith)

    pub word-1 : get_or eight (8 * p + 1) 0 ≡ a
    word-1 = front (8 * p + 1) (omega arith) ∙ four-1 x (8 * p) k a b c (omega arith)

    pub word-2 : get_or eight (8 * p + 2) 0 ≡ b
    word-2 = front (8 * p + 2) (omega arith) ∙ four-2 x (8 * p) k a b c (omega arith)

    pub word-3 : get_or eight (8 * p + 3) 0 ≡ c
    word-3 = front (8 * p + 3) (omega arith) ∙ four-3 x (8 * p) k a b c (omega arith)

    pub word-4 : get_or eight (8 * p + 4) 0 ≡ s1
    word-4 = four-0 half (8 * p + 4) s1 g1 s2 g2 back

    at : (j j' v : ℕ) → j ≡ j' → get_or eight j' 0 ≡ v → get_or eight j 0 ≡ v
    at j j' v e q = ap (λ (y : ℕ). get_or eight y 0) e ∙ q

    pub word-5 : get_or eight (8 * p + 5) 0 ≡ g1
    word-5 = at (8 * p + 5) (8 * p + 4 + 1) g1 (omega arith) (four-1 half (8 * p + 4) s1 g1 s2 g2 back)

    pub word-6 : get_or eight (8 * p + 6) 0 ≡ s2
    word-6 = at (8 * p + 6) (8 * p + 4 + 2) s2 (omega arith) (four-2 half (8 * p + 4) s1 g1 s2 g2 back)

    pub word-7 : get_or eight (8 * p + 7) 0 ≡ g2
    word-7 = at (8 * p + 7) (8 * p + 4 + 3) g2 (omega arith) (four-3 half (8 * p + 4) s1 g1 s2 g2 back)

    pub here-link : joint_at eight p ≡ record { place = p; key = key_of k a b c; body1 = handle s1 g1; body2 = handle s2 g2 }
    here-link = joint-is word-0 word-1 word-2 word-3 word-4 (four-1 half (8 * p + 4) s1 g1 s2 g2 back) word-6 (at (8 * p + 6 + 1) (8 * p + 7) g2 (omega arith) word-7)
