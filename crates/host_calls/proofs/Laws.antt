-- A call from its audit: tables that are not sound are refused, and nothing changes; on sound ones it is the step.
use Rattle.std.proofs.Common.{◌≡◌, refl, ap, List, ℕ, inl, inr, Bool, Result, Ok, Err}
use Rattle.def_kinds.specs.declared.Sizes.{Sizes}
use Rattle.def_kinds.specs.declared.Refusal.{Refusal}
use Rattle.def_kinds.specs.declared.Refusal.TheVariants.{BadTables}
use Rattle.def_kinds.specs.Answers.{Answer}
use Rattle.def_state.specs.World.{World, Step}
use Rattle.def_state.specs.Split.{split_allowed}
use Rattle.table_meaning.specs.Decode.{world_of}
use Rattle.table_meaning.specs.Sound.{Sound}
use Rattle.table_meaning.specs.Does.{Does, Called, Asks}
use Rattle.core_finish.specs.Listing.{Finishes, Finish}
use Rattle.host_calls.specs.Refusal.{may_bid}

module _ (Z : Sizes) (t : List ℕ) where
  pub call_unsound : (f : World → Step) → (Sound Z t → ⊥) → Called Z f t (Err BadTables) t
  call_unsound f unsound = inr (record { unsound = unsound; nine = refl; same = refl })

  pub call_sound : (f : World → Step) {r : Answer} {t' : List ℕ} → Sound Z t → Does Z f t r t' → Called Z f t r t'
  call_sound f S D = inl (S, D)

  pub asks_unsound : {A : Type 0} (f : World → Result A Refusal) → (Sound Z t → ⊥) → Asks Z f (Err BadTables) t (Err BadTables)
  asks_unsound f unsound = inr (unsound, refl)

  pub asks_sound : {A : Type 0} (f : World → Result A Refusal) {r : Result A Refusal} → Sound Z t → r ≡ f (world_of Z t) → Asks Z f (Err BadTables) t r
  asks_sound f S q = inl (S, q)

  pub finish_unsound : (out : List ℕ) → (Sound Z t → ⊥) → Finish Z t out (Err BadTables) 0 t out
  finish_unsound out unsound = inr (record { refuses = record { unsound = unsound; nine = refl; same = refl }; length_is = refl; out_is = refl })

  pub finish_sound : (out : List ℕ) {r : Answer} {n : ℕ} {t' out' : List ℕ} → Sound Z t → Finishes Z t out r n t' out' → Finish Z t out r n t' out'
  finish_sound out S F = inl (S, F)

-- the question whether an island may bid, by its answer
pub bid_is : (i : ℕ) (w : World) {b : Bool} → b ≡ split_allowed i w → ◌≡◌ {A = Result Bool Refusal} (Ok b) (may_bid i w)
unfolding may_bid
bid_is i w e = ap (λ (x : Bool). Ok x) e
