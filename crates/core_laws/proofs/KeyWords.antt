-- The words of a joint key.
use Rattle.std.proofs.Common.{◌≡◌, refl, inl, inr}
use Rattle.def_kinds.specs.declared.JointKey.{JointKey}
use Rattle.def_kinds.specs.declared.JointKey.TheVariants.{Impulse, Chain}
use Rattle.table_meaning.specs.Decode.{key_of}
use Rattle.table_meaning.specs.Keys.{key_is, words_of}
use Rattle.core_laws.specs.Places.{KeyRule}

-- a key's words keep their rule
pub key-ruled : (k : JointKey) → KeyRule (words_of k).kind (words_of k).third
key-ruled (Impulse i g) = inl (refl, refl)
key-ruled (Chain m o) = inr refl

-- and stand for the key
pub words-key : (k : JointKey) → key_of (words_of k).kind (words_of k).first (words_of k).second (words_of k).third ≡ key_is k
words-key (Impulse i g) = refl
words-key (Chain m o) = refl
