-- The key of a joint link: as the host gives it, as the state has it, and as its place of the key table holds it. A multibody's 64 bits are its high and low 32.
use Rattle.std.specs.Prelude.{ℕ, ◌+◌, ◌*◌, ◌/◌, ◌%◌, List, get_or}
use Rattle.def_kinds.specs.declared.JointKey.{JointKey}
use Rattle.def_kinds.specs.declared.JointKey.TheVariants.{Impulse, Chain}
use Rattle.def_state.specs.World.{Key, impulse, chain}
use Rattle.table_meaning.specs.declared.KeyWords.{KeyWords}

abbrev pub key_is : JointKey → Key
key_is (Impulse i g) = impulse i g
key_is (Chain m o) = chain (m / 4294967296) (m % 4294967296) o

abbrev pub words_of : JointKey → KeyWords
words_of (Impulse i g) = record { kind = 0; first = i; second = g; third = 0 }
words_of (Chain m o) = record { kind = 1; first = m / 4294967296; second = m % 4294967296; third = o }

-- the words of the key at the place p
abbrev pub key_in : List ℕ → ℕ → KeyWords
key_in keys p = record { kind = get_or keys (8 * p) 0; first = get_or keys (8 * p + 1) 0; second = get_or keys (8 * p + 2) 0; third = get_or keys (8 * p + 3) 0 }
