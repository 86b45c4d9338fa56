-- How far a new chain has come, as the code carries it: the absent handle where no body was linked yet.
use Rattle.std.specs.Prelude.{Bool, not, ℕ, eqb}
use Rattle.list_in_table.specs.Rules.{none}

-- a handle of this generation can name a body: that of the absent handle cannot
abbrev pub present : ℕ → Bool
present g = not (eqb g none)
