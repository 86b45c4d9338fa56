-- From the code to the histories: a call that is made on the tables that a history left leaves the tables of a history.
use Rattle.std.specs.Prelude.{List, ℕ}
use Rattle.def_kinds.specs.Number.{rig}
use Rattle.theorem_history.specs.History.{History}

-- t before the call, t' after it
abbrev pub Next : (t t' : List ℕ) → Type 0
Next t t' = History rig t → History rig t'
