-- `list_rename::rename` meets its contract. Each index is below the length by the sizes of the table; the neighbours by the rules. Assumes nothing.
use Rattle.list_rename.specs.Renamed.{renamed}
use Rattle.list_rename.proofs.rename.Goals as goal

pub returns : goal.returns
unfolding renamed
returns c = rw c.set_next.ensures at c.set_back.ensures
