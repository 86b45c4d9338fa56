use Rattle.ashwoodrung.proofs.ashwoodrung_observe.Goals as goal

pub returns : goal.returns
returns c = (_, c.number.ensures, rw c.is_set.ensures at c.observe.ensures)
