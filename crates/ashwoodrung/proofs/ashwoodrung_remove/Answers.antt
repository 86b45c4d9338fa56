use Rattle.ashwoodrung.proofs.ashwoodrung_remove.Goals as goal

pub returns : goal.returns
returns c = (_, c.number.ensures, rw (c.new-h.ensures.0, c.new-h.ensures.1) at c.remove.ensures)
