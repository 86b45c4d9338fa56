use Rattle.ashwoodrung.proofs.ashwoodrung_island.Goals as goal

pub returns : goal.returns
returns c = (_, c.tell_island.ensures, rw (c.new-h.ensures.0, c.new-h.ensures.1) at c.island.ensures)
