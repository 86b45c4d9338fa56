use Rattle.ashwoodrung.proofs.ashwoodrung_flags.Goals as goal

pub returns : goal.returns
returns c = (_, c.number.ensures, rw (c.new-h.ensures.0, c.new-h.ensures.1, c.flags_of.ensures.0, c.flags_of.ensures.1, c.flags_of.ensures.2) at c.flags.ensures)
