use Rattle.ashwoodrung.proofs.ashwoodrung_joint_impulse.Goals as goal

pub returns : goal.returns
returns c = (_, c.number.ensures, rw (c.new-first.ensures.0, c.new-first.ensures.1, c.new-second.ensures.0, c.new-second.ensures.1) at c.joint.ensures)
