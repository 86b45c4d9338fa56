use native.Mathlib.Omega.{arith}
use Rattle.core_laws.proofs.Entry.{entered}
use Rattle.core_contact.proofs.push_entry.Goals as goal

pub returns : goal.returns
returns c = entered c.get-entries.result c.args.first.slot.0 c.args.first.generation c.args.second.slot.0 c.args.second.generation c.requires.0 c.get-entries.ensures.0 (omega (arith, c.get-entries.ensures.0, c.requires.1)) c.set_all.ensures c.set.ensures
