use mathlib.Core.Logic.{inr}
use mathlib.Core.Path.{◌∙◌}
use Rattle.table_meaning.specs.Decode.{bit_of}
use Rattle.core_laws.proofs.Put.{bit_le, bit-from}
use Rattle.core_laws.proofs.Slot.{stood}
use Rattle.core_body.proofs.fill.Goals as goal

pub returns : goal.returns
returns c =
    let F = c.args.flags in
    let P = rw (c.from-fixed.ensures ∙ bit-from F.fixed, c.from-enabled.ensures ∙ bit-from F.enabled, c.from-sleeping.ensures ∙ bit-from F.sleeping) at c.set_all.ensures in
    stood c.args.h.slot.0 c.args.h.generation c.args.lowest (bit_of F.fixed) (bit_of F.enabled) (bit_of F.sleeping) c.requires.0 c.requires.1
    (inr (record { generation_lt = c.requires.2; fixed_flag = bit_le F.fixed; enabled_flag = bit_le F.enabled; sleeping_flag = bit_le F.sleeping })) P
