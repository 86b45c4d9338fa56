use mathlib.Core.Path.{◌∙◌}
use Rattle.core_laws.proofs.Merge.{joints-ready, members-ready, freed-ready, in-sound, absorb-done}
use Rattle.core_merge.proofs.absorb.Goals as goal

pub splice-requires-2 : goal.splice-requires-2
splice-requires-2 c = (c.splice.ensures.same_length ∙ c.requires.0.sound.long, joints-ready c.args.big c.args.small c.requires.0 c.requires.1 c.splice.ensures)

pub splice-requires-3 : goal.splice-requires-3
splice-requires-3 c = (c.splice-2.ensures.same_length ∙ c.splice.ensures.same_length ∙ c.requires.0.sound.long, members-ready c.args.big c.args.small c.requires.0 c.requires.1 c.splice.ensures c.splice-2.ensures)

pub push-requires : goal.push-requires
push-requires c = (c.mix_rows.ensures.same_length ∙ c.splice-3.ensures.same_length ∙ c.splice-2.ensures.same_length ∙ c.splice.ensures.same_length ∙ c.requires.0.sound.long, freed-ready c.args.big c.args.small c.requires.0 c.requires.1 c.splice.ensures c.splice-2.ensures c.splice-3.ensures c.mix_rows.ensures)

pub clear_pending_split_of-requires : goal.clear_pending_split_of-requires
clear_pending_split_of-requires c = in-sound c.args.big c.args.small c.requires.0 c.requires.1 c.splice.ensures c.splice-2.ensures c.splice-3.ensures c.mix_rows.ensures c.push.ensures

pub returns : goal.returns
returns c = absorb-done c.args.big c.args.small c.requires.0 c.requires.1 c.splice.ensures c.splice-2.ensures c.splice-3.ensures c.mix_rows.ensures c.push.ensures c.clear_pending_split_of.ensures
