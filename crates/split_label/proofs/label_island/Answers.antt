use native.Mathlib.Omega.{arith}
use Rattle.split_label.proofs.Island.{few-bodies, joins-fit, labelled}
use Rattle.split_label.proofs.label_island.Goals as goal

pub clear-requires : goal.clear-requires
clear-requires c = few-bodies c.requires

pub overflow_sub-components : goal.overflow_sub-components
overflow_sub-components c = let j = joins-fit c.requires c.clear.ensures c.clear.auto.parent c.join_links-joint_joins.ensures c.join_links-joint_joins.auto.parent c.join_links-contact_joins.ensures c.join_links-contact_joins.auto.parent in omega arith

pub overflow_sub-components-2 : goal.overflow_sub-components-2
overflow_sub-components-2 c = let j = joins-fit c.requires c.clear.ensures c.clear.auto.parent c.join_links-joint_joins.ensures c.join_links-joint_joins.auto.parent c.join_links-contact_joins.ensures c.join_links-contact_joins.auto.parent in omega arith

pub returns : goal.returns
returns c = labelled c.requires c.clear.ensures c.clear.auto.parent c.join_links-joint_joins.ensures c.join_links-joint_joins.auto.parent c.join_links-contact_joins.ensures c.join_links-contact_joins.auto.parent c.name.ensures c.keep-keep.ensures
