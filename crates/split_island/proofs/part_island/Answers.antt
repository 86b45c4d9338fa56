use Rattle.split_island.proofs.Part.{assign-ready, goals-first, goals-second, kept-ready, parts}
use Rattle.split_island.proofs.part_island.Goals as goal

pub assign_goals-requires : goal.assign_goals-requires
assign_goals-requires c = assign-ready c.requires c.get-asleep.ensures.0

pub contacts_leave-requires : goal.contacts_leave-requires
contacts_leave-requires c = goals-first c.requires c.get-asleep.ensures.0 c.assign_goals.ensures

pub joints_leave-requires : goal.joints_leave-requires
joints_leave-requires c = goals-second c.requires c.get-asleep.ensures.0 c.assign_goals.ensures c.contacts_leave.ensures

pub bodies_leave-requires : goal.bodies_leave-requires
bodies_leave-requires c = kept-ready c.requires c.get-asleep.ensures.0 c.assign_goals.ensures c.contacts_leave.ensures c.joints_leave.ensures

pub returns : goal.returns
returns c = parts c.requires c.get-asleep.ensures.0 c.assign_goals.ensures c.contacts_leave.ensures c.joints_leave.ensures c.bodies_leave.ensures
