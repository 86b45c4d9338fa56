use Rattle.core_laws.proofs.Link.{target_none}
use Rattle.core_link.proofs.Laws.{ends-first, ends-second, ends-both}
use Rattle.core_link.proofs.link_islands.Goals as goal

pub returns-in-None-None : goal.returns-in-None-None
returns-in-None-None c =
    let a = rw c.in-None-None.is-0 at c.body_island-first_island.ensures in
    let b = rw c.in-None-None.is-1 at c.body_island-second_island.ensures in
    target_none _ _ _ a b

pub returns-in-Some-Some : goal.returns-in-Some-Some
returns-in-Some-Some c =
    let h = c.args.first in
    let k = c.args.second in
    let a = rw c.in-Some-Some.is-0 at c.body_island-first_island.ensures in
    let b = rw c.in-Some-Some.is-1 at c.body_island-second_island.ensures in
    ends-both h.slot.0 h.generation k.slot.0 k.generation c.requires _ _ a.0 a.1 b.0 b.1

pub returns-in-Some-None : goal.returns-in-Some-None
returns-in-Some-None c =
    let h = c.args.first in
    let k = c.args.second in
    let a = rw c.in-Some-None.is-0 at c.body_island-first_island.ensures in
    let b = rw c.in-Some-None.is-1 at c.body_island-second_island.ensures in
    ends-first h.slot.0 h.generation k.slot.0 k.generation c.requires _ a.0 a.1 b

pub returns-in-None-Some : goal.returns-in-None-Some
returns-in-None-Some c =
    let h = c.args.first in
    let k = c.args.second in
    let a = rw c.in-None-Some.is-0 at c.body_island-first_island.ensures in
    let b = rw c.in-None-Some.is-1 at c.body_island-second_island.ensures in
    ends-second h.slot.0 h.generation k.slot.0 k.generation c.requires _ a b.0 b.1
