use Rattle.std.proofs.Common.{rules}
use Rattle.table_meaning.specs.Decode.{world_of}
use Rattle.core_remove.proofs.Laws.{told}
use Rattle.core_remove.proofs.island_on.Goals as goal

pub returns : goal.returns
returns c = told (world_of c.args.z c.args.t.now) c.args.h.slot.0 c.args.h.generation c.body_island.result c.map.result c.body_island.ensures c.map.ensures.cases (λ i k q. search rules)
