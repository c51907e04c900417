-- The first vertex behind a vertex.
use Rattle.kc_levels.proofs.ListOrder.{vertex-listed}
use Rattle.kc_levels.proofs.Walking.{next-found}
use Rattle.kc_levels.proofs.levels.Levels.next.Goals as goal

pub vertex_behind-requires-clause-x_in : goal.vertex_behind-requires-clause-x_in
vertex_behind-requires-clause-x_in c =
    vertex-listed c.self.inside.writer c.self.inside.core.items c.self.inside.stamps.items c.self.inside.is_open c.self.inside.number
    c.self.inside.size c.args.v c.args.self.now c.self.view_is c.self.invariant.0 c.requires

pub returns : goal.returns
returns c = next-found c.args.self.now c.self.inside.writer c.self.inside.core.items c.self.inside.stamps.items c.self.inside.is_open
    c.self.inside.number c.self.inside.size c.args.v c.vertex_behind.result c.self.view_is c.self.invariant.0 c.requires c.vertex_behind.ensures
