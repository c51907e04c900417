-- The first vertex behind head 0.
use Rattle.kc_levels.proofs.Walking.{first-found, first_head-in}
use Rattle.kc_levels.proofs.levels.Levels.first.Goals as goal

pub vertex_behind-requires-clause-x_in : goal.vertex_behind-requires-clause-x_in
vertex_behind-requires-clause-x_in c =
    first_head-in c.self.inside.writer c.self.inside.core.items c.self.inside.stamps.items c.self.inside.is_open c.self.inside.number
    c.self.inside.size c.self.invariant.0

pub returns : goal.returns
returns c = first-found c.args.self.now c.self.inside.writer c.self.inside.core.items c.self.inside.stamps.items c.self.inside.is_open
    c.self.inside.number c.self.inside.size c.vertex_behind.result c.self.view_is c.self.invariant.0 c.vertex_behind.ensures
