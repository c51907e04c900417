-- Two vertices stand in the list as they stand in the order.
use Rattle.kc_levels.proofs.ListOrder.{vertex-listed, before-in-order}
use Rattle.kc_levels.proofs.levels.Levels.precedes.Goals as goal

pub precedes-requires-clause-x_in : goal.precedes-requires-clause-x_in
precedes-requires-clause-x_in c =
    vertex-listed c.self.inside.writer c.self.inside.core.items c.self.inside.stamps.items c.self.inside.is_open c.self.inside.number
    c.self.inside.size c.args.x c.args.self.now c.self.view_is c.self.invariant.0 c.requires.vertices.0

pub precedes-requires-clause-y_in : goal.precedes-requires-clause-y_in
precedes-requires-clause-y_in c =
    vertex-listed c.self.inside.writer c.self.inside.core.items c.self.inside.stamps.items c.self.inside.is_open c.self.inside.number
    c.self.inside.size c.args.y c.args.self.now c.self.view_is c.self.invariant.0 c.requires.vertices.1

pub returns : goal.returns
returns c = before-in-order c.self.inside.writer c.self.inside.core.items c.self.inside.stamps.items c.self.inside.is_open c.self.inside.number
    c.self.inside.size c.args.x c.args.y c.args.self.now _ c.self.view_is c.self.invariant.0 c.requires.vertices c.requires.differ c.precedes.ensures
