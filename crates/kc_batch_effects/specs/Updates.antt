-- The graph after updates that are made one by one, in their order.
use Rattle.std.specs.Prelude.{List, [], ◌∷◌, if◌then◌else◌}
use Rattle.kc_graph.specs.SimpleGraph.{SimpleGraph}
use Rattle.kc_graph.specs.Edges.{with_edge, without_edge}
use Rattle.kc_graph.specs.declared.update.Update.{Update}

-- the graph after one update: with its edge, or without it
abbrev pub after_update : SimpleGraph → Update → SimpleGraph
after_update g update = if update.add then with_edge g update.u update.v else without_edge g update.u update.v

-- after all of them in turn
abbrev pub after_updates : SimpleGraph → List Update → SimpleGraph
after_updates g [] = g
after_updates g (update ∷ rest) = after_updates (after_update g update) rest
