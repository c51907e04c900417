-- The rows name vertices alone.
use Rattle.kc_graph.proofs.Growing.{ends-view}
use Rattle.kc_graph.proofs.shared.SharedGraph.recall_ends.Goals as goal

pub returns : goal.returns
returns c = ends-view c.self.inside.rows.items c.args.self.now c.self.view_is c.self.invariant.adjacency
