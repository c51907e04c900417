-- The graph has a vertex for each of its rows.
use Rattle.std.proofs.Common.{arith}
use Rattle.kc_graph.proofs.RowsLemmas.{size-view}
use Rattle.kc_graph.proofs.graph.Graph.vertices.Goals as goal

pub returns : goal.returns
returns c = omega (arith, c.count.ensures, size-view c.self.inside.rows c.args.self.now c.self.view_is)
