-- The graph has a vertex for each of its counted lists.
use Rattle.std.proofs.Common.{arith}
use Rattle.kc_graph.proofs.RowsLemmas.{size-view}
use Rattle.kc_graph.proofs.shared.SharedGraph.vertices.Goals as goal

pub returns : goal.returns
returns c = omega (arith, c.len.ensures, size-view c.self.inside.rows.items c.args.self.now c.self.view_is)
