-- The pairs have the lesser end first, so they are the edges of their graph as they are.
use Rattle.std.proofs.Common.{length, rules}
use Rattle.kc_graph.proofs.Bulking.{pairs-graph}
use Rattle.kc_cores.proofs.reading.graph_of.Goals as goal

pub returns-clause-graph : goal.returns-clause-graph
returns-clause-graph g c =
    let same = pairs-graph (length c.args.found.named.ids.items) c.args.found.named.edges.items c.requires.edges in
    search (rules, same)
