-- Each edge stands in two rows, so half of the entries are the edges.
use Rattle.std.proofs.Common.{◌≡◌, ◌+◌, ◌/◌, ℕ, List, length, arith}
use Rattle.std.specs.FinSet as fin
use Rattle.std.specs.List.{sum_by}
use Rattle.kc_graph.specs.Rows.{graph_of}
use Rattle.kc_graph.proofs.Handshake.{handshake}
use Rattle.kc_graph.proofs.graph.Graph.from_rows.Goals as goal

pub invariant_of-result : goal.invariant_of-result
invariant_of-result c =
    let rows : List (List ℕ) = c.args.rows in
    let twice : sum_by length rows ≡ fin.len (graph_of rows).edges + fin.len (graph_of rows).edges = handshake rows c.requires.adjacency in
    let half : c.entries-edges.result / 2 ≡ fin.len (graph_of rows).edges = omega (arith, twice, c.entries-edges.ensures) in
    record {
      adjacency = c.requires.adjacency;
      few = c.requires.few;
      counted = half;
      twice = omega (arith, half, twice);
    }
