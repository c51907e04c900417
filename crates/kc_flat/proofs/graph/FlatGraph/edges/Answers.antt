-- Each edge stands in two parts, so half of the block are the edges.
use Rattle.std.proofs.Common.{◌≡◌, ◌+◌, ℕ, List, length, ap, arith}
use Rattle.std.specs.FinSet as fin
use Rattle.std.specs.List.{sum_by}
use Rattle.kc_graph.specs.SimpleGraph.{SimpleGraph}
use Rattle.kc_graph.specs.Rows.{graph_of}
use Rattle.kc_graph.proofs.Handshake.{handshake}
use Rattle.kc_flat.specs.Parts.{parts_from}
use Rattle.kc_flat.proofs.Cutting.{sum-parts}
use Rattle.kc_flat.proofs.graph.FlatGraph.edges.Goals as goal

pub returns : goal.returns
returns c =
    let ends : List ℕ = c.self.inside.ends.items in
    let block : List ℕ = c.self.inside.block.items in
    let rows : List (List ℕ) = parts_from 0 ends block in
    let twice : sum_by length rows ≡ fin.len (graph_of rows).edges + fin.len (graph_of rows).edges = handshake rows c.self.invariant.adjacency in
    let same : fin.len (graph_of rows).edges ≡ fin.len c.args.self.now.edges = ap (λ (g : SimpleGraph). fin.len g.edges) c.self.view_is in
    omega (arith, c.len.ensures, c.self.inside.block.ok.0, sum-parts ends block c.self.invariant.fills, twice, same)
