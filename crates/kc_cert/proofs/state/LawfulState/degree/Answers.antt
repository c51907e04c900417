-- The row is distinct and below the number of vertices, so its length fits; and it is the list of the neighbours.
use Rattle.std.proofs.Common.{◌≡◌, ℕ, length, ◌∙◌, ap, arith}
use Rattle.kc_lists.proofs.Members.{below_bound}
use Rattle.kc_graph.specs.SimpleGraph.{SimpleGraph}
use Rattle.kc_graph.specs.Neighbours.{neighbours_of}
use Rattle.kc_graph.proofs.NeighbourLists.{neighbours_are}
use Rattle.kc_graph.proofs.PeelingLemmas.{neighbours-distinct}
use Rattle.kc_cert.proofs.state.LawfulState.degree.Goals as goal

pub overflow_cast-result : goal.overflow_cast-result
overflow_cast-result c =
    let few =
    below_bound c.graph-graph.result.now.size c.neighbours.result.now
    (neighbours-distinct c.graph-graph.result.now c.args.v c.neighbours.result.now c.neighbours.ensures) c.neighbours.ensures.within in
    omega arith

pub returns : goal.returns
returns c =
    let e : c.neighbours.result.now ≡ neighbours_of c.graph-graph.result.now c.args.v =
    neighbours_are c.graph-graph.result.now c.args.v c.neighbours.result.now c.neighbours.ensures in
    ap (length {A = ℕ}) (e ∙ ap (λ (g : SimpleGraph). neighbours_of g c.args.v) c.graph-graph.ensures.graph)
