-- The graph's row of the vertex is the list of its neighbours, so place `i` is in it and has the same vertex.
use Rattle.std.proofs.Common.{◌≡◌, ℕ, List, length, get_or, ◌∙◌, ap, arith}
use Rattle.kc_graph.specs.SimpleGraph.{SimpleGraph}
use Rattle.kc_graph.specs.Neighbours.{neighbours_of}
use Rattle.kc_graph.proofs.NeighbourLists.{neighbours_are}
use Rattle.kc_cert.proofs.state.LawfulState.neighbour.Goals as goal

pub bounds-neighbours-i : goal.bounds-neighbours-i
bounds-neighbours-i c =
    let e : c.neighbours.result.now ≡ neighbours_of c.graph.result.now c.args.v =
    neighbours_are c.graph.result.now c.args.v c.neighbours.result.now c.neighbours.ensures in
    omega (arith, ap (length {A = ℕ}) e, ap (λ (g : SimpleGraph). length (neighbours_of g c.args.v)) c.graph.ensures.graph)

pub returns : goal.returns
returns c =
    let e : c.neighbours.result.now ≡ neighbours_of c.graph.result.now c.args.v =
    neighbours_are c.graph.result.now c.args.v c.neighbours.result.now c.neighbours.ensures in
    ap (λ (ws : List ℕ). get_or ws c.args.i 0) (e ∙ ap (λ (g : SimpleGraph). neighbours_of g c.args.v) c.graph.ensures.graph)
