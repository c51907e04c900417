-- The edges of each vertex go on behind those of the vertices before it.
use Rattle.std.proofs.Common.{◌≡◌, ◌<◌, ◌++◌, ◌∙◌, ℕ, List, ap, arith, subst, sym}
use Rattle.std.specs.FinSet.{from_list}
use Rattle.std.specs.List.{flat_map}
use Rattle.std.specs.Prelude.{All}
use Rattle.kc_graph.specs.Neighbours.{edges_to_greater, neighbours_of}
use Rattle.kc_graph.specs.SimpleGraph.{SimpleGraph}
use Rattle.kc_graph.proofs.NeighbourLists.{neighbours_are}
use Rattle.kc_flat.specs.Listing.{ascending_below, edge_list}
use Rattle.kc_flat.specs.Parts.{parts_from}
use Rattle.kc_flat.proofs.Listed.{edge_list-whole, edge_list-within, flat_map-next}
use Rattle.kc_flat.proofs.graph.FlatGraph.edge_list.Goals as goal

pub loop-v-preserved : goal.loop-v-preserved
loop-v-preserved c =
    let g : SimpleGraph = c.args.self.now in
    let v : ℕ = c.loop-v.v in
    let before : List (ℕ × ℕ) = flat_map (λ u. edges_to_greater u (neighbours_of g u)) (ascending_below v) in
    c.in_ok-push_greater.ensures ∙ ap (λ t. t ++ edges_to_greater v c.neighbours.result.now) c.loop-v.invariant
    ∙ ap (λ ws. before ++ edges_to_greater v ws) (neighbours_are g v c.neighbours.result.now c.neighbours.ensures)
    ∙ sym (flat_map-next (λ u. edges_to_greater u (neighbours_of g u)) v)

pub returns-clause-within : goal.returns-clause-within
returns-clause-within c =
    let g : SimpleGraph = c.args.self.now in
    let all : c.loop-v.v ≡ g.size = omega (arith, c.vertices-v-end.ensures) in
    let listed : c.loop-v.edges.items ≡ edge_list g =
    c.loop-v.invariant ∙ ap (λ n. flat_map (λ u. edges_to_greater u (neighbours_of g u)) (ascending_below n)) all in
    subst (λ (es : List (ℕ × ℕ)). All (λ (p : ℕ × ℕ). (p.0 < p.1) × (p.1 < g.size)) es) (sym listed) (edge_list-within g)

pub returns-clause-whole : goal.returns-clause-whole
returns-clause-whole c =
    let g : SimpleGraph = c.args.self.now in
    let all : c.loop-v.v ≡ g.size = omega (arith, c.vertices-v-end.ensures) in
    let listed : c.loop-v.edges.items ≡ edge_list g =
    c.loop-v.invariant ∙ ap (λ n. flat_map (λ u. edges_to_greater u (neighbours_of g u)) (ascending_below n)) all in
    edge_list-whole (parts_from 0 c.self.inside.ends.items c.self.inside.block.items) g c.self.view_is c.self.invariant.adjacency
    ∙ (λ i. record { size = g.size; edges = from_list (sym listed i) })
