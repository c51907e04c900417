-- What the list of the neighbours of a vertex gives to a round.
use Rattle.std.proofs.Common.{◌≡◌, ◌<◌, ◌≤◌, ℕ, List, [], length, map, ap, sym, ◌∙◌, arith}
use Rattle.std.specs.Prelude.{count_by}
use Rattle.kc_lists.specs.Lists.{below}
use Rattle.kc_lists.proofs.Counting.{count-all, count-le, member-below, Distinct-below}
use Rattle.kc_graph.specs.SimpleGraph.{SimpleGraph, adjacent, degree_among}
use Rattle.kc_graph.specs.Neighbours.{AreNeighbours}
use Rattle.kc_graph.proofs.NeighbourLists.{neighbours_are}
use Rattle.kc_graph.proofs.PeelingLemmas.{degree_is, remaining-lt, neighbours-distinct}
use Rattle.kc_hindex.specs.Rounds.{h_round}
use Rattle.kc_shard.specs.HIndex.{h_index}

-- a vertex has fewer neighbours in its row than there are vertices
pub row_few : (g : SimpleGraph) (v : ℕ) (ws : List ℕ) → v < g.size → AreNeighbours g v ws → length ws < g.size
row_few g v ws l near = omega (arith, degree_is g v ws near, remaining-lt g [] v l)

-- the h-index of the numbers of a row's neighbours is what a round makes of the vertex
pub row_round : (g : SimpleGraph) (c : ℕ → ℕ) (v : ℕ) (ws : List ℕ) → AreNeighbours g v ws → h_index (map c ws) ≡ h_round g c v
row_round g c v ws near = ap (λ (xs : List ℕ). h_index (map c xs)) (neighbours_are g v ws near)

-- a row has as many neighbours as the degree
pub row_degree : (g : SimpleGraph) (v : ℕ) (ws : List ℕ) → AreNeighbours g v ws → length ws ≡ degree_among g (below g.size) v
row_degree g v ws near =
    let all : count_by (adjacent g v) ws ≡ length ws = count-all (adjacent g v) ws (λ w m. sym (near.exact w) ∙ m) in
    let up : count_by (adjacent g v) ws ≤ count_by (adjacent g v) (below g.size) =
    count-le (adjacent g v) ws (below g.size) (neighbours-distinct g v ws near) (λ w m _. member-below w g.size (near.within w m)) in
    let down : count_by (adjacent g v) (below g.size) ≤ count_by (adjacent g v) ws =
    count-le (adjacent g v) (below g.size) ws (Distinct-below g.size) (λ w _ a. near.exact w ∙ a) in
    omega (arith, all, up, down)
