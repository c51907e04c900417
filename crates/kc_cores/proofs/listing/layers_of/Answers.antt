-- The rows are those of the graph.
use Rattle.std.proofs.Common.{◌≡◌, ◌<◌, ◌∙◌, ℕ, List, subst, sym}
use Rattle.std.specs.FinSet.{from_list}
use Rattle.std.specs.Prelude.{All}
use Rattle.std.proofs.lemmas.Result.{IfOk-weaker}
use Rattle.kc_graph.specs.Core.{AreCoreNumbers}
use Rattle.kc_graph.specs.SimpleGraph.{SimpleGraph}
use Rattle.kc_tally.specs.Layers.{AreLayers}
use Rattle.kc_cores.proofs.listing.layers_of.Goals as goal

-- the graph that is made of all edges of a graph is that graph
same_graph : (g made : SimpleGraph) (n : ℕ) (listed handed : List (ℕ × ℕ)) → g ≡ record { size = g.size; edges = from_list listed } → n ≡ g.size
    → handed ≡ listed → made ≡ record { size = n; edges = from_list handed } → g ≡ made
same_graph g made n listed handed whole size same is =
    whole ∙ (λ i. record { size = sym size i; edges = from_list (sym same i) }) ∙ sym is

pub from_pairs-requires : goal.from_pairs-requires
from_pairs-requires c =
    subst (λ (n : ℕ). All (λ (p : ℕ × ℕ). (p.0 < p.1) × (p.1 < n)) c.deref.result.now) (sym c.vertices.ensures)
    (subst (λ (es : List (ℕ × ℕ)). All (λ (p : ℕ × ℕ). (p.0 < p.1) × (p.1 < c.args.graph.now.size)) es) (sym c.deref.ensures.value)
    c.in_ok-edges.ensures.within)

pub layers-requires : goal.layers-requires
layers-requires c =
    subst (λ (g : SimpleGraph). AreCoreNumbers g c.args.core.now)
    (same_graph c.args.graph.now c.in_ok-rows.rows c.vertices.result c.in_ok-edges.edges.items c.deref.result.now c.in_ok-edges.ensures.whole
    c.vertices.ensures c.deref.ensures.value c.in_ok-rows.ensures) c.requires

pub returns : goal.returns
returns c =
    let same : c.args.graph.now ≡ c.in_ok-rows.rows =
    same_graph c.args.graph.now c.in_ok-rows.rows c.vertices.result c.in_ok-edges.edges.items c.deref.result.now c.in_ok-edges.ensures.whole
    c.vertices.ensures c.deref.ensures.value c.in_ok-rows.ensures in
    IfOk-weaker c.layers.result _ _ (λ layer h. subst (λ (g : SimpleGraph). AreLayers g c.args.core.now layer.items) (sym same) h) c.layers.ensures.layers
