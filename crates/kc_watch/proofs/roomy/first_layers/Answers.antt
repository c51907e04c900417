-- The first of the layers are those of the graph without spare vertices.
use Rattle.std.proofs.Common.{List, ℕ, subst, ◌∙◌}
use Rattle.kc_graph.specs.SimpleGraph.{SimpleGraph}
use Rattle.kc_tally.specs.Layers.{AreLayers}
use Rattle.kc_watch.proofs.Spare.{layers-first}
use Rattle.kc_watch.proofs.roomy.first_layers.Goals as goal

pub returns : goal.returns
returns c =
    let g : SimpleGraph = c.args.keeper.now.graph in
    let core : List ℕ = c.core_numbers.result.now in
    let layer : List ℕ = c.in_ok-layer.layer.items in
    let are : AreLayers g core layer =
    subst (λ (h : SimpleGraph). AreLayers h core layer) (c.in_ok-graph.ensures ∙ c.graph.ensures) c.in_ok-layer.ensures.layers in
    c.truncate.ensures.items ∙ layers-first g c.args.vertices c.requires.fits c.requires.edges core layer c.core_numbers.ensures.seidman are
