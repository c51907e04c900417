-- The first of the core numbers are those of the graph without spare vertices.
use Rattle.std.proofs.Common.{List, ℕ, ap, subst, take}
use Rattle.kc_graph.specs.Core.{AreCoreNumbers}
use Rattle.kc_graph.specs.Growing.{with_vertices}
use Rattle.kc_graph.specs.SimpleGraph.{SimpleGraph}
use Rattle.kc_watch.specs.Layered.{LayeredGraph}
use Rattle.kc_watch.proofs.Spare.{numbers-taken}
use Rattle.kc_watch.proofs.roomy.RoomyKeeper.core_numbers.Goals as goal

pub returns : goal.returns
returns c =
    let core : List ℕ = c.core_numbers.result.now in
    let first : AreCoreNumbers (with_vertices c.self.inside.vertices c.self.inside.keeper.graph) (take c.self.inside.vertices core) =
    numbers-taken c.self.inside.keeper.graph c.self.inside.vertices c.self.invariant.fits c.self.invariant.edges core c.core_numbers.ensures.seidman in
    record {
      seidman = subst (λ (g : SimpleGraph). AreCoreNumbers g (take c.self.inside.vertices core)) (ap (λ (k : LayeredGraph). k.graph) c.self.view_is) first;
    }
