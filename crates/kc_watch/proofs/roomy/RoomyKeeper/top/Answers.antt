-- The keeper's top is that of the graph without spare vertices, since these have the core number 0.
use Rattle.std.proofs.Common.{ap, ◌∙◌}
use Rattle.kc_watch.specs.Accounts.{top_of}
use Rattle.kc_watch.specs.Layered.{LayeredGraph}
use Rattle.kc_watch.proofs.Spare.{spare-top}
use Rattle.kc_watch.proofs.roomy.RoomyKeeper.top.Goals as goal

pub returns : goal.returns
returns c =
    c.top.ensures
    ∙ (spare-top c.self.inside.keeper.graph c.self.inside.vertices c.self.invariant.fits c.self.invariant.edges c.self.inside.keeper.core
    c.recall_certified.ensures.seidman
    ∙ ap (λ (k : LayeredGraph). top_of k.graph) c.self.view_is)
