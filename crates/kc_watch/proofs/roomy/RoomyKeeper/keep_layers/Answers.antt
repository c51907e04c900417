-- Layers that are kept are those of the graph, and so are those that are found.
use Rattle.std.proofs.Common.{◌≡◌, ◌∙◌, List, Some, ap, subst, sym}
use Rattle.std.specs.Prelude.{ℕ}
use Rattle.kc_watch.specs.Accounts.{layers_of}
use Rattle.kc_watch.specs.Layered.{LayeredGraph}
use Rattle.kc_watch.proofs.Spare.{layers-kept, room-layered}
use Rattle.kc_watch.proofs.roomy.RoomyKeeper.keep_layers.Goals as goal

pub returns-then-is_some-clause-layers : goal.returns-then-is_some-clause-layers
returns-then-is_some-clause-layers c =
    subst (λ (k : LayeredGraph). k.layers ≡ Some (layers_of k.graph)) c.self.view_is
    (layers-kept c.self.inside.keeper.graph c.self.inside.vertices c.self.inside.layers c.self.invariant (sym c.is_some.ensures ∙ c.if-is_some.true))

pub invariant_of-self : goal.invariant_of-self
invariant_of-self c =
    room-layered c.self.inside.keeper.graph c.self.inside.vertices c.in_ok-layer.layer.items c.self.invariant.fits c.self.invariant.edges c.in_ok-layer.ensures

pub returns-clause-layers : goal.returns-clause-layers
returns-clause-layers c = ap (λ (l : List ℕ). Some l) c.in_ok-layer.ensures
