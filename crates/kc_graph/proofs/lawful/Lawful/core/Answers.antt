-- Each value of the type has a certificate, and certified numbers are the core numbers.
use Rattle.std.proofs.Common.{ap, subst, sym, ◌≡◌}
use Rattle.kc_graph.specs.SimpleGraph.{SimpleGraph}
use Rattle.kc_graph.specs.Core.{AreCoreNumbers}
use Rattle.kc_graph.specs.Lawful.{Ranked}
use Rattle.kc_graph.proofs.Law.{certified-core_numbers}
use Rattle.kc_graph.proofs.lawful.Lawful.core.Goals as goal

pub returns-clause-seidman : goal.returns-clause-seidman
returns-clause-seidman c =
    let h = certified-core_numbers c.self.inside.graph c.self.inside.core.items c.self.inside.order.items c.self.invariant.0 in
    let same : c.self.inside.graph ≡ c.args.self.now.graph = ap (λ (s : Ranked). s.graph) c.self.view_is in
    subst (λ (g : SimpleGraph). AreCoreNumbers g c.deref.result.now) same (subst (AreCoreNumbers c.self.inside.graph) (sym c.deref.ensures.value) h)
