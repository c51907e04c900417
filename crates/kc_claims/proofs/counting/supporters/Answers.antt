-- Those that have the number or more are counted in the list of the neighbours, which are vertices.
use Rattle.std.proofs.Common.{◌∙◌, arith, leb}
use Rattle.kc_graph.specs.Peeling.{at}
use Rattle.kc_graph.proofs.NeighbourLists.{row_within}
use Rattle.kc_tally.proofs.TakingLayers.{neighbours-counted}
use Rattle.kc_claims.proofs.counting.supporters.Goals as goal

pub at_least-requires : goal.at_least-requires
at_least-requires c = λ k d l.
    omega (arith, row_within c.args.graph.now c.args.v c.neighbours.result.now c.neighbours.ensures k d l, c.requires.numbered)

pub returns : goal.returns
returns c =
    c.at_least.ensures
    ∙ neighbours-counted c.args.graph.now c.args.v c.neighbours.result.now (λ w. leb (at c.args.core.now c.args.v) (at c.args.core.now w)) c.neighbours.ensures
