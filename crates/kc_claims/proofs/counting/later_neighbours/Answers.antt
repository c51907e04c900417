-- Those that have a greater key are counted in the list of the neighbours, which are vertices.
use Rattle.std.proofs.Common.{◌∙◌, arith}
use Rattle.kc_graph.proofs.NeighbourLists.{row_within}
use Rattle.kc_tally.proofs.TakingLayers.{neighbours-counted}
use Rattle.kc_tally.specs.Keys.{has_lesser_key}
use Rattle.kc_claims.proofs.counting.later_neighbours.Goals as goal

pub later_among-requires-clause-others : goal.later_among-requires-clause-others
later_among-requires-clause-others c = λ k d l.
    omega (arith, row_within c.args.graph.now c.args.v c.neighbours.result.now c.neighbours.ensures k d l, c.requires.numbered)

pub returns : goal.returns
returns c =
    c.later_among.ensures
    ∙ neighbours-counted c.args.graph.now c.args.v c.neighbours.result.now (has_lesser_key c.args.core.now c.args.rank.now c.args.v) c.neighbours.ensures
