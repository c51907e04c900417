-- Each vertex has few neighbours left at its rank, which is what a tally by rounds wants.
use Rattle.std.proofs.Common.{length, arith}
use Rattle.kc_graph.specs.Bulk.{graph_with}
use Rattle.kc_graph.proofs.Bulking.{size-with}
use Rattle.kc_tally.proofs.Certifying.{rounds-agree}
use Rattle.kc_ranks.proofs.LastRounds.{last-rounds-few}
use Rattle.kc_ranks.proofs.last_rounds_as_ranks_agree.Goals as goal

pub returns-clause-few : goal.returns-clause-few
returns-clause-few c = λ g core rank right last. last-rounds-few g core rank right last

pub returns-clause-agree : goal.returns-clause-agree
returns-clause-agree c = λ core rank edges later supporters short once right last tally.
    let size = size-with (length core) edges in
    rounds-agree core rank edges once right
    (λ v l. last-rounds-few (graph_with (length core) edges) core rank right last v (omega (arith, l, size))) later supporters short tally
