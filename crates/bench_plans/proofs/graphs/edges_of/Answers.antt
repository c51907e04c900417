-- Where each pair was found to be one of vertices, all are.
use Rattle.std.proofs.Common.{rules, tests}
use Rattle.bench_plans.proofs.graphs.edges_of.Goals as goal

pub invariant_of-result : goal.invariant_of-result
invariant_of-result c = record { within = search (rules, tests) }
