-- The last edge of a list that has one.
use Rattle.kc_claims.proofs.Counted.{last_edge-is}
use Rattle.kc_claims.proofs.sweep.last_edge.Goals as goal

pub returns-in-Some : goal.returns-in-Some
returns-in-Some c = last_edge-is c.args.before c.args.edges.now c.in-Some.edge.now c.in-Some.ensures.value
