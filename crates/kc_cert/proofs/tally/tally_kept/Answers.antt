-- What stands in the list of the neighbours of a vertex is another vertex of the graph, so it may be counted.
use Rattle.std.proofs.Common.{arith}
use Rattle.kc_graph.specs.Lawful.{Ranked}
use Rattle.kc_cert.proofs.Tallying.{neighbour-at}
use Rattle.kc_cert.proofs.tally.tally_kept.Goals as goal

pub with_kept-tally-requires-clause-differ : goal.with_kept-tally-requires-clause-differ
with_kept-tally-requires-clause-differ g c =
    let s : Ranked = g.S.State.state c.args.state.now in
    (neighbour-at s.graph c.args.z.vertex c.loop-i.i c.neighbour-y.result (omega (arith, c.loop-i-test.true, c.degree-i-end.ensures)) c.neighbour-y.ensures).1

pub with_kept-tally-requires-clause-second : goal.with_kept-tally-requires-clause-second
with_kept-tally-requires-clause-second g c =
    let s : Ranked = g.S.State.state c.args.state.now in
    (neighbour-at s.graph c.args.z.vertex c.loop-i.i c.neighbour-y.result (omega (arith, c.loop-i-test.true, c.degree-i-end.ensures)) c.neighbour-y.ensures).0
