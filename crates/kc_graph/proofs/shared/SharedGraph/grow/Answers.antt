-- The rows are those of before and then empty ones.
use Rattle.std.proofs.Common.{arith}
use Rattle.kc_graph.proofs.RowsLemmas.{size-view}
use Rattle.kc_graph.proofs.Growing.{rows-grown}
use Rattle.kc_graph.proofs.shared.SharedGraph.grow.Goals as goal

pub overflow_sub-more : goal.overflow_sub-more
overflow_sub-more c = omega (arith, size-view c.self.inside.rows.items c.args.self.now c.self.view_is, c.len.ensures, c.self.inside.rows.ok)

pub invariant_of-self-2 : goal.invariant_of-self-2
invariant_of-self-2 c =
    (rows-grown c.len.result c.in_ok-append.ensures.items c.in_ok-rows.ensures (omega (arith, c.len.ensures, c.self.inside.rows.ok)) c.self.invariant
    c.self.view_is c.requires c.ranges.vertices.fits).0

pub returns-clause-grown : goal.returns-clause-grown
returns-clause-grown c =
    (rows-grown c.len.result c.in_ok-append.ensures.items c.in_ok-rows.ensures (omega (arith, c.len.ensures, c.self.inside.rows.ok)) c.self.invariant
    c.self.view_is c.requires c.ranges.vertices.fits).1
