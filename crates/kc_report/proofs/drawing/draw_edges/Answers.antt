-- One more edge of those that are left.
use Rattle.kc_report.specs.declared.sizes.TheConstants.{EDGE_LINES}
use Rattle.std.proofs.Common.{arith}
use Rattle.kc_report.proofs.Turns.{edges-end, edges-turn, edges_state-end, edges_state-turn}
use Rattle.kc_report.proofs.drawing.draw_edges.Goals as goal

pub loop-preserved : goal.loop-preserved
loop-preserved c = record {
  edges = edges-turn EDGE_LINES c.loop.counter _ _ _ _ _ _ (omega arith) c.draw_pair.ensures.pair c.draw_pair.ensures.state c.in_ok-push.ensures.items
      c.loop.invariant.edges;
  state = edges_state-turn EDGE_LINES c.loop.counter _ _ _ (omega arith) c.draw_pair.ensures.state c.loop.invariant.state;
}

pub returns-clause-edges : goal.returns-clause-edges
returns-clause-edges c = edges-end EDGE_LINES c.loop.counter _ _ _ (omega arith) c.loop.invariant.edges

pub returns-clause-state : goal.returns-clause-state
returns-clause-state c = edges_state-end EDGE_LINES c.loop.counter _ _ (omega arith) c.loop.invariant.state
