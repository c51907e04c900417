-- What is drawn, with what is left to be drawn, is all.
use Rattle.std.proofs.Common.{◌≡◌, ◌-◌, ◌++◌}
use Rattle.kc_report.specs.declared.sizes.TheConstants.{EDGE_LINES}
use Rattle.kc_report.specs.Generator.{drawn_edges, state_after_edges}
use Rattle.kc_report.proofs.drawing.draw_edges.Given as goal

abbrev pub invariant-loop : goal.invariant-loop
invariant-loop l = record {
  edges : l.edges.items ++ drawn_edges (EDGE_LINES - l.counter) l.draws.state ≡ drawn_edges EDGE_LINES l.fn.draws.state;
  state : state_after_edges (EDGE_LINES - l.counter) l.draws.state ≡ state_after_edges EDGE_LINES l.fn.draws.state;
}
