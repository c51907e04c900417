-- As many empty rows as were counted.
use Rattle.std.proofs.Common.{◌≡◌, replicate, []}
use Rattle.kc_graph.specs.Rows.{lists}
use Rattle.kc_topo.proofs.successors.Successors.new.Given as goal

abbrev pub invariant-loop : goal.invariant-loop
invariant-loop l = lists l.rows.items ≡ replicate l.counter []
