-- There are as many rows as turns that are over, and each of them is empty.
use Rattle.std.proofs.Common.{◌≡◌, [], replicate}
use Rattle.kc_graph.specs.Rows.{lists}
use Rattle.kc_hindex.proofs.ordering.rows_of.Given as goal

abbrev pub invariant-loop : goal.invariant-loop
invariant-loop l = lists l.rows.items ≡ replicate l.counter []
