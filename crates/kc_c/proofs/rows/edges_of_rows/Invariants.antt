-- The rows so far are listed.
use Rattle.std.proofs.Common.{◌≡◌}
use Rattle.kc_c.specs.Csr.{rows_edges}
use Rattle.kc_c.proofs.rows.edges_of_rows.Given as goal

abbrev pub invariant-loop-v : goal.invariant-loop-v
invariant-loop-v l = l.edges.items ≡ rows_edges l.offsets l.neighbours l.v
