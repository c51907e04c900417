-- The edges so far are added.
use Rattle.std.proofs.Common.{◌≡◌, ◌++◌, take}
use Rattle.kc_c.specs.Csr.{row_edges}
use Rattle.kc_c.proofs.rows.push_row.Given as goal

abbrev pub invariant-loop-w : goal.invariant-loop-w
invariant-loop-w l = l.edges.items ≡ l.initial.edges.items ++ row_edges l.v (take l.w-index l.entries)
