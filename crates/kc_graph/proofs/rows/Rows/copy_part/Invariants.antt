-- The rows so far are copied.
use Rattle.std.proofs.Common.{◌≡◌}
use Rattle.std.specs.List.{between}
use Rattle.kc_graph.proofs.rows.Rows.copy_part.Given as goal

abbrev pub invariant-loop-v : goal.invariant-loop-v
invariant-loop-v l = l.copies ≡ between l.from l.v l.self
