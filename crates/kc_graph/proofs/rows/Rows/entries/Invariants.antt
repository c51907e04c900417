-- The sum so far is that of the rows so far.
use Rattle.std.proofs.Common.{◌≡◌, length, take}
use Rattle.std.specs.List.{sum_by}
use Rattle.kc_graph.proofs.rows.Rows.entries.Given as goal

abbrev pub invariant-loop-v : goal.invariant-loop-v
invariant-loop-v l = l.entries ≡ sum_by length (take l.v l.self)
