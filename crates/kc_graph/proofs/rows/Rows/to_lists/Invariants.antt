-- The rows so far are lists.
use Rattle.std.proofs.Common.{◌≡◌, ◌≤◌, ◌-◌, take}
use Rattle.kc_graph.proofs.rows.Rows.to_lists.Given as goal

abbrev pub invariant-loop-from : goal.invariant-loop-from
invariant-loop-from l = (l.lists.items ≡ take l.from l.self) × (l.from ≤ l.count)

abbrev pub decreases-loop-from : goal.decreases-loop-from
decreases-loop-from l = l.count - l.from
