-- `low` is not behind `high`, which is a place in the order or its end, and a turn brings the two closer.
use Rattle.std.proofs.Common.{◌≤◌, ◌-◌, length}
use Rattle.package_order.proofs.ordering.PackageOrder.place_of.Given as goal

abbrev pub invariant-loop-low : goal.invariant-loop-low
invariant-loop-low l = (l.low ≤ l.high) × (l.high ≤ length l.order)

abbrev pub decreases-loop-low : goal.decreases-loop-low
decreases-loop-low l = l.high - l.low
