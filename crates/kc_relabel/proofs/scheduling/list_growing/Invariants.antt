-- The steps of the places from `left` on are written.
use Rattle.std.proofs.Common.{◌≡◌, ◌≤◌, ◌+◌, length, take, drop}
use Rattle.kc_relabel.specs.Labels.{ups}
use Rattle.kc_relabel.proofs.scheduling.list_growing.Given as goal

abbrev pub invariant-loop-left : goal.invariant-loop-left
invariant-loop-left l = (l.count + l.left ≤ length l.old) × (take l.count l.out ≡ ups l.left (drop l.left l.old) (drop l.left l.new))

abbrev pub decreases-loop-left : goal.decreases-loop-left
decreases-loop-left l = l.left
