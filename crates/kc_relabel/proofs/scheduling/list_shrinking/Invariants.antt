-- The steps of the places before the next are written, with what is still to come the whole schedule.
use Rattle.std.proofs.Common.{◌≡◌, ◌≤◌, ◌++◌, length, take, drop}
use Rattle.kc_relabel.specs.Labels.{downs, schedule_of}
use Rattle.kc_relabel.proofs.scheduling.list_shrinking.Given as goal

abbrev pub invariant-loop-place : goal.invariant-loop-place
invariant-loop-place l = (l.count ≤ length l.old) × (take l.count l.out ++ downs l.place (drop l.place l.old) (drop l.place l.new) ≡ schedule_of l.old l.new)
