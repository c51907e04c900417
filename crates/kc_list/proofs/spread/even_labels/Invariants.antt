-- The labels before the next are the first of those at even distances.
use Rattle.std.proofs.Common.{◌≡◌, take, ◌/◌, ◌+◌}
use Rattle.kc_list.specs.Places.{evens}
use Rattle.kc_list.proofs.spread.even_labels.Given as goal

abbrev pub invariant-loop-i : goal.invariant-loop-i
invariant-loop-i l = take l.i l.into ≡ take l.i (evens l.count (l.room / (l.count + 1)) 0)
