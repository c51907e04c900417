-- `reached` vertices have at least `number`, and the h-index is no greater; while they are too few, the next lesser number is tried.
use Rattle.std.proofs.Common.{◌≡◌, ◌≤◌, map, get_or, leb}
use Rattle.std.specs.Prelude.{count_by}
use Rattle.kc_shard.specs.HIndex.{h_index}
use Rattle.kc_shard.proofs.counting.greatest_reached.Given as goal

abbrev pub invariant-loop-reached : goal.invariant-loop-reached
invariant-loop-reached l = (l.number ≤ l.limit) × (l.reached ≡ count_by (λ w. leb l.number (get_or l.numbers w 0)) l.vertices)
    × (h_index (map (λ w. get_or l.numbers w 0) l.vertices) ≤ l.number)

abbrev pub decreases-loop-reached : goal.decreases-loop-reached
decreases-loop-reached l = l.number
