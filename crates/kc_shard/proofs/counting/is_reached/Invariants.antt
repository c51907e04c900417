-- Those seen to reach the limit and those of the rest that do are all that do; each turn moves a block from the rest to the seen.
use Rattle.std.proofs.Common.{◌≡◌, ◌<◌, ◌^◌, ◌+◌, get_or, length, map}
use Rattle.std.specs.Prelude.{All}
use Rattle.kc_shard.specs.HIndex.{how_many_reach}
use Rattle.kc_shard.proofs.counting.is_reached.Given as goal

-- those that were seen to reach the limit and those that do so of the rest are all that do
abbrev pub invariant-loop-reached : goal.invariant-loop-reached
invariant-loop-reached l = (l.reached + how_many_reach l.limit (map (λ w. get_or l.numbers w 0) l.rest)
    ≡ how_many_reach l.limit (map (λ w. get_or l.numbers w 0) l.vertices))
    × (length l.rest < 2 ^ 32) × All (λ w. w < length l.numbers) l.rest

abbrev pub decreases-loop-reached : goal.decreases-loop-reached
decreases-loop-reached l = length l.rest
