-- Just `reached` of the vertices passed so far have a number of at least `limit`.
use Rattle.std.proofs.Common.{◌≡◌, get_or, map, take}
use Rattle.kc_shard.specs.HIndex.{how_many_reach}
use Rattle.kc_shard.proofs.counting.how_many.Given as goal

abbrev pub invariant-loop-w : goal.invariant-loop-w
invariant-loop-w l = l.reached ≡ how_many_reach l.limit (map (λ w. get_or l.numbers w 0) (take l.w-index l.vertices))
