-- Each count up to `limit` is how many of the vertices so far have that number, where a greater one counts as `limit`.
use Rattle.std.proofs.Common.{◌≡◌, ◌≤◌, ℕ, length, get_or, min, eqb, take}
use Rattle.std.specs.Prelude.{count_by}
use Rattle.kc_shard.proofs.counting.tally.Given as goal

abbrev pub invariant-loop-w : goal.invariant-loop-w
invariant-loop-w l = (length l.counts ≡ length l.fn.counts)
    × ((k : ℕ) → k ≤ l.limit → get_or l.counts k 0 ≡ count_by (λ w. eqb (min (get_or l.numbers w 0) l.limit) k) (take l.w-index l.vertices))
