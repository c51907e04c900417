-- The counts of all numbers before `k` are 0, as each turn clears one more, and there are as many counts as before.
use Rattle.std.proofs.Common.{◌≡◌, ◌<◌, ℕ, length, get_or}
use Rattle.kc_shard.proofs.counting.clear.Given as goal

abbrev pub invariant-loop-k : goal.invariant-loop-k
invariant-loop-k l = (length l.counts ≡ length l.fn.counts) × ((j : ℕ) → j < l.k → get_or l.counts j 0 ≡ 0)
