-- No row so far has more entries.
use Rattle.std.proofs.Common.{◌≤◌, ◌<◌, ◌+◌, ℕ, get_or}
use Rattle.kc_shard.proofs.round.longest_row.Given as goal

abbrev pub invariant-loop-row : goal.invariant-loop-row
invariant-loop-row l = (i : ℕ) → i < l.row → get_or l.offsets (i + 1) 0 ≤ get_or l.offsets i 0 + l.most
