-- The rows so far have their numbers, the others have those from before, and it is known how many changed.
use Rattle.std.proofs.Common.{◌≡◌, ◌≤◌, ◌<◌, ℕ, get_or, length, map}
use Rattle.kc_shard.specs.HIndex.{h_index}
use Rattle.kc_shard.specs.Shards.{differences, shard_row}
use Rattle.kc_shard.proofs.round.fill.Given as goal

abbrev pub invariant-loop-row : goal.invariant-loop-row
invariant-loop-row l = (length l.next ≡ length l.fn.next) × (length l.counts ≡ length l.fn.counts)
    × ((i : ℕ) → i < l.row → get_or l.next i 0 ≡ h_index (map (λ w. get_or l.numbers w 0) (shard_row l.offsets l.neighbours i)))
    × ((i : ℕ) → l.row ≤ i → get_or l.next i 0 ≡ get_or l.fn.next i 0) × (l.changed ≡ differences l.fn.next l.next l.row) × (l.changed ≤ l.row)
