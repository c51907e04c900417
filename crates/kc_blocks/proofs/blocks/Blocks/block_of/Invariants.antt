-- The block begins no later than the place, and the one at the end, if there is one, behind it. Each turn leaves about half of those between.
use Rattle.std.proofs.Common.{◌≤◌, ◌<◌, ◌-◌, length, slice_index}
use Rattle.kc_blocks.proofs.blocks.Blocks.block_of.Given as goal

abbrev pub invariant-loop-end : goal.invariant-loop-end
invariant-loop-end l = record {
  below : l.block < l.end;
  within : l.end ≤ length l.self.starts.items;
  begun : slice_index l.self.starts.items l.block ≤ l.place;
  next : l.end < length l.self.starts.items → l.place < slice_index l.self.starts.items l.end;
}

abbrev pub decreases-loop-end : goal.decreases-loop-end
decreases-loop-end l = l.end - l.block
