-- The blocks up to here begin one place later from the number `first` on, and the others where they did.
use Rattle.std.proofs.Common.{◌≡◌}
use Rattle.kc_blocks.proofs.Placed.{IsLaterTo}
use Rattle.kc_blocks.proofs.blocks.Blocks.move_later.Given as goal

abbrev pub invariant-loop-later : goal.invariant-loop-later
invariant-loop-later l = record {
  blocks : l.self.blocks ≡ l.initial.self.blocks;
  starts : IsLaterTo l.first l.later l.self.starts.items l.initial.self.starts.items;
}
