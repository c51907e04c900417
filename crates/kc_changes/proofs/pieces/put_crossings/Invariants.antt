-- The lines of the changes so far were put.
use Rattle.std.proofs.Common.{◌≡◌, ◌++◌, take}
use Rattle.std.specs.Io.{StartsWith}
use Rattle.std.specs.List.{flat_map}
use Rattle.kc_changes.specs.Telling.{crossing_text}
use Rattle.kc_changes.proofs.pieces.put_crossings.Given as goal

abbrev pub invariant-loop-change : goal.invariant-loop-change
invariant-loop-change l = record {
  kept : StartsWith l.out.items l.fn.out.items;
  so_far : l.out.items ≡ l.fn.out.items ++ flat_map (crossing_text l.format l.level) (take l.change-index l.changes);
}
