-- The bytes that are done are all that the source gave, and no call failed.
use Rattle.std.proofs.Common.{◌≡◌, ◌+◌, ◌-◌, ◌≤◌, length, take}
use Rattle.std.specs.Io.KnownBytes.{Consumes}
use Rattle.kc_io.proofs.source.read_all.Given as goal

abbrev pub invariant-loop-done : goal.invariant-loop-done
invariant-loop-done g l = record {
  within : l.done ≤ length l.bytes.items;
  fits : length l.bytes.items ≤ l.most + 1;
  consumed : Consumes (g.S.Source.left l.fn.source) (g.S.Source.left l.source) (take l.done l.bytes.items);
  faultless : g.S.Source.faults l.source ≡ g.S.Source.faults l.fn.source;
}

abbrev pub decreases-loop-done : goal.decreases-loop-done
decreases-loop-done g l = l.most + 1 - l.done
