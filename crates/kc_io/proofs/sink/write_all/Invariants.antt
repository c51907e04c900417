-- The bytes that are done were taken, all of one text that was offered at once.
use Rattle.std.proofs.Common.{◌≡◌, ◌<◌, ◌≤◌, ◌-◌, length, take}
use Rattle.std.specs.Io.KnownBytes.{Appends}
use Rattle.kc_io.specs.FirstPiece.{KeepsFirst}
use Rattle.kc_io.specs.Offers.{IsOffered}
use Rattle.kc_io.proofs.sink.write_all.Given as goal

abbrev pub invariant-loop-done : goal.invariant-loop-done
invariant-loop-done g l = record {
  within : l.done ≤ length l.text;
  put : Appends (g.O.Sink.taken l.fn.sink) (g.O.Sink.taken l.sink) (take l.done l.text);
  none_yet : l.done ≡ 0 → l.sink ≡ l.fn.sink;
  first : 0 < l.done → KeepsFirst (g.O.Sink.first l.fn.sink) (g.O.Sink.first l.sink) l.text;
  offered : 0 < l.done → IsOffered (g.O.Sink.offers l.fn.sink) (g.O.Sink.offers l.sink) (length l.text) l.done;
  faultless : g.O.Sink.faults l.sink ≡ g.O.Sink.faults l.fn.sink;
}

abbrev pub decreases-loop-done : goal.decreases-loop-done
decreases-loop-done g l = length l.text - l.done
