-- The reader was fed just what the source gave, and no call failed. Each turn but the last takes some of the bytes that are allowed.
use Rattle.std.proofs.Common.{◌≡◌, ◌<◌, length}
use Rattle.kc_dialect_read.specs.Reading.{HasPassedOn}
use Rattle.kc_dialect_read.proofs.feed_all.Given as goal

abbrev pub invariant-loop-n : goal.invariant-loop-n
invariant-loop-n g l = record {
  fed : HasPassedOn l.fn.reader.inner.dialect (g.S.Source.left l.fn.source) (g.S.Source.left l.source) l.reader l.left;
  room : 0 < length l.room;
  faultless : g.S.Source.faults l.source ≡ g.S.Source.faults l.fn.source;
}

abbrev pub decreases-loop-n : goal.decreases-loop-n
decreases-loop-n g l = l.left
