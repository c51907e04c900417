-- Just what the source gave was handed on or is carried. Each turn but the last takes some of the bytes that are allowed.
use Rattle.std.proofs.Common.{◌≡◌, ◌<◌, ◌+◌, ℕ, List, length}
use Rattle.std.specs.Io.KnownBytes.{Consumes}
use Rattle.kc_claims.specs.Feeding.{HasFed}
use Rattle.kc_claims.proofs.feeding.feed_pieces.Given as goal

abbrev pub invariant-loop-n : goal.invariant-loop-n
invariant-loop-n g l = record {
  fed : (text : List ℕ) × Consumes (g.S.Source.left l.fn.source) (g.S.Source.left l.source) text
      × HasFed g.T.TakesLines.taken l.fn.taker l.taker l.carry.items text × (l.left + length text ≡ l.fn.most);
  room : 0 < length l.room;
  faultless : g.S.Source.faults l.source ≡ g.S.Source.faults l.fn.source;
}

abbrev pub decreases-loop-n : goal.decreases-loop-n
decreases-loop-n g l = l.left
