-- No newline stands behind the length.
use Rattle.std.proofs.Common.{◌≤◌, drop, length}
use Rattle.kc_stream.specs.Ended.{IsOpen}
use Rattle.kc_stream.proofs.ended.ended_len.Given as goal

abbrev pub invariant-loop-len : goal.invariant-loop-len
invariant-loop-len l = record { within : l.len ≤ length l.bytes; rest : IsOpen (drop l.len l.bytes) }

abbrev pub decreases-loop-len : goal.decreases-loop-len
decreases-loop-len l = l.len
