-- Each of the first `turn` shifts puts its vertex after one of the level that doesn't rise and is moved by no shift from that one on.
use Rattle.std.proofs.Common.{ℕ, ◌<◌}
use Rattle.kc_cert.proofs.Turns.{IsPutRight}
use Rattle.kc_cert.proofs.fitting.are_put_right.Given as goal

abbrev pub invariant-loop-turn : goal.invariant-loop-turn
invariant-loop-turn g l = (k : ℕ) → k < l.turn → IsPutRight (g.S.State.state l.state) l.level l.rise l.shifts k
