-- The list has the vertices that rise, and behind them those that the shifts so far move.
use Rattle.std.proofs.Common.{◌≡◌, ◌++◌, take}
use Rattle.kc_cert.specs.Local.{firsts}
use Rattle.kc_cert.proofs.fitting.risen_and_shifted.Given as goal

abbrev pub invariant-loop-x : goal.invariant-loop-x
invariant-loop-x l = l.moved.items ≡ l.rise ++ firsts (take l.x-index l.shifts)
