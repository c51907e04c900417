-- The updates kept so far, and behind them the last of each edge among the rest, are the last of each edge in the batch.
use Rattle.std.proofs.Common.{◌≡◌, ◌++◌, drop}
use Rattle.kc_text.specs.LastUpdates.{last_of_edges}
use Rattle.kc_text.proofs.overruling.unmarked.Given as goal

abbrev pub invariant-loop-i : goal.invariant-loop-i
invariant-loop-i l = l.left.items ++ last_of_edges (drop l.i l.updates) ≡ last_of_edges l.updates
