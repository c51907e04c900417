-- The watcher was fed some bytes.
use Rattle.std.proofs.Common.{ℕ, List, length}
use Rattle.kc_watch.specs.Watching.{WasFed}
use Rattle.kc_watch_tests.proofs.streams.feed_all.Given as goal

abbrev pub invariant-loop-rest : goal.invariant-loop-rest
invariant-loop-rest l = (fed : List ℕ) × WasFed l.watcher fed

abbrev pub decreases-loop-rest : goal.decreases-loop-rest
decreases-loop-rest l = length l.rest
