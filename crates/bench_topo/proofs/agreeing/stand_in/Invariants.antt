-- The words stay those of the table.
use Rattle.std.proofs.Common.{◌≡◌}
use Rattle.bench_topo.proofs.agreeing.stand_in.Given as goal

abbrev pub invariant-loop-x : goal.invariant-loop-x
invariant-loop-x l = l.ordered.words ≡ l.initial.ordered.words
