-- The numbers of the first `p` pieces stand at their vertices, all others are as before, and what was crossed is marked.
use Rattle.kc_hindex.specs.Crossing.{AllTaken}
use Rattle.kc_hindex.proofs.crossing.take_over.Given as goal

abbrev pub invariant-loop-p : goal.invariant-loop-p
invariant-loop-p l = AllTaken l.pieces l.p l.fn.numbers l.fn.crossed l.numbers l.crossed l.changed
