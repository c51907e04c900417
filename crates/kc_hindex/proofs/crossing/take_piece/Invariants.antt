-- The first `i` numbers of the piece stand at their vertices, a step apart; what they crossed is marked, and a change is noted.
use Rattle.kc_hindex.specs.Crossing.{Taken}
use Rattle.kc_hindex.proofs.crossing.take_piece.Given as goal

abbrev pub invariant-loop-i : goal.invariant-loop-i
invariant-loop-i l = Taken l.first l.step l.new l.i l.fn.numbers l.fn.crossed l.numbers l.crossed l.changed
