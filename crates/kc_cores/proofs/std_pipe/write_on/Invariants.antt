-- The calls that were interrupted appended nothing.
use Rattle.std.specs.Io.KnownBytes.{Keeps}
use Rattle.kc_cores.proofs.std_pipe.write_on.Given as goal

abbrev pub invariant-loop : goal.invariant-loop
invariant-loop g l = Keeps (g.W.Write.contents l.initial.writer) (g.W.Write.contents l.writer)
