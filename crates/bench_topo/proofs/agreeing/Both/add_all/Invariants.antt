-- There stay as many vertices as are drawn from.
use Rattle.std.proofs.Common.{◌≡◌}
use Rattle.bench_topo.proofs.agreeing.Both.add_all.Given as goal

abbrev pub invariant-loop : goal.invariant-loop
invariant-loop l = l.self.ordered.words.shape.items ≡ l.vertices
