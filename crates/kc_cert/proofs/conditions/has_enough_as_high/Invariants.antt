-- Each vertex before `v` has enough.
use Rattle.std.proofs.Common.{◌≤◌, ◌<◌, ℕ, get_or}
use Rattle.kc_cert.proofs.conditions.has_enough_as_high.Given as goal
use Rattle.kc_graph.specs.Certificate.{degree_as_high}
use Rattle.kc_lists.specs.Lists.{below}

abbrev pub invariant-loop-v : goal.invariant-loop-v
invariant-loop-v l = (u : ℕ) → u < l.v → get_or l.core u 0 ≤ degree_as_high l.graph l.core (below l.graph.size) u
