-- Just the vertices so far are marked, and each has at most as many later neighbours as its core number.
use Rattle.std.proofs.Common.{◌≤◌, ◌<◌, ◌+◌, ℕ, get_or, drop}
use Rattle.kc_graph.specs.SimpleGraph.{degree_among}
use Rattle.kc_cert.proofs.Enumerating.{MarkedTo}
use Rattle.kc_cert.proofs.conditions.has_few_later.Given as goal

abbrev pub invariant-loop-v : goal.invariant-loop-v
invariant-loop-v l = MarkedTo l.graph.size l.v-index l.order l.passed.items
    × ((k : ℕ) → k < l.v-index → degree_among l.graph (drop (k + 1) l.order) (get_or l.order k 0) ≤ get_or l.core (get_or l.order k 0) 0)
