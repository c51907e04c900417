-- At first all buckets so far are empty; then each of the first `v` vertices stands once in the bucket of its degree, and no other.
use Rattle.std.proofs.Common.{◌≡◌, [], length, replicate}
use Rattle.kc_graph.specs.Rows.{lists}
use Rattle.kc_graph.specs.Peeling.{Files}
use Rattle.kc_graph.proofs.peeling.by_degree.Given as goal

abbrev pub invariant-loop : goal.invariant-loop
invariant-loop l = lists l.buckets.items ≡ replicate l.counter []

abbrev pub invariant-loop-v : goal.invariant-loop-v
invariant-loop-v l = (length l.buckets.items ≡ l.levels) × Files l.degrees l.v (lists l.buckets.items)
