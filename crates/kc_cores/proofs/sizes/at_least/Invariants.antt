-- What is left are those that are no less than the level that comes next.
use Rattle.std.proofs.Common.{◌≡◌, ◌<◌, ℕ, length, nat_le, count_by}
use Rattle.kc_graph.specs.Peeling.{at}
use Rattle.kc_cores.proofs.sizes.at_least.Given as goal

abbrev pub invariant-loop-count : goal.invariant-loop-count
invariant-loop-count l = record {
  rest : l.rest ≡ count_by (nat_le l.count-index) l.numbers;
  size : length l.left.items ≡ l.count-index;
  each : (k : ℕ) → k < l.count-index → at l.left.items k ≡ count_by (nat_le k) l.numbers;
}
