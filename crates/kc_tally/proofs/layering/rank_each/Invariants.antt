-- The vertices so far have the rank, and the others what they had.
use Rattle.std.proofs.Common.{◌≡◌, ℕ, true, false, length, take}
use Rattle.kc_lists.specs.Lists.{member}
use Rattle.kc_graph.specs.Peeling.{at}
use Rattle.kc_tally.proofs.layering.rank_each.Given as goal

abbrev pub invariant-loop-v : goal.invariant-loop-v
invariant-loop-v l = record {
  one_each : length l.rank ≡ length l.fn.rank;
  ranked : (v : ℕ) → member v (take l.v-index l.vertices) ≡ true → at l.rank v ≡ l.step;
  others : (v : ℕ) → member v (take l.v-index l.vertices) ≡ false → at l.rank v ≡ at l.fn.rank v;
}
