-- At each of the first `i` ids the table has its place, and it is as long as it was made.
use Rattle.std.proofs.Common.{◌≡◌, ◌<◌, ℕ, length, get_or}
use Rattle.kc_text.proofs.finder.table.Given as goal

abbrev pub invariant-loop-i : goal.invariant-loop-i
invariant-loop-i l = record {
  as_many : length l.table.items ≡ l.len;
  each : (k : ℕ) → k < l.i → get_or l.table.items (get_or l.ids k 0) 0 ≡ k;
}
