-- The numbers so far are those below the next.
use Rattle.std.proofs.Common.{◌≡◌, ◌<◌, ℕ, length, get_or}
use Rattle.kc_order_tests.proofs.plain_lists.numbers.Given as goal

abbrev pub invariant-loop-x : goal.invariant-loop-x
invariant-loop-x l = (length l.numbers.items ≡ l.x) × ((k : ℕ) → k < l.x → get_or l.numbers.items k 0 ≡ k)
