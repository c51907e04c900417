-- The numbers before the next are listed, the greatest first.
use Rattle.std.proofs.Common.{◌≡◌, ◌<◌, ◌-◌, ℕ, get_or}
use Rattle.kc_list.proofs.groups.fill_free.Given as goal

abbrev pub invariant-loop-i : goal.invariant-loop-i
invariant-loop-i l = (k : ℕ) → k < l.i → get_or l.free k 0 ≡ l.count - k
