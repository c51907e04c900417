-- The numbers above `new` and below `k` are marked, one more each turn, and what was marked is marked still.
use Rattle.std.proofs.Common.{◌≡◌, ◌<◌, ℕ, false, true, length, get_or}
use Rattle.kc_hindex.proofs.crossing.cross.Given as goal

-- The numbers from the first up to `k` are marked, and what was marked is.
abbrev pub invariant-loop-k : goal.invariant-loop-k
invariant-loop-k l = (length l.crossed ≡ length l.fn.crossed)
    × ((j : ℕ) → l.new < j → j < l.k → get_or l.crossed j false ≡ true)
    × ((j : ℕ) → get_or l.fn.crossed j false ≡ true → get_or l.crossed j false ≡ true)
