-- The first `i` numbers of the piece are what the round makes of their vertices, and its room for counts stays.
use Rattle.std.proofs.Common.{◌≡◌, ◌<◌, ◌+◌, ◌*◌, ℕ, length, get_or}
use Rattle.kc_hindex.specs.Rounds.{h_round}
use Rattle.kc_hindex.proofs.rounds.fill_piece.Given as goal

-- the numbers before `i` are made, and the room stays
abbrev pub invariant-loop-i : goal.invariant-loop-i
invariant-loop-i l = (length l.piece.numbers.items ≡ length l.fn.piece.numbers.items) × (l.piece.counts.len ≡ l.fn.piece.counts.len)
    × ((j : ℕ) → j < l.i → get_or l.piece.numbers.items j 0 ≡ h_round l.graph (λ w. get_or l.numbers w 0) (l.first + j * l.step))
