-- The pieces before `p` are made: each has a number for every vertex that is dealt out to it, and room for as many counts as asked.
use Rattle.std.proofs.Common.{◌≡◌, ◌↔◌, ◌<◌, ◌+◌, ◌*◌, ℕ, length, get_or}
use Rattle.kc_graph.specs.Rows.{row}
use Rattle.kc_hindex.specs.Pieces.{numbers_of, rooms_of}
use Rattle.kc_hindex.proofs.piece.pieces_for.Given as goal

-- the pieces before `p` are made
abbrev pub invariant-loop-p : goal.invariant-loop-p
invariant-loop-p l = (length l.made.items ≡ l.p)
    × ((q i : ℕ) → q < length l.made.items → i < length (row (numbers_of l.made.items) q) ↔ q + i * l.pieces < l.vertices)
    × ((q : ℕ) → q < length l.made.items → get_or (rooms_of l.made.items) q 0 ≡ l.room)
