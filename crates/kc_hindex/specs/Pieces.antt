-- What is kept for the vertices from round to round.
use Rattle.std.specs.Prelude.{◌≡◌, ◌≤◌, ◌<◌, ◌+◌, ◌*◌, ℕ, Bool, false, List, length, map, slice_index, slice_index_or, vec_len}
use Rattle.kc_graph.specs.SimpleGraph.{SimpleGraph}
use Rattle.kc_graph.specs.Rows.{row}
use Rattle.kc_hindex.specs.declared.piece.Piece.{Piece}
use Rattle.kc_hindex.specs.Rounds.{h_round}

-- the numbers that each piece keeps
abbrev pub numbers_of : List Piece → List (List ℕ)
numbers_of pieces = map (λ p. p.numbers.items) pieces

-- how many counts each has
abbrev pub rooms_of : List Piece → List ℕ
rooms_of pieces = map (λ p. vec_len p.counts) pieces

-- `n` vertices are dealt out in turn among the pieces, which have room for so many counts each
pub record AreDealt (n counts : ℕ) (pieces : List Piece) : Type 0 where
  pub some : 0 < length pieces
  pub within : (p i : ℕ) → p < length pieces → i < length (row (numbers_of pieces) p) → p + i * length pieces < n
  pub whole : (p i : ℕ) → p < length pieces → p + i * length pieces < n → i < length (row (numbers_of pieces) p)
  pub room : (p : ℕ) → p < length pieces → slice_index (rooms_of pieces) p ≡ counts

-- the numbers at `first`, and then at each place that is a step further on, are these
abbrev pub StandFrom : ℕ → ℕ → List ℕ → List ℕ → Type 0
StandFrom first step numbers new = (i : ℕ) → i < length new → slice_index numbers (first + i * step) ≡ slice_index new i

-- the numbers of all pieces stand at their vertices
abbrev pub StandInTurn : List ℕ → List Piece → Type 0
StandInTurn numbers pieces = (p : ℕ) → p < length pieces → StandFrom p (length pieces) numbers (row (numbers_of pieces) p)

-- the numbers that a piece keeps are what a round makes of these
abbrev pub MadeFrom : SimpleGraph → List ℕ → ℕ → ℕ → List ℕ → Type 0
MadeFrom g numbers first step new = (i : ℕ) → i < length new → slice_index new i ≡ h_round g (slice_index numbers) (first + i * step)

-- the numbers that all pieces keep are what a round makes of these
abbrev pub AreMade : SimpleGraph → List ℕ → List Piece → Type 0
AreMade g numbers pieces = (p : ℕ) → p < length pieces → MadeFrom g numbers p (length pieces) (row (numbers_of pieces) p)

-- a round keeps the number of each vertex whose number is not marked
abbrev pub KeepsUncrossed : SimpleGraph → List ℕ → List Bool → Type 0
KeepsUncrossed g numbers crossed =
    (v : ℕ) → v < g.size → slice_index_or crossed (slice_index numbers v) false ≡ false → h_round g (slice_index numbers) v ≡ slice_index numbers v

-- A round may be made of the numbers: there is a mark for each, the round keeps those that are not marked, and it raises none.
pub record AreReady (g : SimpleGraph) (numbers : List ℕ) (crossed : List Bool) : Type 0 where
  pub one_each : length numbers ≡ g.size
  pub marked : (v : ℕ) → v < g.size → slice_index numbers v < length crossed
  pub keeps : KeepsUncrossed g numbers crossed
  pub falls : (v : ℕ) → v < g.size → h_round g (slice_index numbers) v ≤ slice_index numbers v
