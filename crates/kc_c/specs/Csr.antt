-- A graph that is given by the neighbours of each vertex, in one list that is cut by offsets (CSR).
use Rattle.std.specs.Prelude.{◌≡◌, ◌≤◌, ◌<◌, ◌+◌, ◌==◌, ℕ, zero, suc, List, [], ◌∷◌, ◌++◌, Option, None, Some, All, length, map, nat_lt, not}
use Rattle.std.specs.Prelude.{Err, slice_index, if◌then◌else◌}
use Rattle.std.specs.List.{position}
use Rattle.std.specs.Option.{option_map}
use Rattle.kc_graph.specs.Bulk.{graph_with}
use Rattle.kc_graph.specs.SimpleGraph.{SimpleGraph}
use Rattle.kc_graph.specs.declared.bulk.Edge.{Edge}
use Rattle.kc_shard.specs.Shards.{or_fault, shard_row}
use Rattle.kc_shard.specs.declared.fault.ShardFault.{ShardFault}
use Rattle.kc_shard.specs.declared.fault.ShardFault.TheVariants.{WrongOffsetCount, FirstNotZero, Descending, WrongLastOffset, NotAVertex}
use Rattle.kc_c.specs.Answers.{answer_to}
use Rattle.kc_c.specs.declared.answer.CallResult.{CallResult}
use Rattle.kc_c.specs.declared.answer.Refusal.{Refusal}
use Rattle.kc_c.specs.declared.answer.Refusal.TheVariants.{NoMemory, WrongRows}

-- The offsets cut the entries into a row for each vertex, one after the other, and each entry is a vertex.
pub record AreRows (vertices : ℕ) (offsets neighbours : List ℕ) : Type 0 where
  pub one_more : length offsets ≡ vertices + 1
  pub first : slice_index offsets 0 ≡ 0
  pub ascending : (v : ℕ) → v < vertices → slice_index offsets v ≤ slice_index offsets (v + 1)
  pub last : slice_index offsets vertices ≡ length neighbours
  pub within : All (λ w. w < vertices) neighbours

-- the edges of a row: its vertex, and each entry beside it
abbrev pub row_edges : ℕ → List ℕ → List Edge
row_edges v entries = map (λ w. record { u = v; v = w }) entries

-- the edges of the rows of so many vertices, one row after the other
abbrev pub rows_edges : List ℕ → List ℕ → ℕ → List Edge
rows_edges offsets neighbours zero = []
rows_edges offsets neighbours (suc v) = rows_edges offsets neighbours v ++ row_edges v (shard_row offsets neighbours v)

-- the graph in which each vertex is joined with the entries of its row
abbrev pub graph_of_rows : ℕ → List ℕ → List ℕ → SimpleGraph
graph_of_rows vertices offsets neighbours = graph_with vertices (rows_edges offsets neighbours vertices)

-- the first place, from `place` on, whose number is less than the one before it, which is `last` for the first of them
abbrev pub first_descent : ℕ → ℕ → List ℕ → Option ℕ
first_descent place last [] = None
first_descent place last (x ∷ xs) = if nat_lt x last then Some place else first_descent (place + 1) x xs

-- the first fault of the offsets, or else of the entries, of rows for so many vertices
abbrev pub csr_fault : ℕ → List ℕ → List ℕ → Option ShardFault
csr_fault vertices offsets neighbours =
    if length offsets == vertices + 1
    then (if slice_index offsets 0 == 0
    then or_fault (option_map Descending (first_descent 0 0 offsets))
    (if slice_index offsets vertices == length neighbours
    then option_map NotAVertex (position (λ w. not (nat_lt w vertices)) neighbours)
    else Some WrongLastOffset)
    else Some FirstNotZero)
    else Some WrongOffsetCount

-- why there is no graph of rows: their fault, or want of memory where they have none
abbrev pub rows_refusal : Option ShardFault → Refusal
rows_refusal None = NoMemory
rows_refusal (Some fault) = WrongRows fault

-- how C is told why there is no graph of these rows, or no memory for what is to be made of it
abbrev pub rows_answer : ℕ → List ℕ → List ℕ → CallResult
rows_answer vertices offsets neighbours = answer_to (Err (rows_refusal (csr_fault vertices offsets neighbours)))
