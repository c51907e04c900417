-- The text of a kept state.
use Rattle.std.specs.Prelude.{◌+◌, ◌*◌, ◌%◌, ◌^◌, ◌++◌, ℕ, List, [], ◌∷◌, codes, decimal, fold, nat_lt, if◌then◌else◌}
use Rattle.std.specs.List.{flat_map}
use Rattle.std.specs.FinSet as set
use Rattle.kc_lists.specs.Lists.{place_of}
use Rattle.kc_graph.specs.Lawful.{Ranked}
use Rattle.kc_graph.specs.Neighbours.{neighbours_of}
use Rattle.kc_graph.specs.Peeling.{at}
use Rattle.kc_graph.specs.SimpleGraph.{SimpleGraph}
use Rattle.kc_flat.specs.Listing.{ascending_below}
use Rattle.kc_state.specs.declared.TheConstants.{FORMAT_VERSION}
use Rattle.kc_state.specs.declared.summed_page.TheConstants.{SUM_FACTOR}

-- What is kept of a stream: how many batches have ended, the id of each vertex, and the graph with its core numbers and its order.
pub record KeptParts : Type 0 where
  pub batches : ℕ
  pub ids : List ℕ
  pub ranked : Ranked

-- a number, and the byte behind it
abbrev pub ended_by : ℕ → ℕ → List ℕ
ended_by byte number = decimal number ++ byte ∷ []

-- a line of a word and a number; the word has its blank
abbrev pub named_line : List ℕ → ℕ → List ℕ
named_line word number = word ++ ended_by 10 number

-- two numbers, with a blank between them and the end of a line behind
abbrev pub pair_text : ℕ → ℕ → List ℕ
pair_text first second = ended_by 32 first ++ ended_by 10 second

-- the line of a vertex: its id, its core number and its place in the order
abbrev pub vertex_text : List ℕ → Ranked → ℕ → List ℕ
vertex_text ids s v = ended_by 32 (at ids v) ++ pair_text (at s.core v) (place_of v s.order)

-- the line of the edge between two vertices, their ids, where the second is the greater one
abbrev pub greater_line : List ℕ → ℕ → ℕ → List ℕ
greater_line ids v w = if nat_lt v w then pair_text (at ids v) (at ids w) else []

-- the lines of the edges between a vertex and those of these that are greater
abbrev pub lines_to_greater : List ℕ → ℕ → List ℕ → List ℕ
lines_to_greater ids v ws = flat_map (greater_line ids v) ws

-- how many vertices and edges there are
abbrev pub sizes_text : SimpleGraph → List ℕ
sizes_text g = named_line (codes "vertices ") g.size ++ named_line (codes "edges ") (set.len g.edges)

-- how many batches have ended, and how many vertices and edges there are
abbrev pub counts_text : ℕ → SimpleGraph → List ℕ
counts_text batches g = named_line (codes "batches ") batches ++ sizes_text g

-- the first lines: the version of the format, and the counts
abbrev pub head_text : ℕ → SimpleGraph → List ℕ
head_text batches g = named_line (codes "kcore-state ") FORMAT_VERSION ++ counts_text batches g

-- a line for each vertex
abbrev pub vertices_text : List ℕ → Ranked → List ℕ
vertices_text ids s = flat_map (vertex_text ids s) (ascending_below s.graph.size)

-- a line for each edge, with its lesser vertex first: ascending by this one, and then by the other
abbrev pub edges_text : List ℕ → SimpleGraph → List ℕ
edges_text ids g = flat_map (λ v. lines_to_greater ids v (neighbours_of g v)) (ascending_below g.size)

-- the lines of the vertices and then of the edges
abbrev pub rows_text : List ℕ → Ranked → List ℕ
rows_text ids s = vertices_text ids s ++ edges_text ids s.graph

-- all lines but the last
unfoldable pub body_text : KeptParts → List ℕ
body_text s = head_text s.batches s.ranked.graph ++ rows_text s.ids s.ranked

-- the check sum with one byte more: the last 64 bits of a multiple of it, and the byte
abbrev pub with_byte : ℕ → ℕ → ℕ
with_byte sum byte = (sum * SUM_FACTOR + byte) % 2 ^ 64

-- the check sum of a text, from what stands before it
abbrev pub sum_from : ℕ → List ℕ → ℕ
sum_from sum text = fold with_byte sum text

-- the text of a kept state: its lines, and a last one with their check sum
unfoldable pub state_text : KeptParts → List ℕ
state_text s = body_text s ++ named_line (codes "sum ") (sum_from 0 (body_text s))
