-- The text that a stream begins with whose start is the graph of a state, and what it tells.
use Rattle.std.specs.Prelude.{◌≡◌, ◌++◌, ℕ, List, [], None, map}
use Rattle.std.specs.List.{flat_map}
use Rattle.std.specs.FinSet as set
use Rattle.kc_graph.specs.Peeling.{at}
use Rattle.kc_flat.specs.Listing.{edge_list}
use Rattle.kc_text.specs.Inputs.{start_graph}
use Rattle.kc_stream.specs.Hearing.{Heard}
use Rattle.kc_stream.specs.Ids.{ids_of}
use Rattle.kc_state.specs.Texts.{KeptParts, edges_text, pair_text}

-- the line that names an id twice: an edge between them is a loop, and so none
abbrev pub loop_line : ℕ → List ℕ
loop_line id = pair_text id id

-- a line for each id, in their order
abbrev pub loops_text : List ℕ → List ℕ
loops_text ids = flat_map loop_line ids

-- The lines that name the ids in the order of their coming, and then those of the edges. So the ids and the graph of a stream that begins so are those
-- of the state, also where an id has no edge.
abbrev pub start_text : KeptParts → List ℕ
start_text s = loops_text s.ids ++ edges_text s.ids s.ranked.graph

-- the loop at an id
abbrev pub loop_at : ℕ → ℕ × ℕ
loop_at id = (id, id)

-- the ids of the ends of an edge
abbrev pub ids_at : List ℕ → ℕ × ℕ → ℕ × ℕ
ids_at ids e = (at ids e.0, at ids e.1)

-- the edges that these lines tell: a loop at each id, and then the edges of the graph
abbrev pub start_edges : KeptParts → List (ℕ × ℕ)
start_edges s = map loop_at s.ids ++ map (ids_at s.ids) (edge_list s.ranked.graph)

-- Lines come to a stream that has just begun with the graph of a state: no line is refused, there is no batch line, the ids are those of the state, in
-- the same order, and the graph between their numbers has as many vertices as the state's, and its edges.
pub record HasBegunWith (heard : Heard) (s : KeptParts) : Type 0 where
  pub going : heard.refusal ≡ None
  pub earlier : heard.told.earlier ≡ []
  pub last : heard.told.last ≡ None
  pub ids : ids_of heard.told ≡ s.ids
  pub edges : heard.told.edges ≡ start_edges s
  pub graph : start_graph s.ids heard.told.edges ≡ record { size = s.ranked.graph.size; edges = set.from_list (edge_list s.ranked.graph) }
