-- The lines of the output, as bytes.
use Rattle.std.specs.Prelude.{ℕ, List, [], ◌∷◌, ◌++◌, codes, filter, length, map, nat_eq, nat_le, if◌then◌else◌}
use Rattle.std.specs.List.{flat_map, zip}
use Rattle.std.specs.Fmt.{decimal}
use Rattle.kc_report.specs.declared.Line.{Line}
use Rattle.kc_report.specs.declared.Line.TheVariants.{Graph, Rounds, Batch}

-- a number with the words before it
abbrev pub field : List ℕ → ℕ → List ℕ
field label number = label ++ decimal number

-- `graph vertices N edges M top T`
abbrev pub graph_line : ℕ → ℕ → ℕ → List ℕ
graph_line vertices edges top = field (codes "graph vertices ") vertices ++ field (codes " edges ") edges ++ field (codes " top ") top ++ 10 ∷ []

-- `hindex rounds R`
abbrev pub rounds_line : ℕ → List ℕ
rounds_line rounds = field (codes "hindex rounds ") rounds ++ 10 ∷ []

-- how many changes of a batch were overruled, where some were
abbrev pub overruled_field : ℕ → List ℕ
overruled_field overruled = if nat_eq overruled 0 then [] else field (codes " overruled ") overruled

-- `batch B added A removed R kept K edges M top T`, with ` overruled O` before the edges where O is at least 1
abbrev pub batch_line : ℕ → ℕ → ℕ → ℕ → ℕ → ℕ → ℕ → List ℕ
batch_line number added removed kept overruled edges top =
    field (codes "batch ") number ++ field (codes " added ") added ++ field (codes " removed ") removed ++ field (codes " kept ") kept
    ++ overruled_field overruled ++ field (codes " edges ") edges ++ field (codes " top ") top ++ 10 ∷ []

-- the bytes of a line: about the graph, about the rounds, or about a batch
abbrev pub line_text : Line → List ℕ
line_text (Graph vertices edges top) = graph_line vertices edges top
line_text (Rounds rounds) = rounds_line rounds
line_text (Batch number added removed kept overruled edges top) = batch_line number added removed kept overruled edges top

-- two numbers, with a space between them
abbrev pub pair_line : ℕ × ℕ → List ℕ
pair_line pair = decimal pair.0 ++ 32 ∷ decimal pair.1 ++ 10 ∷ []

-- a line for each vertex: its id and its core number
abbrev pub core_lines : List ℕ → List ℕ → List ℕ
core_lines ids core = flat_map pair_line (zip ids core)

-- the ids of the vertices whose core number is at least the level: those of the level's core
abbrev pub members : List ℕ → List ℕ → ℕ → List ℕ
members ids core level = map (λ vertex. vertex.0) (filter (λ vertex. nat_le level vertex.1) (zip ids core))

-- an id
abbrev pub member_line : ℕ → List ℕ
member_line id = decimal id ++ 10 ∷ []

-- `level K members C`, and then a line for each member
abbrev pub level_lines : List ℕ → List ℕ → ℕ → List ℕ
level_lines ids core level =
    field (codes "level ") level ++ field (codes " members ") (length (members ids core level)) ++ 10 ∷ flat_map member_line (members ids core level)
