-- The lines of the commands: which numbers and names each has, and their keys. An id is a number, or the name for which it stands.
use Rattle.std.specs.Prelude.{ℕ, List, [], ◌∷◌, codes}
use Rattle.kc_lines.specs.Fields.{Label, field, labelled}
use Rattle.kc_lines.specs.Lines.{line_text}
use Rattle.kc_lines.specs.declared.format.Format.{Format}

-- an id and its core number
abbrev pub number_line : Format → Label → ℕ → List ℕ
number_line format id core = line_text format (labelled (codes "id") id ∷ field (codes "core") core ∷ [])

-- k, how many vertices the k-shell has, and how many vertices and edges the k-core has
abbrev pub counts_line : Format → ℕ → ℕ → ℕ → ℕ → List ℕ
counts_line format k shell vertices edges =
    line_text format (field (codes "core") k ∷ field (codes "shell_vertices") shell ∷ field (codes "core_vertices") vertices
    ∷ field (codes "core_edges") edges ∷ [])

-- an id
abbrev pub member_line : Format → Label → List ℕ
member_line format id = line_text format (labelled (codes "id") id ∷ [])

-- the ids of both ends of an edge
abbrev pub edge_line : Format → Label → Label → List ℕ
edge_line format a b = line_text format (labelled (codes "source") a ∷ labelled (codes "target") b ∷ [])

-- an id, its core number and its layer
abbrev pub layer_line : Format → Label → ℕ → ℕ → List ℕ
layer_line format id core layer = line_text format (labelled (codes "id") id ∷ field (codes "core") core ∷ field (codes "layer") layer ∷ [])
