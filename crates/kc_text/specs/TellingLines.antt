-- The lines that tell something, and their numbers in the text.
use Rattle.std.specs.Prelude.{◌+◌, ℕ, Bool, true, false, List, [], ◌∷◌, ◌++◌, fold, map, nat_le, if◌then◌else◌}
use Rattle.std.specs.List.{flat_map}
use Rattle.kc_text.specs.declared.change.ChangeLine.{ChangeLine}
use Rattle.kc_text.specs.declared.line.TextLine.{TextLine}
use Rattle.kc_text.specs.declared.line.TextLine.TheVariants.{Nothing, Edge, Batch, Change, Wrong}

-- whether a line is neither blank nor a comment
abbrev pub is_telling : TextLine → Bool
is_telling Nothing = false
is_telling (Edge a b) = true
is_telling Batch = true
is_telling (Change c) = true
is_telling (Wrong kind) = true

-- the lines that tell edges
abbrev pub edge_lines : List (ℕ × ℕ) → List TextLine
edge_lines edges = map (λ e. Edge e.0 e.1) edges

-- the lines that tell a batch
abbrev pub lines_of_batch : List ChangeLine → List TextLine
lines_of_batch batch = Batch ∷ map (λ c. Change c) batch

-- the lines that tell these edges and these batches
abbrev pub lines_of : List (ℕ × ℕ) → List (List ChangeLine) → List TextLine
lines_of edges batches = edge_lines edges ++ flat_map lines_of_batch batches

-- all ids that lines name, each as often as they do
abbrev pub named_by : List TextLine → List ℕ
named_by [] = []
named_by (Nothing ∷ rest) = named_by rest
named_by (Edge a b ∷ rest) = a ∷ b ∷ named_by rest
named_by (Batch ∷ rest) = named_by rest
named_by (Change c ∷ rest) = c.a ∷ c.b ∷ named_by rest
named_by (Wrong kind ∷ rest) = named_by rest

-- the numbers of the lines that tell something, behind so many lines
abbrev pub numbers : ℕ → List TextLine → List ℕ
numbers done [] = []
numbers done (line ∷ rest) = if is_telling line then (done + 1) ∷ numbers (done + 1) rest else numbers (done + 1) rest

-- How many lines that tell nothing stand before a telling line with so many before it. Each step has how many telling lines stand before
-- it, and how many of the others.
abbrev pub skipped_at : List (ℕ × ℕ) → ℕ → ℕ
skipped_at steps place = fold (λ skipped step. if nat_le step.0 place then step.1 else skipped) 0 steps
