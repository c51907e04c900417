-- The lines that each task has for the graph of a text.
use Rattle.std.specs.Prelude.{◌≡◌, ◌+◌, ◌++◌, ◌&&◌, ◌==◌, ℕ, Bool, List, [], ◌∷◌, Option, None, Some, IfSome, codes, decimal, filter, length, map}
use Rattle.std.specs.Prelude.{nat_le, slice_index_or, unwrap_or}
use Rattle.std.specs.FinSet as set
use Rattle.std.specs.List.{flat_map}
use Rattle.kc_dialect.specs.Dialects.{bad_lines, without_mark}
use Rattle.kc_dialect.specs.declared.bad_line.BadLine.{BadLine}
use Rattle.kc_dialect.specs.declared.dialect.Dialect.{Dialect}
use Rattle.kc_dialect_read.specs.Meanings.{bad_column, dialect_meaning, names_told}
use Rattle.kc_flat.specs.Listing.{ascending_below, edge_list}
use Rattle.kc_graph.specs.Certificate.{Certifies}
use Rattle.kc_graph.specs.Core.{AreCoreNumbers, greatest}
use Rattle.kc_graph.specs.Peeling.{at}
use Rattle.kc_graph.specs.SimpleGraph.{SimpleGraph}
use Rattle.kc_head.specs.Heads.{head_of}
use Rattle.kc_head.specs.Places.{wrong_column}
use Rattle.kc_head.specs.declared.foreign.Foreign.{Foreign}
use Rattle.kc_text.specs.Inputs.{AreIds, start_graph}
use Rattle.kc_text.specs.Meaning.{Means, Meaning, Refuses, Told, meaning, names}
use Rattle.kc_text.specs.declared.limits.TheConstants.Limits.{GRAPH}
use Rattle.kc_text.specs.declared.refusal.Refusal.{Refusal}
use Rattle.kc_tally.specs.Layers.{AreLayers}
use Rattle.kc_lines.specs.Fields.{Label, Name, Number}
use Rattle.kc_lines.specs.declared.format.Format.{Format}
use Rattle.kc_names.specs.Names.{name_at}
use Rattle.kc_wishes.specs.Wishes.{Query}
use Rattle.kc_wishes.specs.declared.request.Task.TheVariants.{Numbers, Sizes, Members, Edges, Layers, Order}
use Rattle.kc_wishes.specs.declared.request.Task.{Task}
use Rattle.kc_cores.specs.Lines.{counts_line, edge_line, layer_line, member_line, number_line}
use Rattle.kc_cores.specs.Sentences.{GraphRefusal, remark_on, told_foreign}
use Rattle.kc_cores.specs.Skips.{skipped_report}

-- What the text of a graph means, in a dialect if it is in one: there may be no batch line, and all else may be as much as numbers count. A
-- byte order mark at its front is no part of it.
unfoldable pub graph_meaning : Option Dialect → List ℕ → Meaning
graph_meaning None bytes = meaning GRAPH (without_mark bytes)
graph_meaning (Some dialect) bytes = dialect_meaning dialect bytes

-- in which column a text is refused, where one is meant; of a text in no dialect, where the line stands in its head
abbrev pub refused_column : Option Dialect → List ℕ → Refusal → Option ℕ
refused_column None bytes refusal = wrong_column (head_of bytes) refusal
refused_column (Some dialect) bytes refusal = bad_column dialect bytes

-- the text of a graph is refused, with this line, column and cause, and this is its head
abbrev pub IsRefusedBy : Option Dialect → List ℕ → GraphRefusal → Type 0
IsRefusedBy dialect bytes refusal =
    (graph_meaning dialect bytes ≡ Refuses refusal.placed.refusal.line refusal.placed.refusal.kind)
    × (refusal.placed.column ≡ refused_column dialect bytes refusal.placed.refusal) × (refusal.head ≡ head_of bytes)

-- what a text with this meaning may be that is no lines of a graph; a text that is refused is none that was read as such
abbrev pub remark_by : Option Dialect → List ℕ → Meaning → Option Foreign
remark_by dialect bytes (Refuses line kind) = None
remark_by dialect bytes (Means told) = remark_on dialect (head_of bytes) told

-- what the text of a graph may be that is no lines of a graph
abbrev pub graph_remark : Option Dialect → List ℕ → Option Foreign
graph_remark dialect bytes = remark_by dialect bytes (graph_meaning dialect bytes)

-- what a text may be that is no lines of a graph, as all its bytes tell, where they are known
abbrev pub IsForeignBy : Option Dialect → Option (List ℕ) → Option Foreign → Type 0
IsForeignBy dialect known what = IfSome known (λ all. what ≡ graph_remark dialect all)

-- the bad lines of a text in a dialect, if it is in one
abbrev pub passed_over : Option Dialect → List ℕ → List BadLine
passed_over None bytes = []
passed_over (Some dialect) bytes = bad_lines dialect bytes

-- the names of the text of a graph, where its ids are names: each once, in the order of their first coming
abbrev pub graph_names : Option Dialect → List ℕ → Option (List (List ℕ))
graph_names None bytes = None
graph_names (Some dialect) bytes = names_told dialect bytes

-- what is written for an id: the number itself, or the name for which it stands
abbrev pub label_in : Option (List (List ℕ)) → ℕ → Label
label_in None id = Number id
label_in (Some names) id = Name (name_at names id)

-- what is written for each of some ids
abbrev pub labels_of : Option (List (List ℕ)) → List ℕ → List Label
labels_of names ids = map (label_in names) ids

-- what is written for a vertex
abbrev pub label_at : List Label → ℕ → Label
label_at labels v = slice_index_or labels v (Number 0)

-- whether a vertex is in the k-core: its core number is k or more
abbrev pub is_in_core : List ℕ → ℕ → ℕ → Bool
is_in_core core k v = nat_le k (at core v)

-- the vertices of the k-core, ascending
abbrev pub core_vertices : SimpleGraph → List ℕ → ℕ → List ℕ
core_vertices g core k = filter (is_in_core core k) (ascending_below g.size)

-- the edges of the k-core: those with both ends in it
abbrev pub core_edges : SimpleGraph → List ℕ → ℕ → List (ℕ × ℕ)
core_edges g core k = filter (λ e. is_in_core core k e.0 && is_in_core core k e.1) (edge_list g)

-- the vertices with the core number k, ascending: the k-shell
abbrev pub shell : SimpleGraph → List ℕ → ℕ → List ℕ
shell g core k = filter (λ v. k == at core v) (ascending_below g.size)

-- for each vertex its id or name and its core number
abbrev pub number_lines : Format → List Label → SimpleGraph → List ℕ → List ℕ
number_lines format labels g core = flat_map (λ v. number_line format (label_at labels v) (at core v)) (ascending_below g.size)

-- k, how many vertices have the core number k, and how many vertices and edges the k-core has
abbrev pub size_line : Format → SimpleGraph → List ℕ → ℕ → List ℕ
size_line format g core k = counts_line format k (length (shell g core k)) (length (core_vertices g core k)) (length (core_edges g core k))

-- that for each k up to the greatest core number
abbrev pub size_lines : Format → SimpleGraph → List ℕ → List ℕ
size_lines format g core = flat_map (size_line format g core) (ascending_below (greatest core + 1))

-- the k of a k-core: where none is asked for, that of the innermost core, the greatest core number
abbrev pub level_of : Option ℕ → List ℕ → ℕ
level_of level core = unwrap_or level (greatest core)

-- the ids or names of the vertices of the k-core
abbrev pub member_lines : Format → List Label → SimpleGraph → List ℕ → ℕ → List ℕ
member_lines format labels g core k = flat_map (λ v. member_line format (label_at labels v)) (core_vertices g core k)

-- the ids or names of both ends of the edges of the k-core
abbrev pub edge_lines : Format → List Label → SimpleGraph → List ℕ → ℕ → List ℕ
edge_lines format labels g core k = flat_map (λ e. edge_line format (label_at labels e.0) (label_at labels e.1)) (core_edges g core k)

-- for each vertex its id or name, its core number and its layer, when the first layer of each core number is 0
abbrev pub layer_lines : Format → List Label → SimpleGraph → List ℕ → List ℕ → List ℕ
layer_lines format labels g core layer = flat_map (λ v. layer_line format (label_at labels v) (at core v) (at layer v)) (ascending_below g.size)

-- for each vertex its id or name and its core number, as an order has the vertices
abbrev pub order_lines : Format → List Label → List ℕ → List ℕ → List ℕ
order_lines format labels core order = flat_map (λ v. number_line format (label_at labels v) (at core v)) order

-- the text has the lines of a task, in a format, for a graph with these core numbers, whose vertices are written as these labels
abbrev pub AreLinesFor : Format → Task → List Label → SimpleGraph → List ℕ → List ℕ → Type 0
AreLinesFor format Numbers labels g core text = text ≡ number_lines format labels g core
AreLinesFor format Sizes labels g core text = text ≡ size_lines format g core
AreLinesFor format (Members level) labels g core text = text ≡ member_lines format labels g core (level_of level core)
AreLinesFor format (Edges level) labels g core text = text ≡ edge_lines format labels g core (level_of level core)
AreLinesFor format Layers labels g core text = (layer : List ℕ) × AreLayers g core layer × (text ≡ layer_lines format labels g core layer)
AreLinesFor format Order labels g core text = (order : List ℕ) × Certifies g core order × (text ≡ order_lines format labels core order)

-- `vertices N edges M top T`
abbrev pub summary_line : SimpleGraph → List ℕ → List ℕ
summary_line g core =
    codes "vertices " ++ (decimal g.size ++ (codes " edges " ++ (decimal (set.len g.edges) ++ (codes " top " ++ (decimal (greatest core) ++ 10 ∷ [])))))

-- The bytes mean a graph without batches, whose vertices stand for the ids in ascending order. Where ids are names, the ids of the graph are
-- their numbers, in the order of their first coming. These are its lines for the task, and what is told of the run: what the text may be that is
-- no lines of a graph, the bad lines that were passed over, and the summary of the graph.
pub record IsTextFor (query : Query) (bytes : List ℕ) (what : Option Foreign) (text summary : List ℕ) : Type 0 where
  pub told : Told
  pub means : graph_meaning query.graph.dialect bytes ≡ Means told
  pub ids : List ℕ
  pub named : AreIds (names told) ids
  pub core : List ℕ
  pub numbers : AreCoreNumbers (start_graph ids told.edges) core
  pub is : AreLinesFor query.format query.task (labels_of (graph_names query.graph.dialect bytes) ids) (start_graph ids told.edges) core text
  pub sums : summary ≡ told_foreign query.graph.file what
      ++ (skipped_report query.graph.file (passed_over query.graph.dialect bytes) ++ summary_line (start_graph ids told.edges) core)
