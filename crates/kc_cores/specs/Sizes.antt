-- How many vertices and edges each k-core has.
use Rattle.std.specs.Prelude.{◌≡◌, ◌+◌, ◌≤◌, ℕ, List, length, min}
use Rattle.kc_graph.specs.Core.{greatest}
use Rattle.kc_graph.specs.Peeling.{at}
use Rattle.kc_graph.specs.SimpleGraph.{SimpleGraph}
use Rattle.kc_cores.specs.Answers.{core_edges, core_vertices, shell}
use Rattle.kc_cores.specs.declared.sizes.CoreSizes.{CoreSizes}

-- the lesser core number of the ends of an edge
abbrev pub lesser_number : List ℕ → ℕ × ℕ → ℕ
lesser_number core e = min (at core e.0) (at core e.1)

-- the counts for each k up to the greatest core number
pub record AreSizes (g : SimpleGraph) (core : List ℕ) (sizes : CoreSizes) : Type 0 where
  pub shell_levels : length sizes.shells.items ≡ greatest core + 1
  pub vertex_levels : length sizes.vertices.items ≡ greatest core + 1
  pub edge_levels : length sizes.edges.items ≡ greatest core + 1
  pub shells : (k : ℕ) → k ≤ greatest core → at sizes.shells.items k ≡ length (shell g core k)
  pub vertices : (k : ℕ) → k ≤ greatest core → at sizes.vertices.items k ≡ length (core_vertices g core k)
  pub edges : (k : ℕ) → k ≤ greatest core → at sizes.edges.items k ≡ length (core_edges g core k)
