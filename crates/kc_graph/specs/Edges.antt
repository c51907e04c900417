-- Edges that come and go.
use Rattle.std.specs.Prelude.{ℕ, nat_lt, if◌then◌else◌}
use Rattle.std.specs.FinSet as set
use Rattle.kc_graph.specs.SimpleGraph.{SimpleGraph}

-- the edge between two vertices
abbrev pub edge : ℕ → ℕ → ℕ × ℕ
edge u v = if nat_lt u v then (u, v) else (v, u)

-- the same vertices, and that edge beside the others
abbrev pub with_edge : SimpleGraph → ℕ → ℕ → SimpleGraph
with_edge g u v = record { size = g.size; edges = set.insert g.edges (edge u v) }

-- the same vertices, and the edges without that one
abbrev pub without_edge : SimpleGraph → ℕ → ℕ → SimpleGraph
without_edge g u v = record { size = g.size; edges = set.remove g.edges (edge u v) }
