-- A graph with numbers and an order: what contracts see of a `Lawful`.
use Rattle.std.specs.Prelude.{◌≡◌, ◌<◌, ℕ, List, length, slice_index}
use Rattle.kc_graph.specs.SimpleGraph.{SimpleGraph}
use Rattle.kc_graph.specs.Certificate.{Certifies}

-- the graph, the number of each vertex at its place, and the vertices in order
pub record Ranked : Type 0 where
  pub graph : SimpleGraph
  pub core : List ℕ
  pub order : List ℕ

-- the order certifies the numbers
abbrev pub IsCertified : Ranked → Type 0
IsCertified s = Certifies s.graph s.core s.order

-- at each number of the list, the place where it stands
pub record ArePlaces (order places : List ℕ) : Type 0 where
  pub one_each : length places ≡ length order
  pub within : (v : ℕ) → v < length order → slice_index places v < length order
  pub right : (v : ℕ) → v < length order → slice_index order (slice_index places v) ≡ v
