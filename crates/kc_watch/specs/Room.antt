-- A graph whose last vertices are spare.
use Rattle.std.specs.Prelude.{◌≡◌, ◌≤◌, ◌<◌, ℕ, true, List, Option, Some, Vec, All, option_map}
use Rattle.std.specs.Global.{Global}
use Rattle.std.specs.List.{list_any}
use Rattle.std.specs.Ordering.{eq_by_cmp}
use Rattle.std.specs.FinSet.{FinSet, contains}
use Rattle.kc_graph.specs.Growing.{with_vertices}
use Rattle.kc_graph.specs.Lawful.{Ranked}
use Rattle.kc_graph.specs.SimpleGraph.{SimpleGraph, pair_cmp}
use Rattle.kc_stream.specs.Gathering.{IsPairBelow}
use Rattle.kc_watch.specs.Accounts.{layers_of}
use Rattle.kc_watch.specs.Layered.{LayeredGraph}

-- the layers that are kept
abbrev pub layers_in : Option (Vec ℕ Global) → Option (List ℕ)
layers_in layers = option_map (λ l. l.items) layers

-- the graph of the first vertices of what is kept, and its layers where they are kept
abbrev pub graph_in : Ranked → ℕ → Option (Vec ℕ Global) → LayeredGraph
graph_in kept vertices layers = record { graph = with_vertices vertices kept.graph; layers = layers_in layers }

-- each edge is a pair of two numbers below a bound, the lesser one first
abbrev pub AreEdgesBelow : ℕ → FinSet pair_cmp → Type 0
AreEdgesBelow bound edges = (p : ℕ × ℕ) → contains edges p ≡ true → IsPairBelow bound p

-- So many vertices are used, and those behind them are spare: no edge has one of them. Layers that are kept are those of the graph without them.
pub record HasRoom (g : SimpleGraph) (vertices : ℕ) (layers : Option (List ℕ)) : Type 0 where
  pub fits : vertices ≤ g.size
  pub edges : AreEdgesBelow vertices g.edges
  pub layered : (l : List ℕ) → layers ≡ Some l → l ≡ layers_of (with_vertices vertices g)

-- The list has the edges of a graph whose lesser end is below a bound, and no pair that is no edge.
pub record ListsEdgesBelow (g : SimpleGraph) (bound : ℕ) (listed : List (ℕ × ℕ)) : Type 0 where
  pub edges : All (λ p. contains g.edges p ≡ true) listed
  pub whole : (p : ℕ × ℕ) → contains g.edges p ≡ true → p.0 < bound → list_any (eq_by_cmp pair_cmp p) listed ≡ true
