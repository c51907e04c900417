-- A graph that is kept with its layers.
use Rattle.std.specs.Prelude.{ℕ, List, Option, refl}
use Rattle.std.specs.Coded.{Coded, code_by, coded×, coded_list, coded_option, coded_ℕ}
use Rattle.kc_graph.specs.Rows.{code_of_graph}
use Rattle.kc_graph.specs.SimpleGraph.{SimpleGraph}

-- a graph, and its layers where they are kept
pub record LayeredGraph : Type 0 where
  pub graph : SimpleGraph
  pub layers : Option (List ℕ)

-- the code by which the logic stores it
abbrev pub code_of_layered : Coded LayeredGraph
code_of_layered =
    code_by (SimpleGraph × Option (List ℕ)) (coded× code_of_graph (coded_option (coded_list coded_ℕ))) (λ s. (s.graph, s.layers))
    (λ p. record { graph = p.0; layers = p.1 }) (λ _. refl)
