-- A state whose graph gains an edge.
use Rattle.std.specs.Prelude.{ℕ}
use Rattle.kc_graph.specs.Edges.{with_edge}
use Rattle.kc_graph.specs.Lawful.{Ranked}
use Rattle.kc_graph.specs.declared.update.Update.{Update}
use Rattle.kc_view.specs.Search.{Search, search_in}

-- the state in which the search goes on
abbrev pub search_with : Update → ℕ → Ranked → Search
search_with update level s = search_in (with_edge s.graph update.u update.v) s level
