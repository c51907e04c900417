-- A state whose graph loses an edge.
use Rattle.std.specs.Prelude.{ℕ, Bool, not, ◌&&◌, ◌||◌, List, nat_eq, nat_le, slice_index}
use Rattle.kc_lists.specs.Lists.{member}
use Rattle.kc_graph.specs.SimpleGraph.{adjacent}
use Rattle.kc_graph.specs.Edges.{without_edge}
use Rattle.kc_graph.specs.Plans.{joins}
use Rattle.kc_graph.specs.Lawful.{Ranked}
use Rattle.kc_graph.specs.declared.update.Update.{Update}
use Rattle.kc_view.specs.Search.{Search, search_in}

-- the state in which the search goes on
abbrev pub search_without : Update → ℕ → Ranked → Search
search_without update level s = search_in (without_edge s.graph update.u update.v) s level

-- whether `z` is an end of that edge
abbrev pub is_end : Update → ℕ → Bool
is_end update z = nat_eq z update.u || nat_eq z update.v

-- whether the neighbour `y` counts for the support of `x`
abbrev pub is_counted : Update → ℕ → Ranked → List ℕ → ℕ → ℕ → Bool
is_counted update level s fall x y = not (joins update x y) && (nat_le level (slice_index s.core y) && not (member y fall))

-- whether the turn of `x` has come to `z`, where it has come to the neighbours of `row`
abbrev pub has_come : Update → Ranked → ℕ → List ℕ → ℕ → Bool
has_come update s x row z = member z row && adjacent (without_edge s.graph update.u update.v) x z
