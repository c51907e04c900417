-- The updates of a batch that decide, where it may name an edge again: the last update of each edge.
use Rattle.std.specs.Prelude.{◌&&◌, Bool, List, [], ◌∷◌, nat_eq, if◌then◌else◌}
use Rattle.std.specs.List.{list_any}
use Rattle.kc_graph.specs.declared.update.Update.{Update}

-- whether two updates name the same edge
abbrev pub same_edge : Update → Update → Bool
same_edge x y = nat_eq x.u y.u && nat_eq x.v y.v

-- the last update of each edge, in their order: those whose edge no later update names
abbrev pub last_of_edges : List Update → List Update
last_of_edges [] = []
last_of_edges (x ∷ rest) = if list_any (same_edge x) rest then last_of_edges rest else x ∷ last_of_edges rest
