-- What a plan makes of a graph with its core numbers and their order.
use Rattle.std.specs.Prelude.{ℕ, ◌+◌, ◌-◌, Bool, not, ◌&&◌, ◌||◌, List, [], ◌∷◌, ◌++◌, filter, slice_index, slice_set, nat_eq, nat_le, nat_lt, if◌then◌else◌}
use Rattle.kc_lists.specs.Lists.{member, right_after, without}
use Rattle.kc_graph.specs.SimpleGraph.{SimpleGraph, adjacent}
use Rattle.kc_graph.specs.Edges.{with_edge, without_edge}
use Rattle.kc_graph.specs.Lawful.{Ranked}
use Rattle.kc_graph.specs.declared.update.Update.{Update}
use Rattle.kc_graph.specs.declared.plan.Moves.{Moves}
use Rattle.kc_graph.specs.declared.plan.Moves.TheVariants.{Kept, Plain, Rise, Fall}
use Rattle.kc_graph.specs.declared.plan.Plan.{Plan}

-- whether the edge of the update joins the two
abbrev pub joins : Update → ℕ → ℕ → Bool
joins update x y = (nat_eq x update.u && nat_eq y update.v) || (nat_eq x update.v && nat_eq y update.u)

-- whether the update changes the graph: an edge to be added is not there, or one to be removed is
abbrev pub is_applied : Update → SimpleGraph → Bool
is_applied update g = if update.add then not (adjacent g update.u update.v) else adjacent g update.u update.v

-- the graph with the update's edge, or without it
abbrev pub updated : Update → SimpleGraph → SimpleGraph
updated update g = if update.add then with_edge g update.u update.v else without_edge g update.u update.v

-- for each pair in turn, its first vertex is put right after its second
abbrev pub shifted : List (ℕ × ℕ) → List ℕ → List ℕ
shifted [] order = order
shifted (shift ∷ shifts) order = shifted shifts (right_after shift.0 shift.1 (without shift.0 order))

-- the others that are low, then `moved`, then the rest
abbrev pub put_between : (ℕ → Bool) → List ℕ → List ℕ → List ℕ
put_between is_low moved order = filter (λ y. is_low y && not (member y moved)) order ++ (moved ++ filter (λ y. not (is_low y) && not (member y moved)) order)

-- the numbers, where each of `moved` has the number `k`
abbrev pub renumbered : List ℕ → ℕ → List ℕ → List ℕ
renumbered [] k core = core
renumbered (v ∷ moved) k core = renumbered moved k (slice_set core v k)

-- core numbers and order after the moves
abbrev pub moved_by : Moves → Ranked → Ranked
moved_by Kept s = s
moved_by Plain s = s
moved_by (Rise level rise shifts) s =
    record s {
      core = renumbered rise.items (level + 1) s.core;
      order = put_between (λ y. nat_le (slice_index s.core y) level) rise.items (shifted shifts.items s.order);
    }
moved_by (Fall level fall) s =
    record s
    { core = renumbered fall.items (level - 1) s.core; order = put_between (λ y. nat_lt (slice_index s.core y) level) fall.items s.order }

-- the graph after an update with these moves
abbrev pub graph_after : Update → Moves → SimpleGraph → SimpleGraph
graph_after update Kept g = g
graph_after update Plain g = updated update g
graph_after update (Rise level rise shifts) g = updated update g
graph_after update (Fall level fall) g = updated update g

-- all after a plan
abbrev pub state_after : Plan → Ranked → Ranked
state_after plan s = record (moved_by plan.moves s) { graph = graph_after plan.update plan.moves s.graph }
