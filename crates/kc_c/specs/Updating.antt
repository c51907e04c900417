-- Updates of a kept graph, as C names them.
use Rattle.std.specs.Prelude.{◌+◌, ℕ, Bool, not, ◌&&◌, ◌==◌, nat_lt, List, [], ◌∷◌, Option, if◌then◌else◌}
use Rattle.std.specs.List.{position}
use Rattle.kc_graph.specs.SimpleGraph.{SimpleGraph, adjacent}
use Rattle.kc_graph.specs.Edges.{with_edge, without_edge}
use Rattle.kc_c.specs.declared.updates.GivenUpdate.{GivenUpdate}

-- the update of these two ends
abbrev pub given_update : ℕ → ℕ → ℕ → GivenUpdate
given_update u v add = record { u = u; v = v; add = add }

-- whether both ends are vertices
abbrev pub are_vertices : ℕ → GivenUpdate → Bool
are_vertices vertices u = nat_lt u.u vertices && nat_lt u.v vertices

-- where the first update stands that has an end which is no vertex
abbrev pub first_outsider : ℕ → List GivenUpdate → Option ℕ
first_outsider vertices updates = position (λ u. not (are_vertices vertices u)) updates

-- the graph after an update: with the edge between the two vertices, or without it where `add` is 0; a loop is no edge
abbrev pub after_given : GivenUpdate → SimpleGraph → SimpleGraph
after_given u g = if u.u == u.v then g else (if u.add == 0 then without_edge g u.u u.v else with_edge g u.u u.v)

-- whether the update makes another graph: the edge to be added is not there, or the one to be removed is
abbrev pub is_changing : GivenUpdate → SimpleGraph → Bool
is_changing u g = not (u.u == u.v) && (if u.add == 0 then adjacent g u.u u.v else not (adjacent g u.u u.v))

-- the graph after updates in turn
abbrev pub after_all_given : SimpleGraph → List GivenUpdate → SimpleGraph
after_all_given g [] = g
after_all_given g (u ∷ us) = after_all_given (after_given u g) us

-- how many of them change the graph
abbrev pub count_changing : SimpleGraph → List GivenUpdate → ℕ
count_changing g [] = 0
count_changing g (u ∷ us) = (if is_changing u g then 1 else 0) + count_changing (after_given u g) us
