use Rattle.std.specs.Prelude.{ℕ, Bool, List, refl}
use Rattle.std.specs.Coded.{Coded, code_by, coded×, coded_ℕ, coded_bool, coded_list}
use Rattle.kc_graph.specs.Lawful.{Ranked}
use Rattle.kc_graph.specs.LawfulCode.{code_of_ranked}
use Rattle.kc_graph.specs.declared.used.UsedEdges.{UsedEdges}
use Rattle.kc_graph.specs.declared.used.UsedPlace.{UsedPlace}
use Rattle.kc_graph.specs.declared.used.UsedOrder.{UsedOrder}
use Rattle.kc_view.specs.Answers.{Answers}
use Rattle.kc_view.specs.Plain.{Resting}

-- the code by which the logic stores an answer with a list of neighbours
abbrev pub code_of_edges : Coded UsedEdges
code_of_edges =
    code_by (ℕ × (ℕ × List ℕ)) (coded× coded_ℕ (coded× coded_ℕ (coded_list coded_ℕ))) (λ e. (e.vertex, (e.at, e.neighbours)))
    (λ p. record { vertex = p.0; at = p.1.0; neighbours = p.1.1 }) (λ _. refl)

-- the code by which the logic stores an answer with a core number
abbrev pub code_of_place : Coded UsedPlace
code_of_place =
    code_by (ℕ × (ℕ × ℕ)) (coded× coded_ℕ (coded× coded_ℕ coded_ℕ)) (λ p. (p.vertex, (p.stamp, p.core)))
    (λ p. record { vertex = p.0; stamp = p.1.0; core = p.1.1 }) (λ _. refl)

-- the code by which the logic stores an answer about the order of two vertices
abbrev pub code_of_order : Coded UsedOrder
code_of_order =
    code_by (ℕ × (ℕ × Bool)) (coded× coded_ℕ (coded× coded_ℕ coded_bool)) (λ o. (o.x, (o.y, o.before)))
    (λ p. record { x = p.0; y = p.1.0; before = p.1.1 }) (λ _. refl)

-- the code by which the logic stores answers
abbrev pub code_of_answers : Coded Answers
code_of_answers =
    code_by (List UsedEdges × (List UsedPlace × List UsedOrder))
    (coded× (coded_list code_of_edges) (coded× (coded_list code_of_place) (coded_list code_of_order)))
    (λ a. (a.edges, (a.places, a.orders))) (λ p. record { edges = p.0; places = p.1.0; orders = p.1.1 }) (λ _. refl)

-- the code by which the logic stores what is seen of a view of a graph at rest
abbrev pub code_of_resting : Coded Resting
code_of_resting =
    code_by (Ranked × (Answers × ℕ)) (coded× code_of_ranked (coded× code_of_answers coded_ℕ)) (λ r. (r.state, (r.kept, r.handed)))
    (λ p. record { state = p.0; kept = p.1.0; handed = p.1.1 }) (λ _. refl)
