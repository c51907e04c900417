-- What was asked and answered, and when that is true of a state.
use Rattle.std.specs.Prelude.{◌≡◌, ◌<◌, ◌++◌, ℕ, Bool, List, [], ◌∷◌, All, Option, Some, None, is_some, slice_index, nat_eq, nat_lt, if◌then◌else◌}
use Rattle.std.specs.Option.{unwrap_or}
use Rattle.kc_lists.specs.Lists.{place_of}
use Rattle.kc_graph.specs.Neighbours.{neighbours_of}
use Rattle.kc_graph.specs.Lawful.{Ranked}
use Rattle.kc_graph.specs.declared.used.UsedEdges.{UsedEdges}
use Rattle.kc_graph.specs.declared.used.UsedPlace.{UsedPlace}
use Rattle.kc_graph.specs.declared.used.UsedOrder.{UsedOrder}
use Rattle.kc_graph.specs.declared.used.Used.{Used}

-- lists of neighbours, core numbers and orders, each in the order of asking
pub record Answers : Type 0 where
  pub edges : List UsedEdges
  pub places : List UsedPlace
  pub orders : List UsedOrder

-- no list, no core number and no order
abbrev pub nothing_answered : Answers
nothing_answered = record { edges = []; places = []; orders = [] }

-- the answers that a plan has used
abbrev pub answers_in : Used → Answers
answers_in used = record { edges = used.edges.items; places = used.places.items; orders = used.orders.items }

-- the list of `w`, as it was told first
abbrev pub list_in : ℕ → List UsedEdges → Option (List ℕ)
list_in w [] = None
list_in w (e ∷ edges) = if nat_eq w e.vertex then Some e.neighbours else list_in w edges

-- the core number of `w`, as it was told first
abbrev pub core_in : ℕ → List UsedPlace → Option ℕ
core_in w [] = None
core_in w (p ∷ places) = if nat_eq w p.vertex then Some p.core else core_in w places

-- whether the list of `w` was told, and which it is
abbrev pub has_list : Answers → ℕ → Bool
has_list a w = is_some (list_in w a.edges)

-- the list of `w`, as it was told first, or an empty one
abbrev pub list_of : Answers → ℕ → List ℕ
list_of a w = unwrap_or (list_in w a.edges) []

-- whether the core number of `w` was told, and which it is
abbrev pub has_core : Answers → ℕ → Bool
has_core a w = is_some (core_in w a.places)

-- the core number of `w`, as it was told first, or 0
abbrev pub core_of : Answers → ℕ → ℕ
core_of a w = unwrap_or (core_in w a.places) 0

-- with one answer more
abbrev pub with_list : Answers → UsedEdges → Answers
with_list a e = record a { edges = a.edges ++ e ∷ [] }

-- with one more answer about a core number
abbrev pub with_place : Answers → UsedPlace → Answers
with_place a p = record a { places = a.places ++ p ∷ [] }

-- with one more answer about the order of two vertices
abbrev pub with_order : Answers → UsedOrder → Answers
with_order a o = record a { orders = a.orders ++ o ∷ [] }

-- each list, core number and order is that of the state
pub record Agrees (a : Answers) (s : Ranked) : Type 0 where
  pub edges : All (λ e. (e.vertex < s.graph.size) × (e.neighbours ≡ neighbours_of s.graph e.vertex)) a.edges
  pub places : All (λ p. (p.vertex < s.graph.size) × (p.core ≡ slice_index s.core p.vertex)) a.places
  pub orders : All (λ o. (o.x < s.graph.size) × (o.y < s.graph.size) × (o.before ≡ nat_lt (place_of o.x s.order) (place_of o.y s.order))) a.orders
