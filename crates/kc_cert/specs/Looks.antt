-- Where the local test looks.
use Rattle.std.specs.Prelude.{◌≡◌, ℕ, Bool, true, List}
use Rattle.kc_lists.specs.Lists.{member}
use Rattle.kc_graph.specs.SimpleGraph.{SimpleGraph}
use Rattle.kc_graph.specs.Neighbours.{neighbours_of}
use Rattle.kc_graph.specs.Lawful.{Ranked}
use Rattle.kc_graph.specs.declared.update.Update.{Update}
use Rattle.kc_cert.specs.Local.{HoldsAt}

-- what the certificate asks holds at each vertex that was seen
abbrev pub HoldWhereSeen : (ℕ → Bool) → Ranked → Type 0
HoldWhereSeen seen t = (z : ℕ) → seen z ≡ true → HoldsAt t z

-- it holds at a vertex and at its neighbours in a graph
pub record HoldsAround (g : SimpleGraph) (t : Ranked) (x : ℕ) : Type 0 where
  pub here : HoldsAt t x
  pub beside : (y : ℕ) → member y (neighbours_of g x) ≡ true → HoldsAt t y

-- it holds at both ends of an edge, and at and around each of some vertices
pub record HoldsLocally (g : SimpleGraph) (t : Ranked) (update : Update) (moved : List ℕ) : Type 0 where
  pub first : HoldsAt t update.u
  pub second : HoldsAt t update.v
  pub around : (x : ℕ) → member x moved ≡ true → HoldsAround g t x
