-- The state that a log has made of a table, and stamps that are those of now.
use Rattle.std.specs.Prelude.{◌≡◌, ◌≢◌, ◌≤◌, ◌<◌, ℕ, List, All, true, filter, slice_index, nat_lt}
use Rattle.kc_graph.specs.SimpleGraph.{SimpleGraph}
use Rattle.kc_graph.specs.Lawful.{Ranked}
use Rattle.kc_graph.specs.Neighbours.{AreNeighbours}
use Rattle.kc_graph.specs.declared.used.UsedEdges.{UsedEdges}
use Rattle.kc_graph.specs.declared.used.UsedPlace.{UsedPlace}
use Rattle.kc_graph.specs.declared.used.UsedOrder.{UsedOrder}
use Rattle.kc_lists.specs.Lists.{place_of}
use Rattle.kc_view.specs.Answers.{Answers, has_core}
use Rattle.kc_table.specs.declared.view.Event.{Event}
use Rattle.kc_table.specs.Edges.{after_entries}
use Rattle.kc_table.specs.Legal.{Legal, IsClosed}
use Rattle.kc_table.specs.Log.{TableName}
use Rattle.kc_order.specs.Standing.{list_after}
use Rattle.kc_agree.specs.Stamps.{core_after, edge_stamp, made_by, place_stamp}

-- the vertices of a list of items, without the heads
abbrev pub vertices_in : ℕ → List ℕ → List ℕ
vertices_in fixed list = filter (λ x. nat_lt x fixed) list

-- The state is that of a table which opened with these edges: the edges after all entries of the log, the core numbers that the
-- vertex words hold, and the order of the vertices in the list.
pub record IsStateOf (table : TableName) (opened : SimpleGraph) (log : List Event) (s : Ranked) : Type 0 where
  pub size : s.graph.size ≡ table.shape.fixed
  pub graph : s.graph ≡ after_entries opened (made_by table log).entries
  pub core : (v : ℕ) → v < table.shape.fixed → slice_index s.core v ≡ core_after table log v
  pub order : s.order ≡ vertices_in table.shape.fixed (list_after table log)

-- The log is legal, and no section is left open: so it is whenever the lock of the state is free.
pub record IsAtRest (table : TableName) (log : List Event) : Type 0 where
  pub legal : Legal table.shape table.opening log
  pub closed : IsClosed (made_by table log)

-- no stamp that was used is less than that of now
pub record AreCurrent (table : TableName) (opened : SimpleGraph) (stamps : List ℕ) (log : List Event) (a : Answers) : Type 0 where
  pub edges : All (λ e. edge_stamp table opened stamps log e.vertex ≤ e.at) a.edges
  pub places : All (λ p. place_stamp table log p.vertex ≤ p.stamp) a.places

-- The two lists have the edge stamp and the place stamp of each vertex.
pub record ArePresent (table : TableName) (opened : SimpleGraph) (stamps : List ℕ) (log : List Event) (edge_stamps place_stamps : List ℕ) : Type 0 where
  pub edges : (v : ℕ) → v < table.shape.fixed → slice_index edge_stamps v ≡ edge_stamp table opened stamps log v
  pub places : (v : ℕ) → v < table.shape.fixed → slice_index place_stamps v ≡ place_stamp table log v

-- The answers of one who holds the state: each is the state's, with the stamp of now. First a list.
pub record OwnList (table : TableName) (opened : SimpleGraph) (stamps : List ℕ) (log : List Event) (s : Ranked) (e : UsedEdges) : Type 0 where
  pub vertex : e.vertex < s.graph.size
  pub at : e.at ≡ edge_stamp table opened stamps log e.vertex
  pub list : AreNeighbours s.graph e.vertex e.neighbours

-- a place
pub record OwnPlace (table : TableName) (log : List Event) (s : Ranked) (p : UsedPlace) : Type 0 where
  pub vertex : p.vertex < s.graph.size
  pub stamp : p.stamp ≡ place_stamp table log p.vertex
  pub core : p.core ≡ slice_index s.core p.vertex

-- an order
pub record OwnOrder (s : Ranked) (a : Answers) (o : UsedOrder) : Type 0 where
  pub differ : o.x ≢ o.y
  pub first_read : has_core a o.x ≡ true
  pub second_read : has_core a o.y ≡ true
  pub stands : o.before ≡ nat_lt (place_of o.x s.order) (place_of o.y s.order)

-- all of them
pub record AreOwn (table : TableName) (opened : SimpleGraph) (stamps : List ℕ) (log : List Event) (s : Ranked) (a : Answers) : Type 0 where
  pub edges : All (OwnList table opened stamps log s) a.edges
  pub places : All (OwnPlace table log s) a.places
  pub orders : All (OwnOrder s a) a.orders
