-- Lists of neighbours that an update of an edge makes anew.
use Rattle.std.specs.Prelude.{ℕ, Bool, true, false, List}
use Rattle.kc_graph.specs.SimpleGraph.{SimpleGraph}
use Rattle.kc_graph.specs.Neighbours.{AreNeighbours}
use Rattle.kc_graph.specs.Plans.{updated}
use Rattle.kc_graph.specs.Rows.{Inserted, Deleted}
use Rattle.kc_graph.specs.declared.update.Update.{Update}
use Rattle.kc_graph.specs.declared.shared.ListsAfter.{ListsAfter}

-- the neighbours of both ends of the edge, in the graph after the update
pub record AreListsAfter (update : Update) (g : SimpleGraph) (lists : ListsAfter) : Type 0 where
  pub first : AreNeighbours (updated update g) update.u lists.first
  pub second : AreNeighbours (updated update g) update.v lists.second

-- the list with one number more where it is to be added, and without it else
abbrev pub IsChanged : Bool → List ℕ → List ℕ → ℕ → Type 0
IsChanged true old new w = Inserted old new w
IsChanged false old new w = Deleted old new w
