-- Lists that are made of lists that were read, before the journal is held.
use Rattle.std.specs.Prelude.{◌≡◌, ◌≤◌, ℕ, Bool, true, not, List, slice_index}
use Rattle.kc_lists.specs.Lists.{member}
use Rattle.kc_graph.specs.SimpleGraph.{SimpleGraph}
use Rattle.kc_graph.specs.Plans.{is_applied}
use Rattle.kc_graph.specs.Sharing.{AreListsAfter, IsChanged}
use Rattle.kc_graph.specs.declared.update.Update.{Update}
use Rattle.kc_graph.specs.declared.used.UsedEdges.{UsedEdges}
use Rattle.kc_table.specs.declared.view.Event.{Event}
use Rattle.kc_table.specs.Log.{TableName}
use Rattle.kc_agree.specs.Reads.{WasList}
use Rattle.kc_journal.specs.declared.ahead.ListsAhead.{ListsAhead}

-- a list with one number more that it lacked, or without one that it had
pub record IsChangedList (add : Bool) (old new : List ℕ) (w : ℕ) : Type 0 where
  pub applied : member w old ≡ not add
  pub changed : IsChanged add old new w

-- each list after the update is one of these with the other end more, or without it
pub record IsMade (update : Update) (first second : UsedEdges) (a : ListsAhead) : Type 0 where
  pub first_is : a.first ≡ first
  pub second_is : a.second ≡ second
  pub first_after : IsChangedList update.add first.neighbours a.lists.first update.v
  pub second_after : IsChangedList update.add second.neighbours a.lists.second update.u

-- They were made so of lists of the two ends that were read of this log.
pub record AreAhead (table : TableName) (opened : SimpleGraph) (log : List Event) (update : Update) (a : ListsAhead) : Type 0 where
  pub first_of : a.first.vertex ≡ update.u
  pub second_of : a.second.vertex ≡ update.v
  pub first_was : WasList table opened log a.first
  pub second_was : WasList table opened log a.second
  pub made : IsMade update a.first a.second a

-- where no stamp of what was read is less than the present one, the update changes the graph, and these are the lists after it
abbrev pub FitWherePresent : List ℕ → Update → SimpleGraph → ListsAhead → Type 0
FitWherePresent stamps update g a = slice_index stamps update.u ≤ a.first.at → slice_index stamps update.v ≤ a.second.at
    → (is_applied update g ≡ true) × AreListsAfter update g a.lists
