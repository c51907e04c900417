-- What is told of updates, while they are made in turn.
use Rattle.std.specs.Prelude.{◌≡◌, ◌≤◌, ◌+◌, ◌++◌, not, List, [], ◌∷◌, length}
use Rattle.kc_graph.specs.SimpleGraph.{SimpleGraph}
use Rattle.kc_graph.specs.Lawful.{Ranked}
use Rattle.kc_graph.specs.declared.update.Update.{Update}
use Rattle.kc_keeper.specs.Batches.{applied_in_turn, count_applied, made_in_turn}
use Rattle.kc_keeper.specs.Cores.{AreCoreChanges}
use Rattle.kc_keeper.specs.declared.changes.Changes.{Changes}

-- The changes tell of these updates, made in turn of this graph.
pub record IsToldOf (start : SimpleGraph) (made : List Update) (changes : Changes) : Type 0 where
  pub added : changes.added ≡ count_applied (λ u. u.add) start made
  pub removed : changes.removed ≡ count_applied (λ u. not u.add) start made
  pub applied : changes.applied.items ≡ applied_in_turn start made
  pub few : changes.added + changes.removed ≤ length made

-- whatever they told of, they tell of it still
abbrev pub TellsTheSame : Changes → Changes → Type 0
TellsTheSame old new = (start : SimpleGraph) (made : List Update) → IsToldOf start made old → IsToldOf start made new

-- whatever updates of which they told made this graph, they tell of this one more
abbrev pub TellsOneMore : SimpleGraph → Update → Changes → Changes → Type 0
TellsOneMore g u old new =
    (start : SimpleGraph) (made : List Update) → g ≡ made_in_turn start made → IsToldOf start made old → IsToldOf start (made ++ u ∷ []) new

-- A batch of which these updates were made: the graph is the one after them in turn, and the changes tell of them, and of each vertex whose
-- number is another one.
pub record HasMadeBatch (old : Ranked) (made : List Update) (new : Ranked) (changes : Changes) : Type 0 where
  pub graph : new.graph ≡ made_in_turn old.graph made
  pub told : IsToldOf old.graph made changes
  pub cores : AreCoreChanges old.core new.core changes.cores.items
