-- The updates of a list of C that are no loops.
use Rattle.std.specs.Prelude.{◌≡◌, ◌<◌, ℕ, true, List, All, length, take, slice_index}
use Rattle.kc_graph.specs.SimpleGraph.{SimpleGraph}
use Rattle.kc_graph.specs.Plans.{is_applied, updated}
use Rattle.kc_graph.specs.declared.update.Update.{Update}
use Rattle.kc_keeper.specs.Batches.{applied_in_turn, made_in_turn}
use Rattle.kc_c.specs.Updating.{after_all_given, after_given, are_vertices, count_changing, is_changing}
use Rattle.kc_c.specs.declared.updates.GivenUpdate.{GivenUpdate}

-- The update is the one that C names.
pub record StandsFor (given : GivenUpdate) (update : Update) : Type 0 where
  pub after : (g : SimpleGraph) → updated update g ≡ after_given given g
  pub changing : (g : SimpleGraph) → is_applied update g ≡ is_changing given g
  pub within : (vertices : ℕ) → are_vertices vertices given ≡ true → update.v < vertices

-- The updates do what those of C do, in turn, and so many of them what those of C do up to the place of the next.
pub record AreListed (given : List GivenUpdate) (updates : List Update) (places : List ℕ) : Type 0 where
  pub after : (g : SimpleGraph) → made_in_turn g updates ≡ after_all_given g given
  pub count : (g : SimpleGraph) → length (applied_in_turn g updates) ≡ count_changing g given
  pub within : (vertices : ℕ) → All (λ u. are_vertices vertices u ≡ true) given → All (λ u. u.v < vertices) updates
  pub one_each : length places ≡ length updates
  pub below : (j : ℕ) → j < length updates → slice_index places j < length given
  pub before : (j : ℕ) → j < length updates → (g : SimpleGraph)
      → made_in_turn g (take j updates) ≡ after_all_given g (take (slice_index places j) given)
