-- What a batch did, counted.
use Rattle.std.specs.Prelude.{◌≡◌}
use Rattle.kc_graph.specs.SimpleGraph.{SimpleGraph}
use Rattle.kc_text.specs.Inputs.{EdgeBatch}
use Rattle.kc_batch_effects.specs.Batches.{added, kept, removed}
use Rattle.kc_watch.specs.declared.batch.Effects.{Effects}

-- so many updates of a batch of a graph added an edge, removed one or changed nothing, and so many changes were overruled
pub record AreEffects (g : SimpleGraph) (batch : EdgeBatch) (effects : Effects) : Type 0 where
  pub added_is : effects.added ≡ added g.edges batch.updates
  pub removed_is : effects.removed ≡ removed g.edges batch.updates
  pub kept_is : effects.kept ≡ kept g.edges batch.updates
  pub overruled_is : effects.overruled ≡ batch.overruled
