-- The updates that decide are the last ones of their edges, which are a batch and leave what all leave.
use Rattle.std.proofs.Common.{◌≡◌, ◌<◌, ℕ, List, map, sym, ap, subst, ◌∙◌}
use Rattle.std.specs.Prelude.{All}
use Rattle.std.proofs.lemmas.Result.{IfOk-weaker}
use Rattle.kc_graph.specs.SimpleGraph.{SimpleGraph}
use Rattle.kc_graph.specs.declared.update.Update.{Update}
use Rattle.kc_text.specs.Inputs.{IsBatch, parts_of}
use Rattle.kc_text.specs.LastUpdates.{last_of_edges}
use Rattle.kc_text.specs.declared.batch.Batch.{Batch}
use Rattle.kc_text.proofs.LastOfEdges.{last-batch}
use Rattle.kc_batch_effects.specs.Batches.{graph_after_batch}
use Rattle.kc_batch_effects.specs.Updates.{after_updates}
use Rattle.kc_batch_effects.proofs.LastUpdates.{last-leave}
use Rattle.kc_batch_effects.proofs.deciding.decide.Goals as goal

pub returns-clause-batch : goal.returns-clause-batch
returns-clause-batch c =
    IfOk-weaker c.decide.result (λ (d : Batch). d.updates.items ≡ last_of_edges c.args.updates.now)
    (λ (d : Batch). (vertices : ℕ) → All (λ (x : Update). x.v < vertices) c.args.updates.now → IsBatch vertices d.updates.items)
    (λ d is vertices within. subst (IsBatch vertices) (sym is) (last-batch vertices c.args.updates.now within)) c.decide.ensures.deciding

pub returns-clause-graph : goal.returns-clause-graph
returns-clause-graph c =
    IfOk-weaker c.decide.result (λ (d : Batch). d.updates.items ≡ last_of_edges c.args.updates.now)
    (λ (d : Batch). (g : SimpleGraph) → after_updates g c.args.updates.now ≡ graph_after_batch g (map parts_of d.updates.items))
    (λ d is g. last-leave g c.args.updates.now ∙ ap (λ (us : List Update). graph_after_batch g (map parts_of us)) (sym is)) c.decide.ensures.deciding
