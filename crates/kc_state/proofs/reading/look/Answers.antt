-- What was looked at fits its type, and it is what the state is made of.
use Rattle.std.proofs.Common.{◌<◌, ◌^◌, ◌∙◌, ℕ, ap, subst}
use Rattle.std.specs.FinSet as set
use Rattle.std.specs.Prelude.{All}
use Rattle.kc_graph.specs.SimpleGraph.{SimpleGraph}
use Rattle.kc_state.proofs.reading.look.Goals as goal

pub returns-clause-kept : goal.returns-clause-kept
returns-clause-kept c = record {
  few_batches = c.counts_fit.ensures.batches;
  few_vertices = subst (λ (n : ℕ). n < 2 ^ 32) (c.vertices.ensures ∙ ap (λ (g : SimpleGraph). g.size) c.graph.ensures.graph)
      c.counts_fit.ensures.vertices;
  few_edges = subst (λ (n : ℕ). n < 2 ^ 64) (c.edges.ensures ∙ ap (λ (g : SimpleGraph). set.len g.edges) c.graph-2.ensures.graph)
      c.counts_fit.ensures.edges;
  small_ids = subst (All (λ (id : ℕ). id < 2 ^ 32)) c.names.ensures c.all_fit.ensures;
  small_core = subst (All (λ (number : ℕ). number < 2 ^ 32)) c.core.ensures.core c.all_fit-2.ensures;
  one_id_each = c.requires.one_id_each;
  once = c.requires.once;
  certified = c.core.ensures.certified;
}
