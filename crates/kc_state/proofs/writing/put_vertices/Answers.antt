-- The line of a vertex goes on behind those of the vertices before it.
use Rattle.std.proofs.Common.{◌∙◌, ap, arith}
use Rattle.kc_lists.proofs.Results.{on_err-anyhow}
use Rattle.kc_graph.specs.SimpleGraph.{SimpleGraph}
use Rattle.kc_state.specs.Texts.{vertex_text}
use Rattle.kc_state.proofs.Putting.{part-next, put-next}
use Rattle.kc_state.proofs.writing.put_vertices.Goals as goal

pub loop-v-preserved : goal.loop-v-preserved
loop-v-preserved g c = record {
  put = put-next _ _ _ c.args.summed.now c.loop-v.summed c.put_vertex.new.summed (vertex_text c.args.ids.now c.args.lawful.now) c.loop-v.v
      c.loop-v.invariant.put c.in_ok-put_vertex.ensures.put;
  faultless = c.in_ok-put_vertex.ensures.cause.kept ∙ c.loop-v.invariant.faultless;
}

pub returns-in_err-put_vertex-clause-part : goal.returns-in_err-put_vertex-clause-part
returns-in_err-put_vertex-clause-part g c =
    on_err-anyhow c.from_residual.result
    (part-next _ _ _ c.args.summed.now c.loop-v.summed (vertex_text c.args.ids.now c.args.lawful.now) c.loop-v.v c.args.lawful.now.graph.size
    (omega (arith, ap (λ (g : SimpleGraph). g.size) c.graph.ensures.graph)) c.loop-v.invariant.put c.in_err-put_vertex.ensures.part)
