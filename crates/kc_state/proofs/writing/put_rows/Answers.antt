-- One text goes on after another.
use Rattle.kc_state.specs.Texts.{edges_text, vertices_text}
use Rattle.kc_state.proofs.Putting.{part-first, part-then, put-then}
use Rattle.kc_state.proofs.writing.put_rows.Goals as goal

pub returns-in_err-put_vertices-clause-part : goal.returns-in_err-put_vertices-clause-part
returns-in_err-put_vertices-clause-part g c =
    part-first c.from_residual.result _ _ c.args.summed.now.page
    (vertices_text c.args.ids.now c.args.lawful.now) (edges_text c.args.ids.now c.args.lawful.now.graph) _ (cc)
    c.in_err-put_vertices.ensures.part

pub returns-clause-put : goal.returns-clause-put
returns-clause-put g c =
    put-then c.put_edges.result _ _ _ c.args.summed.now c.put_vertices.new.summed c.put_edges.new.summed (vertices_text c.args.ids.now c.args.lawful.now)
    (edges_text c.args.ids.now c.args.lawful.now.graph) _ _ (cc) (cc) c.in_ok-put_vertices.ensures.put c.put_edges.ensures.put

pub returns-clause-part : goal.returns-clause-part
returns-clause-part g c =
    part-then c.put_edges.result _ _ _ c.args.summed.now c.put_vertices.new.summed (vertices_text c.args.ids.now c.args.lawful.now)
    (edges_text c.args.ids.now c.args.lawful.now.graph) _ _ (cc) (cc) c.in_ok-put_vertices.ensures.put c.put_edges.ensures.part
