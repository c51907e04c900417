-- One text goes on after another.
use Rattle.kc_state.specs.Texts.{body_text, head_text, rows_text}
use Rattle.kc_state.proofs.Putting.{part-first, part-then, put-then}
use Rattle.kc_state.proofs.writing.put_body.Goals as goal

pub returns-in_err-put_head-clause-part : goal.returns-in_err-put_head-clause-part
unfolding body_text
returns-in_err-put_head-clause-part g c =
    part-first c.from_residual.result _ _ c.args.summed.now.page
    (head_text c.args.batches c.args.lawful.now.graph) (rows_text c.args.ids.now c.args.lawful.now) _ (cc)
    c.in_err-put_head.ensures.part

pub returns-clause-put : goal.returns-clause-put
unfolding body_text
returns-clause-put g c =
    put-then c.put_rows.result _ _ _ c.args.summed.now c.put_head.new.summed c.put_rows.new.summed (head_text c.args.batches c.args.lawful.now.graph)
    (rows_text c.args.ids.now c.args.lawful.now) _ _ (cc) (cc) c.in_ok-put_head.ensures.put c.put_rows.ensures.put

pub returns-clause-part : goal.returns-clause-part
unfolding body_text
returns-clause-part g c =
    part-then c.put_rows.result _ _ _ c.args.summed.now c.put_head.new.summed (head_text c.args.batches c.args.lawful.now.graph)
    (rows_text c.args.ids.now c.args.lawful.now) _ _ (cc) (cc) c.in_ok-put_head.ensures.put c.put_rows.ensures.part
