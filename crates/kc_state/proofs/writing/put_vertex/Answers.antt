-- One text goes on after another.
use Rattle.kc_lists.specs.Lists.{place_of}
use Rattle.kc_graph.specs.Peeling.{at}
use Rattle.kc_state.specs.Texts.{ended_by, pair_text}
use Rattle.kc_state.proofs.Putting.{part-first, part-then, put-then}
use Rattle.kc_state.proofs.writing.put_vertex.Goals as goal

pub returns-in_err-put_number-clause-part : goal.returns-in_err-put_number-clause-part
returns-in_err-put_number-clause-part g c =
    part-first c.from_residual.result _ _ c.args.summed.now.page
    (ended_by 32 (at c.args.ids.now c.args.v)) (pair_text (at c.args.lawful.now.core c.args.v) (place_of c.args.v c.args.lawful.now.order)) _ (cc)
    c.in_err-put_number.ensures.part

pub returns-clause-put : goal.returns-clause-put
returns-clause-put g c =
    put-then c.put_pair.result _ _ _ c.args.summed.now c.put_number.new.self c.put_pair.new.self (ended_by 32 (at c.args.ids.now c.args.v))
    (pair_text (at c.args.lawful.now.core c.args.v) (place_of c.args.v c.args.lawful.now.order))
    _ _ (cc) (cc) c.in_ok-put_number.ensures.put c.put_pair.ensures.put

pub returns-clause-part : goal.returns-clause-part
returns-clause-part g c =
    part-then c.put_pair.result _ _ _ c.args.summed.now c.put_number.new.self (ended_by 32 (at c.args.ids.now c.args.v))
    (pair_text (at c.args.lawful.now.core c.args.v) (place_of c.args.v c.args.lawful.now.order))
    _ _ (cc) (cc) c.in_ok-put_number.ensures.put c.put_pair.ensures.part
