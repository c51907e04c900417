-- The prefix of the answer begins what the pass has seen now, and so it begins any longer log.
use Rattle.kc_topo.proofs.Telling.{tells-of_dag}
use Rattle.kc_topo.proofs.dag.Dag.precedes.Goals as goal

pub returns-clause-tells : goal.returns-clause-tells
returns-clause-tells c d = λ log longer dag.
    tells-of_dag c.K.Name.opened.table d.args.pass.now d.precedes.new.pass log d.args.x d.args.y d.precedes.result d.requires.table d.requires.vertices.0
    d.requires.vertices.1 longer dag d.precedes.ensures.answer
