-- As many updates decide as there are.
use Rattle.std.proofs.Common.{List, length, ap, arith}
use Rattle.std.proofs.lemmas.Bool.{eqb-true}
use Rattle.kc_graph.specs.declared.update.Update.{Update}
use Rattle.kc_keeper_workers.proofs.Apart.{all-decide}
use Rattle.kc_keeper_workers.proofs.applying.names_each_edge_once.Goals as goal

pub returns-in-Ok : goal.returns-in-Ok
returns-in-Ok c holds =
    all-decide c.args.updates.now
    (omega (arith, eqb-true _ 0 holds, c.in-Ok.ensures.overruled, ap (λ (us : List Update). length us) c.in-Ok.ensures.deciding))
