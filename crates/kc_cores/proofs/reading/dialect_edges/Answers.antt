-- What the reader tells of all bytes in a dialect is what is told of the text of a graph in it.
use Rattle.std.proofs.Common.{Some, arith, option_map, refl}
use Rattle.kc_wishes.specs.Wishes.{GraphText}
use Rattle.kc_cores.proofs.Looked.{AreReadFrom-in, graph_refused-in}
use Rattle.kc_cores.proofs.Stopping.{HasNoGraph-refused}
use Rattle.kc_cores.proofs.reading.dialect_edges.Goals as goal

pub returns-in-Ok-clause-edges : goal.returns-in-Ok-clause-edges
returns-in-Ok-clause-edges g c = λ known looked.
    AreReadFrom-in c.args.dialect known (g.S.Source.left c.args.source.now) c.args.head.now _ looked c.in-Ok.ensures.edges
    (record { few = omega (arith, c.in-Ok.ensures.few); edges = c.in-Ok.ensures.within })

pub returns-in-Err-Refused-clause-stopped : goal.returns-in-Err-Refused-clause-stopped
returns-in-Err-Refused-clause-stopped g c = λ known looked.
    let placed = c.in-Err-Refused.placed in
    let head = c.args.head.now in
    let refused = rw c.in-Err-Refused.field-0-is at c.in-Err-Refused.ensures.refused in
    let faultless = rw c.in-Err-Refused.field-0-is at c.in-Err-Refused.ensures.faultless in
    let graph : GraphText =
    record { file = option_map (λ t. t.now) c.args.file; dialect = Some c.args.dialect; threads = c.args.threads } in
    HasNoGraph-refused c.refused.result graph (record { placed = placed; head = head }) known _ _ c.refused.ensures
    (graph_refused-in c.args.dialect placed known (g.S.Source.left c.args.source.now) head looked (refused placed refl))
    (faultless (λ e. absurd (cc)))
