-- What the reader tells of all bytes within the limits of a graph is what is told of the text of a graph.
use Rattle.std.proofs.Common.{None, arith, option_map, refl}
use Rattle.kc_dialect_read.specs.declared.fault.PlacedRefusal.{PlacedRefusal}
use Rattle.kc_wishes.specs.Wishes.{GraphText}
use Rattle.kc_cores.proofs.Looked.{AreReadFrom-plain, graph_refused}
use Rattle.kc_cores.proofs.Stopping.{HasNoGraph-refused}
use Rattle.kc_cores.proofs.reading.plain_edges.Goals as goal

pub returns-in-Ok-clause-edges : goal.returns-in-Ok-clause-edges
returns-in-Ok-clause-edges g c = λ known looked.
    AreReadFrom-plain known (g.S.Source.left c.args.source.now) c.args.head.now _ looked c.in-Ok.ensures.edges
    (record { few = omega (arith, c.in-Ok.ensures.few); edges = c.in-Ok.ensures.within }) (record { count = refl; first = c.new.ensures.items }) refl

pub returns-in-Err-Refused-clause-stopped : goal.returns-in-Err-Refused-clause-stopped
returns-in-Err-Refused-clause-stopped g c = λ known looked.
    let refusal = c.in-Err-Refused.refusal in
    let head = c.args.head.now in
    let refused = rw c.in-Err-Refused.field-0-is at c.in-Err-Refused.ensures.refused in
    let faultless = rw c.in-Err-Refused.field-0-is at c.in-Err-Refused.ensures.faultless in
    let graph : GraphText = record { file = option_map (λ t. t.now) c.args.file; dialect = None; threads = c.args.threads } in
    let placed : PlacedRefusal = record { refusal = refusal; column = c.wrong_column.result } in
    HasNoGraph-refused c.refused.result graph (record { placed = placed; head = head }) known _ _ c.refused.ensures
    (graph_refused placed known (g.S.Source.left c.args.source.now) head looked (refused refusal refl) c.wrong_column.ensures)
    (faultless (λ e. absurd (cc)))
