-- The graph is that of what was read.
use Rattle.std.proofs.Common.{◌∙◌, None}
use Rattle.std.proofs.lemmas.Result.{err_from_is_err_and}
use Rattle.kc_cores.proofs.Graphs.{IsNamedGraphOf-read}
use Rattle.kc_cores.proofs.Looked.{IsForeignBy-looked}
use Rattle.kc_cores.proofs.reading.graph_behind.Goals as goal

pub graph_of-requires : goal.graph_of-requires
graph_of-requires g c = (c.in_ok-found.ensures.edges None tt).fit

pub returns-in_err-found-clause-stopped : goal.returns-in_err-found-clause-stopped
returns-in_err-found-clause-stopped g c =
    let p = err_from_is_err_and c.from_residual.result c.from_residual.ensures.1 in
    rw (p.1, p.2) c.in_err-found.ensures.stopped

pub returns-clause-graph : goal.returns-clause-graph
returns-clause-graph g c = λ known looked.
    IsNamedGraphOf-read c.args.text.dialect known c.in_ok-graph_of.field-0.ids.items c.in_ok-graph_of.field-0.names c.in_ok-found.found
    c.in_ok-graph_of.field-0.graph c.in_ok-graph_of.field-0.skipped c.in_ok-graph_of.field-0.what (c.in_ok-found.ensures.edges known looked)
    c.in_ok-graph_of.ensures.ids c.in_ok-graph_of.ensures.names c.in_ok-graph_of.ensures.graph c.in_ok-graph_of.ensures.skipped
    (IsForeignBy-looked c.args.text.dialect known _ c.args.head.now c.in_ok-found.found c.in_ok-graph_of.field-0.what looked
    (c.in_ok-found.ensures.edges known looked) (λ told are. c.in_ok-graph_of.ensures.what ∙ c.remark_on-what.ensures told are))
