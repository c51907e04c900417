-- Two numbers with a blank between them and a newline behind them are a whole first line, and it says an edge.
use Rattle.kc_text.proofs.PlainLines.{said-edge}
use Rattle.kc_claims.proofs.edge_line.next_line.Goals as goal

pub returns-in-Some-clause-lines : goal.returns-in-Some-clause-lines
returns-in-Some-clause-lines c = said-edge c.args.bytes.now c.in-Some.a c.in-Some.b c.in-Some.rest.now c.in-Some.ensures
