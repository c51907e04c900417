-- A line that ends the reading is the first that is bad.
use Rattle.kc_dialect.proofs.line_rewriter.LineRewriter.take.Goals as goal

pub returns-in-Err-clause-stopped : goal.returns-in-Err-clause-stopped
returns-in-Err-clause-stopped c = λ at stopped. c.take_bad.ensures.stopped at c.args.line.now stopped c.in-Err.ensures
