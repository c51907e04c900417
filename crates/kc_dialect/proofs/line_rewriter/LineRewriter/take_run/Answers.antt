-- Where nothing is copied no line is read.
use Rattle.std.proofs.Common.{[], refl}
use Rattle.kc_dialect.proofs.Read.{read-none}
use Rattle.kc_dialect.proofs.line_rewriter.LineRewriter.take_run.Goals as goal

pub returns-then-not-copies-clause-read : goal.returns-then-not-copies-clause-read
returns-then-not-copies-clause-read c = ([], read-none c.args.self.now c.args.out.now.items, refl)
