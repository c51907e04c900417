-- Behind a line that is refused the line is passed over.
use Rattle.std.proofs.Common.{◌∷◌, [], arith}
use Rattle.kc_text.proofs.ReadLines.{reads-more}
use Rattle.kc_text.proofs.reading.LineReader.take_next.Goals as goal

pub returns-then-is_some-clause-reads : goal.returns-then-is_some-clause-reads
returns-then-is_some-clause-reads c = λ before. reads-more c.args.limits.now c.args.self.now before (c.args.line ∷ []) (λ none. absurd (grind arith))
