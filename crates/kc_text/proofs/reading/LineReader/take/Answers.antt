-- The line was taken and counted.
use Rattle.kc_text.proofs.ReadLines.{line-read, reads-line}
use Rattle.kc_text.proofs.reading.LineReader.take.Goals as goal

pub returns-clause-reads : goal.returns-clause-reads
returns-clause-reads c = λ before. reads-line c.args.limits.now c.args.self.now _ before c.args.line c.requires.going (λ lines.
    line-read c.args.limits.now c.args.self.now _ lines c.args.line c.in_ok-cause.cause c.requires.going c.refusal_at-self.ensures c.in_ok-count.ensures.lines
    c.in_ok-cause.ensures.exact c.in_ok-cause.ensures.refused c.in_ok-cause.ensures.told c.in_ok-cause.ensures.tells (c.in_ok-count.ensures.numbers lines))
