-- Each part of a line has no newline, but for its end.
use Rattle.kc_reply.proofs.Newlines.{text-line}
use Rattle.kc_reply.proofs.laws.each_fact_is_one_line.Goals as goal

pub returns : goal.returns
returns c = text-line
